use Rattle.vault.proofs.GivingBack.{Giving}
use Rattle.vault.proofs.making.give_back_all.Given as goal

abbrev pub invariant-given : goal.invariant-given
invariant-given l = Giving l.i l.fn.blocks l.fn.space l.space
