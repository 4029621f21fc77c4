use Rattle.vault.specs.Pours.{pours_of}
use Rattle.vault.proofs.Pourings.{Pouring, pours_front}
use Rattle.vault.proofs.pouring.pour_entry.Given as goal

abbrev pub invariant-poured : goal.invariant-poured
invariant-poured g l = Pouring g.D.Disk l.layout (pours_of (l.request, l.entry)) (pours_front l.i l.request l.entry) l.fn.disk l.disk
