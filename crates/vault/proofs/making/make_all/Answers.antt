use Rattle.vault.proofs.Removals.{MakingAll-next}
use Rattle.vault.proofs.making.make_all.Goals as goal

pub made-preserved : goal.made-preserved
made-preserved c =
    MakingAll-next c.args.relation.now.states c.made.relation.states c.apply.new.relation.states c.made.relation.spare c.apply.new.relation.spare
    c.args.entries c.made.entries c.remove_first-entry.new.self c.remove_first-entry.result c.made.invariant c.remove_first-entry.ensures
    c.apply.ensures.states c.apply.ensures.spare
