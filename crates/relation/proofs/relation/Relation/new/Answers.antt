use Rattle.relation.proofs.Relations.{from-none}
use Rattle.relation.proofs.relation.Relation.new.Goals as goal

pub returns-clause-states : goal.returns-clause-states
returns-clause-states c = from-none _ c.new.ensures.items
