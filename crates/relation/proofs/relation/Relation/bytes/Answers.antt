use Rattle.std.proofs.Common.{sym, ◌∙◌, ap}
use Rattle.relation.specs.Entries.{entries_of}
use Rattle.relation.specs.Parts.{Parts, encoded_by}
use Rattle.relation.proofs.Encoded.{encoded-sorted}
use Rattle.relation.proofs.relation.Relation.bytes.Goals as goal

pub returns-clause-value : goal.returns-clause-value
returns-clause-value c =
    c.self.invariant.bytes ∙ sym (encoded-sorted (entries_of c.self.inside.entries.items) c.self.invariant.sorted) ∙ ap (λ (p : Parts). encoded_by p.states) c.self.view_is
