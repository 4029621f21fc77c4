use Rattle.std.proofs.Common.{Some, sym, ◌∙◌, ap, arith}
use Rattle.std.specs.Prelude.{slice_get}
use Rattle.std.specs.FinMap.{entries, len}
use Rattle.store_model.specs.State.{State}
use Rattle.relation.specs.Entries.{entries_of}
use Rattle.relation.specs.Parts.{Parts}
use Rattle.relation.proofs.Relations.{len-sorted, nth-sorted}
use Rattle.relation.proofs.Searches.{length-entries}
use Rattle.relation.proofs.relation.Relation.nth.Goals as goal

pub index-entry-requires : goal.index-entry-requires
index-entry-requires c =
    let kept = c.self.inside.entries.items in
    omega (arith, c.requires, length-entries kept, len-sorted (entries_of kept) c.self.invariant.sorted, ap (λ (p : Parts). len p.states) c.self.view_is)

pub returns : goal.returns
returns c =
    let kept = c.self.inside.entries.items in
    ap (λ (p : Parts). slice_get (entries p.states) c.args.i) (sym c.self.view_is)
    ∙ nth-sorted kept c.args.i c.index-entry.result.now c.index-entry.result.now c.self.invariant.sorted
    (omega (arith, c.requires, length-entries kept, len-sorted (entries_of kept) c.self.invariant.sorted, ap (λ (p : Parts). len p.states) c.self.view_is)) c.index-entry.ensures
    ∙ ap (λ (s : State). Some (c.index-entry.result.now.key, s)) (sym c.deref.ensures)
