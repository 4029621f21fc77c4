use Rattle.std.proofs.Common.{◌≡◌, List, sym, ◌∙◌, ap}
use Rattle.std.specs.FinMap.{entries-from_sorted}
use Rattle.std.proofs.lemmas.Result.{IfOk-weaker}
use Rattle.store_model.specs.Key.{key_order}
use Rattle.store_model.specs.Space.{Block}
use Rattle.relation.specs.Entries.{entries_of}
use Rattle.relation.specs.Parts.{Parts, blocks_by, owned_by}
use Rattle.relation.specs.declared.entries.Entry.{Entry}
use Rattle.relation.proofs.relation.Relation.owned.Goals as goal

pub returns : goal.returns
returns c =
    let kept = c.self.inside.entries.items in
    let same = ap (λ (es : List Entry). blocks_by (entries_of es)) c.deref.ensures.value ∙ ap blocks_by (sym (entries-from_sorted key_order (entries_of kept) c.self.invariant.sorted)) ∙ ap (λ (p : Parts). owned_by p.states) c.self.view_is in
    IfOk-weaker c.blocks_by.result (λ (owned : List Block). owned ≡ blocks_by (entries_of c.deref.result.now)) (λ (owned : List Block). owned ≡ owned_by c.args.self.now.states)
    (λ owned is. is ∙ same) c.blocks_by.ensures
