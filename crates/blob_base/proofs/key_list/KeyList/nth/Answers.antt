use Rattle.std.proofs.Common.{◌<◌, length, sym, ◌∙◌, ap, arith}
use Rattle.std.specs.Prelude.{slice_get}
use Rattle.std.specs.FinMap.{entries, entries-from_sorted, len}
use Rattle.store_model.specs.Key.{key_order}
use Rattle.blob_base.proofs.KeyLists.{element, len-sorted}
use Rattle.blob_base.proofs.key_list.KeyList.nth.Goals as goal

pub index-requires : goal.index-requires
index-requires g c = omega (arith, c.requires, len-sorted c.self.inside.entries.items c.self.invariant, ap len c.self.view_is)

pub returns : goal.returns
returns g c =
    let es = c.self.inside.entries.items in
    let within : c.args.i < length es = omega (arith, c.requires, len-sorted es c.self.invariant, ap len c.self.view_is) in
    ap (λ l. slice_get l c.args.i) (ap entries (sym c.self.view_is) ∙ entries-from_sorted key_order es c.self.invariant)
    ∙ element es c.args.i c.index.result.now c.index.result.now within c.index.ensures
