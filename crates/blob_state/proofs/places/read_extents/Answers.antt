-- One more extent, and one that is broken.
use Rattle.std.proofs.Common.{rules, ◌≡◌, ℕ, ◌+◌, ◌*◌, List, [], ◌∷◌, ◌++◌, length, ap, ◌∙◌, arith}
use Rattle.std.proofs.lemmas.List.{length-map, map-append}
use Rattle.std.proofs.lemmas.Result.{err_from_is_err_and}
use Rattle.std.specs.List.{flat_map, range_with_len}
use Rattle.store_model.specs.Field.{AreGood}
use Rattle.store_model.specs.TupleFields.{IsExtentTold, extent_fields}
use Rattle.store_model.proofs.FieldLaws.{AreGood-append}
use Rattle.store_model.proofs.TupleToldLaws.{AreExtentsTold-next, extent_fields-next}
use Rattle.store_model.proofs.BadTupleLaws.{IsFirstBroken-extents}
use Rattle.blob_state.specs.declared.values.Extent.{Extent}
use Rattle.blob_state.specs.Values.{extent_of, extents_of}
use Rattle.blob_state.proofs.places.read_extents.Goals as goal

pub returns-in_err-read_extent-clause-bad : goal.returns-in_err-read_extent-clause-bad
returns-in_err-read_extent-clause-bad c =
    let p = err_from_is_err_and c.from_residual.result c.from_residual.ensures.1 in
    rw (p.1, p.2) (IsFirstBroken-extents c.args.bytes.now c.args.pages c.args.at c.read.i c.args.count _ c.read-test.true c.read.invariant.good c.in_err-read_extent.ensures.bad)

pub read-preserved : goal.read-preserved
read-preserved c =
    let bytes : List ℕ = c.args.bytes.now in
    let i : ℕ = c.read.i in
    let at : ℕ = c.args.at in
    let before : List Extent = c.read.extents.items in
    let extent : Extent = c.in_ok-read_extent.field-0 in
    let one : IsExtentTold bytes (at + 36 * i) (extent_of extent) =
    record { head = c.in_ok-read_extent.ensures.head; mark = c.in_ok-read_extent.ensures.mark; sound = c.in_ok-read_extent.ensures.sound } in
    let count : i ≡ length (extents_of before) = omega (arith, length-map before extent_of, c.read.invariant.number) in
    let last : IsExtentTold bytes (at + 36 * length (extents_of before)) (extent_of extent) = rw count at one in
    let items : extents_of c.push.new.self.items ≡ extents_of before ++ extent_of extent ∷ [] =
    ap extents_of c.push.ensures.items ∙ map-append extent_of before (extent ∷ []) in
    let good : AreGood bytes (flat_map (extent_fields c.args.pages at) (range_with_len 0 i) ++ extent_fields c.args.pages at i) =
    AreGood-append bytes _ (extent_fields c.args.pages at i) c.read.invariant.good c.in_ok-read_extent.ensures.good in
    record {
      number = search rules;
      within = omega (arith, c.in_ok-read_extent.ensures.good.1.0.whole);
      told = rw items (AreExtentsTold-next bytes at (extents_of before) (extent_of extent) c.read.invariant.told last);
      good = rw (extent_fields-next c.args.pages at i) good;
    }
