use Rattle.std.proofs.Common.{ℕ, ◌+◌, ◌-◌, ◌/◌, ◌<◌, Some, sym, ◌∙◌, ap, arith}
use Rattle.store_model.specs.Key.{key_order}
use Rattle.relation.specs.Entries.{entries_of, entry_of}
use Rattle.relation.proofs.Searches.{IsAt-tied, Searching-above, Searching-below, length-entries, middle-below, slice_get-entries}
use Rattle.relation.proofs.entries.search.Goals as goal

pub searched-preserved-in-Less : goal.searched-preserved-in-Less
searched-preserved-in-Less c =
    let entries = c.args.entries.now in
    let middle : ℕ = c.searched.low + (c.searched.high - c.searched.low) / 2 in
    let below : middle < c.searched.high = middle-below c.searched.low c.searched.high c.searched-test.true in
    Searching-above (entries_of entries) c.args.key.now c.searched.low c.searched.high middle (entry_of c.index-entries-middle.result) c.requires below
    (slice_get-entries entries middle _ (omega (arith, below, c.searched.invariant.most, length-entries entries)) ∙ ap (λ e. Some (entry_of e)) (sym c.index-entries-middle.is))
    (ap (λ e. key_order e.key c.args.key.now) c.index-entries-middle.is ∙ sym c.cmp.ensures ∙ c.in-Less.is) c.searched.invariant

pub returns-in-Equal : goal.returns-in-Equal
returns-in-Equal c =
    let entries = c.args.entries.now in
    let middle : ℕ = c.searched.low + (c.searched.high - c.searched.low) / 2 in
    let below : middle < c.searched.high = middle-below c.searched.low c.searched.high c.searched-test.true in
    record {
      found =
          IsAt-tied (entries_of entries) c.args.key.now middle (entry_of c.index-entries-middle.result)
          (slice_get-entries entries middle _ (omega (arith, below, c.searched.invariant.most, length-entries entries)) ∙ ap (λ e. Some (entry_of e)) (sym c.index-entries-middle.is))
          (ap (λ e. key_order e.key c.args.key.now) c.index-entries-middle.is ∙ sym c.cmp.ensures ∙ c.in-Equal.is);
    }

pub searched-preserved : goal.searched-preserved
searched-preserved c =
    let entries = c.args.entries.now in
    let middle : ℕ = c.searched.low + (c.searched.high - c.searched.low) / 2 in
    let below : middle < c.searched.high = middle-below c.searched.low c.searched.high c.searched-test.true in
    Searching-below (entries_of entries) c.args.key.now c.searched.low c.searched.high middle (entry_of c.index-entries-middle.result) c.requires (omega arith) below
    (slice_get-entries entries middle _ (omega (arith, below, c.searched.invariant.most, length-entries entries)) ∙ ap (λ e. Some (entry_of e)) (sym c.index-entries-middle.is))
    (ap (λ e. key_order e.key c.args.key.now) c.index-entries-middle.is ∙ sym c.cmp.ensures ∙ c.in-Greater.is) c.searched.invariant
