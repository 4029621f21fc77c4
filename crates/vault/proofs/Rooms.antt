-- A half has room for the states behind whichever of a group's entries: the group was judged by how much each makes them grow.
use Rattle.std.proofs.Common.{ℕ, ◌+◌, ◌*◌, ◌≤◌, List, [], ◌∷◌, length, Ok, refl, ap, arith}
use Rattle.std.specs.List.{AllZip, sum_by}
use Rattle.std.specs.FinMap.{FinMap, entries}
use Rattle.std.proofs.lemmas.List.Sums.{sum_by-cons}
use Rattle.frame_codec.specs.Values.{model_entries, model_entry}
use Rattle.frame_codec.specs.declared.entry.Entry.{Entry}
use Rattle.group_plan.specs.Plans.{IsEntryOf, ledger_by}
use Rattle.recover.proofs.Puttings.{length-spelled}
use Rattle.recover.proofs.Takings.{same-writes}
use Rattle.relation.specs.Changes.{with_writes}
use Rattle.relation.specs.Parts.{encoded_by}
use Rattle.store_model.specs.Disk.{page_bytes}
use Rattle.store_model.specs.Frame.{AreKeysApart}
use Rattle.store_model.specs.Group.{Commit, tally_after}
use Rattle.store_model.specs.Half.{tuples_spelling}
use Rattle.store_model.specs.Judgement.{Tally, growth_of}
use Rattle.store_model.specs.Key.{key_order}
use Rattle.store_model.specs.Layout.{Layout}
use Rattle.store_model.specs.State.{State}
use Rattle.store_model.specs.Windows.{HasRoomFor, growth_by}
use Rattle.store_model.proofs.WindowRoomLaws.{HasRoomFor-grown}
use Rattle.txn.specs.declared.request.Request.{Request}
use Rattle.vault.specs.Pours.{AreStates}
use Rattle.vault.proofs.Following.{AllFollow, Follows, ready-next}
use Rattle.vault.proofs.Growing.{grow-most}

module _ (before : FinMap key_order State) (last room pages : ℕ) (known : AreStates before) where
  -- An entry makes the states grow by no more than its changes were judged to.
  one-grows : (tally : Tally) (one : Request × Commit) (e : Entry) → Follows (ledger_by before last room pages) tally one → IsEntryOf one e
      → growth_by before (model_entry e) ≤ growth_of one.1.placed
  one-grows tally one e follows is =
      let ready = ready-next before last room pages before tally one e follows (record { bytes = omega arith; same = λ q apart. refl; states = known }) is known in
      omega (
        arith,
        grow-most before before one.1.number (entries one.0.writes) one.1.placed e.writes ready,
        length-spelled (entries before),
        length-spelled (entries (with_writes before e.writes)),
        ap (λ (m : FinMap key_order State). length (tuples_spelling m)) (same-writes before e.writes),
      )

  -- So do all of them together.
  all-grow : (tally : Tally) (ones : List (Request × Commit)) (es : List Entry) → AllFollow (ledger_by before last room pages) tally ones → AllZip IsEntryOf ones es
      → encoded_by before + tally.grown ≤ room → encoded_by before + tally.grown + sum_by (growth_by before) (model_entries es) ≤ room
  all-grow tally [] [] follow all few = omega (arith, few)
  all-grow tally [] (e ∷ es) follow all few = absurd all
  all-grow tally (one ∷ ones) [] follow all few = absurd all
  all-grow tally (one ∷ ones) (e ∷ es) follow all few =
      omega (
        arith,
        one-grows tally one e follow.0 all.0,
        all-grow (tally_after tally (Ok one.1.placed)) ones es follow.1 all.1 (omega (arith, follow.0.room)),
        sum_by-cons (growth_by before) (model_entry e) (model_entries es),
      )

  -- So a half has room for the states, whichever of the entries are kept, where no key stands in two of them.
  pub HasRoomFor-followed : (layout : Layout) (tally : Tally) (ones : List (Request × Commit)) (es : List Entry) → AllFollow (ledger_by before last room pages) tally ones
      → AllZip IsEntryOf ones es → encoded_by before + tally.grown ≤ room → room ≤ page_bytes * layout.room → AreKeysApart (model_entries es)
      → HasRoomFor layout before (model_entries es)
  HasRoomFor-followed layout tally ones es follow all few most apart =
      HasRoomFor-grown layout before (model_entries es) apart
      (omega (arith, all-grow tally ones es follow all few, most, length-spelled (entries before)))
