-- Entries that are left to be made.
use Rattle.std.proofs.Common.{◌≡◌, ℕ, suc, ◌+◌, ◌*◌, ◌<◌, ◌≤◌, List, ◌∷◌, length, take, sym, ◌∙◌, ap, subst, arith}
use Rattle.std.specs.FinMap.{FinMap}
use Rattle.frame_codec.specs.declared.entry.Entry.{Entry}
use Rattle.relation.specs.Parts.{encoded_by}
use Rattle.store_model.specs.Key.{key_order}
use Rattle.store_model.specs.State.{State}
use Rattle.vault.specs.Pours.{HasRoom}
use Rattle.relation.specs.Changes.{bytes_limit, with_entries, with_writes}

-- Some entries are left to be made.
pub record MakingAll (before now : FinMap key_order State) (spare_now : ℕ) (all left : List Entry) : Type 0 where
  pub states : with_entries now left ≡ with_entries before all
  pub spare : length left * 16 ≤ spare_now
  pub room : HasRoom now left

pub MakingAll-next : (before now later : FinMap key_order State) (spare spare_later : ℕ) (all left rest : List Entry) (entry : Entry)
    → MakingAll before now spare all left → left ≡ entry ∷ rest → later ≡ with_writes now entry.writes → spare ≤ spare_later + 16 → MakingAll before later spare_later all rest
MakingAll-next before now later spare spare_later all left rest entry so_far left_is later_is spares =
    let long : length left ≡ length rest + 1 = ap length left_is ∙ omega arith in
    record {
      states = ap (λ (m : FinMap key_order State). with_entries m rest) later_is ∙ ap (with_entries now) (sym left_is) ∙ so_far.states;
      spare = omega (arith, so_far.spare, long, spares);
      room = λ i less.
          subst (λ (m : FinMap key_order State). encoded_by (with_entries m (take i rest)) ≤ bytes_limit) (sym later_is)
          (subst (λ (es : List Entry). encoded_by (with_entries now (take (suc i) es)) ≤ bytes_limit) left_is
          (so_far.room (suc i) (omega (arith, less, long))));
    }

-- the states now have room
pub room-now : (states : FinMap key_order State) (entries : List Entry) → HasRoom states entries → 0 < length entries → encoded_by states ≤ bytes_limit
room-now states entries room some = room 0 some
