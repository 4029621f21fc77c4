-- Whether the pages hold a content is decided. So of an object whose state verifies the content is held, or there is chance: what is
-- kept of a group is told by its states, and nothing but chance is left open.
use Rattle.std.proofs.Common.{◌≡◌, ℕ, ◌⊎◌, List, Option, Some, None, inl, inr, refl, sym, subst}
use Rattle.std.specs.Prelude.{bytes_eq}
use Rattle.std.specs.FinMap.{FinMap, get}
use Rattle.std.proofs.lemmas.Bool.{both_ways, cases_Bool}
use Rattle.std.proofs.lemmas.Slice.Eq.{bytes_eq-Decides}
use Rattle.store_model.specs.Disk.{HasPages, Image}
use Rattle.store_model.specs.Group.{Commit}
use Rattle.store_model.specs.Holds.{Holds, HoldsAt}
use Rattle.store_model.specs.Key.{key_order}
use Rattle.store_model.specs.Layout.{Layout, data_page}
use Rattle.store_model.specs.Reading.{Found, Opened, Reads}
use Rattle.store_model.specs.Standing.{AllHeld, BothStand, SameObjects, StandsFor}
use Rattle.store_model.specs.State.{IsState, State}
use Rattle.store_model.specs.Store.{Object, Placement, Store}
use Rattle.store_model.specs.Survival.{BothTold, IsByChance, IsObjectOn, IsUnder, ReadsAs}
use Rattle.store_model.specs.Verify.{Verifies}
use Rattle.store_model.proofs.HoldsLaws.{Holds-one, Holds-there}

-- The pages of a state hold a content, or they don't.
pub Holds-decided : (image : Image) (first : ℕ) (state : State) (content : List ℕ) → HasPages image → IsState state
    → Holds image first state content ⊎ (Holds image first state content → ⊥)
Holds-decided image first state content pages sound =
    let there = Holds-there image first state pages sound in
    elim (cases_Bool (bytes_eq there.0 content)) [
      | inl same ↦ inl (subst (λ (xs : List ℕ). Holds image first state xs) ((bytes_eq-Decides there.0 content).0 same) there.1)
      | inr other ↦ inr (λ held.
          both_ways (bytes_eq there.0 content) other ((bytes_eq-Decides there.0 content).1 (Holds-one image first state there.0 content there.1 held)))
    ]

-- An object that a kept transaction set is told, if a state that verifies stands for it.
pub told-kept : (image : Image) (layout : Layout) (after : Store) (kept : List Commit) (key : List ℕ) (state : State) (object : Object) → HasPages image
    → IsUnder kept key → get after.objects key ≡ Some object → StandsFor state object → Verifies image (data_page layout) state
    → IsObjectOn (IsByChance image layout after kept key) image (data_page layout) state object
told-kept image layout after kept key state object pages under there stands verifies = record {
  stands = stands;
  holds = λ no_chance. elim (Holds-decided image (data_page layout) state object.content pages stands.sound) [
    | inl held ↦ held
    | inr differs ↦ absurd (no_chance (
      under,
      record { object = object; there = there; state = state; stands = stands; verifies = verifies; differs = differs },
    ))
  ];
}

-- An object whose content is held on a disk is told, if a state stands for it.
pub told-standing : (image : Image) (first : ℕ) (state : State) (object : Object) → StandsFor state object → HoldsAt image first object.place object.content
    → IsObjectOn ⊥ image first state object
told-standing image first state object stands on_disk = record {
  stands = stands;
  holds = λ none. record {
    size = sym stands.tells.size;
    at = subst (λ (place : Placement). HoldsAt image first place object.content) (sym stands.place) on_disk;
  };
}

both-told : (image : Image) (first : ℕ) (state : Option State) (object : Option Object) → BothStand state object
    → ((one : Object) → object ≡ Some one → HoldsAt image first one.place one.content) → BothTold ⊥ image first state object
both-told image first None None both on_disk = tt
both-told image first None (Some object) both on_disk = absurd both
both-told image first (Some state) None both on_disk = absurd both
both-told image first (Some state) (Some object) both on_disk = told-standing image first state object both (on_disk object refl)

-- A disk reads as objects for which its states stand, and whose contents are held on it.
pub ReadsAs-standing : (pages : ℕ) (image : Image) (found : Found) (objects : FinMap key_order Object) → Reads pages image (Opened found)
    → SameObjects found.states objects → AllHeld image found.layout objects → ReadsAs pages image found.layout objects found.last
ReadsAs-standing pages image found objects reads same stand = record {
  found = found;
  reads = reads;
  layout_is = refl;
  last_is = refl;
  told = λ key. both-told image (data_page found.layout) (get found.states key) (get objects key) (same key) (stand key);
}

-- Whatever content the pages of a told object hold is the object's, where it isn't free.
pub told-content : (image : Image) (first : ℕ) (state : State) (object : Object) (content : List ℕ) → IsObjectOn ⊥ image first state object
    → Holds image first state content → content ≡ object.content
told-content image first state object content told held = Holds-one image first state content object.content held (told.holds (λ none. absurd none))
