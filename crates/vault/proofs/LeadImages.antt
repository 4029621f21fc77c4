-- What each image of the two windows of a commit reads as: the store before, or that one with a part of the group.
use Rattle.std.proofs.Common.{◌≡◌, ℕ, ◌+◌, ◌≤◌, List, [], ◌∷◌, length, Some, inl, inr, refl, sym, subst, arith}
use Rattle.std.specs.Prelude.{slice_get}
use Rattle.std.specs.FinMap.{FinMap, get}
use Rattle.store_model.specs.Disk.{HasPages, Image, SameOff}
use Rattle.store_model.specs.Frame.{Entry}
use Rattle.store_model.specs.Group.{Commit}
use Rattle.store_model.specs.Half.{picked}
use Rattle.store_model.specs.Holds.{Holds, HoldsAt}
use Rattle.store_model.specs.Key.{key_order}
use Rattle.store_model.specs.Layout.{Layout, data_page}
use Rattle.store_model.specs.Log.{body_pages}
use Rattle.store_model.specs.Reading.{Found, Opened, Reads, last_number, with_frame}
use Rattle.store_model.specs.Standing.{AllHeld, SameObjects}
use Rattle.store_model.specs.State.{State}
use Rattle.store_model.specs.Store.{Object, Placement, Store}
use Rattle.store_model.specs.Survival.{Group, ReadsAs, SurvivesStep, groups_by}
use Rattle.store_model.specs.Windows.{InSecondWindow, IsBodyPage, IsPouredPage, MayFollow}
use Rattle.store_model.proofs.SurvivalEntryLaws.{AreWrittenBy, ReadsAsPart-written}
use Rattle.store_model.proofs.SurvivalHeldLaws.{ReadsAs-standing}
use Rattle.store_model.proofs.WindowHeldLaws.{Holds-first, Holds-second}
use Rattle.store_model.proofs.WindowLaws.{Reads-first, Reads-second}
use Rattle.vault.specs.Vaults.{IsAtGate, IsNextFrame, StandsBehind}
use Rattle.vault.proofs.Commits.{InSecondWindow-laid}
use Rattle.vault.proofs.Objects.{state-of}

-- Contents are held on an image that holds whatever the states' pages held before.
pub AllHeld-kept : (layout : Layout) (base image : Image) (states : FinMap key_order State) (objects : FinMap key_order Object) → SameObjects states objects
    → ((key : List ℕ) (state : State) (content : List ℕ) → get states key ≡ Some state → Holds base (data_page layout) state content → Holds image (data_page layout) state content)
    → AllHeld base layout objects → AllHeld image layout objects
AllHeld-kept layout base image states objects same kept held key object is =
    let state = state-of (get states key) (get objects key) object (same key) is in
    let before : Holds base (data_page layout) state.0 object.content = record {
      size = sym state.2.tells.size;
      at = subst (λ (place : Placement). HoldsAt base (data_page layout) place object.content) (sym state.2.place) (held key object is);
    } in
    subst (λ (place : Placement). HoldsAt image (data_page layout) place object.content) state.2.place (kept key state.0 object.content state.1 before).at

-- the group of some commits
group-there : (commits : List Commit) (after : Store) → 1 ≤ length commits → slice_get (groups_by commits after) 0 ≡ Some (record { commits = commits; after = after })
group-there [] after some = absurd (omega (arith, some))
group-there (commit ∷ commits) after some = refl

-- A disk that was at rest at a gate with this store,
module _ (pages : ℕ) (base image : Image) (found : Found) (half gate : ℕ) (bytes : List ℕ) (entries : List Entry) (whole : HasPages base)
    (at : IsAtGate pages base found half gate) (frame : IsNextFrame found bytes entries) (fits : gate + 1 + body_pages (length bytes) ≤ 511) (store : Store)
    (same : SameObjects found.states store.objects) (last : found.last ≡ store.last) (held : AllHeld base found.layout store.objects) where
  follows : MayFollow pages base found at.gives bytes entries
  follows = record { spells = frame.spells; goes_on = frame.goes_on; fits = omega (arith, at.gate_is, fits); places = frame.places; room = frame.room }

  -- reads as the store where it reads as what was found and its contents are held,
  reads-still : Reads pages image (Opened found) → AllHeld image found.layout store.objects → ReadsAs pages image found.layout store.objects store.last
  reads-still reads stand =
      subst (λ (n : ℕ). ReadsAs pages image found.layout store.objects n) last (ReadsAs-standing pages image found store.objects reads same stand)

  -- so in the first window,
  pub first-reads : SameOff (IsBodyPage half gate bytes) base image → ReadsAs pages image found.layout store.objects store.last
  first-reads first =
      let here : SameOff (IsBodyPage (picked (base 0)) at.gives.gate bytes) base image =
      subst (λ (k : ℕ). SameOff (IsBodyPage k at.gives.gate bytes) base image) (sym at.half_is)
      (subst (λ (k : ℕ). SameOff (IsBodyPage half k bytes) base image) (sym at.gate_is) first) in
      reads-still (Reads-first pages base image found at.gives bytes entries whole follows here)
      (AllHeld-kept found.layout base image found.states store.objects same
      (λ key state content there holds. Holds-first pages base image found at.gives bytes entries state content follows here holds) held)

  -- and in the second it reads as that store, or with a part of the group.
  module _ (laid : Image) (commits : List Commit) (after : Store) (some : 1 ≤ length commits) (written : AreWrittenBy after commits entries)
      (numbered : last_number found.last entries ≡ after.last) where
    pub second-survives : HasPages image → SameOff (IsBodyPage half gate bytes) base laid → StandsBehind laid half gate bytes
        → SameOff (IsPouredPage found.layout half gate entries) laid image → SurvivesStep pages image found.layout store commits after
    second-survives full first stands second =
        let window : InSecondWindow pages base image found at.gives bytes entries =
        InSecondWindow-laid pages base laid image found half gate bytes entries whole at frame.spells frame.goes_on (omega (arith, fits)) frame.places frame.room first stands second in
        let stand : AllHeld image found.layout store.objects =
        AllHeld-kept found.layout base image found.states store.objects same
        (λ key state content there holds. Holds-second pages base image found at.gives bytes entries key state content window there holds) held in
        let group : Group = record { commits = commits; after = after } in
        elim (Reads-second pages base image found at.gives bytes entries window) [
          | inl reads ↦ inl (reads-still reads stand)
          | inr kept ↦
              inr (
                group,
                group-there commits after some,
                ReadsAsPart-written pages image found.layout store group (with_frame found entries kept.0) found.states entries kept.0 full kept.2 refl numbered same stand
                    written kept.1 refl,
              )
        ]
