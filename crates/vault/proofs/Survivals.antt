-- The objects of a store stand on the disk after entries are made: those that stood there before, and those that were poured.
use Rattle.std.proofs.Common.{◌≡◌, ℕ, suc, ◌+◌, ◌%◌, ◌≤◌, Bool, true, false, cond, List, [], ◌∷◌, ◌++◌, length, map, take, Option, Some, None, refl, sym, ◌∙◌, ap, subst, arith}
use Rattle.std.specs.Prelude.{fold, slice_get, zip}
use Rattle.std.specs.List.{All, AllZip, flat_map}
use Rattle.std.specs.List.Sorted.{IsPermutation}
use Rattle.std.specs.Ordering.{eq_by_cmp}
use Rattle.std.specs.FinMap.{FinMap, entries, entries_sorted, get, get-entries, get-insert, get-remove, insert, remove}
use Rattle.std.proofs.lemmas.List.Elements.{All-cons, All-head, All-nil, All-tail}
use Rattle.frame_codec.specs.declared.entry.Entry.{Entry}
use Rattle.frame_codec.specs.declared.entry.Write.{Write}
use Rattle.frame_codec.specs.declared.entry.Write.TheVariants as write
use Rattle.group_plan.specs.Plans.{DoesWrite, IsEntryOf, IsMadeBy, IsWritten}
use Rattle.relation.specs.Parts.{owned_by}
use Rattle.store_model.specs.Disk.{Image, page_bytes}
use Rattle.store_model.specs.Group.{Commit}
use Rattle.store_model.specs.Holds.{HoldsAt, place_of}
use Rattle.store_model.specs.Key.{key_order}
use Rattle.store_model.specs.Layout.{Layout, data_page}
use Rattle.store_model.specs.Placing.{Holding, Placed, new_place}
use Rattle.store_model.specs.Space.{Apart, Block, blocks_of, owners}
use Rattle.store_model.specs.Standing.{AllHeld, AllStand, SameObjects, StandsFrom}
use Rattle.store_model.specs.State.{State}
use Rattle.store_model.specs.Store as model
use Rattle.store_model.specs.Store.{Object, Placement}
use Rattle.store_model.specs.Transaction.{with_change}
use Rattle.store_model.specs.Transaction as transaction
use Rattle.store_model.proofs.HeldLaws.{StandsAt-owned, tail-owned}
use Rattle.store_model.proofs.MapLaws.{entries-map_values}
use Rattle.store_model.proofs.PlaceLaws.{owners-append, owners-permutation}
use Rattle.store_model.proofs.SortedLaws.{find-at, keys_total}
use Rattle.txn.specs.Requests.{asked_of, model_change}
use Rattle.txn.specs.Txns.{NoAppends, is_append}
use Rattle.txn.specs.declared.change.Change.{Change}
use Rattle.txn.specs.declared.change.Change.TheVariants as change
use Rattle.txn.specs.declared.request.Request.{Request}
use Rattle.vault.specs.Pours.{Pour, Poured, made_by, made_one, pours_by, pours_of, pours_of_all}
use Rattle.vault.proofs.Makings.{long-placed}
use Rattle.vault.proofs.Objects.{owners-owned, state-of}
use Rattle.vault.proofs.Placings.{IsPlaced}
use Rattle.vault.proofs.Walks.{ArePlaced}

-- what holds of all of two lists holds of all of each
All-front : {X : Type 0} (P : X → Type 0) (xs ys : List X) → All P (xs ++ ys) → All P xs
All-front P [] ys all = All-nil P
All-front P (x ∷ xs) ys all = All-cons P x xs (All-head P x (xs ++ ys) all) (All-front P xs ys (All-tail P x (xs ++ ys) all))

All-behind : {X : Type 0} (P : X → Type 0) (xs ys : List X) → All P (xs ++ ys) → All P ys
All-behind P [] ys all = all
All-behind P (x ∷ xs) ys all = All-behind P xs ys (All-tail P x (xs ++ ys) all)

-- no page is owned both by blocks that were taken and by those that were owned before
pub taken-apart : (owned taken before mine : List Block) → IsPermutation owned (taken ++ before) → IsPermutation before mine → Apart owned
    → (at : ℕ) → owners taken at + owners mine at ≤ 1
taken-apart owned taken before mine moves also apart at =
    omega (arith, apart at, owners-permutation owned (taken ++ before) at moves, owners-append taken before at, owners-permutation before mine at also)

-- An object's content is held where its blocks' pages read as before,
held-off : (old new : Image) (first : ℕ) (place : Placement) (content : List ℕ) → ((at : ℕ) → 1 ≤ owners (blocks_of place) at → new (first + at) ≡ old (first + at))
    → HoldsAt old first place content → HoldsAt new first place content
held-off old new first place content same held = record {
  full = λ page less.
      let one = held.full page less in
      (one.0, one.1, same one.0 (StandsAt-owned place page one.0 one.1) ∙ one.2);
  tailed = held.tailed;
  tail = λ page is. ap (take (length content % page_bytes)) (same page (tail-owned place page is)) ∙ held.tail page is;
}

-- and so it stands.
StandsFrom-off : (from : ℕ) (old new : Image) (first : ℕ) (object : Object) → ((at : ℕ) → 1 ≤ owners (blocks_of object.place) at → new (first + at) ≡ old (first + at))
    → StandsFrom from old first object → StandsFrom from new first object
StandsFrom-off from old new first object same stands = record {
  held = held-off old new first object.place object.content same stands.held;
  filled = λ later page is. same page (tail-owned object.place page is) ∙ stands.filled later page is;
}

-- The contents of objects are held where each page of the data area reads as before.
pub AllHeld-off : (old new : Image) (layout : Layout) (objects : FinMap key_order Object) → ((at : ℕ) → new (data_page layout + at) ≡ old (data_page layout + at))
    → AllHeld old layout objects → AllHeld new layout objects
AllHeld-off old new layout objects same held key object there =
    held-off old new (data_page layout) object.place object.content (λ at owned. same at) (held key object there)

-- objects stand on while no page is written but those of blocks that share none with the states
pub AllStand-off : (from : ℕ) (old new : Image) (layout : Layout) (states : FinMap key_order State) (objects : FinMap key_order Object) (taken : List Block)
    → SameObjects states objects → ((at : ℕ) → owners taken at + owners (owned_by states) at ≤ 1)
    → ((at : ℕ) → owners taken at ≡ 0 → new (data_page layout + at) ≡ old (data_page layout + at)) → AllStand from old layout objects → AllStand from new layout objects
AllStand-off from old new layout states objects taken same apart off stands key object there =
    let state = state-of (get states key) (get objects key) object (same key) there in
    StandsFrom-off from old new (data_page layout) object
    (λ at owned.
    let mine : 1 ≤ owners (blocks_of (place_of state.0)) at = subst (λ (p : Placement). 1 ≤ owners (blocks_of p) at) (sym state.2.place) owned in
    off at (omega (arith, apart at, mine, owners-owned states key state.0 at state.1)))
    (stands key object there)

module _ (from : ℕ) (image : Image) (layout : Layout) where
  -- a key's object is set to one that stands
  AllStand-set : (objects : FinMap key_order Object) (key : List ℕ) (object : Object) → StandsFrom from image (data_page layout) object
      → AllStand from image layout objects → AllStand from image layout (insert objects key object)
  AllStand-set objects key object stands all q one there =
      elim (eq_by_cmp key_order q key) as (λ (b : Bool). cond b (Some object) (get objects q) ≡ Some one → StandsFrom from image (data_page layout) one) [
        | true ↦ λ is. let same : object ≡ one = cc is in subst (StandsFrom from image (data_page layout)) same stands
        | false ↦ λ is. all q one is
      ] (sym (get-insert keys_total objects key object q) ∙ there)

  -- a key is taken out
  AllStand-gone : (objects : FinMap key_order Object) (key : List ℕ) → AllStand from image layout objects → AllStand from image layout (remove objects key)
  AllStand-gone objects key all q one there =
      elim (eq_by_cmp key_order q key) as (λ (b : Bool). cond b None (get objects q) ≡ Some one → StandsFrom from image (data_page layout) one) [
        | true ↦ λ is. absurd (cc is)
        | false ↦ λ is. all q one is
      ] (sym (get-remove keys_total objects key q) ∙ there)

  -- a content that was poured stands as an object of its place, whatever its number
  poured-stands : (state : State) (content : List ℕ) (number : ℕ) (place : Placement) → place_of state ≡ place → Poured image layout (state, content)
      → StandsFrom from image (data_page layout) (record { content = content; number = number; place = place })
  poured-stands state content number place place_is poured = record {
    held = subst (λ (p : Placement). HoldsAt image (data_page layout) p content) place_is poured.held;
    filled = λ later page is. poured.filled page (ap (λ (p : Placement). p.tail) place_is ∙ is);
  }

  -- the objects stand after a change whose content was poured
  stands-change : (number : ℕ) (objects : FinMap key_order Object) (key : List ℕ) (one : Change) (place : Option Placement) (written : Write)
      → is_append one ≡ false → DoesWrite key one number place written → All (Poured image layout) (pours_by one written) → AllStand from image layout objects
      → AllStand from image layout (with_change number objects ((key, model_change one), place))
  stands-change number objects key (change.Put content) (Some place) (write.Set at state) whole does poured all =
      let made : IsMadeBy (change.Put content) number place state.value = does.2 in
      AllStand-set objects key (record { content = content; number = number; place = place })
      (poured-stands state.value content number place made.1 (All-head (Poured image layout) (state.value, content) [] poured)) all
  stands-change number objects key (change.Put content) (Some place) (write.Del at) whole does poured all = absurd does
  stands-change number objects key (change.Put content) None written whole does poured all = AllStand-gone objects key all
  stands-change number objects key (change.Append extension) place written whole does poured all = absurd (cc whole)
  stands-change number objects key change.Del place written whole does poured all = AllStand-gone objects key all

  -- after the changes of a request
  stands-writes : (number : ℕ) (objects : FinMap key_order Object) (es : List (List ℕ × Change)) (placed : List Placed) (writes : List Write)
      → ((j : ℕ) (one : List ℕ × Change) → slice_get es j ≡ Some one → is_append one.1 ≡ false) → length placed ≡ length es → AllZip (IsWritten number) (zip es placed) writes
      → All (Poured image layout) (flat_map (λ (w : (List ℕ × Change) × Write). pours_by w.0.1 w.1) (zip es writes)) → AllStand from image layout objects
      → AllStand from image layout
      (fold (with_change number) objects (zip (map {B = List ℕ × transaction.Change} (λ e. (e.0, model_change e.1)) es) (map new_place placed)))
  stands-writes number objects [] placed writes whole long all poured stands = stands
  stands-writes number objects (e ∷ es) [] writes whole long all poured stands = absurd (omega (arith, long))
  stands-writes number objects (e ∷ es) (p ∷ placed) [] whole long all poured stands = absurd all
  stands-writes number objects (e ∷ es) (p ∷ placed) (w ∷ writes) whole long all poured stands =
      let more : List Pour = flat_map (λ (v : (List ℕ × Change) × Write). pours_by v.0.1 v.1) (zip es writes) in
      stands-writes number (with_change number objects ((e.0, model_change e.1), new_place p)) es placed writes
      (λ j one is. whole (suc j) one is) (omega (arith, long)) all.1 (All-behind (Poured image layout) (pours_by e.1 w) more poured)
      (stands-change number objects e.0 e.1 (new_place p) w (whole 0 e refl) all.0 (All-front (Poured image layout) (pours_by e.1 w) more poured) stands)

  -- after a committed request
  stands-entry : (held : List ℕ → Option Holding) (store : model.Store) (request : Request) (commit : Commit) (entry : Entry)
      → AllZip (IsPlaced held) (asked_of request).needs commit.placed → NoAppends request.writes → IsEntryOf (request, commit) entry
      → All (Poured image layout) (pours_of (request, entry)) → AllStand from image layout store.objects → AllStand from image layout (made_one store (request, commit)).objects
  stands-entry held store request commit entry placed whole is poured stands =
      subst (λ (changes : List (List ℕ × transaction.Change)). AllStand from image layout (fold (with_change commit.number) store.objects (zip changes (map new_place commit.placed))))
      (sym (entries-map_values model_change request.writes))
      (stands-writes commit.number store.objects (entries request.writes) commit.placed entry.writes
      (λ j one there. whole one.0 one.1 (get-entries request.writes one.0 ∙ find-at (entries request.writes) j one.0 one (entries_sorted request.writes) there refl))
      (long-placed held (entries request.writes) commit.placed placed) is.writes poured stands)

  -- and after all of them
  pub stands-made : (held : List ℕ → Option Holding) (store : model.Store) (ones : List (Request × Commit)) (es : List Entry) → ArePlaced held ones
      → AllZip IsEntryOf ones es → All (Poured image layout) (pours_of_all (zip (map (λ one. one.0) ones) es)) → AllStand from image layout store.objects
      → AllStand from image layout (made_by store ones).objects
  stands-made held store [] es placed all poured stands = stands
  stands-made held store (one ∷ ones) [] placed all poured stands = absurd all
  stands-made held store (one ∷ ones) (e ∷ es) placed all poured stands =
      let more : List Pour = pours_of_all (zip (map (λ other. other.0) ones) es) in
      stands-made held (made_one store one) ones es placed.1 all.1 (All-behind (Poured image layout) (pours_of (one.0, e)) more poured)
      (stands-entry held store one.0 one.1 e placed.0.0 placed.0.1 all.0 (All-front (Poured image layout) (pours_of (one.0, e)) more poured) stands)
