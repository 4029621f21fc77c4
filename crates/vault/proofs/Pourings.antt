-- Contents that are poured one after the other.
use Rattle.std.proofs.Common.{◌≡◌, ℕ, zero, suc, ◌+◌, ◌<◌, ◌≤◌, IsTrue, List, [], ◌∷◌, ◌++◌, length, take, drop, Some, inl, inr, sym, ◌∙◌, ap, subst, arith, add-one, append_assoc, append-nil}
use Rattle.std.specs.Prelude.{Contains, slice_get, slice_index_or, zip}
use Rattle.std.specs.List.{All, AllZip, flat_map, sum_by}
use Rattle.std.proofs.lemmas.List.{take_all}
use Rattle.std.proofs.lemmas.Grind.{flat_map-append}
use Rattle.std.proofs.lemmas.List.Elements.{All-append, Contains-append_left, Contains-append_right}
use Rattle.std.proofs.lemmas.List.Sums.{sum_by-append}
use Rattle.std.proofs.lemmas.Option.{slice_get-get_or}
use Rattle.std.proofs.lemmas.Slice.Zip.{AllZip-long}
use Rattle.std.proofs.Common.{Option, None}
use Rattle.std.specs.List.{cons_option}
use Rattle.std.specs.FinMap.{entries, len, len-entries}
use Rattle.frame_codec.specs.declared.entry.Entry.{Entry}
use Rattle.frame_codec.specs.declared.entry.Write.{Write}
use Rattle.frame_codec.specs.declared.entry.Write.TheVariants as write
use Rattle.group_plan.specs.Plans.{DoesWrite, IsMadeBy, IsWritten}
use Rattle.store_model.specs.Placing.{Placed, new_place}
use Rattle.store_model.specs.Store.{Placement}
use Rattle.txn.specs.declared.change.Change.{Change}
use Rattle.txn.specs.declared.change.Change.TheVariants as change
use Rattle.txn.specs.declared.request.Request.{Request}
use Rattle.disk_model.specs.Disks.{OnlyWrites}
use Rattle.disk_model.specs.declared.disk.Disk.{Ghosts}
use Rattle.disk_model.proofs.DiskLaws.{OnlyWrites-more, OnlyWrites-none, OnlyWrites-wider}
use Rattle.store_model.specs.Disk.{SameOff, Took}
use Rattle.store_model.specs.Holds.{IsPoured, place_of}
use Rattle.store_model.specs.Layout.{Layout, data_page}
use Rattle.store_model.specs.Space.{Apart, AreBlocks, Block, blocks_of, owners}
use Rattle.store_model.specs.State.{State}
use Rattle.store_model.proofs.HeldLaws.{IsPoured-owned, ObjectStands-off}
use Rattle.store_model.proofs.PlaceLaws.{owners-append}
use Rattle.vault.specs.Pours.{AreTold, AreWrittenBy, IsPourPage, Pour, Poured, pour_blocks, pour_pages, pours_by, requests_at}

-- a list with one of its elements set apart
pub flat-split : {X Y : Type 0} (h : X → List Y) (xs : List X) (i : ℕ) (x : X) → slice_get xs i ≡ Some x
    → flat_map h xs ≡ flat_map h (take i xs) ++ (h x ++ flat_map h (drop (suc i) xs))
flat-split h [] i x is = absurd (cc is)
flat-split h (y ∷ xs) zero x is =
    let same : y ≡ x = cc in ap (λ z. h z ++ flat_map h xs) same
flat-split h (y ∷ xs) (suc i) x is =
    ap (λ zs. h y ++ zs) (flat-split h xs i x is) ∙ sym (append_assoc (h y) (flat_map h (take i xs)) (h x ++ flat_map h (drop (suc i) xs)))

pub flat-more : {X Y : Type 0} (h : X → List Y) (xs : List X) (i : ℕ) (x : X) → slice_get xs i ≡ Some x
    → flat_map h (take (suc i) xs) ≡ flat_map h (take i xs) ++ h x
flat-more h [] i x is = absurd (cc is)
flat-more h (y ∷ xs) zero x is =
    let same : y ≡ x = cc in append-nil (h y) ∙ ap h same
flat-more h (y ∷ xs) (suc i) x is =
    ap (λ zs. h y ++ zs) (flat-more h xs i x is) ∙ sym (append_assoc (h y) (flat_map h (take i xs)) (h x))

pub slice_get-zip : {X Y : Type 0} (xs : List X) (ys : List Y) (i : ℕ) (x : X) (y : Y) → slice_get xs i ≡ Some x → slice_get ys i ≡ Some y
    → slice_get (zip xs ys) i ≡ Some (x, y)
slice_get-zip [] ys i x y is there = absurd (cc is)
slice_get-zip (a ∷ xs) [] i x y is there = absurd (cc there)
slice_get-zip (a ∷ xs) (b ∷ ys) zero x y is there =
    let one : a ≡ x = cc in
    let other : b ≡ y = cc in
    ap (λ z. Some (z, b)) one ∙ ap (λ z. Some (x, z)) other
slice_get-zip (a ∷ xs) (b ∷ ys) (suc i) x y is there = slice_get-zip xs ys i x y is there

-- how many of the blocks of pours a page lies in
pub owners-pours : (xs ys : List Pour) (at : ℕ) → owners (pour_blocks (xs ++ ys)) at ≡ owners (pour_blocks xs) at + owners (pour_blocks ys) at
owners-pours xs ys at =
    ap (λ (bs : List Block). owners bs at) (flat_map-append (λ (pour : Pour). blocks_of (place_of pour.0)) xs ys)
    ∙ owners-append (pour_blocks xs) (pour_blocks ys) at

owners-one : (pours : List Pour) (k : ℕ) (d : Pour) (at : ℕ) → k < length pours
    → owners (blocks_of (place_of (slice_index_or pours k d).0)) at ≤ owners (pour_blocks pours) at
owners-one [] k d at less = absurd (omega (arith, less))
owners-one (pour ∷ pours) zero d at less = omega (arith, owners-append (blocks_of (place_of pour.0)) (pour_blocks pours) at)
owners-one (pour ∷ pours) (suc k) d at less =
    omega (arith, owners-one pours k d at (omega (arith, less)), owners-append (blocks_of (place_of pour.0)) (pour_blocks pours) at)

-- A page that a content is poured to is one of the data area that the contents' blocks own.
pub pour_page-owned : (layout : Layout) (pours : List Pour) (p : ℕ) → IsPourPage layout pours p → (at : ℕ) × (p ≡ data_page layout + at) × (1 ≤ owners (pour_blocks pours) at)
pour_page-owned layout [] p page = absurd page
pour_page-owned layout (pour ∷ pours) p (inl here) =
    let owned = IsPoured-owned layout pour.0 0 p here in
    (owned.0, owned.1, omega (arith, owned.2, owners-append (blocks_of (place_of pour.0)) (pour_blocks pours) owned.0))
pour_page-owned layout (pour ∷ pours) p (inr behind) =
    let owned = pour_page-owned layout pours p behind in
    (owned.0, owned.1, omega (arith, owned.2, owners-append (blocks_of (place_of pour.0)) (pour_blocks pours) owned.0))

-- one of some is one of these and others
pub pour_page-left : (layout : Layout) (xs ys : List Pour) (p : ℕ) → IsPourPage layout xs p → IsPourPage layout (xs ++ ys) p
pour_page-left layout [] ys p page = absurd page
pour_page-left layout (x ∷ xs) ys p (inl here) = inl here
pour_page-left layout (x ∷ xs) ys p (inr behind) = inr (pour_page-left layout xs ys p behind)

pub pour_page-right : (layout : Layout) (xs ys : List Pour) (p : ℕ) → IsPourPage layout ys p → IsPourPage layout (xs ++ ys) p
pour_page-right layout [] ys p page = page
pour_page-right layout (x ∷ xs) ys p page = inr (pour_page-right layout xs ys p page)

-- The first of these contents were poured, and no page but those of all was written.
pub record Pouring {D : Type 0} (g : Ghosts D) (layout : Layout) (all done : List Pour) (old new : D) : Type 0 where
  pub poured : IsTrue g.tells → All (Poured (g.story new).reads layout) done
  pub wrote : OnlyWrites g (IsPourPage layout all) old new
  pub took : IsTrue g.tells → Took 0 (sum_by pour_pages done) 0 (g.calls old) (g.calls new)

-- these were
pub record Pours {D : Type 0} (g : Ghosts D) (layout : Layout) (more : List Pour) (old new : D) : Type 0 where
  pub poured : IsTrue g.tells → All (Poured (g.story new).reads layout) more
  pub wrote : OnlyWrites g (IsPourPage layout more) old new
  pub took : IsTrue g.tells → Took 0 (sum_by pour_pages more) 0 (g.calls old) (g.calls new)

less_than_none : (k : ℕ) → k < 0 → ⊥
less_than_none k less = omega (arith, less)

module _ {D : Type 0} (g : Ghosts D) (layout : Layout) where
  pub Pouring-none : (all : List Pour) (disk : D) → Pouring g layout all [] disk disk
  Pouring-none all disk = record {
    poured = λ told k d less. absurd (less_than_none k less);
    wrote = OnlyWrites-none g (IsPourPage layout all) disk;
    took = λ told. record { reads = omega arith; writes = omega arith; syncs = omega arith };
  }

  pub Pours-none : (disk : D) → Pours g layout [] disk disk
  Pours-none disk = record {
    poured = λ told k d less. absurd (less_than_none k less);
    wrote = OnlyWrites-none g (IsPourPage layout []) disk;
    took = λ told. record { reads = omega arith; writes = omega arith; syncs = omega arith };
  }

  module _ (all done more rest : List Pour) (old mid new : D) (split : all ≡ done ++ (more ++ rest)) where
    owners-all : (at : ℕ) → owners (pour_blocks all) at ≡ owners (pour_blocks done) at + (owners (pour_blocks more) at + owners (pour_blocks rest) at)
    owners-all at =
        ap (λ (ps : List Pour). owners (pour_blocks ps) at) split ∙ owners-pours done (more ++ rest) at
        ∙ ap (λ (n : ℕ). owners (pour_blocks done) at + n) (owners-pours more rest at)

    -- a page of some is one of all
    wider : (p : ℕ) → IsPourPage layout more p → IsPourPage layout all p
    wider p page =
        subst (λ (ps : List Pour). IsPourPage layout ps p) (sym split)
        (pour_page-right layout done (more ++ rest) p (pour_page-left layout more rest p page))

    pub OnlyWrites-step : OnlyWrites g (IsPourPage layout all) old mid → OnlyWrites g (IsPourPage layout more) mid new
        → OnlyWrites g (IsPourPage layout all) old new
    OnlyWrites-step before now = OnlyWrites-more g (IsPourPage layout more) (IsPourPage layout all) old mid new wider before now

    -- what was poured before stays
    kept : Apart (pour_blocks all) → SameOff (IsPourPage layout more) (g.story mid).reads (g.story new).reads
        → All (Poured (g.story mid).reads layout) done → All (Poured (g.story new).reads layout) done
    kept apart same before k d less =
        let pour = slice_index_or done k d in
        ObjectStands-off (g.story mid).reads (g.story new).reads (data_page layout) (record { content = pour.1; number = pour.0.born; place = place_of pour.0 })
        (λ at owned. same (data_page layout + at) (λ page.
        let there = pour_page-owned layout more (data_page layout + at) page in
        let here : there.0 ≡ at = omega (arith, there.1) in
        let other : 1 ≤ owners (pour_blocks more) at = subst (λ (n : ℕ). 1 ≤ owners (pour_blocks more) n) here there.2 in
        absurd (omega (arith, apart at, owners-all at, owned, owners-one done k d at less, other))))
        (before k d less)

    pub Pouring-more : Apart (pour_blocks all) → Pouring g layout all done old mid → Pours g layout more mid new → Pouring g layout all (done ++ more) old new
    Pouring-more apart before now = record {
      poured = λ told. All-append (Poured (g.story new).reads layout) done more (kept apart (now.wrote.wrote told).reads (before.poured told)) (now.poured told);
      wrote = OnlyWrites-step before.wrote now.wrote;
      took = λ told.
          let sums : sum_by pour_pages (done ++ more) ≡ sum_by pour_pages done + sum_by pour_pages more = sum_by-append pour_pages done more in
          record {
            reads = omega (arith, (before.took told).reads, (now.took told).reads);
            writes = omega (arith, (before.took told).writes, (now.took told).writes, sums);
            syncs = omega (arith, (before.took told).syncs, (now.took told).syncs);
          };
    }

    pub apart-more : Apart (pour_blocks all) → Apart (pour_blocks more)
    apart-more apart at = omega (arith, apart at, owners-all at)

    pub within-more : (pages : ℕ) → AreBlocks pages (pour_blocks all) → AreBlocks pages (pour_blocks more)
    within-more pages blocks block is =
        let here : Contains (pour_blocks done ++ (pour_blocks more ++ pour_blocks rest)) block =
        Contains-append_right (pour_blocks done) (pour_blocks more ++ pour_blocks rest) block (Contains-append_left (pour_blocks more) (pour_blocks rest) block is) in
        let same : pour_blocks all ≡ pour_blocks done ++ (pour_blocks more ++ pour_blocks rest) =
        ap pour_blocks split ∙ flat_map-append (λ (pour : Pour). blocks_of (place_of pour.0)) done (more ++ rest)
        ∙ ap (λ (bs : List Block). pour_blocks done ++ bs) (flat_map-append (λ (pour : Pour). blocks_of (place_of pour.0)) more rest) in
        blocks block (subst (λ (bs : List Block). Contains bs block) (sym same) here)

  -- one element more of a list
  module _ {X : Type 0} (h : X → List Pour) (xs : List X) (i : ℕ) (x : X) (is : slice_get xs i ≡ Some x) where
    next-split : flat_map h xs ≡ flat_map h (take i xs) ++ (h x ++ flat_map h (drop (suc i) xs))
    next-split = flat-split h xs i x is

    next-more : flat_map h (take i xs) ++ h x ≡ flat_map h (take (i + 1) xs)
    next-more = sym (flat-more h xs i x is) ∙ ap (λ (n : ℕ). flat_map h (take n xs)) (sym (add-one i))

    pub Pouring-next : (old mid new : D) → Apart (pour_blocks (flat_map h xs)) → Pouring g layout (flat_map h xs) (flat_map h (take i xs)) old mid → Pours g layout (h x) mid new
        → Pouring g layout (flat_map h xs) (flat_map h (take (i + 1) xs)) old new
    Pouring-next old mid new apart before now =
        subst (λ (done : List Pour). Pouring g layout (flat_map h xs) done old new) next-more
        (Pouring-more (flat_map h xs) (flat_map h (take i xs)) (h x) (flat_map h (drop (suc i) xs)) old mid new next-split apart before now)

    pub OnlyWrites-next : (old mid new : D) → OnlyWrites g (IsPourPage layout (flat_map h xs)) old mid → OnlyWrites g (IsPourPage layout (h x)) mid new
        → OnlyWrites g (IsPourPage layout (flat_map h xs)) old new
    OnlyWrites-next old mid new before now =
        OnlyWrites-step (flat_map h xs) (flat_map h (take i xs)) (h x) (flat_map h (drop (suc i) xs)) old mid new next-split before now

    pub apart-next : (disk : D) → Apart (pour_blocks (flat_map h xs)) → Apart (pour_blocks (h x))
    apart-next disk apart = apart-more (flat_map h xs) (flat_map h (take i xs)) (h x) (flat_map h (drop (suc i) xs)) disk disk disk next-split apart

    pub within-next : (disk : D) (pages : ℕ) → AreBlocks pages (pour_blocks (flat_map h xs)) → AreBlocks pages (pour_blocks (h x))
    within-next disk pages blocks = within-more (flat_map h xs) (flat_map h (take i xs)) (h x) (flat_map h (drop (suc i) xs)) disk disk disk next-split pages blocks

  -- all of it
  pub Pouring-all : {X : Type 0} (h : X → List Pour) (xs : List X) (i : ℕ) (old new : D) → length xs ≤ i → Pouring g layout (flat_map h xs) (flat_map h (take i xs)) old new
      → Pouring g layout (flat_map h xs) (flat_map h xs) old new
  Pouring-all h xs i old new all so_far =
      subst (λ ys. Pouring g layout (flat_map h xs) (flat_map h ys) old new) (take_all i xs all) so_far

-- the one content of a change and its write
pub pour-within : (pages : ℕ) (pours : List Pour) (state : State) (content : List ℕ) → pours ≡ (state, content) ∷ [] → AreBlocks pages (pour_blocks pours)
    → AreBlocks pages (blocks_of (place_of state))
pour-within pages pours state content is blocks =
    subst (AreBlocks pages) (append-nil (blocks_of (place_of state))) (subst (λ (ps : List Pour). AreBlocks pages (pour_blocks ps)) is blocks)

pub pour-wrote : {D : Type 0} (g : Ghosts D) (layout : Layout) (pours : List Pour) (state : State) (content : List ℕ) (old new : D) → pours ≡ (state, content) ∷ []
    → OnlyWrites g (IsPoured layout state 0) old new → OnlyWrites g (IsPourPage layout pours) old new
pour-wrote g layout pours state content old new is wrote =
    subst (λ (ps : List Pour). OnlyWrites g (IsPourPage layout ps) old new) (sym is)
    (OnlyWrites-wider g (IsPoured layout state 0) (IsPourPage layout ((state, content) ∷ [])) old new (λ p here. inl here) wrote)

pub length-zip-right : {X Y : Type 0} (xs : List X) (ys : List Y) → length (zip xs ys) ≤ length ys
length-zip-right [] ys = omega arith
length-zip-right (x ∷ xs) [] = omega arith
length-zip-right (x ∷ xs) (y ∷ ys) = omega (arith, length-zip-right xs ys)

length-zip-left : {X Y : Type 0} (xs : List X) (ys : List Y) → length (zip xs ys) ≤ length xs
length-zip-left [] ys = omega arith
length-zip-left (x ∷ xs) [] = omega arith
length-zip-left (x ∷ xs) (y ∷ ys) = omega (arith, length-zip-left xs ys)

-- a write is of a change
pub written-below : (request : Request) (entry : Entry) (i : ℕ) → AreWrittenBy request entry → i < length entry.writes → i < len request.writes
written-below request entry i written less =
    let long = AllZip-long (IsWritten written.0.number) (zip (entries request.writes) written.0.placed) entry.writes written.1.writes in
    omega (arith, less, long, length-zip-left (entries request.writes) written.0.placed, len-entries request.writes)

-- what is put is told by the state that is written
told-by : (key : List ℕ) (one : Change) (number : ℕ) (place : Option Placement) (written : Write) → DoesWrite key one number place written → AreTold (pours_by one written)
told-by key (change.Put content) number (Some place) (write.Set at state) does =
    let made : IsMadeBy (change.Put content) number place state.value = does.2 in (made.2, tt)
told-by key (change.Put content) number None (write.Set at state) does = absurd does
told-by key (change.Put content) number place (write.Del at) does = tt
told-by key (change.Append extension) number place written does = tt
told-by key change.Del number place written does = tt

told-at : (number : ℕ) (es : List (List ℕ × Change)) (placed : List Placed) (writes : List Write) (i : ℕ) (e : List ℕ × Change) (w : Write)
    → AllZip (IsWritten number) (zip es placed) writes → slice_get es i ≡ Some e → slice_get writes i ≡ Some w → AreTold (pours_by e.1 w)
told-at number [] placed writes i e w all is there = absurd (cc is)
told-at number (x ∷ es) [] [] i e w all is there = absurd (cc there)
told-at number (x ∷ es) [] (y ∷ writes) i e w all is there = absurd all
told-at number (x ∷ es) (p ∷ placed) [] i e w all is there = absurd all
told-at number (x ∷ es) (p ∷ placed) (y ∷ writes) zero e w all is there =
    let one : x ≡ e = cc in
    let other : y ≡ w = cc in
    subst (λ (v : Write). AreTold (pours_by e.1 v)) other
    (subst (λ (z : List ℕ × Change). AreTold (pours_by z.1 y)) one (told-by x.0 x.1 number (new_place p) y all.0))
told-at number (x ∷ es) (p ∷ placed) (y ∷ writes) (suc i) e w all is there = told-at number es placed writes i e w all.1 is there

pub written-told : (request : Request) (entry : Entry) (i : ℕ) (key : List ℕ) (one : Change) (w : Write) → AreWrittenBy request entry
    → slice_get (entries request.writes) i ≡ Some (key, one) → slice_get entry.writes i ≡ Some w → AreTold (pours_by one w)
written-told request entry i key one w written is there =
    told-at written.0.number (entries request.writes) written.0.placed entry.writes i (key, one) w written.1.writes is there

-- the request of an entry
pub request-at : (queue : List Request) (places : List ℕ) (i p : ℕ) (r : Request) → All (λ place. place < length queue) places → slice_get places i ≡ Some p
    → slice_get queue p ≡ Some r → slice_get (requests_at queue places) i ≡ Some r
request-at queue [] i p r all is there = absurd (cc is)
request-at queue (q ∷ places) zero p r all is there =
    let same : q ≡ p = cc in
    ap (λ (o : Option Request). slice_get (cons_option o (requests_at queue places)) 0) (ap (slice_get queue) same ∙ there)
request-at queue (q ∷ places) (suc i) p r all is there =
    let less : q < length queue = all 0 q (omega arith) in
    ap (λ (o : Option Request). slice_get (cons_option o (requests_at queue places)) (suc i)) (slice_get-get_or queue q r less)
    ∙ request-at queue places i p r (λ k d below. all (suc k) d (omega (arith, below))) is there

pub place-below : (queue : List Request) (places : List ℕ) (i p : ℕ) → All (λ place. place < length queue) places → slice_get places i ≡ Some p → p < length queue
place-below queue [] i p all is = absurd (cc is)
place-below queue (q ∷ places) zero p all is =
    let same : q ≡ p = cc in subst (λ (n : ℕ). n < length queue) same (all 0 q (omega arith))
place-below queue (q ∷ places) (suc i) p all is = place-below queue places i p (λ k d below. all (suc k) d (omega (arith, below))) is

-- an element of two lists of which R holds place by place
pub zip-at : {X Y : Type 0} (R : X → Y → Type 0) (xs : List X) (ys : List Y) (i : ℕ) (x : X) (y : Y) → AllZip R xs ys → slice_get xs i ≡ Some x → slice_get ys i ≡ Some y → R x y
zip-at R [] ys i x y all is there = absurd (cc is)
zip-at R (a ∷ xs) [] i x y all is there = absurd all
zip-at R (a ∷ xs) (b ∷ ys) zero x y all is there =
    let one : a ≡ x = cc in
    let other : b ≡ y = cc in subst (R x) other (subst (λ z. R z b) one all.0)
zip-at R (a ∷ xs) (b ∷ ys) (suc i) x y all is there = zip-at R xs ys i x y all.1 is there

-- what is poured for the first writes of an entry
abbrev pub pours_front : ℕ → Request → Entry → List Pour
pours_front i request entry = flat_map (λ (w : (List ℕ × Change) × Write). pours_by w.0.1 w.1) (take i (zip (entries request.writes) entry.writes))

abbrev pub written_pours : (List ℕ × Change) × Write → List Pour
written_pours w = pours_by w.0.1 w.1
