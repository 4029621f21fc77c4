-- Each entry of a planned group is one that there may be.
use Rattle.std.proofs.Common.{◌≡◌, ℕ, zero, suc, ◌+◌, ◌<◌, ◌≤◌, Bool, true, false, cond, List, [], ◌∷◌, ◌++◌, length, map, zip, Option, Some, None, Ok, Err, refl, sym, ◌∙◌, ap, subst, arith, append-nil}
use Rattle.std.specs.Prelude.{Contains, IfSome, option_map, slice_get}
use Rattle.std.specs.List.{All, AllZip, cons_option, flat_map}
use Rattle.std.specs.FinMap.{entries, entries_sorted, get-entries, len-entries}
use Rattle.std.specs.declared.cmp.Ordering.TheVariants.{Less}
use Rattle.std.proofs.lemmas.Grind.{flat_map-append}
use Rattle.std.proofs.lemmas.List.{length-map}
use Rattle.std.proofs.lemmas.List.Elements.{All-cons, All-head, All-nil, All-tail, Contains-append_left, Contains-append_right}
use Rattle.std.proofs.lemmas.Slice.Zip.{AllZip-long}
use Rattle.frame_codec.specs.Values.{model_entries, model_entry, model_write}
use Rattle.frame_codec.specs.declared.entry.Entry.{Entry}
use Rattle.frame_codec.specs.declared.entry.Write.{Write}
use Rattle.frame_codec.specs.declared.entry.Write.TheVariants as write
use Rattle.group_plan.specs.Plans.{DoesWrite, IsEntryOf, IsMadeBy, IsWritten, committed}
use Rattle.store_model.specs.Frame as model
use Rattle.store_model.specs.Frame.{IsEntry, IsWrite, key_of_write}
use Rattle.store_model.specs.Group.{Commit, commit_by, does_touch, member_of, members_from, tally_after}
use Rattle.store_model.specs.Holds.{place_of}
use Rattle.store_model.specs.Judgement.{Judgement, Ledger, Tally, judge}
use Rattle.store_model.specs.Key.{key_order}
use Rattle.store_model.specs.Placing.{Placed, new_place}
use Rattle.store_model.specs.Shape.{pages_of_extent, pages_of_tier, tier_of}
use Rattle.store_model.specs.Space.{AreBlocks, Block, blocks_of, extent_blocks, tail_blocks}
use Rattle.store_model.specs.State.{Extent, State, greatest_number, heads_of}
use Rattle.store_model.specs.Store.{Placement}
use Rattle.store_model.proofs.PlaceLaws.{Contains-extent, tail-within}
use Rattle.store_model.proofs.SortedLaws.{find-at, sorted-at}
use Rattle.txn.specs.Requests.{asked_of}
use Rattle.txn.specs.Txns.{NoAppends, is_append}
use Rattle.txn.specs.declared.change.Change.{Change}
use Rattle.txn.specs.declared.change.Change.TheVariants as change
use Rattle.txn.specs.declared.request.Request.{Request}
use Rattle.vault.specs.Knows.{IsKnown, IsOfKey}
use Rattle.vault.specs.Pours.{Pour, pour_blocks, pours_by, pours_of, pours_of_all}
use Rattle.vault.proofs.Following.{slice_get-map}
use Rattle.vault.proofs.Makings.{AreNumbered}
use Rattle.vault.proofs.Pourings.{written_pours}
use Rattle.vault.proofs.Writings.{write-key}

-- A commit has its request's session, and the number of its transaction.
pub record IsAsked (one : Request × Commit) : Type 0 where
  pub session : one.1.session ≡ one.0.session
  pub nth : one.1.nth ≡ one.0.nth

abbrev pub AreAsked : List (Request × Commit) → Type 0
AreAsked [] = Unit {0}
AreAsked (one ∷ ones) = IsAsked one × AreAsked ones

pub AreAsked-members : (ledger : Ledger) (tally : Tally) (queue : List Request) → AreAsked (committed queue (members_from ledger tally (map asked_of queue)))
AreAsked-members ledger tally [] = tt
AreAsked-members ledger tally (q ∷ queue) =
    elim (does_touch (asked_of q) tally.changed) as (λ (b : Bool). AreAsked (committed (q ∷ queue)
    (cond b [] (member_of ledger tally (asked_of q) ∷ members_from ledger (tally_after tally (judge ledger tally (asked_of q))) (map asked_of queue))))) [
      | true ↦ tt
      | false ↦
          (elim (judge ledger tally (asked_of q)) as (λ (j : Judgement).
          AreAsked (cons_option (option_map (λ commit. (q, commit)) (commit_by (asked_of q) (tally.last + 1) j)) (committed queue (members_from ledger (tally_after tally j) (map asked_of queue))))) [
            | Ok placed ↦ (record { session = refl; nth = refl }, AreAsked-members ledger (tally_after tally (Ok placed)) queue)
            | Err why ↦ AreAsked-members ledger (tally_after tally (Err why)) queue
          ])
    ]

-- What lies in blocks of the data area lies in it.
extents-within : (pages : ℕ) (state : State) → AreBlocks pages (blocks_of (place_of state)) → (i : ℕ) (extent : Extent) → slice_get state.extents i ≡ Some extent
    → extent.head + pages_of_extent i ≤ pages
extents-within pages state blocks i extent there =
    let head : slice_get (heads_of state.extents) i ≡ Some extent.head = slice_get-map (λ (e : Extent). e.head) state.extents i extent there in
    let is = blocks (extent.head, tier_of (0 + i)) (Contains-append_left (extent_blocks (heads_of state.extents)) (tail_blocks state.tail) (extent.head, tier_of (0 + i))
    (Contains-extent (heads_of state.extents) 0 i extent.head head)) in
    omega (arith, is.within, ap (λ (n : ℕ). pages_of_tier (tier_of n)) (let e : 0 + i ≡ i = omega arith in e))

tail-in : (pages : ℕ) (heads : List ℕ) (tail : Option ℕ) → AreBlocks pages (blocks_of (record { heads = heads; tail = tail })) → IfSome tail (λ page. page < pages)
tail-in pages heads None blocks = tt
tail-in pages heads (Some page) blocks = tail-within pages page heads blocks

-- the blocks of some pours, and of others
blocks-left : (pages : ℕ) (xs ys : List Pour) → AreBlocks pages (pour_blocks (xs ++ ys)) → AreBlocks pages (pour_blocks xs)
blocks-left pages xs ys blocks block there =
    blocks block (subst (λ (bs : List Block). Contains bs block) (sym (flat_map-append (λ (pour : Pour). blocks_of (place_of pour.0)) xs ys))
    (Contains-append_left (pour_blocks xs) (pour_blocks ys) block there))

blocks-right : (pages : ℕ) (xs ys : List Pour) → AreBlocks pages (pour_blocks (xs ++ ys)) → AreBlocks pages (pour_blocks ys)
blocks-right pages xs ys blocks block there =
    blocks block (subst (λ (bs : List Block). Contains bs block) (sym (flat_map-append (λ (pour : Pour). blocks_of (place_of pour.0)) xs ys))
    (Contains-append_right (pour_blocks xs) (pour_blocks ys) block there))

-- A write of an entry is one that there may be.
write-is : (pages number : ℕ) (key : List ℕ) (one : Change) (place : Option Placement) (w : Write) → is_append one ≡ false → DoesWrite key one number place w → IsOfKey w
    → AreBlocks pages (pour_blocks (pours_by one w)) → IsWrite pages number (model_write w)
write-is pages number key (change.Put content) (Some place) (write.Set at state) whole does named blocks =
    let made : IsMadeBy (change.Put content) number place state.value = does.2 in
    let mine : AreBlocks pages (blocks_of (place_of state.value)) = subst (AreBlocks pages) (append-nil (blocks_of (place_of state.value))) blocks in (
      record {
        named = named;
        stands = does.1;
        extents = extents-within pages state.value mine;
        tail = tail-in pages (heads_of state.value.extents) state.value.tail mine;
      },
      made.0,
    )
write-is pages number key (change.Put content) None (write.Set at state) whole does named blocks = absurd does
write-is pages number key (change.Append extension) place w whole does named blocks = absurd (cc whole)
write-is pages number key change.Del (Some place) (write.Set at state) whole does named blocks = absurd does.2
write-is pages number key change.Del None (write.Set at state) whole does named blocks = absurd does
write-is pages number key (change.Put content) place (write.Del at) whole does named blocks = named
write-is pages number key change.Del place (write.Del at) whole does named blocks = named

writes-are : (pages number : ℕ) (es : List (List ℕ × Change)) (placed : List Placed) (writes : List Write) → AllZip (IsWritten number) (zip es placed) writes
    → ((j : ℕ) (one : List ℕ × Change) → slice_get es j ≡ Some one → is_append one.1 ≡ false) → All IsOfKey writes
    → AreBlocks pages (pour_blocks (flat_map written_pours (zip es writes))) → All (IsWrite pages number) (map model_write writes)
writes-are pages number es placed [] all whole named blocks = All-nil (IsWrite pages number)
writes-are pages number [] placed (w ∷ writes) all whole named blocks = absurd all
writes-are pages number (e ∷ es) [] (w ∷ writes) all whole named blocks = absurd all
writes-are pages number (e ∷ es) (p ∷ placed) (w ∷ writes) all whole named blocks =
    All-cons (IsWrite pages number) (model_write w) (map model_write writes)
    (write-is pages number e.0 e.1 (new_place p) w (whole 0 e refl) all.0 (All-head IsOfKey w writes named)
    (blocks-left pages (pours_by e.1 w) (flat_map written_pours (zip es writes)) blocks))
    (writes-are pages number es placed writes all.1 (λ j one is. whole (suc j) one is) (All-tail IsOfKey w writes named)
    (blocks-right pages (pours_by e.1 w) (flat_map written_pours (zip es writes)) blocks))

-- a write of an entry has the key of the change at its place
model-key : (w : Write) (key : List ℕ) (one : Change) (number : ℕ) (place : Option Placement) → DoesWrite key one number place w → key_of_write (model_write w) ≡ key
model-key (write.Set at state) key one number place does = write-key key one number place (write.Set at state) does
model-key (write.Del at) key one number place does = write-key key one number place (write.Del at) does

written-at : (number : ℕ) (es : List (List ℕ × Change)) (placed : List Placed) (writes : List Write) (i : ℕ) (one : model.Write) → AllZip (IsWritten number) (zip es placed) writes
    → slice_get (map model_write writes) i ≡ Some one → (e : List ℕ × Change) × (slice_get es i ≡ Some e) × (key_of_write one ≡ e.0)
written-at number es placed [] i one all at = absurd (cc at)
written-at number [] placed (w ∷ writes) i one all at = absurd all
written-at number (e ∷ es) [] (w ∷ writes) i one all at = absurd all
written-at number (e ∷ es) (p ∷ placed) (w ∷ writes) zero one all at =
    let same : model_write w ≡ one = cc at in
    (e, refl, ap key_of_write (sym same) ∙ model-key w e.0 e.1 number (new_place p) all.0)
written-at number (e ∷ es) (p ∷ placed) (w ∷ writes) (suc i) one all at = written-at number es placed writes i one all.1 at

-- how many there are
zip-least : {X Y : Type 0} (xs : List X) (ys : List Y) → length (zip xs ys) ≤ length xs
zip-least [] ys = omega arith
zip-least (x ∷ xs) [] = omega arith
zip-least (x ∷ xs) (y ∷ ys) = omega (arith, zip-least xs ys)

-- An entry of a request is one that there may be.
entry-is : (pages : ℕ) (one : Request × Commit) (e : Entry) → IsEntryOf one e → IsAsked one → NoAppends one.0.writes → IsKnown e → 1 ≤ one.1.number → one.1.number ≤ greatest_number
    → AreBlocks pages (pour_blocks (pours_of (one.0, e))) → IsEntry pages (model_entry e)
entry-is pages one e is asked whole known least most blocks =
    let es = entries one.0.writes in
    record {
      number = record { least = omega (arith, is.number, least); most = omega (arith, is.number, most) };
      session = omega (arith, is.session, asked.session, one.0.session_known);
      begun = omega (arith, is.nth, asked.nth, one.0.numbered);
      counted = known.nth;
      few = omega (
        arith,
        length-map e.writes model_write,
        AllZip-long (IsWritten one.1.number) (zip es one.1.placed) e.writes is.writes,
        zip-least es one.1.placed,
        len-entries one.0.writes,
        one.0.few_writes,
      );
      rise = λ i a b at behind.
          let first = written-at one.1.number es one.1.placed e.writes i a is.writes at in
          let second = written-at one.1.number es one.1.placed e.writes (i + 1) b is.writes behind in
          subst (λ (k : List ℕ). key_order k (key_of_write b) ≡ Less) (sym first.2)
          (subst (λ (k : List ℕ). key_order first.0.0 k ≡ Less) (sym second.2)
          (sorted-at es i (i + 1) first.0 second.0 (entries_sorted one.0.writes) (omega arith) first.1 second.1));
      writes = subst (λ (n : ℕ). All (IsWrite pages n) (map model_write e.writes)) (sym is.number)
          (writes-are pages one.1.number es one.1.placed e.writes is.writes
          (λ j change is_at. whole change.0 change.1 (get-entries one.0.writes change.0 ∙ find-at es j change.0 change (entries_sorted one.0.writes) is_at refl))
          known.keys blocks);
    }

-- So is each of a group.
pub each-is : (pages last : ℕ) (ones : List (Request × Commit)) (es : List Entry) → AllZip IsEntryOf ones es → AreAsked ones → AreNumbered last ones → last + length ones ≤ greatest_number
    → All (λ request. NoAppends request.writes) (map (λ one. one.0) ones) → All IsKnown es → AreBlocks pages (pour_blocks (pours_of_all (zip (map (λ one. one.0) ones) es)))
    → All (IsEntry pages) (model_entries es)
each-is pages last [] [] all asked numbers most whole known blocks = All-nil (IsEntry pages)
each-is pages last [] (e ∷ es) all asked numbers most whole known blocks = absurd all
each-is pages last (one ∷ ones) [] all asked numbers most whole known blocks = All-nil (IsEntry pages)
each-is pages last (one ∷ ones) (e ∷ es) all asked numbers most whole known blocks =
    let rest : List Request = map (λ one. one.0) ones in
    All-cons (IsEntry pages) (model_entry e) (model_entries es)
    (entry-is pages one e all.0 asked.0 (All-head (λ (r : Request). NoAppends r.writes) one.0 rest whole) (All-head IsKnown e es known)
    (omega (arith, numbers.0)) (omega (arith, numbers.0, most)) (blocks-left pages (pours_of (one.0, e)) (pours_of_all (zip rest es)) blocks))
    (each-is pages (last + 1) ones es all.1 asked.1 numbers.1 (omega (arith, most)) (All-tail (λ (r : Request). NoAppends r.writes) one.0 rest whole) (All-tail IsKnown e es known)
    (blocks-right pages (pours_of (one.0, e)) (pours_of_all (zip rest es)) blocks))
