-- Blocks that are taken one after the other, and what further ones then take.
use Rattle.std.proofs.Common.{◌≡◌, ℕ, zero, suc, ◌+◌, ◌-◌, ◌%◌, ◌<◌, ◌≤◌, inl, inr, List, [], ◌∷◌, ◌++◌, length, length-append, drop, map, Option, Result, Ok, Err, refl, sym, ◌∙◌, ap, subst, arith, append_assoc}
use Rattle.std.specs.Prelude.{slice_index, zip}
use Rattle.std.specs.List.{range_with_len}
use Rattle.std.specs.List.Sorted.{IsPermutation}
use Rattle.std.proofs.Math.Seq.{get_or-append_seam}
use Rattle.std.proofs.lemmas.Bool.{cases_lt}
use Rattle.std.proofs.lemmas.List.{append-nil, get_or_append_left, map-append}
use Rattle.std.proofs.lemmas.List.FromFn.{map-range_with_len_more}
use Rattle.std.proofs.lemmas.List.Sorted.{IsPermutation-refl, IsPermutation-trans, IsPermutation-append, IsPermutation-append_comm, IsPermutation-append_right, IsPermutation-sym}
use Rattle.extent_alloc.specs.Parts.{Parts}
use Rattle.store_model.specs.Places.{extent_tiers, found_then, head_then, taken}
use Rattle.store_model.specs.Shape.{pages_of_extent, pages_of_tier, tier_of}
use Rattle.store_model.specs.Space.{Block, IsFull, IsLeastFree}
use Rattle.store_model.specs.State.{AreAligned}
use Rattle.store_model.proofs.OrderLaws.{taken-found, taken-full, taken-permutation}
use Rattle.group_plan.specs.Takings.{Fails, IsListed, IsTakeFault, Moves, Takes, TakesExtents, TakesHeads, heads_then}
use Rattle.group_plan.specs.declared.takings.Takings.{Takings}
use Rattle.group_plan.specs.declared.takings.TakeFault.{TakeFault}
use Rattle.group_plan.specs.declared.takings.TakeFault.TheVariants as fault

head-heads : (head : ℕ) (rest : Result (List ℕ) ℕ) → head_then head rest ≡ heads_then (head ∷ []) rest
head-heads head (Ok heads) = refl
head-heads head (Err tier) = refl

-- the least free place of a tier was taken
pub TakesHeads-block : (tier head : ℕ) (old mid new : Parts) → mid.owned ≡ old.owned → mid.pages ≡ old.pages → IsLeastFree mid.owned tier mid.pages head → IsPermutation new.owned ((head, tier) ∷ mid.owned)
    → TakesHeads (tier ∷ []) (head ∷ []) old new
TakesHeads-block tier head old mid new same pages least moved = λ rest.
    ap (λ (o : Option ℕ). found_then tier o (λ h. taken old.pages rest ((h, tier) ∷ old.owned)))
    (taken-found old.owned tier old.pages head (subst (λ (n : ℕ). IsLeastFree old.owned tier n head) pages (subst (λ (bs : List Block). IsLeastFree bs tier mid.pages head) same least)))
    ∙ ap (head_then head) (sym (taken-permutation old.pages rest new.owned ((head, tier) ∷ old.owned) (subst (λ (bs : List Block). IsPermutation new.owned ((head, tier) ∷ bs)) same moved)))
    ∙ head-heads head (taken old.pages rest new.owned)

-- no place of a tier is free
pub Fails-block : (tier : ℕ) (old mid : Parts) → mid.owned ≡ old.owned → mid.pages ≡ old.pages → IsFull mid.owned tier mid.pages → Fails (tier ∷ []) tier old
Fails-block tier old mid same pages full = λ rest.
    ap (λ (o : Option ℕ). found_then tier o (λ h. taken old.pages rest ((h, tier) ∷ old.owned)))
    (taken-full old.owned tier old.pages (subst (λ (n : ℕ). IsFull old.owned tier n) pages (subst (λ (bs : List Block). IsFull bs tier mid.pages) same full)))

-- nothing was taken
pub Moves-none : (old new : Parts) (before after : Takings) → new.owned ≡ old.owned → new.pages ≡ old.pages → after.blocks.items ≡ before.blocks.items → after.spare ≡ before.spare
    → IsListed old before → old.spare ≤ new.spare → Moves [] old new before after
Moves-none old new before after same pages blocks spare listed more = record {
  owned = subst (λ (bs : List Block). IsPermutation bs old.owned) (sym same) (IsPermutation-refl old.owned);
  pages = pages;
  blocks = blocks ∙ sym (append-nil before.blocks.items);
  spare = spare;
  listed = omega (arith, listed, more, spare, ap length blocks);
}

-- one block was
pub Moves-block : (tier head : ℕ) (old mid new : Parts) (before between after : Takings) → Moves [] old mid before between → between.spare + length between.blocks.items + 2 ≤ mid.spare
    → IsPermutation new.owned ((head, tier) ∷ mid.owned) → new.pages ≡ mid.pages → new.spare + 1 ≡ mid.spare → after.blocks.items ≡ between.blocks.items ++ (head, tier) ∷ [] → after.spare ≡ between.spare
    → Moves ((head, tier) ∷ []) old new before after
Moves-block tier head old mid new before between after none room moved pages fewer blocks spare = record {
  owned = IsPermutation-trans new.owned ((head, tier) ∷ mid.owned) ((head, tier) ∷ old.owned) moved (IsPermutation-append_right ((head, tier) ∷ []) mid.owned old.owned none.owned);
  pages = pages ∙ none.pages;
  blocks = blocks ∙ ap (λ (bs : List Block). bs ++ (head, tier) ∷ []) (none.blocks ∙ append-nil before.blocks.items);
  spare = spare ∙ none.spare;
  listed = omega (arith, room, fewer, spare, ap length blocks, length-append between.blocks.items ((head, tier) ∷ []));
}

pub swapped : (one two rest : List Block) → IsPermutation (two ++ (one ++ rest)) ((one ++ two) ++ rest)
swapped one two rest =
    subst (λ (bs : List Block). IsPermutation bs ((one ++ two) ++ rest)) (append_assoc two one rest)
    (IsPermutation-append (two ++ one) (one ++ two) rest rest (IsPermutation-append_comm two one) (IsPermutation-refl rest))

-- what was taken before and then
pub Moves-then : (one two : List Block) (old mid new : Parts) (before between after : Takings) → Moves one old mid before between → Moves two mid new between after → Moves (one ++ two) old new before after
Moves-then one two old mid new before between after first second = record {
  owned = IsPermutation-trans new.owned (two ++ mid.owned) ((one ++ two) ++ old.owned) second.owned
      (IsPermutation-trans (two ++ mid.owned) (two ++ (one ++ old.owned)) ((one ++ two) ++ old.owned)
      (IsPermutation-append two two mid.owned (one ++ old.owned) (IsPermutation-refl two) first.owned)
      (swapped one two old.owned));
  pages = second.pages ∙ first.pages;
  blocks = second.blocks ∙ ap (λ (bs : List Block). bs ++ two) first.blocks ∙ append_assoc before.blocks.items one two;
  spare = second.spare ∙ first.spare;
  listed = second.listed;
}

heads-both : (one two : List ℕ) (rest : Result (List ℕ) ℕ) → heads_then one (heads_then two rest) ≡ heads_then (one ++ two) rest
heads-both one two (Ok heads) = ap Ok (sym (append_assoc one two heads))
heads-both one two (Err tier) = refl

-- some blocks, and then others
pub TakesHeads-then : (tiers more heads others : List ℕ) (old mid new : Parts) → mid.pages ≡ old.pages → TakesHeads tiers heads old mid → TakesHeads more others mid new → TakesHeads (tiers ++ more) (heads ++ others) old new
TakesHeads-then tiers more heads others old mid new pages one two = λ rest.
    let later : taken old.pages (more ++ rest) mid.owned ≡ heads_then others (taken old.pages rest new.owned) =
    subst (λ (n : ℕ). taken n (more ++ rest) mid.owned ≡ heads_then others (taken n rest new.owned)) pages (two rest) in
    ap (λ (ts : List ℕ). taken old.pages ts old.owned) (append_assoc tiers more rest)
    ∙ one (more ++ rest)
    ∙ ap (heads_then heads) later
    ∙ heads-both heads others (taken old.pages rest new.owned)

-- some blocks, and then none for one of the others
Fails-then : (tiers more heads : List ℕ) (tier : ℕ) (old mid : Parts) → mid.pages ≡ old.pages → TakesHeads tiers heads old mid → Fails more tier mid → Fails (tiers ++ more) tier old
Fails-then tiers more heads tier old mid pages one two = λ rest.
    let later : taken old.pages (more ++ rest) mid.owned ≡ Err tier = subst (λ (n : ℕ). taken n (more ++ rest) mid.owned ≡ Err tier) pages (two rest) in
    ap (λ (ts : List ℕ). taken old.pages ts old.owned) (append_assoc tiers more rest)
    ∙ one (more ++ rest)
    ∙ ap (heads_then heads) later

-- tiers behind those that fail
pub Fails-front : (tiers more : List ℕ) (tier : ℕ) (old : Parts) → Fails tiers tier old → Fails (tiers ++ more) tier old
Fails-front tiers more tier old fails = λ rest.
    ap (λ (ts : List ℕ). taken old.pages ts old.owned) (append_assoc tiers more rest) ∙ fails (more ++ rest)

zip-both : (a c : List ℕ) (b d : List ℕ) → length a ≡ length b → zip (a ++ c) (b ++ d) ≡ zip a b ++ zip c d
zip-both [] c [] d same = refl
zip-both [] c (y ∷ b) d same = absurd (omega (arith, same))
zip-both (x ∷ a) c [] d same = absurd (omega (arith, same))
zip-both (x ∷ a) c (y ∷ b) d same = ap (λ (bs : List Block). (x, y) ∷ bs) (zip-both a c b d (omega (arith, same)))

pub Takes-then : (tiers more heads others : List ℕ) (old mid new : Parts) (before between after : Takings) → Takes tiers heads old mid before between → Takes more others mid new between after
    → Takes (tiers ++ more) (heads ++ others) old new before after
Takes-then tiers more heads others old mid new before between after one two = record {
  took = TakesHeads-then tiers more heads others old mid new one.moves.pages one.took two.took;
  count = omega (arith, one.count, two.count, length-append heads others, length-append tiers more);
  moves = subst (λ (bs : List Block). Moves bs old new before after) (sym (zip-both heads others tiers more one.count))
      (Moves-then (zip heads tiers) (zip others more) old mid new before between after one.moves two.moves);
}

-- no block at all
pub Takes-none : (old new : Parts) (before after : Takings) → Moves [] old new before after → Takes [] [] old new before after
Takes-none old new before after none = record {
  took = λ rest.
      ap (λ (r : Result (List ℕ) ℕ). r) (taken-permutation old.pages rest old.owned new.owned (subst (λ (bs : List Block). IsPermutation bs new.owned) refl (sym-moved old new none.owned)))
      ∙ alone (taken old.pages rest new.owned);
  count = refl;
  moves = none;
} where
  alone : (r : Result (List ℕ) ℕ) → r ≡ heads_then [] r
  alone (Ok heads) = refl
  alone (Err tier) = refl

  sym-moved : (a b : Parts) → IsPermutation b.owned ([] ++ a.owned) → IsPermutation a.owned b.owned
  sym-moved a b moved = IsPermutation-sym b.owned a.owned moved

-- what failed behind some blocks, and before other tiers
pub IsTakeFault-then : (front tiers heads : List ℕ) (old mid new : Parts) (before between after : Takings) (why : TakeFault)
    → Takes front heads old mid before between → IsTakeFault tiers mid new between after why → IsTakeFault (front ++ tiers) old new before after why
IsTakeFault-then front tiers heads old mid new before between after (fault.NoSpace tier) takes fails = (
  Fails-then front tiers heads tier old mid takes.moves.pages takes.took fails.0,
  (zip heads front ++ fails.1.0, Moves-then (zip heads front) fails.1.0 old mid new before between after takes.moves fails.1.1),
)
IsTakeFault-then front tiers heads old mid new before between after fault.OutOfMemory takes fails =
    (zip heads front ++ fails.0, Moves-then (zip heads front) fails.0 old mid new before between after takes.moves fails.1)

pub IsTakeFault-front : (tiers rest : List ℕ) (old new : Parts) (before after : Takings) (why : TakeFault) → IsTakeFault tiers old new before after why → IsTakeFault (tiers ++ rest) old new before after why
IsTakeFault-front tiers rest old new before after (fault.NoSpace tier) fails = (Fails-front tiers rest tier old fails.0, fails.1)
IsTakeFault-front tiers rest old new before after fault.OutOfMemory fails = fails

-- the tiers of one extent more
extent_tiers-next : (i : ℕ) → extent_tiers (i + 1) ≡ extent_tiers i ++ tier_of i ∷ []
extent_tiers-next i = let zero_first : 0 + i ≡ i = omega arith in map-range_with_len_more tier_of 0 i i zero_first

range-split : (a m n : ℕ) → range_with_len a (m + n) ≡ range_with_len a m ++ range_with_len (a + m) n
range-split a zero n =
    let none : zero + n ≡ n = omega arith in
    let same : a ≡ a + 0 = omega arith in
    ap (range_with_len a) none ∙ ap (λ (x : ℕ). range_with_len x n) same
range-split a (suc m) n =
    let next : suc m + n ≡ suc (m + n) = omega arith in
    let same : a + 1 + m ≡ a + suc m = omega arith in
    ap (range_with_len a) next ∙ ap (λ (xs : List ℕ). a ∷ xs) (range-split (a + 1) m n ∙ ap (λ (x : ℕ). range_with_len (a + 1) m ++ range_with_len x n) same)

-- those of the first extents, and of the others
extent_tiers-split : (i n : ℕ) → i ≤ n → (rest : List ℕ) × (extent_tiers n ≡ extent_tiers i ++ rest)
extent_tiers-split i n le =
    let all : n ≡ i + (n - i) = omega (arith, le) in
    (map tier_of (range_with_len (0 + i) (n - i)), ap extent_tiers all ∙ ap (map tier_of) (range-split 0 i (n - i)) ∙ map-append tier_of (range_with_len 0 i) (range_with_len (0 + i) (n - i)))

length-range : (a n : ℕ) → length (range_with_len a n) ≡ n
length-range a zero = refl
length-range a (suc n) = ap suc (length-range (a + 1) n)

length-map : (xs : List ℕ) → length (map tier_of xs) ≡ length xs
length-map [] = refl
length-map (x ∷ xs) = ap suc (length-map xs)

pub length-extent_tiers : (n : ℕ) → length (extent_tiers n) ≡ n
length-extent_tiers n = length-map (range_with_len 0 n) ∙ length-range 0 n

drop-front : (k : ℕ) (xs ys : List ℕ) → k ≤ length xs → drop k (xs ++ ys) ≡ drop k xs ++ ys
drop-front zero xs ys le = refl
drop-front (suc k) [] ys le = absurd (omega (arith, le))
drop-front (suc k) (x ∷ xs) ys le = drop-front k xs ys (omega (arith, le))

drop-all : (k : ℕ) (xs : List ℕ) → length xs ≤ k → drop k xs ≡ []
drop-all zero [] le = refl
drop-all (suc k) [] le = refl
drop-all zero (x ∷ xs) le = absurd (omega (arith, le))
drop-all (suc k) (x ∷ xs) le = drop-all k xs (omega (arith, le))

-- the tiers of the extents behind the first k, one of them more
tiers-next : (k i : ℕ) → k ≤ i → drop k (extent_tiers (i + 1)) ≡ drop k (extent_tiers i) ++ tier_of i ∷ []
tiers-next k i le = ap (drop k) (extent_tiers-next i) ∙ drop-front k (extent_tiers i) (tier_of i ∷ []) (omega (arith, le, length-extent_tiers i))

aligned-next : (heads : List ℕ) (head i : ℕ) → length heads ≡ i → AreAligned heads → head % pages_of_tier (tier_of i) ≡ 0 → AreAligned (heads ++ head ∷ [])
aligned-next heads head i count aligned here = λ k less. elim (cases_lt k i) [
  | inl before ↦ subst (λ (h : ℕ). h % pages_of_extent k ≡ 0) (sym (get_or_append_left heads (head ∷ []) 0 k (omega (arith, before, count)))) (aligned k (omega (arith, before, count)))
  | inr behind ↦
      let same : k ≡ length heads = omega (arith, behind, count, less, length-append heads (head ∷ [])) in
      let number : i ≡ k = omega (arith, same, count) in
      subst (λ (m : ℕ). slice_index (heads ++ head ∷ []) m % pages_of_extent k ≡ 0) (sym same)
      (subst (λ (h : ℕ). h % pages_of_extent k ≡ 0) (sym (get_or-append_seam heads head [] 0)) (subst (λ (m : ℕ). head % pages_of_tier (tier_of m) ≡ 0) number here))
]

-- no extent behind the kept ones has a head yet
pub TakesExtents-none : (kept : List ℕ) (old : Parts) (before : Takings) → AreAligned kept → IsListed old before → TakesExtents (length kept) kept kept old old before before
TakesExtents-none kept old before aligned listed = record {
  more = [];
  heads_are = sym (append-nil kept);
  takes = subst (λ (tiers : List ℕ). Takes tiers [] old old before before) (sym (drop-all (length kept) (extent_tiers (length kept)) (omega (arith, length-extent_tiers (length kept)))))
      (Takes-none old old before before (Moves-none old old before before refl refl refl refl listed (omega arith)));
  aligned = aligned;
  count = refl;
}

kept-within : (i : ℕ) (kept heads : List ℕ) (old now : Parts) (before between : Takings) → TakesExtents i kept heads old now before between → length kept ≤ i
kept-within i kept heads old now before between so_far = omega (arith, so_far.count, ap length so_far.heads_are, length-append kept so_far.more)

-- one more has
pub TakesExtents-next : (i head : ℕ) (kept heads : List ℕ) (old now new : Parts) (before between after : Takings) → TakesExtents i kept heads old now before between
    → Takes (tier_of i ∷ []) (head ∷ []) now new between after → head % pages_of_tier (tier_of i) ≡ 0
    → TakesExtents (i + 1) kept (heads ++ head ∷ []) old new before after
TakesExtents-next i head kept heads old now new before between after so_far takes aligned = record {
  more = so_far.more ++ head ∷ [];
  heads_are = ap (λ (hs : List ℕ). hs ++ head ∷ []) so_far.heads_are ∙ append_assoc kept so_far.more (head ∷ []);
  takes = subst (λ (tiers : List ℕ). Takes tiers (so_far.more ++ head ∷ []) old new before after) (sym (tiers-next (length kept) i (kept-within i kept heads old now before between so_far)))
      (Takes-then (drop (length kept) (extent_tiers i)) (tier_of i ∷ []) so_far.more (head ∷ []) old now new before between after so_far.takes takes);
  aligned = aligned-next heads head i so_far.count so_far.aligned aligned;
  count = omega (arith, length-append heads (head ∷ []), so_far.count);
}

-- one of the extents found no place
pub TakesExtents-fails : (i n : ℕ) (kept heads : List ℕ) (old now new : Parts) (before between after : Takings) (why : TakeFault) → i < n → TakesExtents i kept heads old now before between
    → IsTakeFault (tier_of i ∷ []) now new between after why → IsTakeFault (drop (length kept) (extent_tiers n)) old new before after why
TakesExtents-fails i n kept heads old now new before between after why less so_far fails =
    let k : ℕ = length kept in
    let le : k ≤ i = kept-within i kept heads old now before between so_far in
    let split = extent_tiers-split (i + 1) n (omega (arith, less)) in
    let tiers : drop k (extent_tiers n) ≡ (drop k (extent_tiers i) ++ tier_of i ∷ []) ++ split.0 =
    ap (drop k) split.1 ∙ drop-front k (extent_tiers (i + 1)) split.0 (omega (arith, le, length-extent_tiers (i + 1))) ∙ ap (λ (ts : List ℕ). ts ++ split.0) (tiers-next k i le) in
    subst (λ (ts : List ℕ). IsTakeFault ts old new before after why) (sym tiers)
    (IsTakeFault-front (drop k (extent_tiers i) ++ tier_of i ∷ []) split.0 old new before after why
    (IsTakeFault-then (drop k (extent_tiers i)) (tier_of i ∷ []) so_far.more old now new before between after why so_far.takes fails))
