-- Laws of places: each full page of a content stands on one page of the data area, and where the blocks are apart no two
-- pages of the content stand on the same one.
use Rattle.std.proofs.Common.{◌≡◌, ℕ, zero, suc, ◌+◌, ◌<◌, ◌≤◌, inl, inr, List, [], ◌∷◌, ◌++◌, Bool, true, false, cond, refl, sym, ap, ◌∙◌, subst, arith}
use Rattle.std.specs.Prelude.{Contains, Option, Some, slice_get}
use Rattle.std.specs.List.{enumerate_from, flat_map, sum_by}
use Rattle.std.specs.List.Sorted.{IsPermutation}
use Rattle.std.proofs.lemmas.Bool.{cases_order}
use Rattle.std.proofs.lemmas.Bool.Decides.{nat_tests}
use Rattle.std.proofs.lemmas.List.Elements.{Contains-append_left, Contains-append_right}
use Rattle.std.proofs.lemmas.List.Recursion.{is_sum_by}
use Rattle.std.proofs.lemmas.List.Sorted.{sum_by-IsPermutation}
use Rattle.store_model.specs.Holds.{StandsAt}
use Rattle.store_model.specs.Shape.{held_by, tier_of}
use Rattle.store_model.specs.Space.{Apart, AreBlocks, Block, IsBlock, blocks_of, end_of, lies_in, owners, tail_blocks}
use Rattle.store_model.specs.Store.{Placement}
use Rattle.store_model.proofs.ShapeLaws.{LiesAt-unique}

-- the blocks of extents, of which the first has number n
abbrev pub extent_blocks : ℕ → List ℕ → List Block
extent_blocks n heads = flat_map (λ head. (head.1, tier_of head.0) ∷ []) (enumerate_from n heads)

-- an element, and the elements behind it
contains-head : {X : Type 0} (x : X) (xs : List X) → Contains (x ∷ xs) x
contains-head x xs = (0, omega arith, refl)

contains-tail : {X : Type 0} (x : X) (xs : List X) (y : X) → Contains xs y → Contains (x ∷ xs) y
contains-tail x xs y is = (suc is.0, omega (arith, is.1), is.2)

-- one of the extents
pub Contains-extent : (heads : List ℕ) (n i head : ℕ) → slice_get heads i ≡ Some head → Contains (extent_blocks n heads) (head, tier_of (n + i))
Contains-extent [] n i head is = absurd (cc is)
Contains-extent (h ∷ heads) n zero head is =
    let same : h ≡ head = cc is in
    let number : n ≡ n + 0 = omega arith in
    subst (λ (b : Block). Contains (extent_blocks n (h ∷ heads)) b) (ap (λ (x : ℕ). (x, tier_of n)) same ∙ ap (λ (m : ℕ). (head, tier_of m)) number)
    (contains-head (h, tier_of n) (extent_blocks (n + 1) heads))
Contains-extent (h ∷ heads) n (suc i) head is =
    let number : n + 1 + i ≡ n + suc i = omega arith in
    contains-tail (h, tier_of n) (extent_blocks (n + 1) heads) (head, tier_of (n + suc i))
    (subst (λ (m : ℕ). Contains (extent_blocks (n + 1) heads) (head, tier_of m)) number (Contains-extent heads (n + 1) i head is))

-- a page that lies in a block
lies_in-yes : (page : ℕ) (block : Block) → block.0 ≤ page → page < end_of block → lies_in page block ≡ true
lies_in-yes page block from to = grind (arith, nat_tests)

cond-add : (b : Bool) (m n sum : ℕ) → sum ≡ m + n → cond b (1 + sum) sum ≡ cond b (1 + m) m + n
cond-add true m n sum is = omega arith
cond-add false m n sum is = is

one-more : (b : Bool) (n : ℕ) → n ≤ cond b (1 + n) n
one-more true n = omega arith
one-more false n = omega arith

-- the owners in two lists
pub owners-append : (xs ys : List Block) (page : ℕ) → owners (xs ++ ys) page ≡ owners xs page + owners ys page
owners-append [] ys page = omega arith
owners-append (x ∷ xs) ys page = cond-add (lies_in page x) (owners xs page) (owners ys page) (owners (xs ++ ys) page) (owners-append xs ys page)

one_or_none : (b : Bool) (n : ℕ) → cond b (1 + n) n ≡ cond b 1 0 + n
one_or_none true n = refl
one_or_none false n = omega arith

-- how many own a page doesn't hang on the order
pub owners-permutation : (xs ys : List Block) (page : ℕ) → IsPermutation xs ys → owners ys page ≡ owners xs page
owners-permutation xs ys page moves =
    let counts : (zs : List Block) → owners zs page ≡ sum_by (λ block. cond (lies_in page block) 1 0) zs =
    is_sum_by (λ zs. owners zs page) (λ block. cond (lies_in page block) 1 0) refl (λ block zs. one_or_none (lies_in page block) (owners zs page)) in
    counts ys ∙ sum_by-IsPermutation (λ (block : Block). cond (lies_in page block) 1 0) xs ys moves ∙ sym (counts xs)

-- an extent that a page lies in owns it
pub extent-owns : (heads : List ℕ) (n i head page : ℕ) → slice_get heads i ≡ Some head → lies_in page (head, tier_of (n + i)) ≡ true
    → 1 ≤ owners (extent_blocks n heads) page
extent-owns [] n i head page is lies = absurd (cc is)
extent-owns (h ∷ heads) n zero head page is lies =
    let same : h ≡ head = cc is in
    let number : n + 0 ≡ n = omega arith in
    let here : lies_in page (h, tier_of n) ≡ true =
    subst (λ (x : ℕ). lies_in page (x, tier_of n) ≡ true) (sym same) (subst (λ (m : ℕ). lies_in page (head, tier_of m) ≡ true) number lies) in
    rw here (omega arith)
extent-owns (h ∷ heads) n (suc i) head page is lies =
    let number : n + suc i ≡ n + 1 + i = omega arith in
    let behind : 1 ≤ owners (extent_blocks (n + 1) heads) page =
    extent-owns heads (n + 1) i head page is (subst (λ (m : ℕ). lies_in page (head, tier_of m) ≡ true) number lies) in
    omega (arith, behind, one-more (lies_in page (h, tier_of n)) (owners (extent_blocks (n + 1) heads) page))

-- two extents that a page lies in own it twice
extents-own : (heads : List ℕ) (n i j one other page : ℕ) → i < j → slice_get heads i ≡ Some one → slice_get heads j ≡ Some other
    → lies_in page (one, tier_of (n + i)) ≡ true → lies_in page (other, tier_of (n + j)) ≡ true → 2 ≤ owners (extent_blocks n heads) page
extents-own [] n i j one other page less is also lies too = absurd (cc is)
extents-own (h ∷ heads) n i zero one other page less is also lies too = absurd (omega arith)
extents-own (h ∷ heads) n zero (suc j) one other page less is also lies too =
    let same : h ≡ one = cc is in
    let number : n + 0 ≡ n = omega arith in
    let next : n + suc j ≡ n + 1 + j = omega arith in
    let here : lies_in page (h, tier_of n) ≡ true =
    subst (λ (x : ℕ). lies_in page (x, tier_of n) ≡ true) (sym same) (subst (λ (m : ℕ). lies_in page (one, tier_of m) ≡ true) number lies) in
    let behind : 1 ≤ owners (extent_blocks (n + 1) heads) page =
    extent-owns heads (n + 1) j other page also (subst (λ (m : ℕ). lies_in page (other, tier_of m) ≡ true) next too) in
    rw here (omega arith)
extents-own (h ∷ heads) n (suc i) (suc j) one other page less is also lies too =
    let first : n + suc i ≡ n + 1 + i = omega arith in
    let next : n + suc j ≡ n + 1 + j = omega arith in
    let behind : 2 ≤ owners (extent_blocks (n + 1) heads) page =
    extents-own heads (n + 1) i j one other page (omega arith) is also (subst (λ (m : ℕ). lies_in page (one, tier_of m) ≡ true) first lies)
    (subst (λ (m : ℕ). lies_in page (other, tier_of m) ≡ true) next too) in
    omega (arith, behind, one-more (lies_in page (h, tier_of n)) (owners (extent_blocks (n + 1) heads) page))

-- the extent that a full page stands in
pub stands-lies : (place : Placement) (page at : ℕ) (stands : StandsAt place page at) → lies_in at (stands.head, tier_of stands.extent) ≡ true
stands-lies place page at stands =
    lies_in-yes at (stands.head, tier_of stands.extent) (omega (arith, stands.at_is)) (omega (arith, stands.at_is, stands.lies.within))

-- a full page stands within the pages that the blocks lie among
pub StandsAt-within : (pages : ℕ) (place : Placement) (page at : ℕ) → AreBlocks pages (blocks_of place) → StandsAt place page at → at < pages
StandsAt-within pages place page at blocks stands =
    let number : 0 + stands.extent ≡ stands.extent = omega arith in
    let is : IsBlock pages (stands.head, tier_of stands.extent) =
    blocks (stands.head, tier_of stands.extent)
    (Contains-append_left (extent_blocks 0 place.heads) (tail_blocks place.tail) (stands.head, tier_of stands.extent)
    (subst (λ (m : ℕ). Contains (extent_blocks 0 place.heads) (stands.head, tier_of m)) number (Contains-extent place.heads 0 stands.extent stands.head stands.there))) in
    omega (arith, is.within, stands.at_is, stands.lies.within)

-- so does a tail page
pub tail-within : (pages page : ℕ) (heads : List ℕ) → AreBlocks pages (blocks_of (record { heads = heads; tail = Some page })) → page < pages
tail-within pages page heads blocks =
    let is : IsBlock pages (page, 0) =
    blocks (page, 0) (Contains-append_right (extent_blocks 0 heads) ((page, 0) ∷ []) (page, 0) (contains-head (page, 0) [])) in
    omega (arith, is.within)

-- a full page stands on one page only
pub StandsAt-one : (place : Placement) (page a b : ℕ) → StandsAt place page a → StandsAt place page b → a ≡ b
StandsAt-one place page a b one other =
    let same = LiesAt-unique page one.extent other.extent one.offset other.offset one.lies other.lies in
    let there : slice_get place.heads one.extent ≡ Some other.head = subst (λ (e : ℕ). slice_get place.heads e ≡ Some other.head) (sym same.0) other.there in
    let head : one.head ≡ other.head = cc (there, one.there) in
    omega (arith, head, same.1, one.at_is, other.at_is)

-- what the extents own of a page is at most one
extents-apart : (place : Placement) (page : ℕ) → Apart (blocks_of place) → owners (extent_blocks 0 place.heads) page + owners (tail_blocks place.tail) page ≤ 1
extents-apart place page apart = omega (arith, owners-append (extent_blocks 0 place.heads) (tail_blocks place.tail) page, apart page)

-- the same, where the first extent is counted as number 0
pub lies-zero : (page head extent : ℕ) → lies_in page (head, tier_of extent) ≡ true → lies_in page (head, tier_of (0 + extent)) ≡ true
lies-zero page head extent lies = let number : extent ≡ 0 + extent = omega arith in subst (λ (m : ℕ). lies_in page (head, tier_of m) ≡ true) number lies

-- no two full pages stand on one page
pub StandsAt-apart : (place : Placement) (p q at : ℕ) → Apart (blocks_of place) → StandsAt place p at → StandsAt place q at → p ≡ q
StandsAt-apart place p q at apart one other =
    let most = extents-apart place at apart in
    let here = lies-zero at one.head one.extent (stands-lies place p at one) in
    let there = lies-zero at other.head other.extent (stands-lies place q at other) in
    elim (cases_order one.extent other.extent) [
      | inl same ↦ (
          let also : slice_get place.heads one.extent ≡ Some other.head = subst (λ (e : ℕ). slice_get place.heads e ≡ Some other.head) (sym same) other.there in
          let head : one.head ≡ other.head = cc (also, one.there) in
          omega (arith, head, ap held_by same, one.at_is, other.at_is, one.lies.at, other.lies.at))
      | inr (inl less) ↦ absurd (omega (arith, most, extents-own place.heads 0 one.extent other.extent one.head other.head at less one.there other.there here there))
      | inr (inr more) ↦ absurd (omega (arith, most, extents-own place.heads 0 other.extent one.extent other.head one.head at more other.there one.there there here))
    ]

-- a tail's block owns its page
pub tail-own : (at : ℕ) → owners ((at, 0) ∷ []) at ≡ 1
tail-own at = let here : lies_in at (at, 0) ≡ true = lies_in-yes at (at, 0) (omega arith) (omega arith) in rw here refl

-- no full page stands on the tail page
pub StandsAt-tail : (place : Placement) (p at : ℕ) → Apart (blocks_of place) → StandsAt place p at → place.tail ≡ Some at → ⊥
StandsAt-tail place p at apart stands is =
    let most = extents-apart place at apart in
    let here = lies-zero at stands.head stands.extent (stands-lies place p at stands) in
    let tail : owners (tail_blocks place.tail) at ≡ 1 =
    subst (λ (t : Option ℕ). owners (tail_blocks t) at ≡ 1) (sym is) (tail-own at) in
    omega (arith, most, tail, extent-owns place.heads 0 stands.extent stands.head at stands.there here)
