-- The damages of states: those of some states and then of others, that there are some list of them, and that they depend on the data area alone.
use Rattle.std.proofs.Common.{◌≡◌, ◌≢◌, ℕ, zero, suc, ◌+◌, ◌*◌, ◌/◌, ◌%◌, ◌<◌, ◌≤◌, inl, inr, ◌⊎◌, Bool, true, false, List, [], ◌∷◌, ◌++◌, length, Option, Some, None, take, refl, sym, ap, ◌∙◌, subst, arith}
use Rattle.std.specs.Prelude.{bytes_eq, if◌then◌else◌, nat_lt, slice_index}
use Rattle.std.specs.List.{flat_map, range_with_len}
use Rattle.std.proofs.lemmas.Bool.{both_ways, cases_lt}
use Rattle.std.proofs.lemmas.Slice.Eq.{bytes_eq-Decides}
use Rattle.store_model.specs.Disk.{Image, page_bytes}
use Rattle.store_model.specs.Hash.{bytes_of_state, close, state_after}
use Rattle.store_model.specs.Report.{AreDamages, Damage}
use Rattle.store_model.specs.Shape.{pages_used}
use Rattle.store_model.specs.State.{State, heads_of}
use Rattle.store_model.specs.Verify.{FailsFirst, Verifies, computed, extent_bytes, kept, link_from, tail_on}

-- some states, and then others
pub AreDamages-then : (image : Image) (first : ℕ) (es fs : List (List ℕ × State)) (a b : List Damage) → AreDamages image first es a → AreDamages image first fs b
    → AreDamages image first (es ++ fs) (a ++ b)
AreDamages-then image first [] fs a b one other = subst (λ (ds : List Damage). AreDamages image first fs (ds ++ b)) (sym one) other
AreDamages-then image first (e ∷ es) fs a b (inl one) other = inl (one.0, AreDamages-then image first es fs a b one.1 other)
AreDamages-then image first (e ∷ es) fs a b (inr one) other =
    inr (one.0, (one.1.0 ++ b, ap (λ (ds : List Damage). ds ++ b) one.1.1, one.1.2, one.1.3, AreDamages-then image first es fs one.1.0 b one.1.4 other))

-- a state that verifies, and one that doesn't
pub AreDamages-whole : (image : Image) (first : ℕ) (key : List ℕ) (state : State) → Verifies image first state → AreDamages image first ((key, state) ∷ []) []
AreDamages-whole image first key state verifies = inl (verifies, refl)

pub AreDamages-one : (image : Image) (first : ℕ) (key : List ℕ) (state : State) (one : Damage) → one.key ≡ key
    → FailsFirst (computed image first state) state one.link one.want one.got → AreDamages image first ((key, state) ∷ []) (one ∷ [])
AreDamages-one image first key state one same fails = inr (one, ([], refl, same, fails, refl))

-- links up to one hold, or there is a first that doesn't
record FailsBelow (value : ℕ → List ℕ) (state : State) (n : ℕ) : Type 0 where
  link : ℕ
  less : link < n
  before : (i : ℕ) → i < link → value i ≡ kept state i
  differ : kept state link ≢ value link

all-below : (value : ℕ → List ℕ) (state : State) (n : ℕ) → ((i : ℕ) → i < n → value i ≡ kept state i) → value n ≡ kept state n → (i : ℕ) → i < suc n → value i ≡ kept state i
all-below value state n so_far here i less = elim (cases_lt i n) [
  | inl before ↦ so_far i before
  | inr from ↦ let same : n ≡ i = omega (arith, less, from) in subst (λ (k : ℕ). value k ≡ kept state k) same here
]

find-below : (value : ℕ → List ℕ) (state : State) (n : ℕ) → ((i : ℕ) → i < n → value i ≡ kept state i) ⊎ FailsBelow value state n
find-below value state zero = inl (λ i less. absurd (omega (arith, less)))
find-below value state (suc n) = elim (find-below value state n) [
  | inr fails ↦ inr (record { link = fails.link; less = omega (arith, fails.less); before = fails.before; differ = fails.differ })
  | inl hold ↦ (
      let decides = bytes_eq-Decides (kept state n) (value n) in
      elim (is-true-or-false (bytes_eq (kept state n) (value n))) [
        | inl same ↦ inl (all-below value state n hold (sym (decides.0 same)))
        | inr other ↦ inr (record { link = n; less = omega arith; before = hold; differ = λ same. both_ways _ other (decides.1 same) })
      ]
      )
] where
  is-true-or-false : (b : Bool) → (b ≡ true) ⊎ (b ≡ false)
  is-true-or-false true = inl refl
  is-true-or-false false = inr refl

-- some list is that of the damages
pub AreDamages-some : (image : Image) (first : ℕ) (es : List (List ℕ × State)) → (damages : List Damage) × AreDamages image first es damages
AreDamages-some image first [] = ([], refl)
AreDamages-some image first (e ∷ es) =
    let rest = AreDamages-some image first es in
    elim (find-below (computed image first e.1) e.1 (suc (length e.1.extents))) [
      | inl hold ↦ (rest.0, inl (λ i within. hold i (omega (arith, within)), rest.1))
      | inr fails ↦ (
          let one : Damage = record { key = e.0; link = fails.link; want = kept e.1 fails.link; got = computed image first e.1 fails.link } in (
            one ∷ rest.0,
            inr (
              one,
              (
                rest.0,
                refl,
                refl,
                record { exists = omega (arith, fails.less); before = fails.before; want_is = refl; got_is = refl; differ = fails.differ },
                rest.1,
              ),
            ),
          )
          )
    ]

-- the same pages have the same bytes
pages-same : (f g : ℕ → List ℕ) (from n : ℕ) → ((p : ℕ) → f p ≡ g p) → flat_map f (range_with_len from n) ≡ flat_map g (range_with_len from n)
pages-same f g from zero same = refl
pages-same f g from (suc n) same =
    ap (λ (bytes : List ℕ). bytes ++ flat_map f (range_with_len (from + 1) n)) (same from)
    ∙ ap (λ (bytes : List ℕ). g from ++ bytes) (pages-same f g (from + 1) n same)

-- two images have the same data area
abbrev pub SameFrom : ℕ → Image → Image → Type 0
SameFrom first image other = (p : ℕ) → first ≤ p → image p ≡ other p

tail-same : (image other : Image) (first size : ℕ) (tail : Option ℕ) → SameFrom first image other → tail_on image first size tail ≡ tail_on other first size tail
tail-same image other first size None same = refl
tail-same image other first size (Some page) same = ap (take (size % page_bytes)) (same (first + page) (omega arith))

computed-same : (image other : Image) (first : ℕ) (state : State) (i : ℕ) → SameFrom first image other → computed image first state i ≡ computed other first state i
computed-same image other first state i same =
    ap (λ (bytes : List ℕ). if nat_lt i (length state.extents) then bytes_of_state (state_after (link_from state i) bytes)
    else close (link_from state i) (64 * (state.size / page_bytes)) (tail_on image first state.size state.tail))
    (pages-same (λ page. image (first + page)) (λ page. other (first + page)) (slice_index (heads_of state.extents) i) (pages_used state.size i) (λ page. same (first + page) (omega arith)))
    ∙ ap (λ (bytes : List ℕ). if nat_lt i (length state.extents) then bytes_of_state (state_after (link_from state i) (extent_bytes other first state i))
    else close (link_from state i) (64 * (state.size / page_bytes)) bytes) (tail-same image other first state.size state.tail same)

fails-same : (image other : Image) (first : ℕ) (state : State) (link : ℕ) (want got : List ℕ) → SameFrom first image other
    → FailsFirst (computed image first state) state link want got → FailsFirst (computed other first state) state link want got
fails-same image other first state link want got same fails = record {
  exists = fails.exists;
  before = λ i less. sym (computed-same image other first state i same) ∙ fails.before i less;
  want_is = fails.want_is;
  got_is = fails.got_is ∙ computed-same image other first state link same;
  differ = fails.differ;
}

-- damages are those over the data area
pub AreDamages-same : (image other : Image) (first : ℕ) (es : List (List ℕ × State)) (damages : List Damage) → SameFrom first image other → AreDamages image first es damages
    → AreDamages other first es damages
AreDamages-same image other first [] damages same are = are
AreDamages-same image other first (e ∷ es) damages same (inl one) =
    inl (λ i within. sym (computed-same image other first e.1 i same) ∙ one.0 i within, AreDamages-same image other first es damages same one.1)
AreDamages-same image other first (e ∷ es) damages same (inr one) =
    inr (one.0, (one.1.0, one.1.1, one.1.2, fails-same image other first e.1 one.0.link one.0.want one.0.got same one.1.3, AreDamages-same image other first es one.1.0 same one.1.4))
