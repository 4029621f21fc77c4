-- The bytes of a states area and of a header, read back as those of a half.
use Rattle.std.proofs.Common.{Result, Ok, Err, OnOk, ◌≡◌, ℕ, zero, suc, ◌+◌, ◌-◌, ◌*◌, ◌<◌, ◌≤◌, inl, inr, List, [], ◌∷◌, ◌++◌, length, take, drop, replicate, refl, sym, ap, ◌∙◌, arith, append_assoc}
use Rattle.std.specs.List.{range_with_len}
use Rattle.std.specs.FinMap.{FinMap, entries, len, len-entries}
use Rattle.std.proofs.lemmas.Bool.{cases_lt}
use Rattle.std.proofs.lemmas.List.{append-nil, drop-drop, length-drop, length-take-le, take-append-drop, take_all}
use Rattle.std.proofs.lemmas.List.Concat.{flat_map-cons}
use Rattle.store_model.specs.Disk.{Image, area_of, page_bytes, page_of}
use Rattle.store_model.specs.Half.{IsHalf, SpellsHalf, header_spelling, tuples_spelling}
use Rattle.store_model.specs.Key.{key_order}
use Rattle.store_model.specs.Layout.{Layout}
use Rattle.store_model.specs.Log.{body_page, body_pages}
use Rattle.store_model.specs.State.{State}
use Rattle.check_point.specs.Halves.{Stand}

-- bytes of which there are none
none : (bytes : List ℕ) → length bytes < 1 → bytes ≡ []
none [] few = refl
none (byte ∷ bytes) few = absurd (omega (arith, few))

-- a page that bytes fill
full-page : (bytes : List ℕ) → page_bytes ≤ length bytes → page_of (take page_bytes bytes) ≡ take page_bytes bytes ++ []
full-page bytes many =
    ap (λ (n : ℕ). take page_bytes bytes ++ replicate n 0) (let e : page_bytes - length (take page_bytes bytes) ≡ 0 = omega (arith, length-take-le page_bytes bytes many) in e)

-- the page behind is the first one of the bytes behind
page-behind : (bytes : List ℕ) (i : ℕ) → body_page bytes (i + 1) ≡ body_page (drop page_bytes bytes) i
page-behind bytes i =
    ap (λ (xs : List ℕ). page_of (take page_bytes xs))
    (ap (λ (n : ℕ). drop n bytes) (let e : page_bytes * (i + 1) ≡ page_bytes + page_bytes * i = omega arith in e) ∙ sym (drop-drop (page_bytes * i) page_bytes bytes))

-- Bytes whose pages stand are at the front of their area.
pub area-begins : (count : ℕ) (image : Image) (first : ℕ) (bytes : List ℕ) → length bytes ≤ page_bytes * count → Stand first (body_pages (length bytes)) bytes image
    → (rest : List ℕ) × (area_of image first count ≡ bytes ++ rest)
area-begins zero image first bytes most stand = ([], ap (λ (xs : List ℕ). xs ++ []) (sym (none bytes (omega (arith, most)))))
area-begins (suc count) image first bytes most stand = elim (cases_lt (length bytes) 1) [
  | inl few ↦ (area_of image first (suc count), ap (λ (xs : List ℕ). xs ++ area_of image first (suc count)) (sym (none bytes few)))
  | inr some ↦
      let here : image first ≡ body_page bytes 0 = ap image (let e : first ≡ first + 0 = omega arith in e) ∙ stand 0 (omega (arith, some)) in
      elim (cases_lt page_bytes (length bytes)) [
        | inr all ↦
            let zeros : List ℕ = replicate (page_bytes - length bytes) 0 in (
              zeros ++ area_of image (first + 1) count,
              flat_map-cons image first (range_with_len (first + 1) count)
                  ∙ ap (λ (xs : List ℕ). xs ++ area_of image (first + 1) count) (here ∙ ap page_of (take_all page_bytes bytes all))
                  ∙ append_assoc bytes zeros (area_of image (first + 1) count),
            )
        | inl more ↦
            let behind : List ℕ = drop page_bytes bytes in
            let long = length-drop page_bytes bytes in
            let rest = area-begins count image (first + 1) behind (omega (arith, most, long, more))
            (λ i below. ap image (let e : first + 1 + i ≡ first + (i + 1) = omega arith in e) ∙ stand (i + 1) (omega (arith, below, long, more)) ∙ page-behind bytes i) in (
              rest.0,
              flat_map-cons image first (range_with_len (first + 1) count)
                  ∙ ap (λ (xs : List ℕ). xs ++ area_of image (first + 1) count) (here ∙ full-page bytes (omega (arith, more)) ∙ append-nil (take page_bytes bytes))
                  ∙ ap (λ (xs : List ℕ). take page_bytes bytes ++ xs) rest.1
                  ∙ sym (append_assoc (take page_bytes bytes) behind rest.0)
                  ∙ ap (λ (xs : List ℕ). xs ++ rest.0) (take-append-drop page_bytes bytes),
            )
      ]
]

-- A half whose pages read as a finished writer leaves them spells these states.
pub SpellsHalf-written : (layout : Layout) (first last header : ℕ) (states : FinMap key_order State) (image : Image) → IsHalf layout last states
    → image header ≡ page_of (header_spelling layout last (length (entries states)) (length (tuples_spelling states)))
    → Stand first (body_pages (length (tuples_spelling states))) (tuples_spelling states) image
    → SpellsHalf (image header) (area_of image first layout.room) layout last states
SpellsHalf-written layout first last header states image half told stand =
    let begins = area-begins layout.room image first (tuples_spelling states) half.room stand in
    record {
      half = half;
      header_rest = replicate (page_bytes - length (header_spelling layout last (len states) (length (tuples_spelling states)))) 0;
      header_is = told ∙ ap (λ (n : ℕ). page_of (header_spelling layout last n (length (tuples_spelling states)))) (sym (len-entries states));
      area_rest = begins.0;
      area_is = begins.1;
    }

-- what follows from two clauses of a call that went well
pub both-ok : {T E : Type 0} {P Q R : Type 0} (result : Result T E) → (P → Q → R) → OnOk result P → OnOk result Q → OnOk result R
both-ok (Ok value) follows p q = follows p q
both-ok (Err e) follows p q = p
