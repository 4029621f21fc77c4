-- Lists that are kept element by element.
use Rattle.std.proofs.Common.{◌≡◌, ℕ, zero, suc, ◌+◌, ◌<◌, ◌≤◌, List, [], ◌∷◌, ◌++◌, length, map, take, drop, Some, refl, sym, ap, ◌∙◌, subst, arith}
use Rattle.std.specs.Prelude.{slice_get}
use Rattle.std.specs.FinMap.{FinMap, entries, entries-insert, entries_sorted, empty, insert, len, len-empty, len-entries, same_entries_map}
use Rattle.std.specs.FinMap.Entries.{put}
use Rattle.std.proofs.lemmas.List.{drop_all, get_or-take, length-take, length-take-le, nil_from_length, take_all}
use Rattle.std.proofs.lemmas.Option.{get_or_from_slice_get, slice_get-get_or, slice_get_within}
use Rattle.store_model.specs.Key.{key_order}
use Rattle.store_model.specs.Group.{Commit}
use Rattle.store_model.proofs.SortedLaws.{keys_total, put-new, sorted-at}
use Rattle.txn.specs.declared.request.Request.{Request}
use Rattle.vault.specs.Keeps.{HasGained, HasKept}
use Rattle.vault.specs.declared.keeping.Keeping.{Keeping}

-- one element more of a list
pub take-more : {X : Type 0} (xs : List X) (i : ℕ) (x : X) → slice_get xs i ≡ Some x → take i xs ++ x ∷ [] ≡ take (i + 1) xs
take-more [] i x is = absurd (cc is)
take-more (y ∷ xs) zero x is =
    let same : y ≡ x = cc in ap (λ (z : _). z ∷ []) (sym same)
take-more (y ∷ xs) (suc i) x is =
    let next : suc (i + 1) ≡ suc i + 1 = omega arith in
    ap (λ (zs : _). y ∷ zs) (take-more xs i x is) ∙ ap (λ (n : ℕ). take n (y ∷ xs)) next

-- one element more of a list that is mapped
pub map-more : {X Y : Type 0} (f : X → Y) (xs : List X) (i : ℕ) (x : X) → slice_get xs i ≡ Some x → map f (take i xs) ++ f x ∷ [] ≡ map f (take (i + 1) xs)
map-more f [] i x is = absurd (cc is)
map-more f (y ∷ xs) zero x is =
    let same : y ≡ x = cc in ap (λ (z : _). f z ∷ []) (sym same)
map-more f (y ∷ xs) (suc i) x is =
    let next : suc (i + 1) ≡ suc i + 1 = omega arith in
    ap (λ (zs : _). f y ∷ zs) (map-more f xs i x is) ∙ ap (λ (n : ℕ). map f (take n (y ∷ xs))) next

-- the front of a list with more behind it
pub take-front : {X : Type 0} (xs ys : List X) → take (length xs) (xs ++ ys) ≡ xs
take-front [] [] = refl
take-front [] (y ∷ ys) = refl
take-front (x ∷ xs) ys = ap (λ (zs : _). x ∷ zs) (take-front xs ys)

module _ {V : Type 0} where
  -- an entry of the front stands in the whole list
  front-at : (es : List (List ℕ × V)) (i j : ℕ) (one : List ℕ × V) → slice_get (take i es) j ≡ Some one → slice_get es j ≡ Some one
  front-at es i j one at =
      let inside : j < length (take i es) = slice_get_within (take i es) j one at in
      let most : length (take i es) ≤ i = omega (arith, length-take i es) in
      let within : j < length es = omega (arith, inside, length-take i es) in
      slice_get-get_or es j one within
      ∙ ap Some (sym (get_or-take i es j one (omega (arith, inside, most))) ∙ get_or_from_slice_get (take i es) j one one at)

  -- no entry of a map is copied,
  pub copied-none : (copy : FinMap key_order V) (es : List (List ℕ × V)) → copy ≡ empty → entries copy ≡ take 0 es
  copied-none copy es none = nil_from_length (entries copy) (sym (len-entries copy) ∙ ap len none ∙ len-empty key_order V) ∙ sym (nil_from_length (take 0 es) (omega (arith, length-take 0 es)))

  -- one more,
  pub copied-next : (all copy next : FinMap key_order V) (i : ℕ) (key : List ℕ) (value : V) → entries copy ≡ take i (entries all)
      → slice_get (entries all) i ≡ Some (key, value) → next ≡ insert copy key value → entries next ≡ take (i + 1) (entries all)
  copied-next all copy next i key value so_far there next_is =
      let es = entries all in
      let one : List ℕ × V = (key, value) in
      let less : i < length es = slice_get_within es i one there in
      let short : length (take i es) ≡ i = length-take-le i es (omega (arith, less)) in
      let put_in : put key_order key value (take i es) ≡ take i (take i es) ++ one ∷ drop i (take i es) =
      put-new (take i es) i key value
      (λ j other before at. sorted-at es j i other one (entries_sorted all) before (front-at es i j other at) there)
      (λ j other from at. absurd (omega (arith, slice_get_within (take i es) j other at, short, from))) in
      let ends : take i (take i es) ++ one ∷ drop i (take i es) ≡ take i es ++ one ∷ [] =
      ap (λ (xs : List (List ℕ × V)). xs ++ one ∷ drop i (take i es)) (take_all i (take i es) (omega (arith, short)))
      ∙ ap (λ (xs : List (List ℕ × V)). take i es ++ one ∷ xs) (drop_all i (take i es) (omega (arith, short))) in
      ap entries next_is ∙ entries-insert keys_total copy key value ∙ ap (put key_order key value) so_far ∙ put_in ∙ ends ∙ take-more es i one there

  -- and all of them.
  pub copied-all : (all copy : FinMap key_order V) (i count : ℕ) → entries copy ≡ take i (entries all) → len all ≡ count → count ≤ i → copy ≡ all
  copied-all all copy i count so_far long end =
      same_entries_map copy all (so_far ∙ take_all i (entries all) (omega (arith, end, long, len-entries all)))

-- what is kept of a group without a committed request, and of one with some
pub HasKept-none : (ones : List (Request × Commit)) (last : ℕ) (keeping : Keeping) → ones ≡ [] → HasKept ones last keeping keeping
HasKept-none ones last keeping none = subst (λ (os : List (Request × Commit)). HasKept os last keeping keeping) (sym none) refl

pub HasKept-some : (ones : List (Request × Commit)) (last : ℕ) (old new : Keeping) → 1 ≤ length ones → HasGained ones last old new → HasKept ones last old new
HasKept-some [] last old new some gained = absurd (omega (arith, some))
HasKept-some (one ∷ ones) last old new some gained = gained
