-- Whether a key stands among those of writes and of entries.
use Rattle.std.proofs.Common.{◌≡◌, ℕ, zero, suc, ◌+◌, ◌≤◌, Bool, true, false, ◌||◌, List, [], ◌∷◌, length, map, take, Some, refl, sym, ap, ◌∙◌, arith}
use Rattle.std.specs.Prelude.{slice_get, bytes_eq}
use Rattle.std.specs.List.{list_any}
use Rattle.std.proofs.lemmas.List.{take_all}
use Rattle.std.proofs.lemmas.List.Folds.{list_any-append}
use Rattle.store_model.specs.BodyRefusals.{keys_in, stands_in}
use Rattle.frame_codec.specs.declared.entry.Entry.{Entry}
use Rattle.frame_codec.specs.declared.entry.Write.{Write}
use Rattle.frame_codec.specs.Values.{has_key, model_entries, model_write}
use Rattle.frame_codec.specs.Writes.{key_of_write}
use Rattle.store_model.specs.Frame as model
use Rattle.frame_codec.proofs.Followings.{model_key}

or-second : (a b : Bool) → b ≡ true → (a || b) ≡ true
or-second true b second = refl
or-second false b second = second

or-none : (a b : Bool) → a ≡ false → b ≡ false → (a || b) ≡ false
or-none a b first second = ap (λ (x : Bool). x || b) first ∙ second

-- one that passes, and one more that doesn't
pub any-at : {X : Type 0} (p : X → Bool) (xs : List X) (i : ℕ) (x : X) → slice_get xs i ≡ Some x → p x ≡ true → list_any p xs ≡ true
any-at p [] i x is passes = absurd (cc is)
any-at p (y ∷ xs) zero x is passes =
    let same : y ≡ x = cc in
    ap (λ z. p z || list_any p xs) same ∙ ap (λ (b : Bool). b || list_any p xs) passes
any-at p (y ∷ xs) (suc i) x is passes = or-second (p y) (list_any p xs) (any-at p xs i x is passes)

pub none-next : {X : Type 0} (p : X → Bool) (xs : List X) (i : ℕ) (x : X) → slice_get xs i ≡ Some x → list_any p (take i xs) ≡ false → p x ≡ false
    → list_any p (take (i + 1) xs) ≡ false
none-next p [] i x is none fails = absurd (cc is)
none-next p (y ∷ xs) zero x is none fails =
    let same : y ≡ x = cc in
    or-none (p y) false (ap p same ∙ fails) refl
none-next p (y ∷ xs) (suc i) x is none fails =
    let next : suc i + 1 ≡ suc (i + 1) = omega arith in
    ap (λ (n : ℕ). list_any p (take n (y ∷ xs))) next
    ∙ or-none (p y) (list_any p (take (i + 1) xs)) (or-first-none (p y) (list_any p (take i xs)) none)
    (none-next p xs i x is (or-second-none (p y) (list_any p (take i xs)) none) fails) where
      or-first-none : (a b : Bool) → (a || b) ≡ false → a ≡ false
      or-first-none true b none = none
      or-first-none false b none = refl

      or-second-none : (a b : Bool) → (a || b) ≡ false → b ≡ false
      or-second-none true b none = absurd (cc none)
      or-second-none false b none = none

pub none-all : {X : Type 0} (p : X → Bool) (xs : List X) (i : ℕ) → length xs ≤ i → list_any p (take i xs) ≡ false → list_any p xs ≡ false
none-all p xs i all none = ap (list_any p) (sym (take_all i xs all)) ∙ none

-- the keys of writes, in the words of the definitions
stands-writes : (writes : List Write) (key : List ℕ) → stands_in (map model.key_of_write (map model_write writes)) key ≡ has_key key writes
stands-writes [] key = refl
stands-writes (one ∷ writes) key =
    ap (λ (k : List ℕ). bytes_eq key k || stands_in (map model.key_of_write (map model_write writes)) key) (model_key one)
    ∙ ap (λ (b : Bool). bytes_eq key (key_of_write one) || b) (stands-writes writes key)

pub stands-entries : (entries : List Entry) (key : List ℕ) → stands_in (keys_in (model_entries entries)) key ≡ list_any (λ entry. has_key key entry.writes) entries
stands-entries [] key = refl
stands-entries (entry ∷ entries) key =
    list_any-append (bytes_eq key) (map model.key_of_write (map model_write entry.writes)) (keys_in (model_entries entries))
    ∙ ap (λ (b : Bool). b || stands_in (keys_in (model_entries entries)) key) (stands-writes entry.writes key)
    ∙ ap (λ (b : Bool). has_key key entry.writes || b) (stands-entries entries key)
