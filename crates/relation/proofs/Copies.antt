-- Entries that are copied one by one.
use Rattle.std.proofs.Common.{◌≡◌, ℕ, zero, suc, ◌+◌, ◌<◌, ◌≤◌, Bool, cond, List, [], ◌∷◌, ◌++◌, take, length, get_or, Some, sym, ◌∙◌, ap, arith}
use Rattle.std.proofs.Math.Seq.{take-length}
use Rattle.std.proofs.lemmas.List.{map-append}
use Rattle.std.specs.Prelude.{slice_get, Result, IsOk, is_ok}
use Rattle.store_model.specs.State.{State}
use Rattle.relation.specs.Entries.{entries_of, entry_of}
use Rattle.relation.specs.declared.entries.Entry.{Entry}
use Rattle.relation.proofs.Searches.{length-entries, slice_get-entries}

-- the first i entries are copied, and there is room for all
pub record Copying (entries copy : List Entry) (i len room : ℕ) : Type 0 where
  pub same : entries_of copy ≡ take i (entries_of entries)
  pub len_is : len ≡ i
  pub fits : length entries ≤ room

take-at : {X : Type 0} (xs : List X) (i : ℕ) (x : X) → slice_get xs i ≡ Some x → take (suc i) xs ≡ take i xs ++ x ∷ []
take-at [] i x is = absurd (cc is)
take-at (y ∷ xs) zero x is = let same : y ≡ x = cc in ap (λ z. z ∷ []) same
take-at (y ∷ xs) (suc i) x is = ap (λ zs. y ∷ zs) (take-at xs i x is)

entry-at : (kept : List Entry) (i : ℕ) (d one : Entry) → i < length kept → one ≡ get_or kept i d → slice_get (entries_of kept) i ≡ Some (entry_of one)
entry-at kept i d one less is = slice_get-entries kept i d less ∙ ap (λ (e : Entry). Some (entry_of e)) (sym is)

-- one more is copied, of which one look gave the state, and another the key
pub copied-next : {A B : Type 0} (kept copy new : List Entry) (i : ℕ) (d f one two e : Entry) (result : Result A B) → i < length kept → entries_of copy ≡ take i (entries_of kept)
    → new ≡ cond (is_ok result) (copy ++ e ∷ []) copy → IsOk result → one ≡ get_or kept i d → two ≡ get_or kept i f → e.key ≡ two.key → e.state.value ≡ one.state.value
    → entries_of new ≡ take (i + 1) (entries_of kept)
copied-next kept copy new i d f one two e result less same items ok first second key state =
    let next : suc i ≡ i + 1 = omega arith in
    let here : slice_get (entries_of kept) i ≡ Some (entry_of one) = entry-at kept i d one less first in
    let both : Some (entry_of one) ≡ Some (entry_of two) = sym here ∙ entry-at kept i f two less second in
    let equal : entry_of one ≡ entry_of two = cc in
    let is : entry_of e ≡ entry_of one = ap (λ (k : List ℕ). (k, e.state.value)) (key ∙ ap (λ (p : List ℕ × State). p.0) (sym equal)) ∙ ap (λ (s : State). (one.key, s)) state in
    ap entries_of (items ∙ ap (λ (b : Bool). cond b (copy ++ e ∷ []) copy) ok) ∙ map-append entry_of copy (e ∷ [])
    ∙ ap (λ es. es ++ entry_of e ∷ []) same ∙ ap (λ (x : List ℕ × State). take i (entries_of kept) ++ x ∷ []) is
    ∙ sym (take-at (entries_of kept) i (entry_of one) here) ∙ ap (λ (n : ℕ). take n (entries_of kept)) next

-- all are copied
pub copied-all : (kept copy : List Entry) (i len room : ℕ) → Copying kept copy i len room → i ≡ length kept → entries_of copy ≡ entries_of kept
copied-all kept copy i len room copying all =
    copying.same ∙ ap (λ (n : ℕ). take n (entries_of kept)) (all ∙ sym (length-entries kept)) ∙ take-length (entries_of kept)
