-- The blocks of states, one behind the other.
use Rattle.std.proofs.Common.{◌≡◌, ℕ, zero, suc, ◌+◌, ◌<◌, List, [], ◌∷◌, ◌++◌, take, length, get_or, refl, sym, ◌∙◌, ap, arith, append_assoc}
use Rattle.std.proofs.lemmas.List.{append-nil}
use Rattle.store_model.specs.Holds.{place_of}
use Rattle.store_model.specs.Space.{Block, blocks_of}
use Rattle.store_model.specs.State.{State}
use Rattle.relation.specs.Entries.{entries_of, entry_of}
use Rattle.relation.specs.declared.entries.Entry.{Entry}
use Rattle.relation.proofs.Searches.{length-entries}
use Rattle.relation.specs.Parts.{blocks_by}

go : (es : List (List ℕ × State)) (i : ℕ) (d : List ℕ × State) → i < length es → blocks_by (take (suc i) es) ≡ blocks_by (take i es) ++ blocks_of (place_of (get_or es i d).1)
go [] i d less = absurd (omega arith)
go (e ∷ es) zero d less = append-nil (blocks_of (place_of e.1))
go (e ∷ es) (suc i) d less = ap (λ bs. blocks_of (place_of e.1) ++ bs) (go es i d (omega arith)) ∙ sym (append_assoc (blocks_of (place_of e.1)) (blocks_by (take i es)) (blocks_of (place_of (get_or es i d).1)))

-- one more state
pub blocks_by-next : (es : List (List ℕ × State)) (i : ℕ) (d : List ℕ × State) → i < length es → blocks_by (take (i + 1) es) ≡ blocks_by (take i es) ++ blocks_of (place_of (get_or es i d).1)
blocks_by-next es i d less =
    let next : i + 1 ≡ suc i = omega arith in
    ap (λ (n : ℕ). blocks_by (take n es)) next ∙ go es i d less

state-at : (kept : List Entry) (i : ℕ) (d : Entry) → i < length kept → (get_or (entries_of kept) i (entry_of d)).1 ≡ (get_or kept i d).state.value
state-at [] i d less = absurd (omega arith)
state-at (e ∷ kept) zero d less = refl
state-at (e ∷ kept) (suc i) d less = state-at kept i d (omega arith)

pub entries-next : (kept : List Entry) (i : ℕ) (d one : Entry) (owned new : List Block) (state : State) → i < length kept → one ≡ get_or kept i d
    → owned ≡ blocks_by (take i (entries_of kept)) → new ≡ owned ++ blocks_of (place_of state) → state ≡ one.state.value
    → new ≡ blocks_by (take (i + 1) (entries_of kept))
entries-next kept i d one owned new state less is so_far added state_is =
    added ∙ ap (λ bs. bs ++ blocks_of (place_of state)) so_far
    ∙ ap (λ (s : State). blocks_by (take i (entries_of kept)) ++ blocks_of (place_of s)) state_is
    ∙ ap (λ (e : Entry). blocks_by (take i (entries_of kept)) ++ blocks_of (place_of e.state.value)) is
    ∙ ap (λ (s : State). blocks_by (take i (entries_of kept)) ++ blocks_of (place_of s)) (sym (state-at kept i d less))
    ∙ sym (blocks_by-next (entries_of kept) i (entry_of d) (omega (arith, less, length-entries kept)))
