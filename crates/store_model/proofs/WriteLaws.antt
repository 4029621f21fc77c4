-- Laws of the writes in a body: which one stands at the front of some bytes, and why none does.
use Rattle.std.proofs.Common.{◌≡◌, ℕ, zero, suc, ◌+◌, ◌≤◌, inl, inr, List, [], ◌∷◌, ◌++◌, length, drop, refl, sym, ap, ◌∙◌, arith}
use Rattle.std.specs.Prelude.{IsTrue}
use Rattle.std.specs.Int.{w8}
use Rattle.std.proofs.lemmas.List.{drop_at}
use Rattle.store_model.specs.BodyRefusals.{IsBadWrite, told_kind}
use Rattle.store_model.specs.Field.{IsBroken, IsFirstBroken, Number}
use Rattle.store_model.specs.Frame.{Del, Set, write_spelling}
use Rattle.store_model.specs.State.{State}
use Rattle.store_model.specs.Tuple.{IsAtFront, IsKeyAtFront, key_spelling, spelling}
use Rattle.store_model.specs.TupleFields.{IsBadState, Rules, is_within, ruled_key_fields, told_key}
use Rattle.store_model.proofs.BadTupleLaws.{IsBadTuple-ruled_key, IsBadTuple-state}
use Rattle.store_model.proofs.FieldLaws.{IsFirstBroken-here}

-- no write, where its kind is broken
pub IsBadWrite-kind : (rules : Rules) (pages : ℕ) (stored : List ℕ) (at : ℕ)
    → IsBroken stored (record { at = 0; bytes = 1; rule = Number w8 (is_within 1 2) }) at → IsBadWrite rules pages stored at
IsBadWrite-kind rules pages stored at broken =
    inl (IsFirstBroken-here stored (record { at = 0; bytes = 1; rule = Number w8 (is_within 1 2) }) [] at broken)

-- no write, where its key is broken
pub IsBadWrite-key : (rules : Rules) (pages : ℕ) (stored : List ℕ) (kind place : ℕ) → kind ≡ told_kind stored → 1 ≤ kind → kind ≤ 2
    → IsFirstBroken (drop 1 stored) (ruled_key_fields rules.key (told_key (drop 1 stored))) place → IsBadWrite rules pages stored (1 + place)
IsBadWrite-key rules pages stored zero place told least most first = absurd (omega (arith, least))
IsBadWrite-key rules pages stored (suc zero) place told least most first =
    inr (inl (sym told, (place, IsBadTuple-ruled_key rules pages (drop 1 stored) place first, refl)))
IsBadWrite-key rules pages stored (suc (suc zero)) place told least most first = inr (inr (sym told, (place, first, refl)))
IsBadWrite-key rules pages stored (suc (suc (suc kind))) place told least most first = absurd (omega (arith, most))

-- no write, where behind a key that may stand there is no state
pub IsBadWrite-state : (rules : Rules) (pages : ℕ) (stored key : List ℕ) (place : ℕ) → told_kind stored ≡ 1 → IsKeyAtFront (drop 1 stored) key
    → IsTrue (rules.key key) → IsBadState rules.least rules.most pages (drop 1 stored) place → IsBadWrite rules pages stored (1 + place)
IsBadWrite-state rules pages stored key place told front may bad =
    inr (inl (told, (place, IsBadTuple-state rules pages (drop 1 stored) key place front may bad, refl)))

-- the first byte, and what is behind it
first-behind : (stored : List ℕ) (kind : ℕ) → 1 ≤ length stored → told_kind stored ≡ kind → stored ≡ kind ∷ drop 1 stored
first-behind [] kind some told = absurd (omega (arith, some))
first-behind (byte ∷ stored) kind some told = ap (λ (n : ℕ). n ∷ stored) told

-- a write stands there, whatever follows it
write-stands : (stored text rest : List ℕ) (kind : ℕ) → 1 ≤ length stored → told_kind stored ≡ kind → drop 1 stored ≡ text ++ rest
    → stored ≡ (kind ∷ text) ++ drop (1 + length text) stored
write-stands stored text rest kind some told is =
    let whole : stored ≡ (kind ∷ text) ++ rest = first-behind stored kind some told ∙ ap (λ (bytes : List ℕ). kind ∷ bytes) is in
    let behind : drop (1 + length text) stored ≡ rest = ap (drop (1 + length text)) whole ∙ drop_at (kind ∷ text) rest (1 + length text) (omega arith) in
    whole ∙ ap (λ (bytes : List ℕ). (kind ∷ text) ++ bytes) (sym behind)

pub Set-stands : (pages : ℕ) (stored key : List ℕ) (state : State) → 1 ≤ length stored → told_kind stored ≡ 1 → IsAtFront pages (drop 1 stored) key state
    → stored ≡ write_spelling (Set key state) ++ drop (1 + length (spelling key state)) stored
Set-stands pages stored key state some told front = write-stands stored (spelling key state) front.rest 1 some told front.stored_is

pub Del-stands : (stored key : List ℕ) → 1 ≤ length stored → told_kind stored ≡ 2 → IsKeyAtFront (drop 1 stored) key
    → stored ≡ write_spelling (Del key) ++ drop (1 + length (key_spelling key)) stored
Del-stands stored key some told front = write-stands stored (key_spelling key) front.rest 2 some told front.stored_is
