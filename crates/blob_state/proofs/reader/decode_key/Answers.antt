-- A fault of the key's length, and of the key.
use Rattle.std.proofs.Common.{◌≡◌, ℕ, ◌+◌, ◌<◌, ◌≤◌, List, [], length, take, drop, refl, sym, ap, ◌∙◌, arith}
use Rattle.std.proofs.lemmas.Result.{err_from_is_err_and}
use Rattle.store_model.specs.TupleFields.{key_fields, told_key}
use Rattle.std.specs.Prelude.{IsTrue}
use Rattle.store_model.specs.Key.{is_key}
use Rattle.store_model.specs.Field.{AreGood}
use Rattle.store_model.proofs.KeyFieldLaws.{IsKeyAtFront-told}
use Rattle.store_model.proofs.FieldLaws.{IsBroken-key, IsBroken-short, IsFirstBroken-here, IsFirstBroken-later}
use Rattle.blob_state.specs.Reading.{key_field, length_field}
use Rattle.blob_state.proofs.reader.decode_key.Goals as goal

pub returns-in_err-length-clause-bad : goal.returns-in_err-length-clause-bad
returns-in_err-length-clause-bad c =
    let p = err_from_is_err_and c.from_residual.result c.from_residual.ensures.1 in
    rw (p.1, p.2) (IsFirstBroken-here c.args.bytes.now length_field _ _ c.in_err-length.ensures.bad)

pub returns-then-rest-length-clause-bad : goal.returns-then-rest-length-clause-bad
returns-then-rest-length-clause-bad c =
    let bytes : List ℕ = c.args.bytes.now in
    let field = key_field (told_key bytes) in
    let short : length bytes < 1 + told_key bytes = omega (arith, c.in_ok-length.ensures.told, c.split_at.ensures.back_len) in
    IsFirstBroken-later bytes length_field _ 1 c.in_ok-length.ensures.good (IsFirstBroken-here bytes field [] 1 (IsBroken-short bytes field 1 short refl))

pub returns-in-Err-clause-bad : goal.returns-in-Err-clause-bad
returns-in-Err-clause-bad c =
    let bytes : List ℕ = c.args.bytes.now in
    let length_is : c.in_ok-length.length ≡ told_key bytes = c.in_ok-length.ensures.told in
    let text : List ℕ = c.split_at-2.result.0.now in
    let text_is : text ≡ take (told_key bytes) (drop 1 bytes) =
    c.split_at-2.ensures.front ∙ ap (take c.in_ok-length.length) c.split_at.ensures.back ∙ ap (λ (n : ℕ). take n (drop 1 bytes)) length_is in
    let broken = IsBroken-key bytes 1 (told_key bytes) c.in-Err.bad.at text (omega (arith, length_is, c.split_at.ensures.back_len)) text_is c.in-Err.ensures.bad in
    IsFirstBroken-later bytes length_field _ _ c.in_ok-length.ensures.good (IsFirstBroken-here bytes (key_field (told_key bytes)) [] _ broken)

-- the text that was read is the one behind the length
pub returns-in-Ok-clause-front : goal.returns-in-Ok-clause-front
returns-in-Ok-clause-front c =
    let bytes : List ℕ = c.args.bytes.now in
    let length_is : c.in_ok-length.length ≡ told_key bytes = c.in_ok-length.ensures.told in
    let text : List ℕ = c.split_at-2.result.0.now in
    let text_is : text ≡ take (told_key bytes) (drop 1 bytes) =
    c.split_at-2.ensures.front ∙ ap (take c.in_ok-length.length) c.split_at.ensures.back ∙ ap (λ (n : ℕ). take n (drop 1 bytes)) length_is in
    let whole : 1 + told_key bytes ≤ length bytes = omega (arith, length_is, c.split_at.ensures.back_len) in
    let named : IsTrue (is_key (take (told_key bytes) (drop 1 bytes))) = ap is_key (sym text_is) ∙ c.in-Ok.ensures.key.0 in
    let good : AreGood bytes (key_fields (told_key bytes)) = (c.in_ok-length.ensures.good, (record { whole = whole; kept = named }, tt)) in
    IsKeyAtFront-told bytes c.in-Ok.key good (c.in-Ok.ensures.key.1 ∙ text_is)
