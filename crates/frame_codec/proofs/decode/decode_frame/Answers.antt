-- The entries that were read are those of the body.
use Rattle.std.proofs.Common.{rules, ◌≡◌, ◌≤◌, ◌^◌, ◌∙◌, ℕ, inl, inr, List, length, arith}
use Rattle.std.proofs.lemmas.Result.{err_from_is_err_and}
use Rattle.store_model.proofs.BodyLaws.{Spells-not_bad}
use Rattle.frame_codec.proofs.Readings.{IfBad-weaker}
use Rattle.frame_codec.proofs.Entering.{IsBadBody-more}
use Rattle.std.proofs.lemmas.List.{length-map}
use Rattle.store_model.specs.BodyRefusals.{IsRefusedEntry, told_entries}
use Rattle.store_model.specs.Frame as model
use Rattle.store_model.proofs.BodyReadLaws.{Spells-read}
use Rattle.store_model.proofs.FieldLaws.{AreBytes}
use Rattle.frame_codec.specs.Values.{model_entries, model_entry}
use Rattle.frame_codec.proofs.decode.decode_frame.Goals as goal

pub returns-clause-spells : goal.returns-clause-spells
returns-clause-spells c =
    let bytes : List ℕ = c.args.bytes.now in
    let read = c.read_entries.new.entries in
    let entries : List model.Entry = model_entries read in
    let ends = c.in_ok-end.ensures.read in
    let count : length entries ≡ told_entries bytes = length-map read model_entry ∙ c.in_ok-end.ensures.count ∙ c.in_ok-count.ensures.told in
    let range : AreBytes bytes = search rules in
    Spells-read c.args.pages bytes entries c.in_ok-end.end range c.in_ok-count.ensures.good ends.are ends.stand ends.at_is count ends.within
    (omega (arith, c.if-end-bytes.false))

-- no entries are spelled, where a field of the front is broken, where an entry is refused, and where bytes stand behind the last
pub returns-in_err-count-clause-none : goal.returns-in_err-count-clause-none
returns-in_err-count-clause-none c =
    let p = err_from_is_err_and c.from_residual.result c.from_residual.ensures.1 in
    rw (p.1, p.2) (λ (entries : List model.Entry) (spells : model.Spells c.args.pages c.args.bytes.now entries).
    Spells-not_bad c.args.pages c.args.bytes.now entries _ (omega arith) spells (inl c.in_err-count.ensures.bad))

pub returns-in_err-end-clause-none : goal.returns-in_err-end-clause-none
returns-in_err-end-clause-none c =
    let p = err_from_is_err_and c.from_residual-in_err-end.result c.from_residual-in_err-end.ensures.1 in
    let bytes : List ℕ = c.args.bytes.now in
    let pages : ℕ = c.args.pages in
    let most : pages ≤ 2 ^ 32 = omega arith in
    rw (p.1, p.2) (IfBad-weaker c.in_err-end.field-0.0 (IsRefusedEntry pages bytes) (λ place. (entries : List model.Entry) → model.Spells pages bytes entries → ⊥)
    (λ place bad entries spells. Spells-not_bad pages bytes entries place most spells (inr (c.in_ok-count.ensures.good, inl bad))) c.in_err-end.ensures.bad)

pub returns-then-end-bytes-clause-none : goal.returns-then-end-bytes-clause-none
returns-then-end-bytes-clause-none c = λ entries spells.
    let bytes : List ℕ = c.args.bytes.now in
    let read = c.read_entries.new.entries in
    let all : length (model_entries read) ≡ told_entries bytes = length-map read model_entry ∙ c.in_ok-end.ensures.count ∙ c.in_ok-count.ensures.told in
    let bad = IsBadBody-more c.args.pages bytes (model_entries read) c.in_ok-end.end c.in_ok-count.ensures.good c.in_ok-end.ensures.read all
    (omega (arith, c.if-end-bytes.true)) in
    Spells-not_bad c.args.pages bytes entries c.in_ok-end.end (omega arith) spells bad
