-- What was read of a state, put together.
use Rattle.std.proofs.Common.{rules, ◌≡◌, ℕ, ◌+◌, ◌*◌, List, length, sym, ap, ◌∙◌, arith}
use Rattle.std.proofs.lemmas.Result.{err_from_is_err_and}
use Rattle.std.proofs.lemmas.List.{length-map}
use Rattle.store_model.specs.State.{Extent, HasExtents, IsState, State}
use Rattle.store_model.specs.Tuple.{tail_spelling}
use Rattle.store_model.specs.TupleFields.{fields_at}
use Rattle.store_model.proofs.StateLaws.{length-spelling}
use Rattle.store_model.proofs.StoredLaws.{length-tail_spelling}
use Rattle.store_model.proofs.FieldLaws.{AreBytes}
use Rattle.store_model.proofs.KeyFieldLaws.{fields_at-key}
use Rattle.store_model.proofs.TupleToldLaws.{AreAllGood, IsAtFront-told, IsTailTold, IsTold}
use Rattle.store_model.proofs.BadTupleLaws.{IsBadState-content, IsBadState-extents, IsBadState-tail}
use Rattle.blob_state.specs.Values.{extent_of, extents_of}
use Rattle.blob_state.proofs.reader.decode_state.Goals as goal

pub returns-in_err-fields-clause-bad : goal.returns-in_err-fields-clause-bad
returns-in_err-fields-clause-bad c =
    let p = err_from_is_err_and c.from_residual.result c.from_residual.ensures.1 in
    let bytes : List ℕ = c.args.bytes.now in
    let at : ℕ = 1 + length c.text.result.now in
    let start : at ≡ fields_at bytes = ap (λ (text : List ℕ). 1 + length text) c.text.ensures.text ∙ fields_at-key bytes c.args.key.now c.requires.key in
    rw (p.1, p.2) (IsBadState-content c.args.least c.args.most c.args.pages bytes at _ start c.in_err-fields.ensures.bad)

pub returns-in_err-read_extents-clause-bad : goal.returns-in_err-read_extents-clause-bad
returns-in_err-read_extents-clause-bad c =
    let p = err_from_is_err_and c.from_residual-in_err-read_extents.result c.from_residual-in_err-read_extents.ensures.1 in
    let bytes : List ℕ = c.args.bytes.now in
    let at : ℕ = 1 + length c.text.result.now in
    let start : at ≡ fields_at bytes = ap (λ (text : List ℕ). 1 + length text) c.text.ensures.text ∙ fields_at-key bytes c.args.key.now c.requires.key in
    let fields = c.in_ok-fields.fields in
    rw (p.1, p.2) (IsBadState-extents c.args.least c.args.most c.args.pages bytes at fields.size fields.extents _ start
    c.in_ok-fields.ensures.size c.in_ok-fields.ensures.extents c.in_ok-fields.ensures.good c.in_err-read_extents.ensures.bad)

pub returns-in_err-tail-clause-bad : goal.returns-in_err-tail-clause-bad
returns-in_err-tail-clause-bad c =
    let p = err_from_is_err_and c.from_residual-in_err-tail.result c.from_residual-in_err-tail.ensures.1 in
    let bytes : List ℕ = c.args.bytes.now in
    let at : ℕ = 1 + length c.text.result.now in
    let start : at ≡ fields_at bytes = ap (λ (text : List ℕ). 1 + length text) c.text.ensures.text ∙ fields_at-key bytes c.args.key.now c.requires.key in
    let fields = c.in_ok-fields.fields in
    let count : c.len.result ≡ fields.extents = c.len.ensures.value ∙ c.in_ok-read_extents.ensures.number in
    rw (p.1, p.2) (IsBadState-tail c.args.least c.args.most c.args.pages bytes at fields.size fields.extents _ start
    c.in_ok-fields.ensures.size c.in_ok-fields.ensures.extents c.in_ok-fields.ensures.good c.in_ok-read_extents.ensures.good
    (rw count at c.in_err-tail.ensures.bad))

-- the tuple that was read stands there
pub returns-clause-front : goal.returns-clause-front
returns-clause-front c =
    let bytes : List ℕ = c.args.bytes.now in
    let at : ℕ = 1 + length c.text.result.now in
    let start : at ≡ 1 + length c.args.key.now = ap (λ (text : List ℕ). 1 + length text) c.text.ensures.text in
    let fields = c.in_ok-fields.fields in
    let items = c.read_extents.new.extents.items in
    let extents : List Extent = extents_of items in
    let state : State =
    record { size = fields.size; born = fields.born; digest = fields.digest.bytes; prefix = fields.prefix; extents = extents; tail = c.in_ok-tail.tail } in
    let number : length extents ≡ length items = length-map items extent_of in
    let count : fields.extents ≡ length extents = sym c.in_ok-read_extents.ensures.number ∙ sym number in
    let all : c.len.result ≡ length extents = c.len.ensures.value ∙ sym number in
    let has : HasExtents fields.size (length extents) = rw count at c.in_ok-fields.ensures.extents in
    let tail : IsTailTold bytes (at + 76 + 36 * length extents) fields.size c.in_ok-tail.tail =
    record { has = c.in_ok-tail.ensures.has; page = rw all at c.in_ok-tail.ensures.told } in
    let told : IsTold bytes at state =
    record {
      size = c.in_ok-fields.ensures.size;
      born = c.in_ok-fields.ensures.born;
      digest = c.in_ok-fields.ensures.digest;
      prefix = c.in_ok-fields.ensures.prefix;
      extents = c.in_ok-read_extents.ensures.told;
      tail = tail;
    } in
    let good : AreAllGood c.args.least c.args.most c.args.pages bytes at fields.size (length extents) =
    record {
      content = c.in_ok-fields.ensures.good;
      places = rw count at c.in_ok-read_extents.ensures.good;
      tail = rw all at c.in_ok-tail.ensures.good;
    } in
    let range : AreBytes bytes = search rules in
    IsAtFront-told bytes c.args.key.now at c.args.least c.args.most c.args.pages state range c.requires.least c.requires.most c.requires.key start told has good

pub invariant_of-result : goal.invariant_of-result
invariant_of-result c = (returns-clause-front c).tuple.stands

pub returns-clause-length : goal.returns-clause-length
returns-clause-length c =
    let fields = c.in_ok-fields.fields in
    let items = c.read_extents.new.extents.items in
    let state : State =
    record { size = fields.size; born = fields.born; digest = fields.digest.bytes; prefix = fields.prefix; extents = extents_of items; tail = c.in_ok-tail.tail } in
    let key : List ℕ = c.args.key.now in
    let is : IsState state = (returns-clause-front c).tuple.stands in
    let number : length state.extents ≡ length items = length-map items extent_of in
    let sum : c.stored_bytes-length.result ≡ 1 + length key + 76 + 36 * length state.extents + length (tail_spelling state.tail) =
    omega (arith, number, length-tail_spelling state.tail, c.len-2.ensures.value, c.stored_bytes-length.ensures.value) in
    sum ∙ sym (length-spelling key state is.digest is.prefix.bytes is.marks)
