use Rattle.std.proofs.Common.{rules, ◌≡◌, ℕ, ◌*◌, List, take, drop, refl, sym, ap, ◌∙◌, arith, w32}
use Rattle.std.specs.Int.{to_be_bytes}
use Rattle.std.proofs.lemmas.List.{length-set, take_all}
use Rattle.store_model.specs.Hash.{bytes_of_state}
use Rattle.store_model.proofs.FieldLaws.{AreBytes, to_be_bytes-four}
use Rattle.store_model.proofs.TupleToldLaws.{bytes_of_state-next, bytes_of_state-none}
use Rattle.blob_state.proofs.places.words.Goals as goal

pub words-init : goal.words-init
words-init c = record { eight = refl; spelled = bytes_of_state-none }

pub words-preserved : goal.words-preserved
words-preserved c =
    let bytes : List ℕ = c.args.bytes.now in
    let start : ℕ = 4 * c.words.i in
    let range : AreBytes bytes = search rules in
    let here : to_be_bytes w32 c.from_be_bytes.result ≡ take 4 (drop start bytes) =
    to_be_bytes-four bytes start c.from_be_bytes.result range (omega arith) c.from_be_bytes.ensures in
    record {
      eight = length-set c.words.words c.words.i c.from_be_bytes.result ∙ c.words.invariant.eight;
      spelled = bytes_of_state-next c.words.words bytes c.words.i c.from_be_bytes.result (omega arith) c.words.invariant.spelled here;
    }

pub returns : goal.returns
returns c =
    let bytes : List ℕ = c.args.bytes.now in
    let words : List ℕ = c.words.words in
    sym (ap bytes_of_state (take_all c.words.i words (omega arith))) ∙ c.words.invariant.spelled ∙ take_all (4 * c.words.i) bytes (omega arith)
