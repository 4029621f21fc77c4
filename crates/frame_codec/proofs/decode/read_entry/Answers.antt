-- The entry that was read.
use Rattle.std.proofs.Common.{rules, ◌≡◌, ◌<◌, ◌^◌, ◌∙◌, ℕ, List, length, map}
use Rattle.std.proofs.lemmas.List.{length-map}
use Rattle.store_model.specs.BodyRefusals.{told_writes}
use Rattle.store_model.proofs.FieldLaws.{AreBytes}
use Rattle.frame_codec.specs.Values.{model_entries, model_write}
use Rattle.frame_codec.proofs.Entering.{IsEntryRead-told}
use Rattle.frame_codec.proofs.decode.read_entry.Goals as goal

pub returns-clause-read : goal.returns-clause-read
returns-clause-read c =
    let bytes : List ℕ = c.args.bytes.now in
    let front = c.in_ok-front.front in
    let writes = map model_write c.read_writes.new.writes in
    let count : length writes ≡ told_writes bytes =
    length-map c.read_writes.new.writes model_write ∙ c.in_ok-length.ensures.count ∙ c.in_ok-front.ensures.count in
    let range : AreBytes bytes = search rules in
    let low : front.nth < 2 ^ 64 = search rules in
    IsEntryRead-told c.args.pages (model_entries c.args.before.now) bytes
    (record { number = front.number; session = front.session; nth = front.nth; writes = writes }) c.in_ok-length.length range
    c.in_ok-front.ensures.good c.in_ok-front.ensures.number c.in_ok-front.ensures.session c.in_ok-front.ensures.nth low count c.in_ok-length.ensures.read
