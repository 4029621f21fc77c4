-- One more entry, and one that is refused.
use Rattle.std.proofs.Common.{◌≡◌, ℕ, ◌<◌, ◌∙◌, List, [], ◌∷◌, ◌++◌, length, ap, arith, length-append}
use Rattle.std.proofs.lemmas.List.{length-map, map-append}
use Rattle.store_model.specs.BodyRefusals.{IsBadEntry, IsRefusedEntry, told_entries}
use Rattle.store_model.specs.Frame as model
use Rattle.frame_codec.specs.Faults.{IfBad, fault_behind}
use Rattle.frame_codec.specs.Values.{model_entries, model_entry}
use Rattle.frame_codec.proofs.Entering.{DoEntriesEnd-next, IsRefusedEntry-at}
use Rattle.frame_codec.proofs.Readings.{IfBad-behind}
use Rattle.frame_codec.proofs.decode.read_entries.Goals as goal

pub returns-in-Err-clause-bad : goal.returns-in-Err-clause-bad
returns-in-Err-clause-bad c =
    let bytes : List ℕ = c.args.bytes.now in
    let entries : List model.Entry = model_entries c.read.entries in
    let few : length entries < told_entries bytes = omega (arith, length-map c.read.entries model_entry, c.read.invariant.count, c.read-test.true, c.requires.count) in
    let behind : IfBad (fault_behind c.in-Err.fault c.read.at) (IsRefusedEntry c.args.pages bytes) =
    IfBad-behind c.in-Err.fault c.read.at (IsBadEntry c.args.pages entries c.split_at.result.1.now) (IsRefusedEntry c.args.pages bytes)
    (λ place bad. IsRefusedEntry-at c.args.pages bytes c.split_at.result.1.now entries c.read.at place c.read.invariant.end few c.split_at.ensures.back bad)
    c.in-Err.ensures.bad in
    rw (c.behind.ensures) behind

pub read-preserved : goal.read-preserved
read-preserved c =
    let entries : List model.Entry = model_entries c.read.entries in
    let one = c.in-Ok.read.entry in
    let new : c.push.new.self ≡ c.read.entries ++ one ∷ [] = c.in_ok-push-in-Ok.ensures.ok in
    let items : model_entries c.push.new.self ≡ entries ++ model_entry one ∷ [] = ap model_entries new ∙ map-append model_entry c.read.entries (one ∷ []) in
    record {
      count = omega (arith, ap length new, length-append c.read.entries (one ∷ []), c.read.invariant.count);
      end = rw items (DoEntriesEnd-next c.args.pages c.args.bytes.now c.split_at.result.1.now entries (model_entry one) c.read.at c.in-Ok.read.length
          c.read.invariant.end c.split_at.ensures.back c.in-Ok.ensures.read);
    }
