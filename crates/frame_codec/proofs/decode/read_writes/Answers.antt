-- One more write, and one that is refused.
use Rattle.std.proofs.Common.{◌≡◌, ℕ, ◌<◌, ◌∙◌, List, [], ◌∷◌, ◌++◌, length, map, ap, arith, length-append}
use Rattle.std.proofs.lemmas.List.{length-map, map-append}
use Rattle.store_model.specs.BodyRefusals.{IsBadWrite, IsRefusedWrite, told_writes, write_rules}
use Rattle.store_model.specs.Frame as model
use Rattle.frame_codec.specs.Faults.{IfBad, fault_behind}
use Rattle.frame_codec.specs.Values.{model_entries, model_write}
use Rattle.frame_codec.proofs.Readings.{IfBad-behind}
use Rattle.frame_codec.proofs.Risings.{do_rise-next}
use Rattle.frame_codec.proofs.Rows.{DoWritesEnd-next, IsRefusedWrite-at}
use Rattle.frame_codec.proofs.decode.read_writes.Goals as goal

pub push-requires-clause-rise : goal.push-requires-clause-rise
push-requires-clause-rise c =
    let writes : List model.Write = map model_write c.read.writes in
    let one = c.in-Ok.read.one in
    let end = DoWritesEnd-next c.args.pages (model_entries c.args.before.now) c.args.number c.args.bytes.now c.split_at.result.1.now writes (model_write one)
    c.read.at c.in-Ok.read.length c.read.invariant.end c.split_at.ensures.back c.in-Ok.ensures.read in
    do_rise-next c.read.writes one (writes ++ model_write one ∷ []) (map-append model_write c.read.writes (one ∷ [])) end.are.rise

pub returns-in-Err-clause-bad : goal.returns-in-Err-clause-bad
returns-in-Err-clause-bad c =
    let bytes : List ℕ = c.args.bytes.now in
    let before = model_entries c.args.before.now in
    let writes : List model.Write = map model_write c.read.writes in
    let number : ℕ = c.args.number in
    let few : length writes < told_writes bytes = omega (arith, length-map c.read.writes model_write, c.read.invariant.count, c.read-test.true, c.requires.count) in
    let behind : IfBad (fault_behind c.in-Err.fault c.read.at) (IsRefusedWrite c.args.pages before bytes) =
    IfBad-behind c.in-Err.fault c.read.at (IsBadWrite (write_rules before writes number) c.args.pages c.split_at.result.1.now) (IsRefusedWrite c.args.pages before bytes)
    (λ place bad. IsRefusedWrite-at c.args.pages before number bytes c.split_at.result.1.now writes c.read.at place c.read.invariant.end c.requires.told few
    c.split_at.ensures.back bad) c.in-Err.ensures.bad in
    rw (c.behind.ensures) behind

pub read-preserved : goal.read-preserved
read-preserved c =
    let writes : List model.Write = map model_write c.read.writes in
    let one = c.in-Ok.read.one in
    let new : c.push.new.self ≡ c.read.writes ++ one ∷ [] = c.in_ok-push-in-Ok.ensures.ok in
    let items : map model_write c.push.new.self ≡ writes ++ model_write one ∷ [] = ap (map model_write) new ∙ map-append model_write c.read.writes (one ∷ []) in
    record {
      count = omega (arith, ap length new, length-append c.read.writes (one ∷ []), c.read.invariant.count);
      end = rw items (DoWritesEnd-next c.args.pages (model_entries c.args.before.now) c.args.number c.args.bytes.now c.split_at.result.1.now writes (model_write one)
          c.read.at c.in-Ok.read.length c.read.invariant.end c.split_at.ensures.back c.in-Ok.ensures.read);
    }
