use Rattle.std.proofs.Common.{arith, sym, ◌∙◌, ap}
use Rattle.std.specs.FinMap.{get}
use Rattle.std.specs.Prelude.{Some}
use Rattle.blob_steps.specs.Looks.{show_of}
use Rattle.blob_steps.specs.declared.look.Look.{Look}
use Rattle.store_model.specs.Answer as answer
use Rattle.store_model.specs.Turn as turn
use Rattle.store_model.specs.World.{transaction_of}
use Rattle.txn.specs.Txns.{own_bytes}
use Rattle.blob_steps.proofs.Shows.{none-printed, same-text, stat-own}
use Rattle.blob_steps.proofs.Turning.{get-at}
use Rattle.blob_steps.proofs.world.World.show_own.Goals as goal

pub returns-in-Get : goal.returns-in-Get
returns-in-Get g c = λ world is put.
    let one = c.index-one.result.now in
    let there = get-at c.args.self.now.sessions.items c.args.session one one (omega (arith, c.requires.sixteen, c.requires.session)) c.index-one.ensures in
    let theirs = world.sessions c.args.session in
    let own = c.own.ensures theirs c.args.session put.0 (is.sessions c.args.session one there) put.1 in
    same-text c.print_value.result c.print_value.new.out c.args.text.now c.args.session (answer.Value c.own.result.now)
    (show_of c.args.look (Some (own_bytes (get (transaction_of theirs.stage).changes c.args.key.now))))
    (ap answer.Value (own ∙ ap (λ (s : turn.Stage). own_bytes (get (transaction_of s).changes c.args.key.now)) (sym put.1))
    ∙ ap (λ (l : Look). show_of l (Some (own_bytes (get (transaction_of theirs.stage).changes c.args.key.now)))) (sym c.in-Get.is)) c.print_value.ensures

pub returns-in-Some : goal.returns-in-Some
returns-in-Some g c = λ world is put.
    let one = c.index-one.result.now in
    let there = get-at c.args.self.now.sessions.items c.args.session one one (omega (arith, c.requires.sixteen, c.requires.session)) c.index-one.ensures in
    let theirs = world.sessions c.args.session in
    same-text c.answer.result c.answer.new.text c.args.text.now c.args.session (answer.Stat c.in-Some.print.size c.in-Some.print.digest.bytes)
    (show_of c.args.look (Some (own_bytes (get (transaction_of theirs.stage).changes c.args.key.now))))
    (stat-own c.print.result c.in-Some.print theirs.stage put.0 put.2.0 c.args.key.now c.in-Some.is
    (c.print.ensures theirs c.args.session put.0 (is.sessions c.args.session one there) put.1) put.1 put.2.1
    ∙ ap (λ (l : Look). show_of l (Some (own_bytes (get (transaction_of theirs.stage).changes c.args.key.now)))) (sym c.in-Stat.is)) c.answer.ensures

pub returns-in-None : goal.returns-in-None
returns-in-None g c = λ world is put.
    let one = c.index-one.result.now in
    let there = get-at c.args.self.now.sessions.items c.args.session one one (omega (arith, c.requires.sixteen, c.requires.session)) c.index-one.ensures in
    absurd (none-printed c.print.result put.0 put.2.0 c.args.key.now c.in-None.is
    (c.print.ensures (world.sessions c.args.session) c.args.session put.0 (is.sessions c.args.session one there) put.1) put.2.1)
