use Rattle.std.proofs.Common.{◌≡◌, ◌+◌, ◌≤◌, length, zip, inl, refl, sym, ap, subst, arith}
use Rattle.std.specs.Prelude.{OnOk}
use Rattle.std.specs.List.{All}
use Rattle.frame_codec.specs.Values.{model_entries}
use Rattle.meta_log.specs.Logs.{Parts}
use Rattle.store_model.specs.Images.{Settled}
use Rattle.store_model.specs.Layout.{Layout, data_pages}
use Rattle.store_model.specs.Log.{at_log, body_pages, open_page}
use Rattle.store_model.specs.Reading.{Found}
use Rattle.store_model.specs.Space.{AreBlocks}
use Rattle.vault.specs.Pours.{Poured, pour_blocks, pours_of_all, requests_at}
use Rattle.vault.specs.Vaults.{IsNextFrame, found_of}
use Rattle.vault.specs.declared.memory.Memory.{Memory}
use Rattle.vault.proofs.Bodies.{body-least, body-most}
use Rattle.vault.proofs.Gates.{found-same, on_ok_four}
use Rattle.vault.proofs.Joins.{InWindows-joined, IsCommitted-joined}
use Rattle.vault.proofs.memory.Memory.write.Goals as goal

pub lay_body-requires-clause-least : goal.lay_body-requires-clause-least
lay_body-requires-clause-least g c = body-least (data_pages c.args.self.now.layout) c.args.body.now (model_entries c.args.entries.now) c.requires.frame.spells

pub lay_body-requires-clause-short : goal.lay_body-requires-clause-short
lay_body-requires-clause-short g c = body-most (data_pages c.args.self.now.layout) c.args.body.now (model_entries c.args.entries.now) c.requires.frame.spells

pub returns-clause-committed : goal.returns-clause-committed
returns-clause-committed g c tells was =
    let disk = g.D.Disk in
    let before : Memory = c.args.self.now in
    let mid : Memory = c.lay_body.new.self in
    let now : Memory = c.pour_and_open.new.self in
    let new = c.pour_and_open.new.disk in
    let bytes = c.args.body.now in
    let es = c.args.entries.now in
    let pours = pours_of_all (zip (requests_at c.args.queue.now c.args.members.now) es) in
    let laid = c.in_ok-lay_body.ensures.laid in
    let frame : IsNextFrame (found_of mid) bytes (model_entries es) =
    subst (λ (found : Found). IsNextFrame found bytes (model_entries es)) (sym (found-same before mid c.lay_body.ensures.same)) c.requires.frame in
    on_ok_four ((disk.story new).reads (at_log mid.log.half mid.log.gate) ≡ open_page) (All (Poured (disk.story new).reads mid.layout) pours) (Settled (disk.story new)) _ _
    c.pour_and_open.result (c.pour_and_open.ensures.opened tells) (c.pour_and_open.ensures.poured tells) (c.pour_and_open.ensures.settled tells) c.pour_and_open.ensures.gate
    (λ opened poured settled log.
    IsCommitted-joined disk before mid now bytes c.args.queue.now c.args.members.now es c.args.disk.now laid.0 c.lay_body.new.disk new laid.1
    c.pour_and_open.ensures.same (ap (λ (parts : Parts). parts.half) log) (ap (λ (parts : Parts). parts.gate) log) c.in_ok-lay_body.ensures.next c.in_ok-lay_body.ensures.most
    frame c.requires.places.written c.requires.whole c.pour_and_open.ensures.wrote tells was opened poured settled)

pub returns-in_err-lay_body-clause-windows : goal.returns-in_err-lay_body-clause-windows
returns-in_err-lay_body-clause-windows g c = record { mid = c.lay_body.new.disk; first = c.lay_body.ensures.window; second = inl refl }

pub returns-clause-windows : goal.returns-clause-windows
returns-clause-windows g c =
    let laid = c.in_ok-lay_body.ensures.laid in
    InWindows-joined g.D.Disk c.args.self.now c.lay_body.new.self c.pour_and_open.new.self c.args.body.now c.args.queue.now c.args.members.now c.args.entries.now
    c.args.disk.now laid.0 c.lay_body.new.disk c.pour_and_open.new.disk laid.1
    (pours_of_all (zip (requests_at c.args.queue.now c.args.members.now) c.args.entries.now)) c.lay_body.ensures.same c.in_ok-lay_body.ensures.two
    (let e : c.lay_body.new.self.log.gate + 1 + body_pages (length c.args.body.now) ≤ 511 = omega (arith, c.in_ok-lay_body.ensures.next, c.in_ok-lay_body.ensures.most) in e)
    c.pour_and_open.ensures.wrote

pub pour_and_open-requires-clause-within : goal.pour_and_open-requires-clause-within
pour_and_open-requires-clause-within g c =
    subst (λ (layout : Layout). AreBlocks (data_pages layout) (pour_blocks (pours_of_all (zip (requests_at c.args.queue.now c.args.members.now) c.args.entries.now))))
    (sym c.lay_body.ensures.same.layout) c.requires.within

pub returns-clause-poured : goal.returns-clause-poured
returns-clause-poured g c tells =
    let new = c.pour_and_open.new.disk in
    let pours = pours_of_all (zip (requests_at c.args.queue.now c.args.members.now) c.args.entries.now) in
    subst (λ (layout : Layout). OnOk c.pour_and_open.result (All (Poured (g.D.Disk.story new).reads layout) pours)) c.lay_body.ensures.same.layout
    (c.pour_and_open.ensures.poured tells)
