use Rattle.std.proofs.Common.{◌≤◌, length, arith}
use Rattle.store_model.specs.Images.{Settled}
use Rattle.store_model.specs.Log.{body_pages}
use Rattle.vault.specs.Vaults.{StandsBehind}
use Rattle.vault.specs.declared.memory.Memory.{Memory}
use Rattle.vault.proofs.Gates.{HasLaid-behind, InFirst-from, InFirst-none, on_ok_both}
use Rattle.vault.proofs.memory.Memory.lay_body.Goals as goal

pub returns-clause-laid : goal.returns-clause-laid
returns-clause-laid g c =
    let disk = g.D.Disk in
    let before : Memory = c.args.self.now in
    let mid : Memory = c.make_room.new.self in
    let now : Memory = c.lay.new.self in
    let bytes = c.args.body.now in
    let new = c.lay.new.disk in
    on_ok_both (StandsBehind (disk.story new).reads mid.log.half mid.log.gate bytes) (Settled (disk.story new)) _ c.lay.result
    c.lay.ensures.stands c.lay.ensures.settled
    (λ stands settled. (
      c.make_room.new.disk,
      HasLaid-behind disk before mid now bytes c.args.disk.now c.make_room.new.disk new c.lay.ensures.same c.lay.ensures.half c.lay.ensures.gate
          c.make_room.ensures.turned (λ tells. c.in_ok-make_room.ensures.rest tells) c.lay.ensures.wrote settled stands,
    ))

pub returns-in_err-make_room-clause-window : goal.returns-in_err-make_room-clause-window
returns-in_err-make_room-clause-window g c =
    InFirst-none g.D.Disk c.args.self.now c.args.body.now c.args.disk.now c.make_room.new.disk
    (let e : body_pages (length c.args.body.now) ≤ 510 = omega (arith, c.requires.short) in e) c.make_room.ensures.turned

pub returns-clause-window : goal.returns-clause-window
returns-clause-window g c =
    InFirst-from g.D.Disk c.args.self.now c.make_room.new.self c.args.body.now c.args.disk.now c.make_room.new.disk c.lay.new.disk
    c.make_room.ensures.same c.rules.ensures.half c.in_ok-make_room.ensures.room c.make_room.ensures.turned (λ tells. c.in_ok-make_room.ensures.rest tells) c.lay.ensures.wrote
