use Rattle.std.proofs.Common.{arith}
use Rattle.blob_script.proofs.CommandWords.{layout_is}
use Rattle.blob_script.proofs.form.layout_of.Goals as goal
use Rattle.blob_script.proofs.form.layout_of.Goals.{then-units-lt1-via-then-units-lt1, then-units-lt1-via-else-units-lt1+then-units-gt16384, then-units-lt1-via-else-units-lt1+else-units-gt16384+then-room-lt1, then-units-lt1-via-else-units-lt1+else-units-gt16384+else-room-lt1+then-room-gt1024}

pub returns-then-units-lt1-clause-none : goal.returns-then-units-lt1-clause-none
returns-then-units-lt1-clause-none c = λ layout spells.
    let same = layout_is c.args.units.now c.args.room.now c.in_ok-units.units c.in_ok-room.room layout c.in_ok-units.ensures.number c.in_ok-room.ensures.number
    (omega arith) (omega arith) spells in
    let within = spells.within in
    elim c.then-units-lt1.branch [
      | then-units-lt1-via-then-units-lt1 w ↦ omega (arith, same.0, within.some_units)
      | then-units-lt1-via-else-units-lt1+then-units-gt16384 w ↦ omega (arith, same.0, within.most_units)
      | then-units-lt1-via-else-units-lt1+else-units-gt16384+then-room-lt1 w ↦ omega (arith, same.1, within.some_room)
      | then-units-lt1-via-else-units-lt1+else-units-gt16384+else-room-lt1+then-room-gt1024 w ↦ omega (arith, same.1, within.most_room)
    ]
