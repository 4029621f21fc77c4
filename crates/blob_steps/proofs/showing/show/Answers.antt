use Rattle.std.proofs.Common.{refl, sym}
use Rattle.std.specs.FinMap.{get}
use Rattle.blob_steps.proofs.Values.{held-of, object-of, shown-at, shown-of, whole-of}
use Rattle.blob_steps.proofs.showing.show.Goals as goal

pub returns-in-Get-clause-shown : goal.returns-in-Get-clause-shown
returns-in-Get-clause-shown g c =
    rw c.in-Get.is
    (shown-at (get c.args.vault.now.memory.relation.states c.args.key.now) c.in-Some.state.now c.read_value.result (sym c.in-Some.ensures)
    (c.read_value.ensures.shown c.in-Some.state.now (sym c.in-Some.ensures)))

pub returns-in-Get-clause-line : goal.returns-in-Get-clause-line
returns-in-Get-clause-line g c = λ tells objects same all.
    let vault = c.args.vault.now in
    let states = vault.memory.relation.states in
    let state = c.in-Some.state.now in
    let there = c.in-Some.ensures in
    let object = object-of states objects c.args.key.now state there same in
    rw c.in-Get.is
    (shown-of states objects c.args.key.now state there same object.0.content c.read_value.result refl
    (c.read_value.ensures.line tells state (sym there) object.0.content
    (held-of states objects c.args.key.now state there same (g.D.Disk.story vault.disk).reads vault.memory.layout all)))

pub returns-in-Get-clause-whole : goal.returns-in-Get-clause-whole
returns-in-Get-clause-whole g c = λ tells objects same all.
    let vault = c.args.vault.now in
    whole-of vault.memory.relation.states objects c.args.key.now c.in-Some.state.now c.in-Some.ensures same
    (g.D.Disk.story vault.disk).reads vault.memory.layout c.read_value.result all
    (c.read_value.ensures.fails tells c.in-Some.state.now (sym c.in-Some.ensures))
