use Rattle.std.proofs.Common.{◌≡◌, arith}
use Rattle.store_model.specs.Layout.{data_page}
use Rattle.store_model.specs.Verify.{computed}
use Rattle.disk_model.proofs.DiskLaws.{Keeps-none, Keeps-then}
use Rattle.extent_io.proofs.Verifyings.{Verifying-fails, Verifying-next, Verifying-none, fails-as, took-all, took-no_link, told-other, told-same, took-link}
use Rattle.extent_io.proofs.ReadParts.{IsDamage-read, LeadsTo-read, Read-next, Read-none, damage-as}
use Rattle.extent_io.proofs.verifying.verify.Goals as goal

pub returns-then-ne-clause-damaged : goal.returns-then-ne-clause-damaged
returns-then-ne-clause-damaged g c tells link want got is =
    let disk = g.D.Disk in
    let number : c.loop-link.link ≡ link = cc is in
    let value : c.kept_value-want.result ≡ want = cc is in
    let other : c.in_ok-got.got ≡ got = cc is in
    fails-as (computed (disk.story c.args.disk.now).reads (data_page c.args.layout) c.args.state.now) c.args.state.now c.loop-link.link link c.kept_value-want.result want c.in_ok-got.got got
    (Verifying-fails disk.tells (data_page c.args.layout) c.args.state.now c.loop-link.link (disk.story c.args.disk.now) (disk.story c.loop-link.disk)
    c.kept_value-want.result c.in_ok-got.got tells (omega (arith, c.last_link-last.ensures.value)) c.kept_value-want.ensures
    (told-other c.kept_value-want.result c.in_ok-got.got c.ne.result c.if-ne.true c.ne.ensures) c.loop-link.invariant.0 (c.in_ok-got.ensures.value tells))
    number value other

pub returns-then-ne-clause-damage : goal.returns-then-ne-clause-damage
returns-then-ne-clause-damage g c link want got is =
    let number : c.loop-link.link ≡ link = cc is in
    let value : c.kept_value-want.result ≡ want = cc is in
    let other : c.in_ok-got.got ≡ got = cc is in
    damage-as c.args.state.now c.loop-link.link link c.kept_value-want.result want c.in_ok-got.got got
    (IsDamage-read c.args.state.now c.loop-link.link c.kept_value-want.result c.in_ok-got.got c.rules.ensures (omega (arith, c.last_link-last.ensures.value)) c.kept_value-want.ensures
    (told-other c.kept_value-want.result c.in_ok-got.got c.ne.result c.if-ne.true c.ne.ensures) c.loop-link.invariant.2 c.in_ok-got.ensures.over)
    number value other

pub returns-clause-led : goal.returns-clause-led
returns-clause-led g c is = LeadsTo-read c.args.state.now c.loop-link.link (omega (arith, c.last_link-last.ensures.value)) c.loop-link.invariant.2

pub loop-link-preserved : goal.loop-link-preserved
loop-link-preserved g c =
    let disk = g.D.Disk in
    let kept = c.loop-link.invariant.1 in (
      Verifying-next disk.tells (data_page c.args.layout) c.args.state.now c.loop-link.link (disk.story c.args.disk.now) (disk.story c.loop-link.disk) (disk.story c.computed_value.new.disk)
          c.kept_value-want.result c.in_ok-got.got c.kept_value-want.ensures (told-same c.kept_value-want.result c.in_ok-got.got c.ne.result c.if-ne.false c.ne.ensures)
          c.loop-link.invariant.0 c.in_ok-got.ensures.value c.computed_value.ensures.only_reads.stayed,
      Keeps-then disk c.args.disk.now c.loop-link.disk c.computed_value.new.disk kept c.computed_value.ensures.only_reads.keeps,
      Read-next c.args.state.now c.loop-link.link c.kept_value-want.result c.in_ok-got.got c.rules.ensures (omega (arith, c.last_link-last.ensures.value)) c.kept_value-want.ensures
          (told-same c.kept_value-want.result c.in_ok-got.got c.ne.result c.if-ne.false c.ne.ensures) c.loop-link.invariant.2 c.in_ok-got.ensures.over,
      λ tells. took-link c.args.state.now c.loop-link.link (disk.calls c.args.disk.now) (disk.calls c.loop-link.disk) (disk.calls c.computed_value.new.disk)
          c.rules.ensures (omega (arith, c.last_link-last.ensures.value)) (c.loop-link.invariant.3 tells) (c.in_ok-got.ensures.reads tells),
    )

pub loop-link-init : goal.loop-link-init
loop-link-init g c =
    let disk = g.D.Disk in (
      Verifying-none disk.tells (data_page c.args.layout) c.args.state.now (disk.story c.args.disk.now),
      Keeps-none disk c.args.disk.now,
      Read-none c.args.state.now,
      λ tells. took-no_link c.args.state.now (disk.calls c.args.disk.now),
    )

pub returns-clause-reads : goal.returns-clause-reads
returns-clause-reads g c tells is =
    let disk = g.D.Disk in
    took-all c.args.state.now c.loop-link.link (disk.calls c.args.disk.now) (disk.calls c.loop-link.disk) (omega (arith, c.last_link-last.ensures.value)) (c.loop-link.invariant.3 tells)
