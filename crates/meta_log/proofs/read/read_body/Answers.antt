use Rattle.std.proofs.Common.{arith, refl}
use Rattle.meta_log.proofs.Readings.{body-found, none-past, none-told}
use Rattle.meta_log.proofs.read.read_body.Goals as goal

pub returns-then-gate-pages_for-gt511-clause-found : goal.returns-then-gate-pages_for-gt511-clause-found
returns-then-gate-pages_for-gt511-clause-found g c tells bytes body =
    none-past (g.D.Disk.story c.args.disk.now) c.args.half c.args.gate c.log.result c.in-Some.count c.pages_for.result c.read.new.into c.log.ensures (c.in_ok-read.ensures.bytes tells)
    c.in-Some.ensures.front c.in-Some.ensures.most c.pages_for.ensures (omega (arith, c.if-gate-pages_for-gt511.true)) bytes body

pub returns-in_ok-bytes-in-Some-clause-found : goal.returns-in_ok-bytes-in-Some-clause-found
returns-in_ok-bytes-in-Some-clause-found g c tells =
    let disk = g.D.Disk in
    body-found (disk.story c.args.disk.now) (disk.story c.read.new.self) c.args.half c.args.gate c.log.result c.in-Some.count c.pages_for.result c.read.new.into
    c.in_ok-bytes-in-Some.bytes c.log.ensures (c.in_ok-read.ensures.bytes tells) (c.read.ensures.images tells).reads
    c.in-Some.ensures.front c.in-Some.ensures.least c.pages_for.ensures (omega (arith, c.if-gate-pages_for-gt511.false)) c.in_ok-bytes-in-Some.ensures.long
    (c.in_ok-bytes-in-Some.ensures.bytes tells)

pub returns-in-None-clause-found : goal.returns-in-None-clause-found
returns-in-None-clause-found g c tells bytes body =
    none-told (g.D.Disk.story c.args.disk.now) c.args.half c.args.gate c.log.result c.read.new.into c.log.ensures (c.in_ok-read.ensures.bytes tells)
    (c.in-None.ensures.none refl) bytes body
