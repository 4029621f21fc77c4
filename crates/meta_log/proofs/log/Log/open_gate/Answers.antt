use Rattle.std.proofs.Common.{◌+◌, arith}
use Rattle.meta_log.specs.Logs.{parts_of}
use Rattle.meta_log.proofs.Logs.{OnlyWrites-gate}
use Rattle.meta_log.proofs.log.Log.open_gate.Goals as goal

pub returns-in_err-write-clause-wrote : goal.returns-in_err-write-clause-wrote
returns-in_err-write-clause-wrote g c =
    OnlyWrites-gate g.D.Disk (parts_of c.self.inside) c.args.self.now (c.log.result + c.self.inside.gate) c.args.disk.now c.write.new.self c.self.view_is
    (omega (arith, c.log.ensures)) c.write.ensures.keeps c.write.ensures.images

pub returns-clause-wrote : goal.returns-clause-wrote
returns-clause-wrote g c =
    OnlyWrites-gate g.D.Disk (parts_of c.self.inside) c.args.self.now (c.log.result + c.self.inside.gate) c.args.disk.now c.write.new.self c.self.view_is
    (omega (arith, c.log.ensures)) c.write.ensures.keeps c.write.ensures.images
