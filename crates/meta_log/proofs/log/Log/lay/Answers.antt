use Rattle.std.proofs.Common.{◌+◌, length, arith}
use Rattle.store_model.specs.Log.{body_pages}
use Rattle.meta_log.specs.Logs.{parts_of}
use Rattle.meta_log.proofs.Logs.{OnlyWrites-log, reads-closed}
use Rattle.meta_log.proofs.log.Log.lay.Goals as goal

pub returns-in_err-write_pages-clause-wrote : goal.returns-in_err-write_pages-clause-wrote
returns-in_err-write_pages-clause-wrote g c =
    OnlyWrites-log g.D.Disk (parts_of c.self.inside) c.args.self.now (c.log.result + c.self.inside.gate + 1) (c.pages_of-need.result + 1) (body_pages (length c.args.body.now) + 1)
    c.args.disk.now c.write_pages.new.disk c.self.view_is (omega (arith, c.log.ensures)) (omega (arith, c.pages_of-need.ensures)) c.write_pages.ensures.wrote

pub returns-clause-closed : goal.returns-clause-closed
returns-clause-closed g c tells =
    reads-closed (parts_of c.self.inside) c.args.self.now (c.log.result + c.self.inside.gate + 1) (c.pages_of-need.result + 1) c.args.body.now (g.D.Disk.story c.write_pages.new.disk).reads
    c.self.view_is (omega (arith, c.log.ensures)) (omega (arith, c.pages_of-need.ensures)) (c.in_ok-write_pages.ensures.reads tells)

pub returns-clause-wrote : goal.returns-clause-wrote
returns-clause-wrote g c =
    OnlyWrites-log g.D.Disk (parts_of c.self.inside) c.args.self.now (c.log.result + c.self.inside.gate + 1) (c.pages_of-need.result + 1) (body_pages (length c.args.body.now) + 1)
    c.args.disk.now c.write_pages.new.disk c.self.view_is (omega (arith, c.log.ensures)) (omega (arith, c.pages_of-need.ensures)) c.write_pages.ensures.wrote
