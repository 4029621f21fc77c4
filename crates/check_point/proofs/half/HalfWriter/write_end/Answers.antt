use Rattle.std.proofs.lemmas.Result.{on_ok_weaker}
use Rattle.check_point.specs.Writers.{parts_of}
use Rattle.check_point.proofs.Finishings.{OnlyWrites-gate, OnlyWrites-header, OnlyWrites-states, gate-stands, header-stands}
use Rattle.check_point.proofs.half.HalfWriter.write_end.Goals as goal

pub returns-in_err-close-clause-wrote : goal.returns-in_err-close-clause-wrote
returns-in_err-close-clause-wrote g c =
    OnlyWrites-states g.D.Disk (parts_of c.self.inside) c.args.self.now c.states.result c.args.disk.now c.close.new.disk c.self.view_is c.states.ensures
    c.self.invariant.most c.close.ensures.wrote

pub returns-in_err-write-clause-wrote : goal.returns-in_err-write-clause-wrote
returns-in_err-write-clause-wrote g c =
    OnlyWrites-header g.D.Disk (parts_of c.self.inside) c.args.self.now c.header.result c.args.disk.now c.close.new.disk c.write.new.self c.self.view_is c.header.ensures
    (OnlyWrites-states g.D.Disk (parts_of c.self.inside) c.args.self.now c.states.result c.args.disk.now c.close.new.disk c.self.view_is c.states.ensures
    c.self.invariant.most c.close.ensures.wrote)
    c.write.ensures.keeps c.write.ensures.images

pub returns-clause-header : goal.returns-clause-header
returns-clause-header g c tells tuples had =
    let disk = g.D.Disk in
    on_ok_weaker c.write-2.result
    (λ closed. header-stands (parts_of c.self.inside) c.args.self.now c.header.result c.log.result c.header-header.result (disk.story c.close.new.disk).reads
    (disk.story c.write.new.self).reads (disk.story c.write-2.new.self).reads tuples c.self.view_is c.header.ensures c.log.ensures c.header-header.ensures
    (c.in_ok-write.ensures.bytes tells) closed had)
    (c.write-2.ensures.bytes tells)

pub returns-clause-gate : goal.returns-clause-gate
returns-clause-gate g c tells =
    let disk = g.D.Disk in
    on_ok_weaker c.write-2.result
    (λ closed. gate-stands (parts_of c.self.inside) c.args.self.now c.log.result (disk.story c.write.new.self).reads (disk.story c.write-2.new.self).reads
    c.self.view_is c.log.ensures closed)
    (c.write-2.ensures.bytes tells)

pub returns-clause-wrote : goal.returns-clause-wrote
returns-clause-wrote g c =
    OnlyWrites-gate g.D.Disk (parts_of c.self.inside) c.args.self.now c.log.result c.args.disk.now c.write.new.self c.write-2.new.self c.self.view_is c.log.ensures
    (OnlyWrites-header g.D.Disk (parts_of c.self.inside) c.args.self.now c.header.result c.args.disk.now c.close.new.disk c.write.new.self c.self.view_is c.header.ensures
    (OnlyWrites-states g.D.Disk (parts_of c.self.inside) c.args.self.now c.states.result c.args.disk.now c.close.new.disk c.self.view_is c.states.ensures
    c.self.invariant.most c.close.ensures.wrote)
    c.write.ensures.keeps c.write.ensures.images)
    c.write-2.ensures.keeps c.write-2.ensures.images
