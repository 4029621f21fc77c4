use Rattle.std.proofs.Common.{◌+◌, length, ap, refl, arith}
use Rattle.check_point.specs.Writers.{parts_of}
use Rattle.check_point.proofs.Takings.{HasTaken-push, Stand-push}
use Rattle.check_point.proofs.half.HalfWriter.put.Goals as goal

pub returns-clause-tuples : goal.returns-clause-tuples
returns-clause-tuples g c tuples had =
    HasTaken-push c.args.self.now (parts_of c.self.inside)
    (record {
      layout = c.self.inside.layout;
      half = c.self.inside.half;
      last = c.self.inside.last;
      count = c.self.inside.count + 1;
      taken = c.self.inside.taken + c.encoded-length.result;
      page = c.append.new.page;
    })
    c.encode_into.new.out tuples c.args.key.now c.args.state.now c.self.view_is c.encode_into.ensures refl
    (omega (arith, c.encoded-length.ensures.value, ap length c.encode_into.ensures)) c.in_ok-append.ensures.page had

pub returns-clause-reads : goal.returns-clause-reads
returns-clause-reads g c tells tuples had stood =
    let disk = g.D.Disk in
    Stand-push c.args.self.now (parts_of c.self.inside) c.states.result (c.self.inside.taken + c.encoded-length.result) c.encode_into.new.out
    tuples c.args.key.now c.args.state.now (disk.story c.args.disk.now).reads (disk.story c.append.new.disk).reads c.self.view_is c.states.ensures c.encode_into.ensures
    (omega (arith, c.encoded-length.ensures.value, ap length c.encode_into.ensures)) (c.in_ok-append.ensures.reads tells) had stood
