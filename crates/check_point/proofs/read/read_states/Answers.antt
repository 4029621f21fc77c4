use Rattle.std.proofs.Common.{rules}
use Rattle.check_point.proofs.HalfReads.{states-read}
use Rattle.store_model.specs.Layout.{states_page}
use Rattle.check_point.proofs.read.read_states.Goals as goal

pub returns-clause-bytes : goal.returns-clause-bytes
returns-clause-bytes g c tells =
    states-read (g.D.Disk.story c.args.disk.now) (states_page c.args.layout c.args.half) c.states.result c.args.count c.args.layout.room
    c.reserve.new.self c.append_pages.new.into c.states.ensures (search rules) c.requires.room (c.in_ok-append_pages.ensures.bytes tells)
