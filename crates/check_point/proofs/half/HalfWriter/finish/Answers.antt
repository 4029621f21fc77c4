use Rattle.std.specs.FinMap.{entries}
use Rattle.store_model.specs.Layout.{header_page, states_page}
use Rattle.check_point.proofs.Areas.{SpellsHalf-written, both-ok}
use Rattle.check_point.proofs.half.HalfWriter.finish.Goals as goal

pub returns-clause-spells : goal.returns-clause-spells
returns-clause-spells g c tells states half had stood =
    let disk = g.D.Disk in
    both-ok c.write_end.result
    (λ told stands. SpellsHalf-written c.args.self.layout (states_page c.args.self.layout c.args.self.half) c.args.self.last (header_page c.args.self.half) states
    (disk.story c.write_end.new.disk).reads half told stands)
    (c.write_end.ensures.header tells (entries states) had) (c.write_end.ensures.states tells (entries states) had stood)
