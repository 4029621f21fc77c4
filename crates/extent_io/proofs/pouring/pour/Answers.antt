use Rattle.std.proofs.lemmas.Result.{on_ok_weaker}
use Rattle.store_model.specs.Layout.{data_page}
use Rattle.extent_io.proofs.Pourings.{Holds-poured, OnlyWrites-both, OnlyWrites-full, end-is}
use Rattle.extent_io.proofs.pouring.pour.Goals as goal

pub returns-in_err-pour_full-clause-wrote : goal.returns-in_err-pour_full-clause-wrote
returns-in_err-pour_full-clause-wrote g c =
    OnlyWrites-full g.D.Disk c.args.layout c.args.state.now c.args.from_page c.args.disk.now c.pour_full.new.disk c.pour_full.ensures.wrote

pub returns-clause-holds : goal.returns-clause-holds
returns-clause-holds g c tells content size is front =
    let disk = g.D.Disk in
    on_ok_weaker c.pour_tail.result
    (λ filled. Holds-poured (data_page c.args.layout) c.args.state.now c.args.from_page content c.args.rest.now c.as_chunks.result.1.now c.as_chunks.result.0.now
    (disk.story c.args.disk.now).reads (disk.story c.pour_full.new.disk).reads (disk.story c.pour_tail.new.disk).reads
    c.rules.ensures c.requires.apart size c.requires.from c.requires.rest is front (c.pour_full.ensures.wrote.wrote tells).reads (c.pour_tail.ensures.wrote.wrote tells).reads
    c.as_chunks.ensures.front (c.in_ok-pour_full.ensures.reads tells) (end-is c.args.rest.now c.as_chunks.result.1.now c.as_chunks.ensures.back) filled)
    (c.pour_tail.ensures.reads tells)

pub returns-clause-wrote : goal.returns-clause-wrote
returns-clause-wrote g c =
    OnlyWrites-both g.D.Disk c.args.layout c.args.state.now c.args.from_page c.args.disk.now c.pour_full.new.disk c.pour_tail.new.disk
    c.pour_full.ensures.wrote c.pour_tail.ensures.wrote
