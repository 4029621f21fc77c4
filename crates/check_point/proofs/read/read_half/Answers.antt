use Rattle.std.proofs.Common.{◌∙◌}
use Rattle.std.proofs.lemmas.Result.{err_from_is_err_and}
use Rattle.check_point.proofs.HalfReads.{half-found, tuples-refused}
use Rattle.check_point.proofs.read.read_half.Goals as goal

pub returns-in_err-states-clause-refused : goal.returns-in_err-states-clause-refused
returns-in_err-states-clause-refused g c tells =
    let disk = g.D.Disk in
    let p = err_from_is_err_and c.from_residual-in_err-states.result c.from_residual-in_err-states.ensures.1 in
    rw (p.1, p.2)
    (tuples-refused (disk.size c.args.disk.now) c.args.half (disk.story c.args.disk.now) (disk.story c.read_header.new.disk).reads c.in_ok-header.header c.data_pages.result
    c.as_slice.result.now _ (c.in_ok-header.ensures.told tells) (c.in_ok-header.ensures.only.stayed tells).reads
    (c.as_slice.ensures ∙ c.in_ok-bytes.ensures.bytes tells) c.data_pages.ensures.value c.in_err-states.ensures.refused)

pub returns-clause-found : goal.returns-clause-found
returns-clause-found g c tells =
    let disk = g.D.Disk in
    half-found (disk.size c.args.disk.now) c.args.half (disk.story c.args.disk.now) (disk.story c.read_header.new.disk).reads c.in_ok-header.header c.data_pages.result
    c.as_slice.result.now c.in_ok-states.states (c.in_ok-header.ensures.told tells) (c.in_ok-header.ensures.only.stayed tells).reads
    (c.as_slice.ensures ∙ c.in_ok-bytes.ensures.bytes tells) c.data_pages.ensures.value c.in_ok-states.ensures.are c.in_ok-states.ensures.count c.in_ok-states.ensures.all
