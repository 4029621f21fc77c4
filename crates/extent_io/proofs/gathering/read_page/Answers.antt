use Rattle.std.proofs.Common.{◌+◌, ◌∙◌, sym, ap, arith, ℕ}
use Rattle.std.proofs.lemmas.Result.{on_ok_weaker}
use Rattle.store_model.specs.Layout.{data_page, data_pages}
use Rattle.store_model.specs.Holds.{place_of}
use Rattle.extent_io.proofs.Gatherings.{begins-full, begins-tail}
use Rattle.extent_io.proofs.Pourings.{tail-page-within}
use Rattle.extent_io.proofs.gathering.read_page.Goals as goal

pub returns-then-number-full_pages-clause-bytes : goal.returns-then-number-full_pages-clause-bytes
returns-then-number-full_pages-clause-bytes g c tells =
    let disk = g.D.Disk in
    on_ok_weaker c.read.result
    (λ read content holds. begins-full (data_page c.args.layout) c.args.state.now (disk.story c.args.disk.now).reads c.args.number c.stand-at.result
    c.read.new.into content holds (omega arith) c.stand-at.ensures.stands (read ∙ ap (λ (n : ℕ). (disk.story c.args.disk.now).reads (n + c.stand-at.result)) c.data.ensures))
    (c.read.ensures.bytes tells)

pub overflow_add-data-in-Some : goal.overflow_add-data-in-Some
overflow_add-data-in-Some g c =
    let within = tail-page-within (data_pages c.args.layout) c.in-Some.page (place_of c.args.state.now) c.requires.within (sym c.tail.ensures ∙ c.in-Some.is) in
    omega (arith, within, c.rules-2.ensures, c.data-in-Some.ensures)

pub read-requires-in-Some : goal.read-requires-in-Some
read-requires-in-Some g c =
    let within = tail-page-within (data_pages c.args.layout) c.in-Some.page (place_of c.args.state.now) c.requires.within (sym c.tail.ensures ∙ c.in-Some.is) in
    omega (arith, within, c.data-in-Some.ensures, c.requires.disk)

pub returns-in-Some-clause-bytes : goal.returns-in-Some-clause-bytes
returns-in-Some-clause-bytes g c tells =
    let disk = g.D.Disk in
    on_ok_weaker c.read-in-Some.result
    (λ read content holds. begins-tail (data_page c.args.layout) c.args.state.now (disk.story c.args.disk.now).reads c.args.number c.in-Some.page
    c.read-in-Some.new.into content holds (omega arith) c.requires.number (sym c.tail.ensures ∙ c.in-Some.is) (read ∙ ap (λ (n : ℕ). (disk.story c.args.disk.now).reads (n + c.in-Some.page)) c.data-in-Some.ensures))
    (c.read-in-Some.ensures.bytes tells)
