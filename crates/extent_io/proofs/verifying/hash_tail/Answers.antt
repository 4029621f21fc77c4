use Rattle.std.proofs.Common.{◌∙◌, sym, arith}
use Rattle.store_model.specs.Layout.{data_pages}
use Rattle.store_model.specs.Holds.{place_of}
use Rattle.extent_io.proofs.Pourings.{tail-page-within}
use Rattle.extent_io.proofs.verifying.hash_tail.Goals as goal

pub overflow_add-data : goal.overflow_add-data
overflow_add-data g c =
    let within = tail-page-within (data_pages c.args.layout) c.in-Some.at (place_of c.args.state.now) c.requires.within (sym c.tail.ensures ∙ c.in-Some.is) in
    omega (arith, within, c.rules-2.ensures, c.data.ensures)

pub read-requires : goal.read-requires
read-requires g c =
    let within = tail-page-within (data_pages c.args.layout) c.in-Some.at (place_of c.args.state.now) c.requires.within (sym c.tail.ensures ∙ c.in-Some.is) in
    omega (arith, within, c.data.ensures, c.requires.disk)
