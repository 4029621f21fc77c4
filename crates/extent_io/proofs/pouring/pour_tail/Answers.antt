use Rattle.std.proofs.Common.{◌∙◌, sym, arith}
use Rattle.store_model.specs.Layout.{data_page, data_pages}
use Rattle.store_model.specs.Holds.{place_of}
use Rattle.extent_io.proofs.Pourings.{made-ok, tail-page-within, tail-some, took-no_tail, took-tail, wrote-tail}
use Rattle.extent_io.proofs.pouring.pour_tail.Goals as goal

pub overflow_add-data : goal.overflow_add-data
overflow_add-data g c =
    let within = tail-page-within (data_pages c.args.layout) c.in-Some.page (place_of c.args.state.now) c.requires.within (sym c.tail.ensures ∙ c.in-Some.is) in
    omega (arith, within, c.rules.ensures, c.data.ensures)

pub write-requires : goal.write-requires
write-requires g c =
    let within = tail-page-within (data_pages c.args.layout) c.in-Some.page (place_of c.args.state.now) c.requires.within (sym c.tail.ensures ∙ c.in-Some.is) in
    omega (arith, within, c.data.ensures, c.requires.disk)

pub returns-in-Some-clause-wrote : goal.returns-in-Some-clause-wrote
returns-in-Some-clause-wrote g c = record {
  keeps = c.write.ensures.keeps;
  wrote = λ tells. wrote-tail (data_page c.args.layout) (place_of c.args.state.now) c.in-Some.page c.data.result _ _ (sym c.tail.ensures ∙ c.in-Some.is) c.data.ensures (c.write.ensures.images tells);
}

pub returns-in-Some-clause-calls : goal.returns-in-Some-clause-calls
returns-in-Some-clause-calls g c tells =
    let some = tail-some c.args.state.now.size c.args.state.now.tail c.in-Some.page c.rules-2.ensures.tail (sym c.tail.ensures ∙ c.in-Some.is) in
    made-ok c.write.result _ _ (c.write.ensures.counted.made tells)
    (λ made. took-tail c.args.state.now.size (g.D.Disk.calls c.args.disk.now) (g.D.Disk.calls c.write.new.self) some made)

pub returns-in-None-clause-calls : goal.returns-in-None-clause-calls
returns-in-None-clause-calls g c tells =
    took-no_tail c.args.state.now.size c.args.state.now.tail (g.D.Disk.calls c.args.disk.now) c.rules-2.ensures.tail (sym c.tail.ensures ∙ c.in-None.is)
