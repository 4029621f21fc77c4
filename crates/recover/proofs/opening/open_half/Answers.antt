use Rattle.std.proofs.Common.{ℕ, List, sym, subst, arith}
use Rattle.std.specs.FinMap.{from_sorted}
use Rattle.check_point.specs.Tuples.{model_tuples}
use Rattle.store_model.specs.Half.{IsHalf}
use Rattle.store_model.specs.HalfRefusals.{FindsHalf}
use Rattle.store_model.specs.Key.{key_order}
use Rattle.store_model.specs.State.{State}
use Rattle.recover.proofs.Bodies.{half-few}
use Rattle.recover.proofs.Halves.{entries-read, half-read}
use Rattle.recover.proofs.opening.open_half.Goals as goal

pub relation_of-requires : goal.relation_of-requires
relation_of-requires g c =
    let fit = c.in-Ok.ensures.fits in
    let tuples : List (List ℕ × State) = model_tuples c.in-Ok.found.states in
    let half : IsHalf c.in-Ok.found.layout c.in-Ok.found.last (from_sorted {R = key_order} tuples) =
    half-read c.in-Ok.found.layout c.in-Ok.found.last tuples c.rules.ensures fit.most fit.each fit.born fit.rise fit.room in
    (from_sorted {R = key_order} tuples, entries-read tuples fit.rise, omega (arith, half-few c.in-Ok.found.layout c.in-Ok.found.last (from_sorted {R = key_order} tuples) half))

pub returns-clause-found : goal.returns-clause-found
returns-clause-found g c tells =
    let fit = c.in-Ok.ensures.fits in
    let tuples : List (List ℕ × State) = model_tuples c.in-Ok.found.states in
    let disk = g.D.Disk in
    subst (FindsHalf (disk.size c.args.disk.now) (disk.story c.args.disk.now).reads c.args.half c.in-Ok.found.layout c.in-Ok.found.last)
    (sym (c.in_ok-relation.ensures (from_sorted {R = key_order} tuples) (entries-read tuples fit.rise))) (c.in-Ok.ensures.found tells)

pub returns-clause-sound : goal.returns-clause-sound
returns-clause-sound g c =
    let fit = c.in-Ok.ensures.fits in
    let tuples : List (List ℕ × State) = model_tuples c.in-Ok.found.states in
    subst (IsHalf c.in-Ok.found.layout c.in-Ok.found.last)
    (sym (c.in_ok-relation.ensures (from_sorted {R = key_order} tuples) (entries-read tuples fit.rise)))
    (half-read c.in-Ok.found.layout c.in-Ok.found.last tuples c.rules.ensures fit.most fit.each fit.born fit.rise fit.room)
