use Rattle.std.proofs.Common.{◌≡◌, ℕ, ◌+◌, ◌∙◌, Bool, List, [], length, drop, refl, sym, ap, subst, arith}
use Rattle.std.specs.Prelude.{◌==◌, ◌&&◌}
use Rattle.std.proofs.lemmas.List.{drop_all}
use Rattle.disk_model.proofs.DiskLaws.{OnlyReads-then}
use Rattle.extent_io.proofs.Stills.{Reads-then}
use Rattle.meta_log.specs.Reads.{stored, stored_body}
use Rattle.meta_log.specs.declared.read.Body.{Body}
use Rattle.store_model.specs.Disk.{Image}
use Rattle.store_model.specs.Layout.{Layout}
use Rattle.store_model.specs.Reading.{IsBadFrame, Takes}
use Rattle.recover.specs.Frames.{DroppedBehind, KeptBehind, KeptBy, held_of}
use Rattle.recover.proofs.Droppings.{Telling, Telling-all, Telling-body, behind-none}
use Rattle.recover.proofs.Followings.{Following-bad, Following-next, bad-there, stored-from, taken-there}
use Rattle.recover.proofs.frames.Held.take_bodies.Goals.{then-is_closed, else-is_closed}
use Rattle.recover.proofs.frames.Held.take_bodies.Goals as goal

pub returns-then-not-is_taken-clause-bad : goal.returns-then-not-is_taken-clause-bad
returns-then-not-is_taken-clause-bad g c tells =
    let disk = g.D.Disk in
    let image : Image = (disk.story c.args.disk.now).reads in
    let layout = c.args.self.now.layout in
    let so_far = c.taken.invariant in
    let same : (disk.story c.taken.disk).reads ≡ image = (so_far.3.stayed tells).reads in
    let is : c.if-is_closed.is_last ≡ (c.args.is_closed && (c.taken.i + 1 == length c.args.bodies.now)) =
    elim c.if-is_closed.branch [
      | then-is_closed w ↦ w.is_last-is ∙ ap (λ (n : ℕ). c.taken.i + 1 == n) w.len.ensures ∙ sym (ap (λ (b : Bool). b && (c.taken.i + 1 == length c.args.bodies.now)) w.if-is_closed.true)
      | else-is_closed w ↦ w.is_last-is ∙ w.if-is_closed.false ∙ sym (ap (λ (b : Bool). b && (c.taken.i + 1 == length c.args.bodies.now)) w.if-is_closed.false)
    ] in (
      refl,
      Following-bad disk.tells (KeptBehind c.args.is_closed image layout) (held_of c.args.self.now) (held_of c.taken.self) (stored c.args.bodies.now) (stored (drop c.taken.i c.args.bodies.now))
          (stored (drop (c.taken.i + 1) c.args.bodies.now)) (stored_body c.get-body.result.now) so_far.0 (stored-from c.args.bodies.now c.taken.i c.get-body.result.now c.get-body.ensures) tells
          (bad-there c.args.is_closed c.if-is_closed.is_last image layout c.args.bodies.now c.taken.i (held_of c.taken.self) (stored_body c.get-body.result.now) (omega (arith, c.taken-test.true, c.taken.auto.i-end, c.len-i-end.ensures)) is
          (subst (λ (l : Layout). IsBadFrame (KeptBy c.if-is_closed.is_last image l) (held_of c.taken.self) (stored_body c.get-body.result.now)) so_far.2
          (subst (λ (pages : Image). IsBadFrame (KeptBy c.if-is_closed.is_last pages c.taken.self.layout) (held_of c.taken.self) (stored_body c.get-body.result.now)) same
          (c.in_ok-is_taken.ensures.bad tells c.if-not-is_taken.true)))),
    )

pub taken-preserved : goal.taken-preserved
taken-preserved g c =
    let disk = g.D.Disk in
    let image : Image = (disk.story c.args.disk.now).reads in
    let layout = c.args.self.now.layout in
    let so_far = c.taken.invariant in
    let is : c.if-is_closed.is_last ≡ (c.args.is_closed && (c.taken.i + 1 == length c.args.bodies.now)) =
    elim c.if-is_closed.branch [
      | then-is_closed w ↦ w.is_last-is ∙ ap (λ (n : ℕ). c.taken.i + 1 == n) w.len.ensures ∙ sym (ap (λ (b : Bool). b && (c.taken.i + 1 == length c.args.bodies.now)) w.if-is_closed.true)
      | else-is_closed w ↦ w.is_last-is ∙ w.if-is_closed.false ∙ sym (ap (λ (b : Bool). b && (c.taken.i + 1 == length c.args.bodies.now)) w.if-is_closed.false)
    ] in (
      Following-next disk.tells (KeptBehind c.args.is_closed image layout) (held_of c.args.self.now) (held_of c.taken.self) (held_of c.take_body.new.self) (stored c.args.bodies.now)
          (stored (drop c.taken.i c.args.bodies.now)) (stored (drop (c.taken.i + 1) c.args.bodies.now)) (stored_body c.get-body.result.now) so_far.0
          (stored-from c.args.bodies.now c.taken.i c.get-body.result.now c.get-body.ensures)
          (λ tells.
          let same : (disk.story c.taken.disk).reads ≡ image = (so_far.3.stayed tells).reads in
          taken-there c.args.is_closed c.if-is_closed.is_last image layout c.args.bodies.now c.taken.i (held_of c.taken.self) (stored_body c.get-body.result.now) (held_of c.take_body.new.self)
          (omega (arith, c.taken-test.true, c.taken.auto.i-end, c.len-i-end.ensures)) is
          (subst (λ (l : Layout). Takes (KeptBy c.if-is_closed.is_last image l) (held_of c.taken.self) (stored_body c.get-body.result.now) (held_of c.take_body.new.self)) so_far.2
          (subst (λ (pages : Image). Takes (KeptBy c.if-is_closed.is_last pages c.taken.self.layout) (held_of c.taken.self) (stored_body c.get-body.result.now) (held_of c.take_body.new.self)) same
          (c.in_ok-is_taken.ensures.taken tells c.if-not-is_taken.false)))),
      c.in_ok-is_taken.ensures.sound c.if-not-is_taken.false,
      c.in_ok-is_taken.ensures.layout ∙ so_far.2,
      OnlyReads-then disk c.args.disk.now c.taken.disk c.take_body.new.disk so_far.3 c.in_ok-is_taken.ensures.only,
      λ tells.
          Telling-body c.args.is_closed c.if-is_closed.is_last image (disk.story c.taken.disk).reads layout c.taken.self.layout c.args.self.now.dropped c.taken.self.dropped c.take_body.new.self.dropped
          c.args.bodies.now c.taken.i (stored_body c.get-body.result.now) (omega (arith, c.taken-test.true, c.taken.auto.i-end, c.len-i-end.ensures)) is
          (stored-from c.args.bodies.now c.taken.i c.get-body.result.now c.get-body.ensures) (so_far.3.stayed tells).reads so_far.2 (so_far.4 tells)
          (c.in_ok-is_taken.ensures.dropped tells c.if-not-is_taken.false),
      λ tells. Reads-then (disk.calls c.args.disk.now) (disk.calls c.taken.disk) (disk.calls c.take_body.new.disk) (so_far.5 tells) (c.in_ok-is_taken.ensures.still tells),
    )

pub returns-clause-dropped : goal.returns-clause-dropped
returns-clause-dropped g c tells =
    let image : Image = (g.D.Disk.story c.args.disk.now).reads in
    let none : drop c.taken.i c.args.bodies.now ≡ [] = drop_all c.taken.i c.args.bodies.now (omega (arith, c.taken-test.false, c.taken.auto.i-end, c.len-i-end.ensures)) in
    Telling-all (DroppedBehind c.args.is_closed image c.args.self.now.layout) c.args.self.now.dropped c.taken.self.dropped (stored c.args.bodies.now)
    (subst (λ (left : List Body). Telling (DroppedBehind c.args.is_closed image c.args.self.now.layout) c.args.self.now.dropped c.taken.self.dropped (stored c.args.bodies.now) (stored left)) none
    (c.taken.invariant.4 tells))
    (behind-none c.args.is_closed image c.args.self.now.layout)
