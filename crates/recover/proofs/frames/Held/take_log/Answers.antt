use Rattle.std.proofs.Common.{◌≡◌, refl, subst, true, false}
use Rattle.std.proofs.lemmas.Result.{MatchResult-weaker, on_ok_weaker}
use Rattle.meta_log.specs.Reads.{IsRefused, stored}
use Rattle.store_model.specs.Disk.{Image}
use Rattle.store_model.specs.Reading.{TakesEach}
use Rattle.recover.specs.Faults.{IsFirstBadFault}
use Rattle.recover.specs.Frames.{Adds, DroppedBehind, KeptBehind, held_of}
use Rattle.recover.proofs.LogTakings.{refused-closed, refused-gate, takes-closed}
use Rattle.recover.proofs.frames.Held.take_log.Goals as goal

pub returns-in-Ok-clause-taken : goal.returns-in-Ok-clause-taken
returns-in-Ok-clause-taken g c tells =
    let disk = g.D.Disk in
    let image : Image = (disk.story c.args.disk.now).reads in
    let same : (disk.story c.read.new.disk).reads ≡ image = (c.read.ensures.only.stayed tells).reads in
    on_ok_weaker c.take_bodies.result
    (λ takes. (
      stored c.in-Ok.found.bodies,
      (
        c.in-Ok.found.gate,
        (
          c.in-Ok.ensures.read tells,
          takes-closed image c.args.self.now.layout (held_of c.args.self.now) (stored c.in-Ok.found.bodies) (held_of c.take_bodies.new.self)
              (subst (λ (pages : Image). TakesEach (KeptBehind true pages c.args.self.now.layout) (held_of c.args.self.now) (stored c.in-Ok.found.bodies) (held_of c.take_bodies.new.self)) same takes),
        ),
      ),
    ))
    (c.take_bodies.ensures.taken tells)

pub returns-in-Ok-clause-refused : goal.returns-in-Ok-clause-refused
returns-in-Ok-clause-refused g c tells =
    let disk = g.D.Disk in
    let image : Image = (disk.story c.args.disk.now).reads in
    let same : (disk.story c.read.new.disk).reads ≡ image = (c.read.ensures.only.stayed tells).reads in
    MatchResult-weaker c.take_bodies.result (c.take_bodies.ensures.bad tells) (λ done t. t)
    (λ why bad. refused-closed image c.args.half (held_of c.args.self.now) (stored c.in-Ok.found.bodies) c.in-Ok.found.gate why (c.in-Ok.ensures.read tells)
    (subst (λ (pages : Image). IsFirstBadFault c.args.half (KeptBehind true pages c.args.self.now.layout) (held_of c.args.self.now) (stored c.in-Ok.found.bodies) why) same bad))

pub returns-in_ok-take_bodies-in-Err-BadFrame-clause-refused : goal.returns-in_ok-take_bodies-in-Err-BadFrame-clause-refused
returns-in_ok-take_bodies-in-Err-BadFrame-clause-refused g c tells =
    let disk = g.D.Disk in
    let image : Image = (disk.story c.args.disk.now).reads in
    let same : (disk.story c.read.new.disk).reads ≡ image = (c.read.ensures.only.stayed tells).reads in (
      refl,
      refused-gate image c.args.half (held_of c.args.self.now) (held_of c.take_bodies-in-Err-BadFrame.new.self) (stored c.in-Err-BadFrame.before) c.in-Err-BadFrame.page
          (subst (IsRefused image c.args.half) c.in-Err-BadFrame.field-0-is (c.in-Err-BadFrame.ensures.bad tells))
          (subst (λ (pages : Image). TakesEach (KeptBehind false pages c.args.self.now.layout) (held_of c.args.self.now) (stored c.in-Err-BadFrame.before) (held_of c.take_bodies-in-Err-BadFrame.new.self)) same
          (c.in_ok-take_bodies-in-Err-BadFrame.ensures.taken tells)),
    )

pub returns-in-Ok-clause-dropped : goal.returns-in-Ok-clause-dropped
returns-in-Ok-clause-dropped g c tells =
    let disk = g.D.Disk in
    let image : Image = (disk.story c.args.disk.now).reads in
    let same : (disk.story c.read.new.disk).reads ≡ image = (c.read.ensures.only.stayed tells).reads in
    on_ok_weaker c.take_bodies.result
    (λ adds. (
      stored c.in-Ok.found.bodies,
      (
        c.in-Ok.found.gate,
        (
          c.in-Ok.ensures.read tells,
          subst (λ (pages : Image). Adds (DroppedBehind true pages c.args.self.now.layout) (stored c.in-Ok.found.bodies) c.args.self.now.dropped c.take_bodies.new.self.dropped) same adds,
        ),
      ),
    ))
    (c.take_bodies.ensures.dropped tells)
