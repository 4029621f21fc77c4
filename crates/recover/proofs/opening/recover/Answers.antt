use Rattle.std.proofs.Common.{◌≡◌, ℕ, ◌+◌, ◌-◌, ◌≤◌, ◌∙◌, inl, refl, ap, subst, arith}
use Rattle.std.proofs.lemmas.Result.{err_from_is_err_and}
use Rattle.disk_model.specs.Disks.{OnlyReads}
use Rattle.disk_model.proofs.DiskLaws.{OnlyReads-then}
use Rattle.recover.specs.Faults.{IsOfLog}
use Rattle.recover.specs.Frames.{Adds, held_of}
use Rattle.store_model.specs.Disk.{Image}
use Rattle.store_model.specs.Drops.{AreDroppedLast}
use Rattle.store_model.specs.Half.{picked}
use Rattle.store_model.specs.HalfRefusals.{FindsHalf}
use Rattle.store_model.specs.LogReading.{HasBodies}
use Rattle.store_model.specs.Reading.{Gives, KeptIn, Opened, Reads, TakesEach}
use Rattle.store_model.specs.Images.{time_of}
use Rattle.store_model.specs.Layout.{Layout, total_pages}
use Rattle.store_model.proofs.OffLaws.{picked-half}
use Rattle.store_model.proofs.SurvivalLaws.{found-one}
use Rattle.recover.specs.Turns.{InTurn}
use Rattle.recover.proofs.Survivals.{Opening-read, Opening-turned, Opening-unsynced, failed-time}
use Rattle.recover.proofs.Openings.{Drops-found, FindsHalf-same, Gives-found, log-read, space-read, wrote-before}
use Rattle.recover.proofs.opening.recover.Goals as goal

pub returns-in_err-take_log-clause-refused : goal.returns-in_err-take_log-clause-refused
returns-in_err-take_log-clause-refused g c tells =
    let disk = g.D.Disk in
    let image : Image = (disk.story c.args.disk.now).reads in
    let held = held_of c.in_ok-held.held in
    let synced : (disk.story c.sync.new.self).reads ≡ image = (c.sync.ensures.images tells).reads in
    let half_read : (disk.story c.pick.new.disk).reads ≡ image = (c.pick.ensures.read.stayed tells).reads ∙ synced in
    let opened : (disk.story c.open_half.new.disk).reads ≡ image = (c.open_half.ensures.only.stayed tells).reads ∙ half_read in
    let picks : c.in_ok-half.half ≡ picked (image 0) = c.in_ok-half.ensures.picked tells ∙ ap (λ (pages : Image). picked (pages 0)) synced in
    let finds : FindsHalf (disk.size c.args.disk.now) image c.in_ok-half.half held.layout held.last held.states =
    FindsHalf-same (disk.size c.pick.new.disk) (disk.size c.args.disk.now) (disk.story c.pick.new.disk).reads image c.in_ok-half.half held
    (c.pick.ensures.read.keeps.size ∙ c.sync.ensures.keeps.size) half_read (c.in_ok-held.ensures.found tells) in
    let p = err_from_is_err_and c.from_residual-in_err-take_log.result c.from_residual-in_err-take_log.ensures.1 in
    rw (p.1, p.2)
    (log-read (disk.size c.args.disk.now) image c.in_ok-half.half held _ picks finds
    (subst (λ (pages : Image). IsOfLog pages c.in_ok-half.half held c.in_err-take_log.field-0.0) opened (c.in_err-take_log.ensures.refused tells)))

pub returns-in_err-check_apart-clause-refused : goal.returns-in_err-check_apart-clause-refused
returns-in_err-check_apart-clause-refused g c tells =
    let disk = g.D.Disk in
    let image : Image = (disk.story c.args.disk.now).reads in
    let held = held_of c.in_ok-held.held in
    let synced : (disk.story c.sync.new.self).reads ≡ image = (c.sync.ensures.images tells).reads in
    let half_read : (disk.story c.pick.new.disk).reads ≡ image = (c.pick.ensures.read.stayed tells).reads ∙ synced in
    let opened : (disk.story c.open_half.new.disk).reads ≡ image = (c.open_half.ensures.only.stayed tells).reads ∙ half_read in
    let picks : c.in_ok-half.half ≡ picked (image 0) = c.in_ok-half.ensures.picked tells ∙ ap (λ (pages : Image). picked (pages 0)) synced in
    let finds : FindsHalf (disk.size c.args.disk.now) image c.in_ok-half.half held.layout held.last held.states =
    FindsHalf-same (disk.size c.pick.new.disk) (disk.size c.args.disk.now) (disk.story c.pick.new.disk).reads image c.in_ok-half.half held
    (c.pick.ensures.read.keeps.size ∙ c.sync.ensures.keeps.size) half_read (c.in_ok-held.ensures.found tells) in
    let log = c.in_ok-take_log.ensures.taken tells in
    let gives : Gives (disk.size c.args.disk.now) image (held_of c.take_log.new.self) =
    Gives-found (disk.size c.args.disk.now) image c.in_ok-half.half held (held_of c.take_log.new.self) log.0 log.1.0 picks finds
    (subst (λ (pages : Image). HasBodies pages c.in_ok-half.half log.0 log.1.0) opened log.1.1.0)
    (subst (λ (pages : Image). TakesEach (KeptIn pages held.layout) held log.0 (held_of c.take_log.new.self)) opened log.1.1.1) in
    let p = err_from_is_err_and c.from_residual-in_err-check_apart.result c.from_residual-in_err-check_apart.ensures.1 in
    rw (p.1, p.2) (space-read (disk.size c.args.disk.now) image (held_of c.take_log.new.self) _ gives c.in_err-check_apart.ensures.twice)

pub returns-clause-found : goal.returns-clause-found
returns-clause-found g c tells =
    let disk = g.D.Disk in
    let image : Image = (disk.story c.args.disk.now).reads in
    let held = held_of c.in_ok-held.held in
    let synced : (disk.story c.sync.new.self).reads ≡ image = (c.sync.ensures.images tells).reads in
    let half_read : (disk.story c.pick.new.disk).reads ≡ image = (c.pick.ensures.read.stayed tells).reads ∙ synced in
    let opened : (disk.story c.open_half.new.disk).reads ≡ image = (c.open_half.ensures.only.stayed tells).reads ∙ half_read in
    let picks : c.in_ok-half.half ≡ picked (image 0) = c.in_ok-half.ensures.picked tells ∙ ap (λ (pages : Image). picked (pages 0)) synced in
    let finds : FindsHalf (disk.size c.args.disk.now) image c.in_ok-half.half held.layout held.last held.states =
    FindsHalf-same (disk.size c.pick.new.disk) (disk.size c.args.disk.now) (disk.story c.pick.new.disk).reads image c.in_ok-half.half held
    (c.pick.ensures.read.keeps.size ∙ c.sync.ensures.keeps.size) half_read (c.in_ok-held.ensures.found tells) in
    let log = c.in_ok-take_log.ensures.taken tells in
    let gives : Gives (disk.size c.args.disk.now) image (held_of c.take_log.new.self) =
    Gives-found (disk.size c.args.disk.now) image c.in_ok-half.half held (held_of c.take_log.new.self) log.0 log.1.0 picks finds
    (subst (λ (pages : Image). HasBodies pages c.in_ok-half.half log.0 log.1.0) opened log.1.1.0)
    (subst (λ (pages : Image). TakesEach (KeptIn pages held.layout) held log.0 (held_of c.take_log.new.self)) opened log.1.1.1) in
    (gives, c.in_ok-check_apart.ensures.apart)

pub returns-clause-turned : goal.returns-clause-turned
returns-clause-turned g c tells =
    let disk = g.D.Disk in
    let size : disk.size c.take_log.new.disk ≡ disk.size c.args.disk.now =
    c.take_log.ensures.only.keeps.size ∙ c.open_half.ensures.only.keeps.size ∙ c.pick.ensures.read.keeps.size ∙ c.sync.ensures.keeps.size in
    subst (λ (n : ℕ). Reads n (disk.story c.turn.new.disk).reads (Opened (held_of c.take_log.new.self))) size
    (c.in_ok-turn.ensures.reads tells c.in_ok-check_apart.ensures.apart)

pub returns-in_err-turn-clause-wrote : goal.returns-in_err-turn-clause-wrote
returns-in_err-turn-clause-wrote g c =
    let disk = g.D.Disk in
    let image : Image = (disk.story c.args.disk.now).reads in
    let held = held_of c.in_ok-held.held in
    let synced : OnlyReads disk c.args.disk.now c.sync.new.self = record { keeps = c.sync.ensures.keeps; stayed = c.sync.ensures.images } in
    let half_read : OnlyReads disk c.args.disk.now c.pick.new.disk = OnlyReads-then disk c.args.disk.now c.sync.new.self c.pick.new.disk synced c.pick.ensures.read in
    let opened : OnlyReads disk c.args.disk.now c.open_half.new.disk = OnlyReads-then disk c.args.disk.now c.pick.new.disk c.open_half.new.disk half_read c.open_half.ensures.only in
    let taken : OnlyReads disk c.args.disk.now c.take_log.new.disk = OnlyReads-then disk c.args.disk.now c.open_half.new.disk c.take_log.new.disk opened c.take_log.ensures.only in
    wrote-before disk (disk.size c.args.disk.now) image (picked (image 0)) (1 - c.in_ok-half.half) c.take_log.new.self.layout held c.args.disk.now c.take_log.new.disk c.turn.new.disk taken c.turn.ensures.wrote
    (omega arith) c.take_log.ensures.layout refl
    (λ tells.
    let picks : c.in_ok-half.half ≡ picked (image 0) = c.in_ok-half.ensures.picked tells ∙ ap (λ (pages : Image). picked (pages 0)) (synced.stayed tells).reads in
    subst (λ (h : ℕ). FindsHalf (disk.size c.args.disk.now) image h held.layout held.last held.states) picks
    (FindsHalf-same (disk.size c.pick.new.disk) (disk.size c.args.disk.now) (disk.story c.pick.new.disk).reads image c.in_ok-half.half held
    half_read.keeps.size (half_read.stayed tells).reads (c.in_ok-held.ensures.found tells)))

pub returns-clause-wrote : goal.returns-clause-wrote
returns-clause-wrote g c =
    let disk = g.D.Disk in
    let image : Image = (disk.story c.args.disk.now).reads in
    let held = held_of c.in_ok-held.held in
    let synced : OnlyReads disk c.args.disk.now c.sync.new.self = record { keeps = c.sync.ensures.keeps; stayed = c.sync.ensures.images } in
    let half_read : OnlyReads disk c.args.disk.now c.pick.new.disk = OnlyReads-then disk c.args.disk.now c.sync.new.self c.pick.new.disk synced c.pick.ensures.read in
    let opened : OnlyReads disk c.args.disk.now c.open_half.new.disk = OnlyReads-then disk c.args.disk.now c.pick.new.disk c.open_half.new.disk half_read c.open_half.ensures.only in
    let taken : OnlyReads disk c.args.disk.now c.take_log.new.disk = OnlyReads-then disk c.args.disk.now c.open_half.new.disk c.take_log.new.disk opened c.take_log.ensures.only in
    wrote-before disk (disk.size c.args.disk.now) image (picked (image 0)) (1 - c.in_ok-half.half) c.take_log.new.self.layout held c.args.disk.now c.take_log.new.disk c.turn.new.disk taken c.turn.ensures.wrote
    (omega arith) c.take_log.ensures.layout refl
    (λ tells.
    let picks : c.in_ok-half.half ≡ picked (image 0) = c.in_ok-half.ensures.picked tells ∙ ap (λ (pages : Image). picked (pages 0)) (synced.stayed tells).reads in
    subst (λ (h : ℕ). FindsHalf (disk.size c.args.disk.now) image h held.layout held.last held.states) picks
    (FindsHalf-same (disk.size c.pick.new.disk) (disk.size c.args.disk.now) (disk.story c.pick.new.disk).reads image c.in_ok-half.half held
    half_read.keeps.size (half_read.stayed tells).reads (c.in_ok-held.ensures.found tells)))

pub returns-clause-dropped : goal.returns-clause-dropped
returns-clause-dropped g c tells =
    let disk = g.D.Disk in
    let image : Image = (disk.story c.args.disk.now).reads in
    let held = held_of c.in_ok-held.held in
    let synced : (disk.story c.sync.new.self).reads ≡ image = (c.sync.ensures.images tells).reads in
    let half_read : (disk.story c.pick.new.disk).reads ≡ image = (c.pick.ensures.read.stayed tells).reads ∙ synced in
    let opened : (disk.story c.open_half.new.disk).reads ≡ image = (c.open_half.ensures.only.stayed tells).reads ∙ half_read in
    let picks : c.in_ok-half.half ≡ picked (image 0) = c.in_ok-half.ensures.picked tells ∙ ap (λ (pages : Image). picked (pages 0)) synced in
    let finds : FindsHalf (disk.size c.args.disk.now) image c.in_ok-half.half held.layout held.last held.states =
    FindsHalf-same (disk.size c.pick.new.disk) (disk.size c.args.disk.now) (disk.story c.pick.new.disk).reads image c.in_ok-half.half held
    (c.pick.ensures.read.keeps.size ∙ c.sync.ensures.keeps.size) half_read (c.in_ok-held.ensures.found tells) in
    let log = c.in_ok-take_log.ensures.dropped tells in
    Drops-found (disk.size c.args.disk.now) image c.in_ok-half.half held log.0 log.1.0 c.in_ok-held.held.dropped c.take_log.new.self.dropped picks finds
    (subst (λ (pages : Image). HasBodies pages c.in_ok-half.half log.0 log.1.0) opened log.1.1.0) c.in_ok-held.ensures.none
    (subst (λ (pages : Image). Adds (AreDroppedLast pages held.layout) log.0 c.in_ok-held.held.dropped c.take_log.new.self.dropped) opened log.1.1.1)

pub returns-in_err-sync-clause-survives : goal.returns-in_err-sync-clause-survives
returns-in_err-sync-clause-survives g c tells found since begins reads =
    let disk = g.D.Disk in
    let old = c.args.disk.now in
    let p = err_from_is_err_and c.from_residual.result c.from_residual.ensures.1 in
    rw p.1
    (Opening-unsynced disk old c.sync.new.self found (1 - picked ((disk.story old).reads 0)) since tells begins
    (record { keeps = c.sync.ensures.keeps; stayed = c.sync.ensures.images })
    (failed-time disk old c.sync.new.self c.in_err-sync.field-0.0 tells c.in_err-sync.ensures.counted) reads)

pub returns-in_err-half-clause-survives : goal.returns-in_err-half-clause-survives
returns-in_err-half-clause-survives g c tells found since begins reads =
    let disk = g.D.Disk in
    let old = c.args.disk.now in
    let mid = c.sync.new.self in
    let time : (disk.story mid).time ≡ time_of (disk.calls old) + 1 =
    c.sync.ensures.counted.time tells ∙ ap time_of (c.in_ok-sync.ensures.counted.made tells) ∙ omega arith in
    let p = err_from_is_err_and c.from_residual-in_err-half.result c.from_residual-in_err-half.ensures.1 in
    rw p.1
    (inl
    (Opening-read disk old mid c.pick.new.disk found (1 - picked ((disk.story old).reads 0)) since tells begins (c.sync.ensures.images tells) (c.in_ok-sync.ensures.settled tells) time reads
    c.pick.ensures.read))

pub returns-in_err-held-clause-survives : goal.returns-in_err-held-clause-survives
returns-in_err-held-clause-survives g c tells found since begins reads =
    let disk = g.D.Disk in
    let old = c.args.disk.now in
    let mid = c.sync.new.self in
    let time : (disk.story mid).time ≡ time_of (disk.calls old) + 1 =
    c.sync.ensures.counted.time tells ∙ ap time_of (c.in_ok-sync.ensures.counted.made tells) ∙ omega arith in
    let p = err_from_is_err_and c.from_residual-in_err-held.result c.from_residual-in_err-held.ensures.1 in
    rw p.1
    (inl
    (Opening-read disk old mid c.open_half.new.disk found (1 - picked ((disk.story old).reads 0)) since tells begins (c.sync.ensures.images tells) (c.in_ok-sync.ensures.settled tells) time reads
    (OnlyReads-then disk mid c.pick.new.disk c.open_half.new.disk c.pick.ensures.read c.open_half.ensures.only)))

pub returns-in_err-take_log-clause-survives : goal.returns-in_err-take_log-clause-survives
returns-in_err-take_log-clause-survives g c tells found since begins reads =
    let disk = g.D.Disk in
    let old = c.args.disk.now in
    let mid = c.sync.new.self in
    let time : (disk.story mid).time ≡ time_of (disk.calls old) + 1 =
    c.sync.ensures.counted.time tells ∙ ap time_of (c.in_ok-sync.ensures.counted.made tells) ∙ omega arith in
    let p = err_from_is_err_and c.from_residual-in_err-take_log.result c.from_residual-in_err-take_log.ensures.1 in
    rw p.1
    (inl
    (Opening-read disk old mid c.take_log.new.disk found (1 - picked ((disk.story old).reads 0)) since tells begins (c.sync.ensures.images tells) (c.in_ok-sync.ensures.settled tells) time reads
    (OnlyReads-then disk mid c.open_half.new.disk c.take_log.new.disk (OnlyReads-then disk mid c.pick.new.disk c.open_half.new.disk c.pick.ensures.read c.open_half.ensures.only) c.take_log.ensures.only)))

pub returns-in_err-check_apart-clause-survives : goal.returns-in_err-check_apart-clause-survives
returns-in_err-check_apart-clause-survives g c tells found since begins reads =
    let disk = g.D.Disk in
    let old = c.args.disk.now in
    let mid = c.sync.new.self in
    let time : (disk.story mid).time ≡ time_of (disk.calls old) + 1 =
    c.sync.ensures.counted.time tells ∙ ap time_of (c.in_ok-sync.ensures.counted.made tells) ∙ omega arith in
    let p = err_from_is_err_and c.from_residual-in_err-check_apart.result c.from_residual-in_err-check_apart.ensures.1 in
    rw p.1
    (inl
    (Opening-read disk old mid c.take_log.new.disk found (1 - picked ((disk.story old).reads 0)) since tells begins (c.sync.ensures.images tells) (c.in_ok-sync.ensures.settled tells) time reads
    (OnlyReads-then disk mid c.open_half.new.disk c.take_log.new.disk (OnlyReads-then disk mid c.pick.new.disk c.open_half.new.disk c.pick.ensures.read c.open_half.ensures.only) c.take_log.ensures.only)))

pub returns-in_err-turn-clause-survives : goal.returns-in_err-turn-clause-survives
returns-in_err-turn-clause-survives g c tells found since begins reads =
    let disk = g.D.Disk in
    let old = c.args.disk.now in
    let mid = c.sync.new.self in
    let time : (disk.story mid).time ≡ time_of (disk.calls old) + 1 =
    c.sync.ensures.counted.time tells ∙ ap time_of (c.in_ok-sync.ensures.counted.made tells) ∙ omega arith in
    let image : Image = (disk.story old).reads in
    let held = held_of c.in_ok-held.held in
    let synced : (disk.story mid).reads ≡ image = (c.sync.ensures.images tells).reads in
    let half_read : (disk.story c.pick.new.disk).reads ≡ image = (c.pick.ensures.read.stayed tells).reads ∙ synced in
    let opened : (disk.story c.open_half.new.disk).reads ≡ image = (c.open_half.ensures.only.stayed tells).reads ∙ half_read in
    let picks : c.in_ok-half.half ≡ picked (image 0) = c.in_ok-half.ensures.picked tells ∙ ap (λ (pages : Image). picked (pages 0)) synced in
    let finds : FindsHalf (disk.size old) image c.in_ok-half.half held.layout held.last held.states =
    FindsHalf-same (disk.size c.pick.new.disk) (disk.size old) (disk.story c.pick.new.disk).reads image c.in_ok-half.half held
    (c.pick.ensures.read.keeps.size ∙ c.sync.ensures.keeps.size) half_read (c.in_ok-held.ensures.found tells) in
    let log = c.in_ok-take_log.ensures.taken tells in
    let gives : Gives (disk.size old) image (held_of c.take_log.new.self) =
    Gives-found (disk.size old) image c.in_ok-half.half held (held_of c.take_log.new.self) log.0 log.1.0 picks finds
    (subst (λ (pages : Image). HasBodies pages c.in_ok-half.half log.0 log.1.0) opened log.1.1.0)
    (subst (λ (pages : Image). TakesEach (KeptIn pages held.layout) held log.0 (held_of c.take_log.new.self)) opened log.1.1.1) in
    let same : found ≡ held_of c.take_log.new.self =
    found-one (disk.size old) image found (held_of c.take_log.new.self) reads (gives, c.in_ok-check_apart.ensures.apart) in
    let two : picked (image 0) ≤ 1 = picked-half (image 0) in
    let half : 1 - c.in_ok-half.half ≡ 1 - picked (image 0) = ap (λ (n : ℕ). 1 - n) picks in
    let p = err_from_is_err_and c.from_residual-in_err-turn.result c.from_residual-in_err-turn.ensures.1 in
    rw p.1
    (inl
    (Opening-turned disk old mid c.turn.new.disk found (1 - picked (image 0)) since tells begins (c.sync.ensures.images tells) (c.in_ok-sync.ensures.settled tells) time reads
    c.take_log.new.disk c.take_log.new.self.layout c.take_log.new.self.last c.take_log.new.self.relation.states
    (OnlyReads-then disk mid c.open_half.new.disk c.take_log.new.disk (OnlyReads-then disk mid c.pick.new.disk c.open_half.new.disk c.pick.ensures.read c.open_half.ensures.only) c.take_log.ensures.only)
    (c.take_log.ensures.only.keeps.size ∙ c.open_half.ensures.only.keeps.size ∙ c.pick.ensures.read.keeps.size ∙ c.sync.ensures.keeps.size) same
    (omega (arith, two)) (omega arith)
    (omega (arith, c.in_ok-held.ensures.fits, ap (λ (l : Layout). total_pages l) c.take_log.ensures.layout, c.take_log.ensures.only.keeps.size, c.open_half.ensures.only.keeps.size))
    (subst (λ (h : ℕ). InTurn disk c.take_log.new.self.layout h c.take_log.new.self.last c.take_log.new.self.relation.states c.take_log.new.disk c.turn.new.disk) half
    c.turn.ensures.windows)))

pub returns-clause-survives : goal.returns-clause-survives
returns-clause-survives g c tells found since begins reads =
    let disk = g.D.Disk in
    let old = c.args.disk.now in
    let mid = c.sync.new.self in
    let time : (disk.story mid).time ≡ time_of (disk.calls old) + 1 =
    c.sync.ensures.counted.time tells ∙ ap time_of (c.in_ok-sync.ensures.counted.made tells) ∙ omega arith in
    let image : Image = (disk.story old).reads in
    let held = held_of c.in_ok-held.held in
    let synced : (disk.story mid).reads ≡ image = (c.sync.ensures.images tells).reads in
    let half_read : (disk.story c.pick.new.disk).reads ≡ image = (c.pick.ensures.read.stayed tells).reads ∙ synced in
    let opened : (disk.story c.open_half.new.disk).reads ≡ image = (c.open_half.ensures.only.stayed tells).reads ∙ half_read in
    let picks : c.in_ok-half.half ≡ picked (image 0) = c.in_ok-half.ensures.picked tells ∙ ap (λ (pages : Image). picked (pages 0)) synced in
    let finds : FindsHalf (disk.size old) image c.in_ok-half.half held.layout held.last held.states =
    FindsHalf-same (disk.size c.pick.new.disk) (disk.size old) (disk.story c.pick.new.disk).reads image c.in_ok-half.half held
    (c.pick.ensures.read.keeps.size ∙ c.sync.ensures.keeps.size) half_read (c.in_ok-held.ensures.found tells) in
    let log = c.in_ok-take_log.ensures.taken tells in
    let gives : Gives (disk.size old) image (held_of c.take_log.new.self) =
    Gives-found (disk.size old) image c.in_ok-half.half held (held_of c.take_log.new.self) log.0 log.1.0 picks finds
    (subst (λ (pages : Image). HasBodies pages c.in_ok-half.half log.0 log.1.0) opened log.1.1.0)
    (subst (λ (pages : Image). TakesEach (KeptIn pages held.layout) held log.0 (held_of c.take_log.new.self)) opened log.1.1.1) in
    let same : found ≡ held_of c.take_log.new.self =
    found-one (disk.size old) image found (held_of c.take_log.new.self) reads (gives, c.in_ok-check_apart.ensures.apart) in
    let two : picked (image 0) ≤ 1 = picked-half (image 0) in
    let half : 1 - c.in_ok-half.half ≡ 1 - picked (image 0) = ap (λ (n : ℕ). 1 - n) picks in
    Opening-turned disk old mid c.turn.new.disk found (1 - picked (image 0)) since tells begins (c.sync.ensures.images tells) (c.in_ok-sync.ensures.settled tells) time reads
    c.take_log.new.disk c.take_log.new.self.layout c.take_log.new.self.last c.take_log.new.self.relation.states
    (OnlyReads-then disk mid c.open_half.new.disk c.take_log.new.disk (OnlyReads-then disk mid c.pick.new.disk c.open_half.new.disk c.pick.ensures.read c.open_half.ensures.only) c.take_log.ensures.only)
    (c.take_log.ensures.only.keeps.size ∙ c.open_half.ensures.only.keeps.size ∙ c.pick.ensures.read.keeps.size ∙ c.sync.ensures.keeps.size) same
    (omega (arith, two)) (omega arith)
    (omega (arith, c.in_ok-held.ensures.fits, ap (λ (l : Layout). total_pages l) c.take_log.ensures.layout, c.take_log.ensures.only.keeps.size, c.open_half.ensures.only.keeps.size))
    (subst (λ (h : ℕ). InTurn disk c.take_log.new.self.layout h c.take_log.new.self.last c.take_log.new.self.relation.states c.take_log.new.disk c.turn.new.disk) half
    c.turn.ensures.windows)
