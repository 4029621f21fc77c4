use Rattle.std.proofs.Common.{◌-◌, inl}
use Rattle.disk_model.proofs.DiskLaws.{OnlyWrites-reads}
use Rattle.recover.proofs.Survivals.{LeavesFrom-read}
use Rattle.recover.specs.Turns.{ReadsThrough}
use Rattle.store_model.specs.Half.{picked}
use Rattle.recover.specs.Openings.{IsMetadata}
use Rattle.vault.specs.Vaults.{found_of}
use Rattle.blob_report.proofs.Checks.{Checked-broken, Checked-whole, NamesDamage-by}
use Rattle.blob_report.proofs.Openings.{CostsOpening-read, CostsOpening-took, opening-unreported}
use Rattle.blob_report.proofs.checking.run_check.Goals as goal

pub returns-in-Ok-check-clause-checked : goal.returns-in-Ok-check-clause-checked
returns-in-Ok-check-clause-checked g c =
    let opened = c.in-Ok.ensures in
    let vault = c.in-Ok.vault in
    rw c.close.ensures.disk
    (Checked-whole g.K.Sink g.D.Disk vault.memory vault.shut c.in-Ok-check.verdict c.args.sink.now c.check.new.sink c.args.disk vault.disk c.check.new.vault.disk
    opened.found c.rules.ensures opened.shut opened.wrote c.in-Ok-check.ensures.ok)

pub returns-in-Ok-check-clause-named : goal.returns-in-Ok-check-clause-named
returns-in-Ok-check-clause-named g c =
    let vault = c.in-Ok.vault in
    NamesDamage-by g.K.Sink g.D.Disk (found_of vault.memory) c.in-Ok-check.verdict c.args.sink.now c.check.new.sink c.args.disk vault.disk c.check.new.vault.disk
    c.in-Ok.ensures.found c.in-Ok-check.ensures.ok

pub returns-in-Ok-check-clause-wrote : goal.returns-in-Ok-check-clause-wrote
returns-in-Ok-check-clause-wrote g c =
    rw c.close.ensures.disk
    (OnlyWrites-reads g.D.Disk (IsMetadata (g.D.Disk.size c.args.disk) (g.D.Disk.story c.args.disk).reads) c.args.disk c.in-Ok.vault.disk c.check.new.vault.disk
    c.in-Ok.ensures.wrote c.in-Ok-check.ensures.ok.only)

pub returns-in-Err-check-clause-checked : goal.returns-in-Err-check-clause-checked
returns-in-Err-check-clause-checked g c =
    let opened = c.in-Ok.ensures in
    let vault = c.in-Ok.vault in
    rw c.close-in-Err-check.ensures.disk
    (Checked-broken g.K.Sink g.D.Disk (found_of vault.memory) c.in-Err-check.status c.args.sink.now c.check.new.sink c.args.disk vault.disk c.check.new.vault.disk
    opened.found opened.wrote c.in-Err-check.ensures.err)

pub returns-in-Err-check-clause-wrote : goal.returns-in-Err-check-clause-wrote
returns-in-Err-check-clause-wrote g c =
    rw c.close-in-Err-check.ensures.disk
    (OnlyWrites-reads g.D.Disk (IsMetadata (g.D.Disk.size c.args.disk) (g.D.Disk.story c.args.disk).reads) c.args.disk c.in-Ok.vault.disk c.check.new.vault.disk
    c.in-Ok.ensures.wrote c.in-Err-check.ensures.err.only)

pub returns-in-Ok-check-clause-survives : goal.returns-in-Ok-check-clause-survives
returns-in-Ok-check-clause-survives g c tells found since begins reads =
    rw c.close.ensures.disk
    (inl (LeavesFrom-read g.D.Disk (ReadsThrough (g.D.Disk.size c.args.disk) found (1 - picked ((g.D.Disk.story c.args.disk).reads 0)) (g.D.Disk.story c.args.disk).reads) since
    c.in-Ok.vault.disk c.check.new.vault.disk tells (c.in-Ok.ensures.survives tells found since begins reads) c.in-Ok-check.ensures.ok.only))

pub returns-in-Err-check-clause-survives : goal.returns-in-Err-check-clause-survives
returns-in-Err-check-clause-survives g c tells found since begins reads =
    rw c.close-in-Err-check.ensures.disk
    (inl (LeavesFrom-read g.D.Disk (ReadsThrough (g.D.Disk.size c.args.disk) found (1 - picked ((g.D.Disk.story c.args.disk).reads 0)) (g.D.Disk.story c.args.disk).reads) since
    c.in-Ok.vault.disk c.check.new.vault.disk tells (c.in-Ok.ensures.survives tells found since begins reads) c.in-Err-check.ensures.err.only))

pub returns-in-Ok-check-clause-costs : goal.returns-in-Ok-check-clause-costs
returns-in-Ok-check-clause-costs g c reported =
    let vault = c.in-Ok.vault in
    rw c.close.ensures.disk
    (CostsOpening-read g.D.Disk c.args.disk vault.disk c.check.new.vault.disk
    (CostsOpening-took g.D.Disk c.args.disk vault.disk (found_of vault.memory) c.in-Ok.ensures.found c.in-Ok.ensures.calls) c.check.ensures.still)

pub returns-in-Err-check-clause-costs : goal.returns-in-Err-check-clause-costs
returns-in-Err-check-clause-costs g c reported =
    let vault = c.in-Ok.vault in
    rw c.close-in-Err-check.ensures.disk
    (CostsOpening-read g.D.Disk c.args.disk vault.disk c.check.new.vault.disk
    (CostsOpening-took g.D.Disk c.args.disk vault.disk (found_of vault.memory) c.in-Ok.ensures.found c.in-Ok.ensures.calls) c.check.ensures.still)

pub returns-in-Err-clause-costs : goal.returns-in-Err-clause-costs
returns-in-Err-clause-costs g c reported = opening-unreported c.in-Err.failed.fault (rw (← c.opening_status.ensures) reported)
