use Rattle.std.proofs.Common.{◌≡◌, ◌≤◌, zip, sym, subst, arith}
use Rattle.std.specs.List.{All}
use Rattle.std.proofs.lemmas.Result.{on_ok_weaker}
use Rattle.disk_model.proofs.DiskLaws.{OnlyWrites-reads}
use Rattle.store_model.specs.Disk.{Image}
use Rattle.vault.specs.Pours.{IsSecondPage, Poured, pours_of_all, requests_at}
use Rattle.vault.proofs.Seconds.{poured-opened, second-opened}
use Rattle.vault.proofs.memory.Memory.pour_and_open.Goals as goal

pub returns-in_err-open_gate-clause-wrote : goal.returns-in_err-open_gate-clause-wrote
returns-in_err-open_gate-clause-wrote g c =
    let mine = c.args.self.now in
    second-opened g.D.Disk mine.layout (pours_of_all (zip (requests_at c.args.queue.now c.args.members.now) c.args.entries.now)) mine.log.half mine.log.gate
    c.args.disk.now c.pour_all.new.disk c.open_gate.new.disk c.pour_all.ensures.wrote c.open_gate.ensures.wrote

pub returns-clause-poured : goal.returns-clause-poured
returns-clause-poured g c tells =
    let disk = g.D.Disk in
    let mine = c.args.self.now in
    let pours = pours_of_all (zip (requests_at c.args.queue.now c.args.members.now) c.args.entries.now) in
    let most : mine.log.gate ≤ 511 = omega (arith, c.rules.ensures.order, c.rules.ensures.most) in
    let stayed : (disk.story c.sync.new.self).reads ≡ (disk.story c.open_gate.new.disk).reads = (c.sync.ensures.images tells).reads in
    on_ok_weaker c.sync.result
    (λ settled. subst (λ (image : Image). All (Poured image mine.layout) pours) (sym stayed)
    (poured-opened mine.layout pours mine.log.half mine.log.gate (disk.story c.pour_all.new.disk).reads (disk.story c.open_gate.new.disk).reads
    c.rules.ensures.half most (c.open_gate.ensures.wrote.wrote tells).reads (c.in_ok-pour_all.ensures.poured tells)))
    (c.sync.ensures.settled tells)

pub returns-clause-wrote : goal.returns-clause-wrote
returns-clause-wrote g c =
    let disk = g.D.Disk in
    let mine = c.args.self.now in
    let pours = pours_of_all (zip (requests_at c.args.queue.now c.args.members.now) c.args.entries.now) in
    OnlyWrites-reads disk (IsSecondPage mine.layout pours mine.log.half mine.log.gate) c.args.disk.now c.open_gate.new.disk c.sync.new.self
    (second-opened disk mine.layout pours mine.log.half mine.log.gate c.args.disk.now c.pour_all.new.disk c.open_gate.new.disk c.pour_all.ensures.wrote
    c.open_gate.ensures.wrote)
    (record { keeps = c.sync.ensures.keeps; stayed = c.sync.ensures.images })
