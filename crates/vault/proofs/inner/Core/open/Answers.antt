use Rattle.std.proofs.Common.{◌≡◌, ℕ, None, inl, sym, ap, ◌∙◌, subst, arith}
use Rattle.meta_log.specs.Logs.{Parts}
use Rattle.recover.specs.Openings.{TookOpening, found_of as opened_of}
use Rattle.relation.specs.Parts.{Parts as RelationParts, encoded_by}
use Rattle.store_model.specs.Layout.{Layout, total_pages}
use Rattle.store_model.specs.Reading.{Found, Opened, Reads}
use Rattle.vault.specs.Vaults.{found_of}
use Rattle.vault.specs.declared.memory.Memory.{Memory}
use Rattle.vault.proofs.Costings.{Costs-opened}
use Rattle.vault.proofs.Gates.{IsAtRest-turned}
use Rattle.vault.proofs.Images.{HasImages-opened}
use Rattle.vault.proofs.Ledgers.{bytes-alike}
use Rattle.vault.proofs.Readings.{IsOpenedAs-read}
use Rattle.vault.proofs.inner.Core.open.Goals as goal

pub returns-in-Ok-begin-clause-found : goal.returns-in-Ok-begin-clause-found
returns-in-Ok-begin-clause-found g c tells =
    let disk = g.D.Disk in
    let mine : Memory = c.in-Ok-begin.memory in
    let made = c.in-Ok-begin.ensures in
    let same : opened_of c.in-Ok.found ≡ found_of mine =
    λ i. record { layout = sym made.layout i; last = sym made.last i; states = (sym made.relation i).states } in
    subst (λ (found : Found). Reads (disk.size c.args.disk) (disk.story c.args.disk).reads (Opened found)) same (c.in-Ok.ensures.found tells)

pub returns-in-Ok-begin-clause-keeps : goal.returns-in-Ok-begin-clause-keeps
returns-in-Ok-begin-clause-keeps g c =
    let disk = g.D.Disk in
    let mine : Memory = c.in-Ok-begin.memory in
    let made = c.in-Ok-begin.ensures in
    let new = c.recover.new.disk in
    let size : disk.size new ≡ disk.size c.args.disk = c.recover.ensures.wrote.keeps.size in
    let same : opened_of c.in-Ok.found ≡ found_of mine =
    λ i. record { layout = sym made.layout i; last = sym made.last i; states = (sym made.relation i).states } in
    record {
      held = made.sound.held;
      fits = omega (arith, c.in-Ok.ensures.sound.fits, size, ap (λ (l : Layout). total_pages l) made.layout);
      none = λ yet. made.sound.none;
      rest = λ tells yet.
          IsAtRest-turned (disk.size new) c.in-Ok.found.log.half (disk.story new) mine (opened_of c.in-Ok.found)
          (subst (λ (n : ℕ). Reads n (disk.story new).reads (Opened (opened_of c.in-Ok.found))) (sym size) (c.in-Ok.ensures.turned tells))
          (c.in-Ok.ensures.at tells) same (ap (λ (log : Parts). log.gate) (made.log ∙ c.in-Ok.ensures.sound.log)) (ap (λ (log : Parts). log.half) made.log);
    }

pub returns-in-Ok-begin-clause-stands : goal.returns-in-Ok-begin-clause-stands
returns-in-Ok-begin-clause-stands g c tells layout store read =
    let disk = g.D.Disk in
    let mine : Memory = c.in-Ok-begin.memory in
    let made = c.in-Ok-begin.ensures in
    let same : opened_of c.in-Ok.found ≡ found_of mine =
    λ i. record { layout = sym made.layout i; last = sym made.last i; states = (sym made.relation i).states } in
    IsOpenedAs-read disk c.args.disk c.recover.new.disk mine layout store tells
    (subst (λ (found : Found). Reads (disk.size c.args.disk) (disk.story c.args.disk).reads (Opened found)) same (c.in-Ok.ensures.found tells)) c.recover.ensures.wrote read

pub returns-in-Ok-begin-clause-costs : goal.returns-in-Ok-begin-clause-costs
returns-in-Ok-begin-clause-costs g c store cost stands =
    let disk = g.D.Disk in
    let mine : Memory = c.in-Ok-begin.memory in
    let made = c.in-Ok-begin.ensures in
    Costs-opened disk c.args.disk c.recover.new.disk mine store cost (encoded_by mine.relation.states) (bytes-alike mine.relation.states store.objects stands.objects)
    (ap (λ (log : Parts). log.gate) (made.log ∙ c.in-Ok.ensures.sound.log))
    (λ tells. subst (λ (r : RelationParts). TookOpening (encoded_by r.states) (disk.calls c.args.disk) (disk.calls c.recover.new.disk)) (sym made.relation) (c.in-Ok.ensures.calls tells))

pub returns-in-Err-begin-clause-survives : goal.returns-in-Err-begin-clause-survives
returns-in-Err-begin-clause-survives g c tells found since begins reads = inl (c.in-Ok.ensures.survives tells found since begins reads)

pub returns-in-Ok-begin-clause-images : goal.returns-in-Ok-begin-clause-images
returns-in-Ok-begin-clause-images g c tells found since begins whole =
    let disk = g.D.Disk in
    let mine : Memory = c.in-Ok-begin.memory in
    let made = c.in-Ok-begin.ensures in
    let same : opened_of c.in-Ok.found ≡ found_of mine =
    λ i. record { layout = sym made.layout i; last = sym made.last i; states = (sym made.relation i).states } in
    HasImages-opened disk c.args.disk (record { disk = c.recover.new.disk; memory = mine; shut = None; keeping = c.in-Ok-begin.keeping }) found since tells whole
    (subst (λ (one : Found). Reads (disk.size c.args.disk) (disk.story c.args.disk).reads (Opened one)) same (c.in-Ok.ensures.found tells))
    c.recover.ensures.wrote.keeps.size made.sound.held (c.in-Ok.ensures.survives tells found since begins whole.reads) made.kept
