use Rattle.std.proofs.Common.{◌≡◌, ℕ, ◌-◌, rules, refl, sym, ◌∙◌, ap, subst}
use Rattle.recover.specs.Turns.{InTurn}
use Rattle.meta_log.specs.Logs.{Parts}
use Rattle.relation.specs.Parts.{encoded_by}
use Rattle.vault.specs.declared.memory.Memory.{Memory}
use Rattle.vault.proofs.Costings.{Costs-turned}
use Rattle.vault.specs.Vaults.{IsVault, found_of}
use Rattle.vault.proofs.Images.{HasImages-turned}
use Rattle.vault.proofs.Ledgers.{bytes-alike}
use Rattle.vault.proofs.Crashes.{Turn-through}
use Rattle.vault.proofs.inner.Core.turn.Goals as goal

pub returns-in-Ok-clause-costs : goal.returns-in-Ok-clause-costs
returns-in-Ok-clause-costs g c store cost stands gate =
    let old : Memory = c.args.self.now.memory in
    Costs-turned g.D.Disk c.args.self.now.disk c.turn.new.disk c.turn.new.self store cost (encoded_by old.relation.states) (bytes-alike old.relation.states store.objects stands.objects)
    (ap (λ (log : Parts). log.gate) c.in-Ok.ensures.log) (λ tells. c.in-Ok.ensures.calls tells)

pub returns-in-Ok-clause-survives : goal.returns-in-Ok-clause-survives
returns-in-Ok-clause-survives g c tells yet =
    Turn-through g.D.Disk c.args.self.now.disk c.turn.new.disk c.args.self.now.memory tells
    (subst (IsVault g.D.Disk c.args.self.now.disk c.args.self.now.memory) yet c.requires) c.turn.ensures.windows

pub returns-in-Err-clause-survives : goal.returns-in-Err-clause-survives
returns-in-Err-clause-survives g c tells yet =
    rw c.shut_for.ensures.disk
    (Turn-through g.D.Disk c.args.self.now.disk c.turn.new.disk c.args.self.now.memory tells
    (subst (IsVault g.D.Disk c.args.self.now.disk c.args.self.now.memory) yet c.requires) c.turn.ensures.windows)

pub returns-in-Ok-clause-images : goal.returns-in-Ok-clause-images
returns-in-Ok-clause-images g c tells since images =
    let old = c.args.self.now in
    let same = c.turn.ensures.same in
    HasImages-turned g.D.Disk old (record { disk = c.turn.new.disk; memory = c.turn.new.self; shut = old.shut; keeping = old.keeping }) since tells
    (subst (IsVault g.D.Disk old.disk old.memory) (search rules) c.requires) (search rules) c.turn.ensures.windows
    (λ i. record { layout = same.layout i; last = same.last i; states = (same.relation i).states }) refl images

pub returns-in-Err-clause-images : goal.returns-in-Err-clause-images
returns-in-Err-clause-images g c tells since images =
    let old = c.args.self.now in
    let half : ℕ = 1 - old.memory.log.half in
    let same = c.turn.ensures.same in
    let found : found_of c.turn.new.self ≡ found_of old.memory = λ i. record { layout = same.layout i; last = same.last i; states = (same.relation i).states } in
    HasImages-turned g.D.Disk old c.shut_for.new.self since tells (subst (IsVault g.D.Disk old.disk old.memory) (search rules) c.requires) (search rules)
    (subst (λ disk. InTurn g.D.Disk old.memory.layout half old.memory.last old.memory.relation.states old.disk disk) (sym c.shut_for.ensures.disk) c.turn.ensures.windows)
    (ap (λ (m : Memory). found_of m) c.shut_for.ensures.memory ∙ found) c.shut_for.ensures.keeping images
