use Rattle.std.proofs.Common.{ℕ, ◌-◌, refl, sym, ap, subst}
use Rattle.meta_log.specs.Logs.{Parts}
use Rattle.recover.specs.Turns.{found_by}
use Rattle.store_model.specs.Reading.{Found, Opened, Reads}
use Rattle.vault.specs.declared.memory.Memory.{Memory}
use Rattle.vault.proofs.Gates.{IsAtRest-turned}
use Rattle.vault.proofs.memory.Memory.turn.Goals as goal

pub returns-clause-rest : goal.returns-clause-rest
returns-clause-rest g c tells =
    let disk = g.D.Disk in
    let old = c.args.self.now in
    let now : Memory = record { layout = old.layout; relation = old.relation; space = old.space; log = c.start-self.result; last = old.last } in
    let found : Found = found_by old.layout old.last old.relation.states in
    IsAtRest-turned (disk.size c.turn.new.disk) (1 - c.half-other.result) (disk.story c.turn.new.disk) now found
    (subst (λ (n : ℕ). Reads n (disk.story c.turn.new.disk).reads (Opened found)) (sym c.turn.ensures.wrote.keeps.size)
    (c.in_ok-turn.ensures.reads tells c.requires.sound.held.apart))
    (c.in_ok-turn.ensures.turned tells) refl (ap (λ (parts : Parts). parts.gate) c.start-self.ensures)
    (ap (λ (parts : Parts). parts.half) c.start-self.ensures)
