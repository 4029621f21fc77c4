use Rattle.std.proofs.Common.{sym, subst, ap, arith}
use Rattle.check_point.specs.Writers.{Parts}
use Rattle.store_model.specs.Half.{IsHalf}
use Rattle.store_model.specs.Reading.{Opened, Reads}
use Rattle.recover.specs.Turns.{found_by}
use Rattle.recover.proofs.Formatted.{Apart-none, HasTaken-none, IsHalf-none, nothing}
use Rattle.recover.proofs.formatting.format.Goals as goal

pub returns-clause-reads : goal.returns-clause-reads
returns-clause-reads g c tells =
    let disk = g.D.Disk in
    let parts = c.start.ensures.parts in
    let half : IsHalf c.start.result.layout c.start.result.last nothing =
    subst (λ (p : Parts). IsHalf p.layout p.last nothing) (sym parts) (IsHalf-none c.args.layout c.rules.ensures) in
    subst (λ (p : Parts). Reads (disk.size c.args.disk.now) (disk.story c.turn_to.new.disk).reads (Opened (found_by p.layout p.last nothing))) parts
    (c.in_ok-turn_to.ensures.reads tells nothing half (HasTaken-none c.start.result c.start.ensures.none)
    (λ i less. absurd (omega (arith, less, ap (λ (p : Parts). p.taken) parts))) Apart-none)
