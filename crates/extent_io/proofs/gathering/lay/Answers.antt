use Rattle.std.proofs.Common.{◌-◌, ◌*◌, ◌∙◌, ℕ, ap, arith, rules, take, drop}
use Rattle.store_model.specs.Disk.{page_bytes}
use Rattle.extent_io.proofs.Gatherings.{laid}
use Rattle.extent_io.proofs.gathering.lay.Goals as goal

pub returns-clause-bytes : goal.returns-clause-bytes
returns-clause-bytes c content there begins front =
    laid c.args.off c.args.number c.max-from.result c.min-to.result (c.min-to.result - c.args.off - (c.max-from.result - c.args.off)) c.args.page.now c.args.into.now c.copy_from_slice.new.self content
    c.max-from.ensures c.min-to.ensures c.requires.from c.requires.to (search rules) there (omega arith)
    (c.copy_from_slice.ensures.after ∙ ap (λ (n : ℕ). take n (drop (c.max-from.result - page_bytes * c.args.number) c.args.page.now)) (omega arith)) begins front
