-- A key whose state was looked up has one.
use Rattle.std.proofs.Common.{ap, sym, ◌∙◌}
use Rattle.std.specs.Option.{option_copied}
use Rattle.tests_vault.proofs.trial.verified.Goals as goal

pub verify-requires : goal.verify-requires
verify-requires g c = record { there = (c.expect.result.now, sym c.look.ensures ∙ ap option_copied c.expect.ensures) }
