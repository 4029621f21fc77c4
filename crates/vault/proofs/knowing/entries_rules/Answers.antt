use Rattle.std.proofs.Common.{arith}
use Rattle.vault.specs.Knows.{IsKnown}
use Rattle.vault.proofs.Knowings.{All-more, All-taken}
use Rattle.vault.proofs.knowing.entries_rules.Goals as goal

pub known-preserved : goal.known-preserved
known-preserved c =
    All-more IsKnown c.args.entries.now c.known.i c.get.result.now c.get.ensures c.known.invariant
    (record { nth = c.entry_rules.ensures.nth; keys = c.entry_rules.ensures.keys })

pub returns : goal.returns
returns c = All-taken IsKnown c.args.entries.now c.known.i (omega (arith, c.known-test.false, c.len-i-end.ensures)) c.known.invariant
