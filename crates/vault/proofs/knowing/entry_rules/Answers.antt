use Rattle.std.proofs.Common.{arith}
use Rattle.vault.specs.Knows.{IsOfKey}
use Rattle.vault.proofs.Knowings.{All-more, All-taken}
use Rattle.vault.proofs.knowing.entry_rules.Goals as goal

pub known-preserved : goal.known-preserved
known-preserved c = All-more IsOfKey c.args.entry.now.writes c.known.i c.get.result.now c.get.ensures c.known.invariant c.write_rules.ensures

pub returns-clause-keys : goal.returns-clause-keys
returns-clause-keys c = All-taken IsOfKey c.args.entry.now.writes c.known.i (omega (arith, c.known-test.false, c.len-i-end.ensures.len)) c.known.invariant
