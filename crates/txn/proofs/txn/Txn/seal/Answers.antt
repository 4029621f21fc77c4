use Rattle.std.proofs.Common.{arith}
use Rattle.txn.specs.Txns.{Parts}
use Rattle.txn.proofs.Transactions.{appends-read, len-split, touched-is}
use Rattle.txn.proofs.txn.Txn.seal.Goals as goal

pub invariant_of-result : goal.invariant_of-result
invariant_of-result c =
    let inside : Parts = record { session = c.self.inside.session; nth = c.self.inside.nth; seen = c.self.inside.seen; reads = c.self.inside.reads; changes = c.self.inside.changes } in
    record {
      session_known = c.self.invariant.session;
      numbered = c.self.invariant.numbered;
      few_reads = omega (arith, c.self.invariant.few, touched-is inside);
      few_writes = omega (arith, c.self.invariant.few, touched-is inside, len-split c.self.inside.reads c.self.inside.changes);
      appends_read = appends-read c.self.inside.reads c.self.inside.changes c.self.invariant.appends;
    }
