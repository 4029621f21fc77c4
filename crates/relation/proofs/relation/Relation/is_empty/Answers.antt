use Rattle.std.proofs.Common.{◌≡◌, ◌==◌, ℕ, ap, arith}
use Rattle.std.specs.FinMap.{len}
use Rattle.relation.specs.Entries.{entries_of}
use Rattle.relation.specs.Parts.{Parts}
use Rattle.relation.proofs.Relations.{len-sorted}
use Rattle.relation.proofs.Searches.{length-entries}
use Rattle.relation.proofs.relation.Relation.is_empty.Goals as goal

pub returns : goal.returns
returns c =
    let kept = c.self.inside.entries.items in
    let same : c.len.result ≡ len c.args.self.now.states =
    omega (arith, c.len.ensures, length-entries kept, len-sorted (entries_of kept) c.self.invariant.sorted, ap (λ (p : Parts). len p.states) c.self.view_is) in
    ap (λ (n : ℕ). n == 0) same
