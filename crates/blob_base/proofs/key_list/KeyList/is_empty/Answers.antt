use Rattle.std.proofs.Common.{◌≡◌, ◌==◌, ℕ, ap, arith}
use Rattle.std.specs.FinMap.{len}
use Rattle.blob_base.proofs.KeyLists.{len-sorted}
use Rattle.blob_base.proofs.key_list.KeyList.is_empty.Goals as goal

pub returns : goal.returns
returns g c =
    let same : c.len.result ≡ len c.args.self.now = omega (arith, c.len.ensures, len-sorted c.self.inside.entries.items c.self.invariant, ap len c.self.view_is) in
    ap (λ (n : ℕ). n == 0) same
