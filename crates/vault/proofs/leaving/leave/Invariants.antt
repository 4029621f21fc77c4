use Rattle.std.proofs.Common.{◌≡◌, ◌-◌, ◌≤◌, drop, length}
use Rattle.vault.proofs.leaving.leave.Given as goal

abbrev pub invariant-left : goal.invariant-left
invariant-left l = (l.queue ≡ drop (l.count - l.left) l.fn.queue) × (l.left ≤ l.count) × (l.left ≤ length l.queue)

abbrev pub decreases-left : goal.decreases-left
decreases-left l = l.left
