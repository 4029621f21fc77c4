-- A key behind that of the last write.
use Rattle.std.proofs.Common.{◌∙◌, ℕ, List, sym, ap, arith}
use Rattle.std.specs.Ordering.{is_lt}
use Rattle.store_model.specs.Key.{key_order}
use Rattle.frame_codec.proofs.Followings.{may_rise-last}
use Rattle.frame_codec.proofs.standing.may_rise.Goals as goal

pub returns-else-count-eq0 : goal.returns-else-count-eq0
returns-else-count-eq0 c =
    let key : List ℕ = c.args.key.now in
    c.lt.ensures ∙ ap (λ (last : List ℕ). is_lt (key_order last key)) c.key.ensures
    ∙ sym (may_rise-last c.args.writes.now c.get.result.now _ key (omega (arith, c.len-count.ensures.len)) c.get.ensures)
