use Rattle.std.proofs.Common.{◌≡◌, ℕ, ◌+◌, ◌-◌, ◌*◌, ◌%◌, ◌≤◌, List, ◌∷◌, ◌++◌, ◌∙◌, sym, ap, arith, length, take, replicate, w64, refl}
use Rattle.std.specs.Prelude.{slice_set}
use Rattle.std.specs.Int.{to_be_bytes}
use Rattle.store_model.specs.Hash.{Leads, padding, state_after}
use Rattle.sha_resume.proofs.Ends.{take-laid}
use Rattle.sha_resume.proofs.fold_end.Goals as goal
use Rattle.sha_resume.proofs.fold_end.Goals.{then-tail-lt-LENGTH_AT, else-tail-lt-LENGTH_AT}
use borrow.Rule.Slice.PartMut.{put_mid}

pub returns : goal.returns
unfolding padding
returns c =
    let t : ℕ = length c.args.tail.now in
    let end : ℕ = c.if-tail-lt-LENGTH_AT.end in
    let zeros : ℕ = (119 - c.args.message_len % 64) % 64 in
    let tail : List ℕ = c.copy_from_slice.new.self in
    let stamp : List ℕ = c.copy_from_slice-2.new.self in
    let same : tail ≡ c.args.tail.now = c.copy_from_slice.ensures.after in
    let long : length tail ≡ t = ap length same in
    let stamped : stamp ≡ to_be_bytes w64 (8 * c.args.message_len) = c.copy_from_slice-2.ensures.after ∙ c.to_be_bytes.ensures in
    let eight : length stamp ≡ 8 = rw stamped refl in
    let sum : t + 1 + zeros + 8 ≡ end = elim c.if-tail-lt-LENGTH_AT.branch [
      | then-tail-lt-LENGTH_AT w ↦ omega arith
      | else-tail-lt-LENGTH_AT w ↦ omega arith
    ] in
    let fits : end ≤ 128 = elim c.if-tail-lt-LENGTH_AT.branch [
      | then-tail-lt-LENGTH_AT w ↦ omega arith
      | else-tail-lt-LENGTH_AT w ↦ omega arith
    ] in
    let led : Leads c.args.state.now (take end (put_mid (end - 8) (end - (end - 8)) (slice_set (put_mid 0 t (replicate 128 0) tail) t 0x80) stamp)) c.fold_blocks.new.state =
    c.fold_blocks.ensures in
    let laid = take-laid t end zeros t (end - (end - 8)) tail stamp long eight sum fits refl in
    let text : tail ++ (0x80 ∷ replicate zeros 0 ++ stamp) ≡ c.args.tail.now ++ padding c.args.message_len =
    (λ i. same i ++ (0x80 ∷ replicate zeros 0 ++ stamped i)) in
    ap (state_after c.args.state.now) (sym (laid ∙ text)) ∙ led
