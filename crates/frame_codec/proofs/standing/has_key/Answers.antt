-- A write that has the key, and one more that hasn't.
use Rattle.std.proofs.Common.{◌≡◌, ◌∙◌, true, false, sym, ap}
use Rattle.std.specs.Prelude.{bytes_eq}
use Rattle.frame_codec.specs.declared.entry.Write.{Write}
use Rattle.frame_codec.specs.Writes.{key_of_write}
use Rattle.frame_codec.proofs.Standings.{any-at, none-next}
use Rattle.frame_codec.proofs.standing.has_key.Goals as goal

pub returns-then-eq : goal.returns-then-eq
returns-then-eq c =
    let key = c.args.key.now in
    let equal : bytes_eq key (key_of_write c.get.result.now) ≡ true = ap (bytes_eq key) (sym c.key.ensures) ∙ sym c.eq.ensures ∙ c.if-eq.true in
    sym (any-at (λ (one : Write). bytes_eq key (key_of_write one)) c.args.writes.now c.searched.i c.get.result.now c.get.ensures equal)

pub searched-preserved : goal.searched-preserved
searched-preserved c =
    let key = c.args.key.now in
    let differs : bytes_eq key (key_of_write c.get.result.now) ≡ false = ap (bytes_eq key) (sym c.key.ensures) ∙ sym c.eq.ensures ∙ c.if-eq.false in
    none-next (λ (one : Write). bytes_eq key (key_of_write one)) c.args.writes.now c.searched.i c.get.result.now c.get.ensures c.searched.invariant differs
