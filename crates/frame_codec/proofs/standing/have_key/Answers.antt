-- An entry that has the key, one more that hasn't, and none that has.
use Rattle.std.proofs.Common.{◌∙◌, sym, arith}
use Rattle.frame_codec.specs.declared.entry.Entry.{Entry}
use Rattle.frame_codec.specs.Values.{has_key}
use Rattle.frame_codec.proofs.Standings.{any-at, none-all, none-next, stands-entries}
use Rattle.frame_codec.proofs.standing.have_key.Goals as goal

pub returns-then-has_key : goal.returns-then-has_key
returns-then-has_key c =
    let key = c.args.key.now in
    sym (stands-entries c.args.entries.now key
    ∙ any-at (λ (entry : Entry). has_key key entry.writes) c.args.entries.now c.searched.i c.get.result.now c.get.ensures (sym c.has_key.ensures ∙ c.if-has_key.true))

pub searched-preserved : goal.searched-preserved
searched-preserved c =
    let key = c.args.key.now in
    none-next (λ (entry : Entry). has_key key entry.writes) c.args.entries.now c.searched.i c.get.result.now c.get.ensures c.searched.invariant
    (sym c.has_key.ensures ∙ c.if-has_key.false)

pub returns : goal.returns
returns c =
    let key = c.args.key.now in
    sym (stands-entries c.args.entries.now key
    ∙ none-all (λ (entry : Entry). has_key key entry.writes) c.args.entries.now c.searched.i (omega (arith, c.searched-test.false, c.len-i-end.ensures)) c.searched.invariant)
