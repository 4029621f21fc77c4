use Rattle.std.proofs.Common.{◌≡◌, ◌+◌, ◌++◌, inl, inr, true, arith, ◌∙◌, ap}
use Rattle.std.proofs.lemmas.Bool.{both_ways}
use Rattle.store_model.specs.Key.{is_key, IsBadAt}
use Rattle.blob_base.proofs.KeyTexts.{relation_read}
use Rattle.store_model.proofs.KeyTextLaws.{bad_name, bad_relation, read_is_key}
use Rattle.blob_base.proofs.key.Key.read.Goals as goal
use Rattle.blob_base.proofs.key.Key.read.Goals.{then-relation-eq0-via-then-relation-eq0, then-relation-eq0-via-else-relation-eq0+then-not-has_slash_at, then-name-eq0-via-then-name-eq0, then-name-eq0-via-else-name-eq0+then-end-text}

relation_bad : (c : goal.Joined-then-relation-eq0) → IsBadAt c.args.text.now c.part_length-relation.result
relation_bad c =
    let r = c.part_length-relation.ensures in
    bad_relation c.args.text.now c.part_length-relation.result (relation_read _ _ r.within r.most r.each r.last)
    (elim c.then-relation-eq0.branch [
      | then-relation-eq0-via-then-relation-eq0 w ↦ inl w.if-relation-eq0.true
      | then-relation-eq0-via-else-relation-eq0+then-not-has_slash_at w ↦
          inr (λ has slash. both_ways _ w.if-not-has_slash_at.true (w.has_slash_at.ensures.1 (has, slash)))
    ])

pub returns-then-relation-eq0-clause-key : goal.returns-then-relation-eq0-clause-key
returns-then-relation-eq0-clause-key c = λ key. both_ways _ (relation_bad c).no_key key

pub returns-then-relation-eq0-clause-bad : goal.returns-then-relation-eq0-clause-bad
returns-then-relation-eq0-clause-bad c = relation_bad c

name_bad : (c : goal.Joined-then-name-eq0) → IsBadAt c.args.text.now (c.part_length-relation.result + 1 + c.part_length-name.result)
name_bad c =
    let r = c.part_length-relation.ensures in
    let n = c.part_length-name.ensures in
    let slash = c.has_slash_at.ensures.0 c.if-not-has_slash_at.false in
    bad_name c.args.text.now c.part_length-relation.result c.part_length-name.result (relation_read _ _ r.within r.most r.each r.last)
    (omega arith) slash.1 (record { within = n.within; most = n.most; each = n.each; last = n.last })
    (elim c.then-name-eq0.branch [
      | then-name-eq0-via-then-name-eq0 w ↦ inl w.if-name-eq0.true
      | then-name-eq0-via-else-name-eq0+then-end-text w ↦ inr w.if-end-text.true
    ])

pub returns-then-name-eq0-clause-key : goal.returns-then-name-eq0-clause-key
returns-then-name-eq0-clause-key c = λ key. both_ways _ (name_bad c).no_key key

pub returns-then-name-eq0-clause-bad : goal.returns-then-name-eq0-clause-bad
returns-then-name-eq0-clause-bad c = name_bad c

is_read : (c : goal.After-copy_into) → is_key c.args.text.now ≡ true
is_read c =
    let r = c.part_length-relation.ensures in
    let n = c.part_length-name.ensures in
    let slash = c.has_slash_at.ensures.0 c.if-not-has_slash_at.false in
    read_is_key c.args.text.now c.part_length-relation.result c.part_length-name.result (relation_read _ _ r.within r.most r.each r.last)
    (omega arith) slash.1 (record { within = n.within; most = n.most; each = n.each; last = n.last }) (omega arith) (omega arith)

copied : (c : goal.After-copy_into) → c.copy_into.new.to.items ≡ c.args.text.now
copied c = c.copy_into.ensures ∙ ap (λ front. front ++ c.args.text.now) c.new-copy.ensures

pub invariant_of-result : goal.invariant_of-result
invariant_of-result c = ap is_key (copied c) ∙ is_read c

pub returns-clause-key : goal.returns-clause-key
returns-clause-key c = (is_read c, copied c)
