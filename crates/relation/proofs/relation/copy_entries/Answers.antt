use Rattle.std.proofs.Common.{◌+◌, ◌<◌, Bool, cond, sym, ◌∙◌, ap, arith}
use Rattle.std.specs.Vec.{vec_capacity, vec_len}
use Rattle.relation.specs.Entries.{entries_of}
use Rattle.relation.specs.declared.entries.Entry.{Entry}
use Rattle.relation.proofs.Copies.{copied-all, copied-next}
use Rattle.relation.proofs.relation.copy_entries.Goals as goal

pub copied-init : goal.copied-init
copied-init c =
    record {
      same = ap entries_of (c.reserve.ensures.items ∙ c.new-copy.ensures.items);
      len_is = omega (arith, c.reserve.ensures.len, c.new-copy.ensures.len);
      fits = omega (arith, c.in_ok-reserve.ensures.ok);
    }

pub copied-preserved : goal.copied-preserved
copied-preserved c =
    let before = c.copied.invariant in
    let room : vec_len c.copied.copy < vec_capacity c.copied.copy = omega (arith, c.copied-test.true, before.len_is, before.fits) in
    let ok = c.push.ensures.succeeds room in
    let longer = c.push.ensures.len ∙ ap (λ (b : Bool). cond b (vec_len c.copied.copy + 1) (vec_len c.copied.copy)) ok in
    record {
      same = copied-next c.args.entries.now c.copied.copy.items c.push.new.self.items c.copied.i c.index-entries-i.result c.index-entries-i-in-copied.result c.index-entries-i.result c.index-entries-i-in-copied.result _ c.push.result
          c.copied-test.true before.same c.push.ensures.items ok c.index-entries-i.is c.index-entries-i-in-copied.is
          (c.copy-key.ensures ∙ ap (λ (e : Entry). e.key) (sym c.index-entries-i-in-copied.is))
          (c.in-Ok.ensures.ok ∙ c.copy.ensures ∙ c.deref.ensures ∙ ap (λ (e : Entry). e.state.value) (sym c.index-entries-i.is));
      len_is = omega (arith, longer, before.len_is);
      fits = omega (arith, before.fits, c.push.ensures.capacity);
    }

pub returns : goal.returns
returns c = copied-all c.args.entries.now c.copied.copy.items c.copied.i _ _ c.copied.invariant (omega (arith, c.copied-test.false, c.copied.auto.i-end))
