use Rattle.std.proofs.Common.{◌+◌, ◌<◌, Bool, cond, refl, sym, ◌∙◌, ap, arith}
use Rattle.std.specs.Vec.{vec_capacity, vec_len}
use Rattle.std.specs.FinMap as map
use Rattle.store_model.specs.State.{State}
use Rattle.relation.specs.Entries.{entries_of}
use Rattle.relation.specs.Parts.{Parts}
use Rattle.relation.proofs.Relations.{found-there, get-found, insert-put, inserted-put, sorted-put}
use Rattle.relation.proofs.Encoded.{bytes_of, encoded-put, encoded-put_new}
use Rattle.relation.proofs.relation.Relation.adopt.Goals as goal

pub unreachable-requires : goal.unreachable-requires
unreachable-requires c =
    let kept = c.self.inside.entries.items in
    let at = c.in_default.ensures.found in
    let there = found-there kept c.deref.result.now c.in_default.field-0 c.args.key c.deref.ensures.value at in
    let has = get-found (entries_of kept) c.in_default.field-0 c.args.key (c.args.key, at.0) c.self.invariant.sorted there refl in
    let wrong = sym c.requires.missing ∙ ap (λ (p : Parts). map.get p.states c.args.key) (sym c.self.view_is) ∙ has in
    absurd (cc wrong)

pub invariant_of-self-2 : goal.invariant_of-self-2
invariant_of-self-2 c =
    let kept = c.self.inside.entries.items in
    let state = c.args.place.value in
    let found = c.in-Err.ensures.found in
    let room : vec_len c.reserve.new.self < vec_capacity c.reserve.new.self = omega (arith, c.in_ok-reserve.ensures.ok, c.saturating_add.ensures, c.len.ensures) in
    let ok = c.insert.ensures.succeeds room in
    let longer = c.insert.ensures.len ∙ ap (λ (b : Bool). cond b (vec_len c.reserve.new.self + 1) (vec_len c.reserve.new.self)) ok in
    let items = rw c.reserve.ensures.items at c.insert.ensures.items in
    let put = inserted-put _ kept c.deref.result.now c.insert.new.self.items c.in-Err.at c.args.key state c.insert.result items ok c.deref.ensures.value found.1 found.2 refl in
    let now = encoded-put_new kept c.deref.result.now _ c.in-Err.at c.args.key state c.deref.ensures.value found.1 found.2 put in
    let told = encoded-put (entries_of kept) _ c.args.key state c.args.self.now.states c.self.invariant.sorted put (ap (λ (p : Parts). p.states) c.self.view_is) in
    let long = c.encoded.ensures.value ∙ ap (λ (s : State). bytes_of (c.args.key, s)) c.deref-2.ensures in
    record {
      sorted = sorted-put (entries_of kept) _ c.args.key state c.self.invariant.sorted put;
      spare = omega (arith, c.self.invariant.spare, c.reserve-2.ensures.len);
      room = omega (arith, longer, c.insert.ensures.capacity, c.reserve-2.ensures.len, c.in_ok-reserve.ensures.ok);
      back = omega (arith, longer, c.in_ok-reserve-2.ensures.ok, c.reserve.ensures.len);
      bytes = omega (arith, c.self.invariant.bytes, now, long);
      few = omega (arith, c.self.invariant.bytes, now, long, told, c.requires.bytes);
    }

pub returns-clause-states : goal.returns-clause-states
returns-clause-states c =
    let kept = c.self.inside.entries.items in
    let state = c.args.place.value in
    let found = c.in-Err.ensures.found in
    let room : vec_len c.reserve.new.self < vec_capacity c.reserve.new.self = omega (arith, c.in_ok-reserve.ensures.ok, c.saturating_add.ensures, c.len.ensures) in
    let items = rw c.reserve.ensures.items at c.insert.ensures.items in
    insert-put (entries_of kept) _ c.args.key state c.self.invariant.sorted
    (inserted-put _ kept c.deref.result.now c.insert.new.self.items c.in-Err.at c.args.key state c.insert.result items (c.insert.ensures.succeeds room) c.deref.ensures.value found.1 found.2 refl)
    ∙ ap (λ (p : Parts). map.insert p.states c.args.key state) c.self.view_is
