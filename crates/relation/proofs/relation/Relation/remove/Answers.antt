use Rattle.std.proofs.Common.{◌+◌, ◌<◌, Bool, cond, Some, sym, ◌∙◌, ap, arith}
use Rattle.std.specs.Vec.{vec_capacity, vec_len}
use Rattle.std.specs.FinMap as map
use Rattle.store_model.specs.State.{State}
use Rattle.relation.specs.Parts.{Parts}
use Rattle.relation.proofs.Relations.{found-state, missing-state, remove-missing, removed-found, sorted-removed}
use Rattle.relation.specs.Entries.{entries_of}
use Rattle.relation.proofs.Encoded.{bytes_of, encoded-at, encoded-removed, found-entry}
use Rattle.relation.proofs.relation.Relation.remove.Goals as goal

pub overflow_sub-self : goal.overflow_sub-self
overflow_sub-self c =
    let kept = c.self.inside.entries.items in
    let here = found-entry kept c.deref.result.now c.in-Ok.at c.args.key.now c.remove.result c.remove.result c.deref.ensures.value c.in-Ok.ensures.found c.remove.ensures.value in
    omega (arith, c.self.invariant.bytes, encoded-at (entries_of kept) c.in-Ok.at _ here, c.encoded.ensures.value, ap (λ (s : State). bytes_of (c.args.key.now, s)) (c.replace-state.ensures.value ∙ c.deref_mut.ensures.value))

pub invariant_of-self : goal.invariant_of-self
invariant_of-self c =
    let kept = c.self.inside.entries.items in
    let here = found-entry kept c.deref.result.now c.in-Ok.at c.args.key.now c.remove.result c.remove.result c.deref.ensures.value c.in-Ok.ensures.found c.remove.ensures.value in
    let old = ap (λ (s : State). bytes_of (c.args.key.now, s)) (c.replace-state.ensures.value ∙ c.deref_mut.ensures.value) in
    let now = encoded-removed kept c.remove.new.self.items c.in-Ok.at _ here c.remove.ensures.items in
    let less = c.remove.ensures.len in
    let room : vec_len c.self.inside.free < vec_capacity c.self.inside.free = omega (arith, c.self.invariant.back, less) in
    let longer = c.push.ensures.len ∙ ap (λ (b : Bool). cond b (vec_len c.self.inside.free + 1) (vec_len c.self.inside.free)) (c.push.ensures.succeeds room) in
    record {
      sorted = sorted-removed kept c.deref.result.now c.remove.new.self.items c.in-Ok.at c.args.key.now c.deref.ensures.value c.self.invariant.sorted c.in-Ok.ensures.found c.remove.ensures.items;
      spare = omega (arith, c.self.invariant.spare, longer);
      room = omega (arith, c.self.invariant.room, less, longer, c.remove.ensures.capacity);
      back = omega (arith, c.self.invariant.back, less, longer, c.push.ensures.capacity);
      bytes = omega (arith, c.self.invariant.bytes, now, old, c.encoded.ensures.value);
      few = omega (arith, c.self.invariant.few);
    }

pub returns-in-Ok-clause-state : goal.returns-in-Ok-clause-state
returns-in-Ok-clause-state c =
    ap (λ (s : State). Some s) (c.replace-state.ensures.value ∙ c.deref_mut.ensures.value)
    ∙ sym (found-state c.self.inside.entries.items c.deref.result.now c.in-Ok.at c.args.key.now c.remove.result c.remove.result c.deref.ensures.value c.self.invariant.sorted c.in-Ok.ensures.found c.remove.ensures.value)
    ∙ ap (λ (p : Parts). map.get p.states c.args.key.now) c.self.view_is

pub returns-in-Ok-clause-states : goal.returns-in-Ok-clause-states
returns-in-Ok-clause-states c =
    removed-found c.self.inside.entries.items c.deref.result.now c.remove.new.self.items c.in-Ok.at c.args.key.now c.deref.ensures.value c.self.invariant.sorted c.in-Ok.ensures.found c.remove.ensures.items
    ∙ ap (λ (p : Parts). map.remove p.states c.args.key.now) c.self.view_is

pub returns-in-Err-clause-state : goal.returns-in-Err-clause-state
returns-in-Err-clause-state c =
    let found = c.in-Err.ensures.found in
    sym (missing-state c.self.inside.entries.items c.deref.result.now c.in-Err.field-0 c.args.key.now c.deref.ensures.value c.self.invariant.sorted found.1 found.2)
    ∙ ap (λ (p : Parts). map.get p.states c.args.key.now) c.self.view_is

pub returns-in-Err-clause-states : goal.returns-in-Err-clause-states
returns-in-Err-clause-states c =
    let found = c.in-Err.ensures.found in
    let none = missing-state c.self.inside.entries.items c.deref.result.now c.in-Err.field-0 c.args.key.now c.deref.ensures.value c.self.invariant.sorted found.1 found.2 in
    remove-missing c.args.self.now.states c.args.key.now (ap (λ (p : Parts). map.get p.states c.args.key.now) (sym c.self.view_is) ∙ none)
