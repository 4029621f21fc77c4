use Rattle.std.proofs.Common.{◌≡◌, ◌+◌, ◌-◌, ◌<◌, refl, ℕ, Bool, cond, List, length, None, Option, sym, ◌∙◌, ap, arith}
use Rattle.std.specs.Prelude.{is_some}
use Rattle.std.specs.Vec.{vec_capacity, vec_len}
use Rattle.std.specs.FinMap as map
use Rattle.store_model.specs.State.{State}
use Rattle.store_model.specs.Tuple.{spelling}
use Rattle.store_model.proofs.EntryLaws.{sum-insert}
use Rattle.relation.specs.Entries.{entries_of}
use Rattle.relation.specs.Parts.{Parts, encoded_by}
use Rattle.relation.proofs.Relations.{found-key, found-state, insert-put, missing-spare, missing-state, inserted-put, put-found, sorted-put}
use Rattle.relation.proofs.Encoded.{bytes_of, encoded-at, encoded-put, encoded-put_new, encoded-put_old, found-entry}
use Rattle.relation.proofs.relation.Relation.set.Goals as goal

pub unreachable-requires : goal.unreachable-requires
unreachable-requires c =
    let found = c.in-Err.ensures.found in
    let none = missing-state c.self.inside.entries.items c.deref.result.now c.in-Err.at c.args.key c.deref.ensures.value c.self.invariant.sorted found.1 found.2 in
    let missing : map.get c.args.self.now.states c.args.key ≡ None = ap (λ (p : Parts). map.get p.states c.args.key) (sym c.self.view_is) ∙ none in
    omega (arith, missing-spare c.args.self.now.states c.args.key c.args.self.now.spare missing c.requires.spare, ap (λ (p : Parts). p.spare) c.self.view_is, c.self.invariant.spare, c.in_default.ensures.cases.0)

pub overflow_sub-self-in-Err : goal.overflow_sub-self-in-Err
overflow_sub-self-in-Err c =
    let found = c.in-Err.ensures.found in
    let none = missing-state c.self.inside.entries.items c.deref.result.now c.in-Err.at c.args.key c.deref.ensures.value c.self.invariant.sorted found.1 found.2 in
    let missing : map.get c.args.self.now.states c.args.key ≡ None = ap (λ (p : Parts). map.get p.states c.args.key) (sym c.self.view_is) ∙ none in
    omega (arith, missing-spare c.args.self.now.states c.args.key c.args.self.now.spare missing c.requires.spare, ap (λ (p : Parts). p.spare) c.self.view_is)

pub overflow_sub-self : goal.overflow_sub-self
overflow_sub-self c =
    let kept = c.self.inside.entries.items in
    let here = found-entry kept c.deref.result.now c.in-Ok.at c.args.key c.index_mut.result.now c.index_mut.result.now c.deref.ensures.value c.in-Ok.ensures.found c.index_mut.ensures.value in
    omega (arith, c.self.invariant.bytes, encoded-at (entries_of kept) c.in-Ok.at _ here, c.encoded.ensures.value, ap (λ (s : State). bytes_of (c.args.key, s)) c.deref-in-Ok.ensures)

pub invariant_of-self : goal.invariant_of-self
invariant_of-self c =
    let kept = c.self.inside.entries.items in
    let key = found-key kept c.deref.result.now c.in-Ok.at c.args.key c.index_mut.result.now c.index_mut.result.now c.deref.ensures.value c.in-Ok.ensures.found c.index_mut.ensures.value in
    let here = found-entry kept c.deref.result.now c.in-Ok.at c.args.key c.index_mut.result.now c.index_mut.result.now c.deref.ensures.value c.in-Ok.ensures.found c.index_mut.ensures.value in
    let put = put-found kept c.deref.result.now c.in-Ok.at c.args.key _ c.args.state c.deref.ensures.value c.self.invariant.sorted c.in-Ok.ensures.found (ap (λ (k : List ℕ). (k, c.args.state)) key) in
    let old = ap (λ (s : State). bytes_of (c.args.key, s)) c.deref-in-Ok.ensures in
    let least = encoded-at (entries_of kept) c.in-Ok.at _ here in
    let now = encoded-put_old (entries_of kept) _ c.in-Ok.at c.args.key c.args.state _ c.self.invariant.sorted here put in
    let told = encoded-put (entries_of kept) _ c.args.key c.args.state c.args.self.now.states c.self.invariant.sorted put (ap (λ (p : Parts). p.states) c.self.view_is) in
    record {
      sorted = sorted-put (entries_of kept) _ c.args.key c.args.state c.self.invariant.sorted put;
      spare = c.self.invariant.spare;
      room = c.self.invariant.room;
      back = c.self.invariant.back;
      bytes = omega (arith, c.self.invariant.bytes, now, old, least, c.encoded.ensures.value, c.encoded-longer.ensures.value);
      few = omega (arith, c.self.invariant.bytes, now, old, least, c.encoded.ensures.value, c.encoded-longer.ensures.value, told, c.requires.bytes);
    }

pub returns-in-Ok-clause-states : goal.returns-in-Ok-clause-states
returns-in-Ok-clause-states c =
    let kept = c.self.inside.entries.items in
    let key = found-key kept c.deref.result.now c.in-Ok.at c.args.key c.index_mut.result.now c.index_mut.result.now c.deref.ensures.value c.in-Ok.ensures.found c.index_mut.ensures.value in
    insert-put (entries_of kept) _ c.args.key c.args.state c.self.invariant.sorted
    (put-found kept c.deref.result.now c.in-Ok.at c.args.key _ c.args.state c.deref.ensures.value c.self.invariant.sorted c.in-Ok.ensures.found (ap (λ (k : List ℕ). (k, c.args.state)) key))
    ∙ ap (λ (p : Parts). map.insert p.states c.args.key c.args.state) c.self.view_is

pub returns-in-Ok-clause-spare : goal.returns-in-Ok-clause-spare
returns-in-Ok-clause-spare c =
    let kept = c.self.inside.entries.items in
    let there = found-state kept c.deref.result.now c.in-Ok.at c.args.key c.index_mut.result.now c.index_mut.result.now c.deref.ensures.value c.self.invariant.sorted c.in-Ok.ensures.found c.index_mut.ensures.value in
    ap (λ (p : Parts). p.spare) c.self.view_is
    ∙ sym (ap (λ (o : Option State). cond (is_some o) c.args.self.now.spare (c.args.self.now.spare - 1)) (ap (λ (p : Parts). map.get p.states c.args.key) (sym c.self.view_is) ∙ there))

pub invariant_of-self-in-Err : goal.invariant_of-self-in-Err
invariant_of-self-in-Err c =
    let kept = c.self.inside.entries.items in
    let found = c.in-Err.ensures.found in
    let room : vec_len c.self.inside.entries < vec_capacity c.self.inside.entries = omega (arith, c.self.invariant.room, c.in-Some.ensures.len) in
    let ok = c.insert.ensures.succeeds room in
    let longer = c.insert.ensures.len ∙ ap (λ (b : Bool). cond b (vec_len c.self.inside.entries + 1) (vec_len c.self.inside.entries)) ok in
    let put = inserted-put _ kept c.deref.result.now c.insert.new.self.items c.in-Err.at c.args.key c.args.state c.insert.result c.insert.ensures.items ok c.deref.ensures.value found.1 found.2 refl in
    let now = encoded-put_new kept c.deref.result.now _ c.in-Err.at c.args.key c.args.state c.deref.ensures.value found.1 found.2 put in
    let told = encoded-put (entries_of kept) _ c.args.key c.args.state c.args.self.now.states c.self.invariant.sorted put (ap (λ (p : Parts). p.states) c.self.view_is) in
    record {
      sorted = sorted-put (entries_of kept) _ c.args.key c.args.state c.self.invariant.sorted put;
      spare = omega (arith, c.self.invariant.spare, c.in-Some.ensures.len);
      room = omega (arith, c.self.invariant.room, c.in-Some.ensures.len, longer, c.insert.ensures.capacity);
      back = omega (arith, c.self.invariant.back, c.in-Some.ensures.len, longer, c.in-Some.ensures.capacity);
      bytes = omega (arith, c.self.invariant.bytes, now, c.encoded-longer.ensures.value);
      few = omega (arith, c.self.invariant.bytes, now, c.encoded-longer.ensures.value, told, c.requires.bytes);
    }

pub returns-in-Some-clause-states : goal.returns-in-Some-clause-states
returns-in-Some-clause-states c =
    let kept = c.self.inside.entries.items in
    let found = c.in-Err.ensures.found in
    let room : vec_len c.self.inside.entries < vec_capacity c.self.inside.entries = omega (arith, c.self.invariant.room, c.in-Some.ensures.len) in
    let ok = c.insert.ensures.succeeds room in
    insert-put (entries_of kept) _ c.args.key c.args.state c.self.invariant.sorted
    (inserted-put _ kept c.deref.result.now c.insert.new.self.items c.in-Err.at c.args.key c.args.state c.insert.result c.insert.ensures.items ok c.deref.ensures.value found.1 found.2 refl)
    ∙ ap (λ (p : Parts). map.insert p.states c.args.key c.args.state) c.self.view_is

pub returns-in-Some-clause-spare : goal.returns-in-Some-clause-spare
returns-in-Some-clause-spare c =
    let found = c.in-Err.ensures.found in
    let none = missing-state c.self.inside.entries.items c.deref.result.now c.in-Err.at c.args.key c.deref.ensures.value c.self.invariant.sorted found.1 found.2 in
    let missing : map.get c.args.self.now.states c.args.key ≡ None = ap (λ (p : Parts). map.get p.states c.args.key) (sym c.self.view_is) ∙ none in
    ap (λ (p : Parts). p.spare - 1) c.self.view_is ∙ sym (ap (λ (o : Option State). cond (is_some o) c.args.self.now.spare (c.args.self.now.spare - 1)) missing)

pub returns-in-Ok-clause-bytes : goal.returns-in-Ok-clause-bytes
returns-in-Ok-clause-bytes c =
    omega (
      arith,
      ap encoded_by (returns-in-Ok-clause-states c),
      sum-insert (λ (key : List ℕ) (state : State). length (spelling key state)) c.args.self.now.states c.args.key c.args.state,
      c.encoded-longer.ensures.value,
      c.encoded-longer.ensures.most,
    )

pub returns-in-Some-clause-bytes : goal.returns-in-Some-clause-bytes
returns-in-Some-clause-bytes c =
    omega (
      arith,
      ap encoded_by (returns-in-Some-clause-states c),
      sum-insert (λ (key : List ℕ) (state : State). length (spelling key state)) c.args.self.now.states c.args.key c.args.state,
      c.encoded-longer.ensures.value,
      c.encoded-longer.ensures.most,
    )
