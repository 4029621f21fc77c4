use Rattle.std.proofs.Common.{◌≡◌, ◌+◌, ◌++◌, ◌∷◌, [], refl, rules}
use Rattle.std.specs.FinMap as map
use Rattle.frame_codec.specs.declared.entry.Entry.{Entry}
use Rattle.relation.specs.Parts.{owned_by}
use Rattle.group_plan.specs.Frees.{left_by}
use Rattle.group_plan.specs.Plans.{holdings_by}
use Rattle.group_plan.specs.declared.plan.Reply.TheVariants as reply
use Rattle.group_plan.proofs.Adding.{AddsMember-committed, AddsMember-refused, Moves-back, owned-listed}
use Rattle.group_plan.proofs.Walks.{OnOk-both, OnOk-then}
use Rattle.group_plan.proofs.plan.Group.add.Goals as goal

pub give_back_from-requires-clause-owned : goal.give_back_from-requires-clause-owned
give_back_from-requires-clause-owned c =
    let why = rw c.in-Err-Refused.field-0-is at c.in-Err-Refused.ensures.refusal in (
      owned_by c.args.relation.now.states,
      owned-listed why.3.0 c.args.space.now c.judge.new.space c.args.takings.now c.judge.new.takings (owned_by c.args.relation.now.states) why.3.1 c.requires.owned,
    )

pub returns-in-Ok-clause-added : goal.returns-in-Ok-clause-added
returns-in-Ok-clause-added c =
    let old = c.args.self.now in
    let new = c.commit.new.self in
    let done = c.commit.ensures in
    let entry : Entry = record { number = old.tally.last + 1; session = c.args.request.now.session; nth = c.args.request.now.nth; writes = c.in-Ok.judged.writes } in
    let r = c.commit.result in
    let A = new.plan.replies ≡ old.plan.replies ++ reply.Committed (old.tally.last + 1) ∷ [] in
    let B = new.plan.entries ≡ old.plan.entries ++ entry ∷ [] in
    let C = new.plan.members ≡ old.plan.members ++ c.args.member ∷ [] in
    let D = new.plan.frees ≡ old.plan.frees ++ left_by (holdings_by c.args.relation.now.states) (map.entries c.args.request.now.writes) in
    let F = new.tally.grown ≡ old.tally.grown + c.in-Ok.judged.growth in
    let G = new.tally.last ≡ old.tally.last + 1 in
    OnOk-then r (A × (B × (C × (D × (F × G))))) _
    (λ all.
    AddsMember-committed c.args.relation.now.states c.args.limits c.args.request.now c.args.member old new c.args.space.now c.judge.new.space c.args.takings.now c.judge.new.takings c.in-Ok.judged
    c.in-Ok.ensures.judged c.requires.room all.0 all.1.0 all.1.1.0 all.1.1.1.0 all.1.1.1.1.0 all.1.1.1.1.1)
    (OnOk-both r A (B × (C × (D × (F × G)))) done.replies
    (OnOk-both r B (C × (D × (F × G))) done.entries
    (OnOk-both r C (D × (F × G)) done.members
    (OnOk-both r D (F × G) done.frees
    (OnOk-both r F G done.grown done.last)))))

pub returns-in-Err-Refused-clause-added : goal.returns-in-Err-Refused-clause-added
returns-in-Err-Refused-clause-added c =
    let old = c.args.self.now in
    let why = rw c.in-Err-Refused.field-0-is at c.in-Err-Refused.ensures.refusal in
    let back = c.give_back_from.ensures in
    let rest = owned_by c.args.relation.now.states in
    OnOk-then c.push.result (c.push.new.self ≡ old.plan.replies ++ c.in-Err-Refused.reply ∷ []) _
    (λ pushed.
    AddsMember-refused c.args.relation.now.states c.args.limits c.args.request.now c.args.member old
    (record { plan = record { replies = c.push.new.self; entries = old.plan.entries; members = old.plan.members; frees = old.plan.frees }; tally = old.tally })
    c.args.space.now c.give_back_from.new.space c.args.takings.now c.give_back_from.new.self c.in-Err-Refused.reply why.0 why.1 why.2 pushed refl refl refl refl
    (Moves-back why.3.0 c.args.space.now c.judge.new.space c.give_back_from.new.space c.args.takings.now c.judge.new.takings c.give_back_from.new.self rest c.len-kept.result (search rules) why.3.1 c.requires.owned
    back.left back.spare back.pages back.listed
    (back.owned rest (owned-listed why.3.0 c.args.space.now c.judge.new.space c.args.takings.now c.judge.new.takings rest why.3.1 c.requires.owned)))
    c.requires.grown c.requires.last)
    c.push.ensures.ok

pub returns-in-Err-Refused-clause-moved : goal.returns-in-Err-Refused-clause-moved
returns-in-Err-Refused-clause-moved c =
    let why = rw c.in-Err-Refused.field-0-is at c.in-Err-Refused.ensures.refusal in
    let back = c.give_back_from.ensures in
    let rest = owned_by c.args.relation.now.states in (
      [],
      Moves-back why.3.0 c.args.space.now c.judge.new.space c.give_back_from.new.space c.args.takings.now c.judge.new.takings c.give_back_from.new.self rest c.len-kept.result (search rules) why.3.1 c.requires.owned
          back.left back.spare back.pages back.listed
          (back.owned rest (owned-listed why.3.0 c.args.space.now c.judge.new.space c.args.takings.now c.judge.new.takings rest why.3.1 c.requires.owned)),
    )
