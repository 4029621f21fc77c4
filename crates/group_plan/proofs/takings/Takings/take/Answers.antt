use Rattle.std.proofs.Common.{[], ◌∷◌, ◌++◌, ◌≡◌, ◌<◌, refl, ◌∙◌, ap, arith, cond, Bool}
use Rattle.std.specs.Vec.{vec_len, vec_capacity}
use Rattle.std.proofs.lemmas.Result.{err_from_is_err_and}
use Rattle.extent_alloc.specs.Parts.{Parts}
use Rattle.group_plan.proofs.Blocks.{Fails-block, Moves-block, Moves-none, TakesHeads-block}
use Rattle.group_plan.proofs.takings.Takings.take.Goals as goal

pub returns-in_err-head-clause-fault : goal.returns-in_err-head-clause-fault
returns-in_err-head-clause-fault c =
    let p = err_from_is_err_and c.from_residual-in_err-head.result c.from_residual-in_err-head.ensures.1 in
    let tier : c.in_err-head.field-0.0.tier ≡ c.args.tier = c.in_err-head.ensures.tier in
    let room = c.make_room.ensures in
    let same : c.take.new.self ≡ c.make_room.new.space = c.in_err-head.ensures.err in
    rw (p.1, p.2, tier) (
      Fails-block c.args.tier c.args.space.now c.make_room.new.space room.owned room.pages c.in_err-head.ensures.full,
      (
        [],
        Moves-none c.args.space.now c.take.new.self c.args.self.now c.make_room.new.self (ap (λ (s : Parts). s.owned) same ∙ room.owned) (ap (λ (s : Parts). s.pages) same ∙ room.pages) room.blocks room.base
            c.requires.listed (omega (arith, room.more, ap (λ (s : Parts). s.spare) same)),
      ),
    )

pub returns-clause-takes : goal.returns-clause-takes
returns-clause-takes c =
    let room = c.make_room.ensures in
    let done = c.in_ok-head.ensures in
    let within : vec_len c.make_room.new.self.blocks < vec_capacity c.make_room.new.self.blocks = omega (arith, c.in_ok-make_room.ensures.room) in
    record {
      took = TakesHeads-block c.args.tier c.in_ok-head.head c.args.space.now c.make_room.new.space c.take.new.self room.owned room.pages done.fit done.owned;
      count = refl;
      moves = Moves-block c.args.tier c.in_ok-head.head c.args.space.now c.make_room.new.space c.take.new.self c.args.self.now c.make_room.new.self (record { blocks = c.push.new.self; spare = c.make_room.new.self.spare })
          (Moves-none c.args.space.now c.make_room.new.space c.args.self.now c.make_room.new.self room.owned room.pages room.blocks room.base c.requires.listed room.more)
          c.in_ok-make_room.ensures.spare done.owned c.take.ensures.pages done.spare
          (c.push.ensures.items ∙ ap (λ (b : Bool). cond b (c.make_room.new.self.blocks.items ++ (c.in_ok-head.head, c.args.tier) ∷ []) c.make_room.new.self.blocks.items) (c.push.ensures.succeeds within)) refl;
    }
