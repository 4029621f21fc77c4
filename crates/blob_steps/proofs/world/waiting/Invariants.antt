use Rattle.std.proofs.Common.{◌≡◌, map, take}
use Rattle.blob_steps.proofs.world.waiting.Given as goal

abbrev pub invariant-taken : goal.invariant-taken
invariant-taken l = l.numbers ≡ map (λ request. request.session) (take l.i l.fn.queue)
