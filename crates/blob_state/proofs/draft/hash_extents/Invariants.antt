use Rattle.store_model.proofs.StateLaws.{Hashed}
use Rattle.blob_state.specs.Values.{words_of}
use Rattle.blob_state.proofs.draft.hash_extents.Given as goal

-- the bytes before the extent are hashed, and their marks are told
abbrev pub invariant-hashed : goal.invariant-hashed
invariant-hashed l = Hashed l.content l.i l.start l.chain.mark l.chain.count (words_of l.marks.items)
