use Rattle.recover.proofs.Owned.{half-blocks}
use Rattle.vault.proofs.memory.space_of.Goals as goal

pub build-requires-clause-blocks : goal.build-requires-clause-blocks
build-requires-clause-blocks c =
    half-blocks c.args.layout c.requires.half.0 c.data_pages.result c.args.relation.now.states c.in_ok-owned.owned c.requires.half.1 c.in_ok-owned.ensures c.data_pages.ensures.value
