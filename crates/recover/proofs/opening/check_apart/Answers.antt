use Rattle.recover.proofs.Owned.{half-blocks}
use Rattle.recover.proofs.opening.check_apart.Goals as goal

pub build-requires-clause-blocks : goal.build-requires-clause-blocks
build-requires-clause-blocks c =
    half-blocks c.args.held.now.layout c.args.held.now.last c.data_pages.result c.args.held.now.relation.states c.in_ok-owned.owned c.requires c.in_ok-owned.ensures c.data_pages.ensures.value
