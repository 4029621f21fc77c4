-- Blocks of which each is one among the pages.
use Rattle.std.proofs.Common.{subst}
use Rattle.std.specs.List.{All}
use Rattle.std.proofs.lemmas.List.Elements.{All-contains}
use Rattle.store_model.specs.Space.{IsBlock}
use Rattle.tests_groups.proofs.planning.space_of.Goals as goal

pub build-requires-clause-blocks : goal.build-requires-clause-blocks
build-requires-clause-blocks g c block is =
    All-contains (IsBlock c.args.pages) c.expect-owned.result block
    (subst (All (IsBlock c.args.pages)) c.as_slice.ensures c.expect_tails.ensures) is
