use Rattle.blob_base.specs.Sorted.{AllBefore}
use Rattle.blob_base.proofs.key_list.search.Given as goal

abbrev pub invariant-searched : goal.invariant-searched
invariant-searched g l = AllBefore l.fn.entries l.fn.key l.at
