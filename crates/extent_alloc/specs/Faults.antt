-- Why no space is built.
use Rattle.std.specs.Prelude.{List}
use Rattle.store_model.specs.Space.{Block, IsLeastOwnedTwice}
use Rattle.extent_alloc.specs.declared.faults.BuildFault.{BuildFault}
use Rattle.extent_alloc.specs.declared.faults.BuildFault.TheVariants.{OwnedTwice, OutOfMemory}

-- the least page that two of the blocks share; want of memory has no cause
abbrev pub IsBuildFault : List Block → BuildFault → Type 0
IsBuildFault blocks (OwnedTwice page) = IsLeastOwnedTwice blocks page
IsBuildFault blocks OutOfMemory = Unit {0}
