-- A space, as contracts see it.
use Rattle.std.specs.Prelude.{ℕ, ◌+◌, ◌^◌, ◌≤◌, List}
use Rattle.std.specs.Vec.{vec_capacity, vec_len}
use Rattle.store_model.specs.Space.{AreBlocks, Block}
use Rattle.extent_alloc.specs.Order.{InOrder}
use Rattle.extent_alloc.specs.declared.space.Space.TheInside.{Inside}

-- the blocks that are owned, the number of pages, and how many more can be taken or given back without taking memory
pub record Parts : Type 0 where
  pub owned : List Block
  pub pages : ℕ
  pub spare : ℕ

abbrev pub parts_of : Inside → Parts
parts_of s = record { owned = s.owned.items; pages = s.pages; spare = s.spare }

-- the blocks stand within the pages and in order, and there is room for the spare ones
pub record IsSound (s : Inside) : Type 0 where
  pub most : s.pages ≤ 2 ^ 24
  pub blocks : AreBlocks s.pages s.owned.items
  pub order : InOrder s.owned.items
  pub room : vec_len s.owned + s.spare ≤ vec_capacity s.owned
