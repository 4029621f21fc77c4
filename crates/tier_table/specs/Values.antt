-- What the table's values stand for.
use Rattle.store_model.specs.Shape.{Shape}
use Rattle.tier_table.specs.declared.values.Shape.{Shape as Counted}

-- the shape that a `Shape` says
abbrev pub shape_of : Counted → Shape
shape_of shape = record { full = shape.full; extents = shape.extents; tail = shape.tail }
