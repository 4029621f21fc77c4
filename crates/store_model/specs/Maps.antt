-- Maps by keys.
use Rattle.std.specs.Prelude.{map}
use Rattle.std.specs.FinMap.{FinMap, entries, from_sorted}
use Rattle.store_model.specs.Key.{key_order}

-- the map that has under each key what a function gives of the value there
abbrev pub map_values : {A B : Type 0} → (A → B) → FinMap key_order A → FinMap key_order B
map_values f m = from_sorted (map (λ entry. (entry.0, f entry.1)) (entries m))
