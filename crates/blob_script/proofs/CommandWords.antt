-- The words of a command line, one by one.
use Rattle.std.proofs.Common.{◌≡◌, ℕ, ◌^◌, ◌<◌, List, decimal, arith}
use Rattle.std.proofs.lemmas.Fmt.{decimal_injective}
use Rattle.store_model.specs.Layout.{Layout}
use Rattle.blob_script.specs.Words.{SpellLayout}

-- the layout whose numbers the words spell
pub layout_is : (one two : List ℕ) (units room : ℕ) (layout : Layout) → one ≡ decimal units → two ≡ decimal room
    → units < 2 ^ 32 → room < 2 ^ 32 → SpellLayout one two layout → (layout.units ≡ units) × (layout.room ≡ room)
layout_is one two units room layout one_is two_is few_units little_room spells =
    let within = spells.within in
    let units_are = spells.units_are in
    let room_is = spells.room_is in
    let same_units : decimal layout.units ≡ decimal units = cc in
    let same_room : decimal layout.room ≡ decimal room = cc in (
      decimal_injective layout.units units (omega (arith, within.most_units)) (omega arith) same_units,
      decimal_injective layout.room room (omega (arith, within.most_room)) (omega arith) same_room,
    )
