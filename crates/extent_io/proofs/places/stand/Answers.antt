use Rattle.std.proofs.Common.{◌+◌, [], slice_index_or, arith}
use Rattle.store_model.specs.Layout.{data_pages}
use Rattle.store_model.specs.Holds.{place_of}
use Rattle.store_model.proofs.PlaceLaws.{StandsAt-within}
use Rattle.extent_io.proofs.Stands.{extent-within, stands-behind}
use Rattle.extent_io.proofs.places.stand.Goals as goal

pub bounds-extents-lies : goal.bounds-extents-lies
bounds-extents-lies c =
    extent-within c.args.state.now c.extents.result.now c.args.number c.place-lies.result.extent c.place-lies.result.offset c.extents.ensures.value
    c.rules.ensures c.place-lies.ensures.place c.requires.number

pub overflow_add-result : goal.overflow_add-result
overflow_add-result c =
    let stands = stands-behind c.args.state.now c.extents.result.now c.args.number c.place-lies.result.extent c.place-lies.result.offset (record { head = 0; mark = record { words = [] } }) c.extents.ensures.value
    c.rules.ensures c.place-lies.ensures.place c.requires.number in
    let within = StandsAt-within (data_pages c.args.layout) (place_of c.args.state.now) c.args.number
    ((slice_index_or c.extents.result.now c.place-lies.result.extent (record { head = 0; mark = record { words = [] } })).head + c.place-lies.result.offset)
    c.requires.within stands in
    omega (arith, within, c.rules-2.ensures)

pub returns-clause-stands : goal.returns-clause-stands
returns-clause-stands c =
    stands-behind c.args.state.now c.extents.result.now c.args.number c.place-lies.result.extent c.place-lies.result.offset (record { head = 0; mark = record { words = [] } }) c.extents.ensures.value
    c.rules.ensures c.place-lies.ensures.place c.requires.number

pub returns-clause-within : goal.returns-clause-within
returns-clause-within c =
    StandsAt-within (data_pages c.args.layout) (place_of c.args.state.now) c.args.number _ c.requires.within
    (stands-behind c.args.state.now c.extents.result.now c.args.number c.place-lies.result.extent c.place-lies.result.offset (record { head = 0; mark = record { words = [] } }) c.extents.ensures.value
    c.rules.ensures c.place-lies.ensures.place c.requires.number)
