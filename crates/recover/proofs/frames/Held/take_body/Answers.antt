use Rattle.std.proofs.Common.{ℕ, ◌<◌, ◌≤◌, ◌∙◌, subst, sym, arith}
use Rattle.std.proofs.lemmas.Bool.{leb-true}
use Rattle.std.proofs.lemmas.Bool.Decides.{nat_tests}
use Rattle.store_model.specs.Frame.{Spells}
use Rattle.store_model.specs.Layout.{Layout, data_pages}
use Rattle.store_model.specs.Half.{IsHalf}
use Rattle.store_model.specs.Reading.{Takes}
use Rattle.store_model.specs.World.{states_bytes}
use Rattle.frame_codec.specs.Values.{model_entries}
use Rattle.meta_log.specs.Reads.{stored_body}
use Rattle.relation.specs.Parts.{encoded_by}
use Rattle.recover.specs.Frames.{AreStored, KeptBy}
use Rattle.recover.specs.Turns.{found_by}
use Rattle.recover.proofs.Bodies.{KeepsOne-by, Spells-same, bad-number, bad-room, entries-upto, half-few, half-small, sound-behind, stored-half, takes-body}
use Rattle.recover.proofs.Droppings.{body-adds}
use Rattle.recover.proofs.Numbers.{last-above}
use Rattle.recover.proofs.frames.Held.take_body.Goals as goal

pub returns-in_default-clause-bad : goal.returns-in_default-clause-bad
returns-in_default-clause-bad g c tells isnt =
    let layout = c.args.self.now.layout in
    let told = model_entries c.in-Ok.entries in
    let spells : Spells (data_pages layout) c.args.body.now.bytes told =
    Spells-same c.data_pages.result (data_pages layout) c.as_slice.result.now c.args.body.now.bytes told c.data_pages.ensures.value c.as_slice.ensures c.in-Ok.ensures.spells in
    bad-number (KeptBy c.args.is_last (g.D.Disk.story c.args.disk.now).reads layout) layout c.args.self.now.last c.args.self.now.relation.states (stored_body c.args.body.now)
    told (half-small layout c.args.self.now.last c.args.self.now.relation.states c.requires.sound) spells c.in_default.ensures.none

pub take_entries-requires-clause-entries : goal.take_entries-requires-clause-entries
take_entries-requires-clause-entries g c =
    let layout = c.args.self.now.layout in
    let told = model_entries c.in-Ok.entries in
    let spells : Spells (data_pages layout) c.args.body.now.bytes told =
    Spells-same c.data_pages.result (data_pages layout) c.as_slice.result.now c.args.body.now.bytes told c.data_pages.ensures.value c.as_slice.ensures c.in-Ok.ensures.spells in
    entries-upto (data_pages layout) c.args.self.now.last c.in-Some.last told c.args.body.now.bytes c.in-Some.ensures.last spells

pub take_entries-requires-clause-stored : goal.take_entries-requires-clause-stored
take_entries-requires-clause-stored g c =
    let told = model_entries c.in-Ok.entries in
    stored-half c.args.self.now.layout c.args.self.now.last c.in-Some.last c.args.self.now.relation.states c.requires.sound
    (omega (arith, last-above c.args.self.now.last told c.in-Some.ensures.goes_on c.in-Ok.ensures.spells.frame.numbers, c.in-Some.ensures.last))

pub take_entries-requires-clause-bytes : goal.take_entries-requires-clause-bytes
take_entries-requires-clause-bytes g c = half-few c.args.self.now.layout c.args.self.now.last c.args.self.now.relation.states c.requires.sound

pub returns-clause-taken : goal.returns-clause-taken
returns-clause-taken g c tells fits =
    let layout = c.args.self.now.layout in
    let told = model_entries c.in-Ok.entries in
    let new = c.take_entries.new.self in
    let kept = c.in_ok-take_entries.ensures.kept tells in
    let spells : Spells (data_pages layout) c.args.body.now.bytes told =
    Spells-same c.data_pages.result (data_pages layout) c.as_slice.result.now c.args.body.now.bytes told c.data_pages.ensures.value c.as_slice.ensures c.in-Ok.ensures.spells in
    let few : encoded_by new.relation.states ≤ states_bytes new.layout =
    omega (arith, leb-true c.bytes.result c.states_bytes.result fits, c.bytes.ensures.value, c.states_bytes.ensures.value) in
    let room : encoded_by new.relation.states ≤ states_bytes layout = subst (λ (l : Layout). encoded_by new.relation.states ≤ states_bytes l) c.in_ok-take_entries.ensures.layout few in
    let takes = takes-body (KeptBy c.args.is_last (g.D.Disk.story c.args.disk.now).reads layout) layout c.args.self.now.last new.last c.args.self.now.relation.states new.relation.states
    (stored_body c.args.body.now) told kept.0 spells c.in-Some.ensures.goes_on (c.in_ok-take_entries.ensures.last ∙ c.in-Some.ensures.last) kept.1 kept.2 room in
    subst (λ (l : Layout). Takes (KeptBy c.args.is_last (g.D.Disk.story c.args.disk.now).reads layout) (found_by layout c.args.self.now.last c.args.self.now.relation.states)
    (stored_body c.args.body.now) (found_by l new.last new.relation.states)) (sym c.in_ok-take_entries.ensures.layout) takes

pub returns-clause-bad : goal.returns-clause-bad
returns-clause-bad g c tells exceeds =
    let layout = c.args.self.now.layout in
    let told = model_entries c.in-Ok.entries in
    let new = c.take_entries.new.self in
    let image = (g.D.Disk.story c.args.disk.now).reads in
    let kept = c.in_ok-take_entries.ensures.kept tells in
    let spells : Spells (data_pages layout) c.args.body.now.bytes told =
    Spells-same c.data_pages.result (data_pages layout) c.as_slice.result.now c.args.body.now.bytes told c.data_pages.ensures.value c.as_slice.ensures c.in-Ok.ensures.spells in
    let full : states_bytes new.layout < encoded_by new.relation.states =
    grind (arith, nat_tests, exceeds, c.bytes.ensures.value, c.states_bytes.ensures.value) in
    bad-room (KeptBy c.args.is_last image layout) layout c.args.self.now.last c.args.self.now.relation.states new.relation.states (stored_body c.args.body.now) told kept.0
    (KeepsOne-by c.args.is_last image layout) (half-small layout c.args.self.now.last c.args.self.now.relation.states c.requires.sound) spells kept.1 kept.2
    (subst (λ (l : Layout). states_bytes l < encoded_by new.relation.states) c.in_ok-take_entries.ensures.layout full)

pub returns-clause-sound : goal.returns-clause-sound
returns-clause-sound g c fits =
    let layout = c.args.self.now.layout in
    let told = model_entries c.in-Ok.entries in
    let new = c.take_entries.new.self in
    let done = c.in_ok-take_entries.ensures in
    let few : encoded_by new.relation.states ≤ states_bytes new.layout =
    omega (arith, leb-true c.bytes.result c.states_bytes.result fits, c.bytes.ensures.value, c.states_bytes.ensures.value) in
    let spells : Spells (data_pages layout) c.args.body.now.bytes told =
    Spells-same c.data_pages.result (data_pages layout) c.as_slice.result.now c.args.body.now.bytes told c.data_pages.ensures.value c.as_slice.ensures c.in-Ok.ensures.spells in
    let room : encoded_by new.relation.states ≤ states_bytes layout = subst (λ (l : Layout). encoded_by new.relation.states ≤ states_bytes l) done.layout few in
    let stored : AreStored (data_pages layout) new.last new.relation.states = subst (λ (n : ℕ). AreStored (data_pages layout) n new.relation.states) (sym done.last) done.stored in
    let half : IsHalf layout new.last new.relation.states =
    sound-behind layout c.args.self.now.last new.last c.args.self.now.relation.states new.relation.states told c.args.body.now.bytes c.requires.sound spells
    (done.last ∙ c.in-Some.ensures.last) stored room in
    subst (λ (l : Layout). IsHalf l new.last new.relation.states) (sym done.layout) half

pub returns-clause-dropped : goal.returns-clause-dropped
returns-clause-dropped g c tells fits =
    let layout = c.args.self.now.layout in
    let told = model_entries c.in-Ok.entries in
    let spells : Spells (data_pages layout) c.args.body.now.bytes told =
    Spells-same c.data_pages.result (data_pages layout) c.as_slice.result.now c.args.body.now.bytes told c.data_pages.ensures.value c.as_slice.ensures c.in-Ok.ensures.spells in
    body-adds c.args.is_last (g.D.Disk.story c.args.disk.now).reads layout (stored_body c.args.body.now) told c.args.self.now.dropped c.take_entries.new.self.dropped spells
    (c.in_ok-take_entries.ensures.dropped tells)
