-- Why images must have alike what the reading of a store looks at: with one of these things otherwise, another store is told, or none.
-- - The first closed gate: opened, a store with a greater last number is told, or none (Gives-opened). That serves for the log before it
--   too: of two images of which one has a gate open and the other has it closed, the one with the longer log tells the greater number.
-- - The header: it tells what the half starts with, and without its text there is no store (Starts-header, Starts-begins). So it is with
--   the selector, which picks the header.
-- - The pages of the tuples: they tell the states that the half starts with (Starts-tuples).
-- - The contents of the states that the last frame sets: one that doesn't verify isn't found (Gives-damaged in DamagedLaws).
use Rattle.std.proofs.Common.{◌≡◌, ℕ, ◌<◌, List, length, take, codes, refl, sym, ap, ◌∙◌, subst}
use Rattle.std.specs.Prelude.{IsTrue}
use Rattle.std.specs.FinMap.{len}
use Rattle.std.proofs.lemmas.List.{take_at}
use Rattle.store_model.specs.Dependence.{AgreesToGate}
use Rattle.store_model.specs.Disk.{HasPages, Image, area_of}
use Rattle.store_model.specs.Half.{header_spelling, picked, tuples_spelling}
use Rattle.store_model.specs.Layout.{header_page, states_page}
use Rattle.store_model.specs.LogReading.{HasBodies, StoredBody, gate_is_open}
use Rattle.store_model.specs.Reading.{Found, Gives, KeptIn, TakesEach}
use Rattle.store_model.proofs.DependenceLaws.{picked-agree, Starts-agree}
use Rattle.store_model.proofs.HalfAgreeLaws.{AreBodies-agree}
use Rattle.store_model.proofs.NumberLaws.{AreBodies-longer, TakesEach-longer}
use Rattle.store_model.proofs.ReadingOneLaws.{Starts, start-one, start-small}

-- With the gate opened that was the first closed one, whatever stands behind it, another store is told if any.
pub Gives-opened : (pages : ℕ) (image other : Image) (found after : Found) (gives : Gives pages image found) → HasPages image
    → AgreesToGate pages image other found gives → IsTrue (gate_is_open other (picked (image 0)) gives.gate) → Gives pages other after → found.last < after.last
Gives-opened pages image other found after gives whole agrees opened again =
    let half : ℕ = picked (image 0) in
    let picks : picked (other 0) ≡ half = picked-agree pages image other found gives agrees in
    let start : again.start ≡ gives.start =
    start-one pages other (picked (other 0)) again.start gives.start again.finds (Starts-agree pages image other found gives whole agrees) in
    let log : HasBodies other half again.bodies again.gate = subst (λ (h : ℕ). HasBodies other h again.bodies again.gate) picks again.log in
    let longer = AreBodies-longer other half 0 gives.bodies gives.gate again.bodies again.gate
    (AreBodies-agree image other half 0 gives.bodies gives.gate whole agrees.log gives.log.are) opened log.are log.closed in
    TakesEach-longer (KeptIn image gives.start.layout) (KeptIn other again.start.layout) gives.start again.start gives.bodies longer.0 longer.1.0 found after
    (start-small pages image half gives.start gives.finds)
    (ap (λ (f : Found). f.layout) (sym start), ap (λ (f : Found). f.last) (sym start)) gives.takes
    (subst (λ (bodies : List StoredBody). TakesEach (KeptIn other again.start.layout) again.start bodies after) longer.1.1 again.takes)

-- A half starts with what its header's first bytes tell, and these begin with the text.
pub Starts-header : (pages : ℕ) (image : Image) (half : ℕ) (start : Found) → Starts pages image half start
    → let text : List ℕ = header_spelling start.layout start.last (len start.states) (length (tuples_spelling start.states)) in
    take (length text) (image (header_page half)) ≡ text
Starts-header pages image half start starts =
    let text : List ℕ = header_spelling start.layout start.last (len start.states) (length (tuples_spelling start.states)) in
    ap (λ (xs : List ℕ). take (length text) xs) starts.spells.header_is ∙ take_at text starts.spells.header_rest (length text) refl

pub Starts-begins : (pages : ℕ) (image : Image) (half : ℕ) (start : Found) → Starts pages image half start
    → take 8 (image (header_page half)) ≡ codes "BLOBHALF"
Starts-begins pages image half start starts = ap (λ (xs : List ℕ). take 8 xs) starts.spells.header_is

-- The pages of its tuples tell its states.
pub Starts-tuples : (pages : ℕ) (image : Image) (half : ℕ) (start : Found) → Starts pages image half start
    → take (length (tuples_spelling start.states)) (area_of image (states_page start.layout half) start.layout.room) ≡ tuples_spelling start.states
Starts-tuples pages image half start starts =
    let tuples : List ℕ = tuples_spelling start.states in
    ap (λ (xs : List ℕ). take (length tuples) xs) starts.spells.area_is ∙ take_at tuples starts.spells.area_rest (length tuples) refl
