-- A disk behind a turn.
use Rattle.std.proofs.Common.{◌≡◌, ℕ, zero, suc, ◌+◌, ◌≤◌, List, [], ◌++◌, refl, sym, ap, subst, ◌∙◌, arith}
use Rattle.std.specs.FinMap.{FinMap}
use Rattle.store_model.specs.Disk.{Image, SameOff, area_of, zero_page}
use Rattle.store_model.specs.Half.{SpellsHalf, picked}
use Rattle.store_model.specs.HalfRefusals.{FindsHalf}
use Rattle.store_model.specs.Key.{key_order}
use Rattle.store_model.specs.Layout.{Layout, header_page, log_page, states_page, total_pages}
use Rattle.store_model.specs.Log.{at_log, is_open}
use Rattle.store_model.specs.LogReading.{HasBodies}
use Rattle.store_model.specs.Reading.{Opened, Reads, blocks_of_states}
use Rattle.store_model.specs.Space.{Apart}
use Rattle.store_model.specs.State.{State}
use Rattle.recover.specs.Turns.{found_by}

-- pages that read as before have the same bytes
pub area-same : (old new : Image) (first count : ℕ) → ((p : ℕ) → first ≤ p → new p ≡ old p) → area_of new first count ≡ area_of old first count
area-same old new first zero same = refl
area-same old new first (suc count) same =
    ap (λ (bytes : List ℕ). bytes ++ area_of new (first + 1) count) (same first (omega arith))
    ∙ ap (λ (bytes : List ℕ). old first ++ bytes) (area-same old new (first + 1) count (λ p from. same p (omega (arith, from))))

-- a half is found where the selector picks it, with a log of no bodies
pub Reads-turned : (pages half last : ℕ) (layout : Layout) (states : FinMap key_order State) (before after : Image) → total_pages layout ≤ pages
    → SpellsHalf (before (header_page half)) (area_of before (states_page layout half) layout.room) layout last states → before (log_page half) ≡ zero_page
    → SameOff (λ p. p ≡ 0) before after → picked (after 0) ≡ half → Apart (blocks_of_states states) → Reads pages after (Opened (found_by layout last states))
Reads-turned pages half last layout states before after fits spells gate off picks apart =
    let header : after (header_page half) ≡ before (header_page half) = off (header_page half) (λ zero. omega (arith, zero)) in
    let area : area_of after (states_page layout half) layout.room ≡ area_of before (states_page layout half) layout.room =
    area-same before after (states_page layout half) layout.room (λ p from. off p (λ zero. omega (arith, zero, from))) in
    let spelled : SpellsHalf (after (header_page half)) (area_of after (states_page layout half) layout.room) layout last states =
    subst (λ (bytes : List ℕ). SpellsHalf (after (header_page half)) bytes layout last states) (sym area)
    (subst (λ (bytes : List ℕ). SpellsHalf bytes (area_of before (states_page layout half) layout.room) layout last states) (sym header) spells) in
    let finds : FindsHalf pages after half layout last states = record { fits = fits; spells = spelled } in
    let first : after (at_log half 0) ≡ zero_page =
    ap after (omega arith) ∙ off (log_page half) (λ zero. omega (arith, zero)) ∙ gate in
    let log : HasBodies after half [] 0 =
    record { are = refl; within = omega arith; closed = ap (λ (page : List ℕ). is_open page) first ∙ refl } in (
      record {
        start = found_by layout last states;
        finds = subst (λ (h : ℕ). FindsHalf pages after h layout last states) (sym picks) finds;
        bodies = [];
        gate = 0;
        log = subst (λ (h : ℕ). HasBodies after h [] 0) (sym picks) log;
        takes = refl;
      },
      apart,
    )
