-- What a crash in a turn leaves.
use Rattle.std.proofs.Common.{◌≡◌, ℕ, ◌+◌, ◌-◌, ◌<◌, ◌≤◌, ◌⊎◌, IsTrue, List, Err, inl, inr, refl, sym, ap, subst, ◌∙◌, arith}
use Rattle.std.proofs.lemmas.Bool.{cases_lt}
use Rattle.std.specs.FinMap.{FinMap}
use Rattle.blob_base.specs.declared.faults.IoFault.{IoFault}
use Rattle.blob_base.specs.declared.faults.IoFault.TheVariants as io
use Rattle.check_point.specs.Writers.{IsOfHalf}
use Rattle.disk_model.specs.Disks.{OnlyReads, OnlyWrites}
use Rattle.disk_model.specs.Frame.{Counted}
use Rattle.disk_model.specs.declared.disk.Disk.{Ghosts}
use Rattle.disk_model.proofs.DiskLaws.{OnlyWrites-more, OnlyWrites-wider}
use Rattle.store_model.specs.Dependence.{IsContentPage, IsHalfPage, IsLookedAt, IsOtherHalfPage}
use Rattle.store_model.specs.Disk.{HasPages, Image, SameOff, with_sync}
use Rattle.store_model.specs.Frame.{Entry}
use Rattle.store_model.specs.Half.{picked}
use Rattle.store_model.specs.HalfRefusals.{FindsHalf}
use Rattle.store_model.specs.Images.{LeavesOnly, Settled, Stayed, Within, time_of}
use Rattle.store_model.specs.Key.{key_order}
use Rattle.store_model.specs.Layout.{Layout, states_page, total_pages}
use Rattle.store_model.specs.Log.{at_log, is_open}
use Rattle.store_model.specs.LogReading.{HasBodies}
use Rattle.store_model.specs.Reading.{Found, Gives, Opened, Reads}
use Rattle.store_model.specs.State.{State}
use Rattle.store_model.proofs.DependenceLaws.{TakesEach-agree}
use Rattle.store_model.proofs.FurtherLaws.{TakesEach-layout}
use Rattle.store_model.proofs.HalfAgreeLaws.{FindsHalf-agree, HasBodies-agree}
use Rattle.store_model.proofs.ImageLaws.{leaves_only, leaves_stayed, leaves_then, stays_settled}
use Rattle.store_model.proofs.OffLaws.{picked-half, poured-data}
use Rattle.store_model.proofs.UnseenLaws.{IsOtherHalfPage-unseen}
use Rattle.recover.specs.Openings.{BeginsAt, LeavesFrom}
use Rattle.recover.specs.Turns.{HalfStands, InTurn, IsTurnPage, ReadsThrough, found_by}
use Rattle.recover.proofs.Turned.{Reads-turned}

-- a half stands where the pages read as before
pub HalfStands-same : (old new : Image) (layout : Layout) (half last : ℕ) (states : FinMap key_order State) → new ≡ old → HalfStands old layout half last states
    → HalfStands new layout half last states
HalfStands-same old new layout half last states same stands = subst (λ (image : Image). HalfStands image layout half last states) (sym same) stands

-- the selector is no page of a half, and none of a content
half-page-some : (layout : Layout) (bytes half p : ℕ) → IsHalfPage layout bytes half p → p ≡ 0 → ⊥
half-page-some layout bytes half p (inl header) zero = omega (arith, header, zero)
half-page-some layout bytes half p (inr tuples) zero = omega (arith, tuples.from, zero)

content-page-some : (layout : Layout) (entries : List Entry) (p : ℕ) → IsContentPage layout entries p → p ≡ 0 → ⊥
content-page-some layout entries p is zero = omega (arith, poured-data layout is.state 0 p is.poured, zero)

-- An image whose selector picks the same half reads as the same store, where all else that is looked at is the same.
Reads-picked : (pages : ℕ) (image other : Image) (found : Found) (reads : Reads pages image (Opened found)) → HasPages image → picked (other 0) ≡ picked (image 0)
    → ((p : ℕ) → IsLookedAt pages image found reads.0 p → (p ≡ 0 → ⊥) → other p ≡ image p) → Reads pages other (Opened found)
Reads-picked pages image other found reads whole picks same =
    let gives : Gives pages image found = reads.0 in
    let half : ℕ = picked (image 0) in
    let log : (i : ℕ) → i < gives.gate + 1 → other (at_log half i) ≡ image (at_log half i) =
    λ i below. same (at_log half i) (inr (inr (inl (record { at = i; below = below; is = omega arith })))) (λ zero. omega (arith, zero)) in
    let finds = FindsHalf-agree pages image other half gives.start.layout gives.start.last gives.start.states whole
    (λ p is. same p (inr (inl is)) (λ zero. half-page-some gives.start.layout _ half p is zero)) gives.finds in
    let bodies = HasBodies-agree image other half gives.bodies gives.gate whole (λ i below. log i (omega (arith, below)))
    (ap is_open (log gives.gate (omega arith)) ∙ gives.log.closed) gives.log in (
      record {
        start = gives.start;
        finds = subst (λ (h : ℕ). FindsHalf pages other h gives.start.layout gives.start.last gives.start.states) (sym picks) finds;
        bodies = gives.bodies;
        gate = gives.gate;
        log = subst (λ (h : ℕ). HasBodies other h gives.bodies gives.gate) (sym picks) bodies;
        takes = TakesEach-agree image other gives.start.layout gives.start gives.bodies found refl
            (λ entries p last is. same p (inr (inr (inr (entries, (last, is))))) (λ zero. content-page-some gives.start.layout entries p is zero)) gives.takes;
      },
      reads.1,
    )

-- two halves
other-half : (half one : ℕ) → half ≤ 1 → one ≤ 1 → (one ≡ half) ⊎ (one ≡ 1 - half)
other-half half one two there = elim (cases_lt one half) [
  | inl less ↦ inr (omega (arith, less, two))
  | inr most ↦ elim (cases_lt half one) [
    | inl more ↦ inr (omega (arith, more, there))
    | inr least ↦ inl (omega (arith, most, least))
  ]
]

-- a page of a half that is written anew is one of the half that isn't picked
of-page : (layout : Layout) (picks p : ℕ) → IsOfHalf layout (1 - picks) p → IsOtherHalfPage layout picks p
of-page layout picks p (inl states) = inr (inr states)
of-page layout picks p (inr (inl header)) = inl header
of-page layout picks p (inr (inr log)) = inr (inl (record { at = 0; below = omega arith; is = omega (arith, log) }))

of-other : (layout start : Layout) (half picks p : ℕ) → layout ≡ start → picks ≡ 1 - half → half ≤ 1 → IsOfHalf layout half p → IsOtherHalfPage start picks p
of-other layout start half picks p same is two page =
    let mine : half ≡ 1 - picks = omega (arith, is, two) in
    subst (λ (l : Layout). IsOtherHalfPage l picks p) same (of-page layout picks p (subst (λ (h : ℕ). IsOfHalf layout h p) mine page))

-- What a crash in a turn of a settled disk leaves, which read as a store in the other half: it reads as that store still.
module _ {D : Type 0} (g : Ghosts D) (layout : Layout) (half last : ℕ) (states : FinMap key_order State) (old new : D) (told : IsTrue g.tells)
    (turned : InTurn g layout half last states old new) (settled : Settled (g.story old))
    (reads : Reads (g.size old) (g.story old).reads (Opened (found_by layout last states))) (picks : picked ((g.story old).reads 0) ≡ 1 - half) (two : half ≤ 1)
    (fits : total_pages layout ≤ g.size old) where
  abbrev before : Image
  before = (g.story old).reads

  whole : HasPages before
  whole = (g.story old).pages (g.story old).time before (g.story old).own

  start-layout : layout ≡ reads.0.start.layout
  start-layout = TakesEach-layout _ reads.0.start reads.0.bodies (found_by layout last states) reads.0.takes

  -- no page of the half is looked at
  unseen : (p : ℕ) → IsLookedAt (g.size old) before (found_by layout last states) reads.0 p → IsOfHalf layout half p → ⊥
  unseen p looked page =
      IsOtherHalfPage-unseen (g.size old) before (found_by layout last states) reads.0 p looked
      (of-other layout reads.0.start.layout half (picked (before 0)) p start-layout picks two page)

  -- an image with other bytes on pages of the half and on the selector, which picks the half as before
  reads-picked : (image : Image) → SameOff (IsTurnPage layout half) before image → picked (image 0) ≡ picked (before 0)
      → Reads (g.size old) image (Opened (found_by layout last states))
  reads-picked image same as_before =
      Reads-picked (g.size old) before image (found_by layout last states) reads whole as_before
      (λ p looked some. same p (λ page. elim page [
        | inl of ↦ unseen p looked of
        | inr zero ↦ some zero
      ]))

  -- the first window
  first-leaves : LeavesOnly (ReadsThrough (g.size old) (found_by layout last states) half before) (g.story old) (g.story turned.mid)
  first-leaves =
      leaves_only (ReadsThrough (g.size old) (found_by layout last states) half before) (IsOfHalf layout half) (g.story old) (g.story turned.mid) settled
      (turned.first.wrote told) (λ image same.
      let all : SameOff (IsTurnPage layout half) before image = λ p off. same p (λ of. off (inl of)) in
      record {
        reads = reads-picked image all (ap picked (same 0 (λ of. of-some of)));
        same = all;
      }) where
        of-some : IsOfHalf layout half 0 → ⊥
        of-some (inl states) = omega (arith, states.from)
        of-some (inr (inl header)) = omega (arith, header)
        of-some (inr (inr log)) = omega (arith, log)

  -- the second
  second-leaves : LeavesOnly (ReadsThrough (g.size old) (found_by layout last states) half before) (g.story turned.mid) (g.story new)
  second-leaves = elim turned.second [
    | inl still ↦ leaves_stayed (ReadsThrough (g.size old) (found_by layout last states) half before) (g.story turned.mid) (g.story new) (still.stayed told)
    | inr written ↦
        (let stands = written.0 told in
        let mid : Image = (g.story turned.mid).reads in
        leaves_only (ReadsThrough (g.size old) (found_by layout last states) half before) (λ p. p ≡ 0) (g.story turned.mid) (g.story new) stands.0
        (written.1.wrote told) (λ image same.
        let all : SameOff (IsTurnPage layout half) before image =
        λ p off. same p (λ zero. off (inr zero)) ∙ (turned.first.wrote told).reads p (λ of. off (inl of)) in
        record {
          reads = elim (other-half half (picked (image 0)) two (picked-half (image 0))) [
            | inl turned_to ↦ Reads-turned (g.size old) half last layout states mid image fits stands.1.spells stands.1.gate same turned_to reads.1
            | inr stays ↦ reads-picked image all (stays ∙ sym picks)
          ];
          same = all;
        }))
  ]

  pub Turn-leaves : LeavesOnly (ReadsThrough (g.size old) (found_by layout last states) half before) (g.story old) (g.story new)
  Turn-leaves =
      leaves_then (ReadsThrough (g.size old) (found_by layout last states) half before) (g.story old) (g.story turned.mid) (g.story new) first-leaves second-leaves

-- a turn, behind the writes of the half's states
pub InTurn-behind : {D : Type 0} (g : Ghosts D) (layout l : Layout) (half h last k : ℕ) (states : FinMap key_order State) (old mid new : D) → l ≡ layout → h ≡ half → k ≡ last
    → OnlyWrites g (Within (states_page layout half) layout.room) old mid → InTurn g l h k states mid new → InTurn g layout half last states old new
InTurn-behind g layout l half h last k states old mid new layout_is half_is last_is wrote turned =
    let here : InTurn g layout half last states mid new =
    subst (λ (x : Layout). InTurn g x half last states mid new) layout_is
    (subst (λ (n : ℕ). InTurn g l n last states mid new) half_is (subst (λ (n : ℕ). InTurn g l h n states mid new) last_is turned)) in
    record {
      mid = here.mid;
      first = OnlyWrites-more g (IsOfHalf layout half) (IsOfHalf layout half) old mid here.mid (λ p of. of)
          (OnlyWrites-wider g (Within (states_page layout half) layout.room) (IsOfHalf layout half) old mid (λ p inside. inl inside) wrote) here.first;
      second = here.second;
    }

-- What is left from a time on, and what calls since then leave.
pub LeavesFrom-then : {D : Type 0} (g : Ghosts D) (P : Image → Type 0) (since : ℕ) (mid new : D) → LeavesFrom g P since mid → LeavesOnly P (g.story mid) (g.story new)
    → LeavesFrom g P since new
LeavesFrom-then g P since mid new from only = record {
  past = omega (arith, from.past, only.later);
  each = λ image left. elim (only.leaves since image from.past left) [
    | inl before ↦ from.each image before
    | inr now ↦ now
  ];
}

-- Reads change nothing of what is left.
pub LeavesFrom-read : {D : Type 0} (g : Ghosts D) (P : Image → Type 0) (since : ℕ) (mid new : D) → IsTrue g.tells → LeavesFrom g P since mid → OnlyReads g mid new
    → LeavesFrom g P since new
LeavesFrom-read g P since mid new told from only =
    LeavesFrom-then g P since mid new from (leaves_stayed P (g.story mid) (g.story new) (only.stayed told))

-- Where nothing was pending at a disk's start, what it read as is what is left from then on, if nothing is written.
left-settled : {D : Type 0} (g : Ghosts D) (P : Image → Type 0) (old mid : D) (since : ℕ) → Settled (g.story old) → since ≡ (g.story old).time
    → Stayed (g.story old) (g.story mid) → P (g.story old).reads → LeavesFrom g P since mid
left-settled g P old mid since settled start stayed has = record {
  past = omega (arith, start, stayed.later);
  each = λ image left.
      subst P (sym (settled image (subst (λ (t : ℕ). (g.story old).left t image) start (stayed.leaves since image (omega (arith, start)) left)))) has;
}

-- What is left from an opening's first sync on, where that returned well,
left-synced : {D : Type 0} (g : Ghosts D) (P : Image → Type 0) (old mid : D) (since : ℕ) → BeginsAt g old since → Stayed (g.story old) (g.story mid)
    → Settled (g.story mid) → (g.story mid).time ≡ time_of (g.calls old) + 1 → P (g.story old).reads → LeavesFrom g P since mid
left-synced g P old mid since (inr begins) stayed settled time has = left-settled g P old mid since begins.0 begins.1 stayed has
left-synced g P old mid since (inl begins) stayed settled time has = record {
  past = omega (arith, begins, time);
  each = λ image left.
      subst P (sym (settled image (subst (λ (t : ℕ). (g.story mid).left t image) (begins ∙ sym time) left) ∙ stayed.reads)) has;
}

-- and where it didn't.
left-unsynced : {D : Type 0} (g : Ghosts D) (P : Image → Type 0) (old mid : D) (since : ℕ) → IsTrue g.tells → BeginsAt g old since → OnlyReads g old mid
    → (g.story mid).time ≤ time_of (g.calls old) + 1 → P (g.story old).reads → LeavesFrom g P since mid ⊎ (OnlyReads g old mid × ((g.story mid).time ≤ since))
left-unsynced g P old mid since told (inl begins) only time has = inr (only, omega (arith, begins, time))
left-unsynced g P old mid since told (inr begins) only time has = inl (left-settled g P old mid since begins.0 begins.1 (only.stayed told) has)

-- A sync that didn't return well was one call at most.
pub failed-time : {D T : Type 0} (g : Ghosts D) (old new : D) (why : IoFault) → IsTrue g.tells
    → Counted {T = T} g.tells g.story g.calls g.faults with_sync old new (Err why) → (g.story new).time ≤ time_of (g.calls old) + 1
failed-time g old new io.Failed told counted = omega (arith, counted.time told, ap time_of (counted.made told))
failed-time g old new io.OutOfMemory told counted = omega (arith, counted.time told, ap time_of (counted.unmade told).0)

-- a disk reads as the store that it read as
ReadsThrough-self : (pages : ℕ) (image : Image) (found : Found) (half : ℕ) → Reads pages image (Opened found) → ReadsThrough pages found half image image
ReadsThrough-self pages image found half reads = record { reads = reads; same = λ p off. refl }

-- A store that a disk read as is read still, from a time on with which an opening begins, where its first sync failed,
pub Opening-unsynced : {D : Type 0} (g : Ghosts D) (old mid : D) (found : Found) (half since : ℕ) → IsTrue g.tells → BeginsAt g old since → OnlyReads g old mid
    → (g.story mid).time ≤ time_of (g.calls old) + 1 → Reads (g.size old) (g.story old).reads (Opened found)
    → LeavesFrom g (ReadsThrough (g.size old) found half (g.story old).reads) since mid ⊎ (OnlyReads g old mid × ((g.story mid).time ≤ since))
Opening-unsynced g old mid found half since told begins only time reads =
    left-unsynced g (ReadsThrough (g.size old) found half (g.story old).reads) old mid since told begins only time
    (ReadsThrough-self (g.size old) (g.story old).reads found half reads)

module _ {D : Type 0} (g : Ghosts D) (old mid new : D) (found : Found) (half since : ℕ) (told : IsTrue g.tells) (begins : BeginsAt g old since)
    (stayed : Stayed (g.story old) (g.story mid)) (settled : Settled (g.story mid)) (time : (g.story mid).time ≡ time_of (g.calls old) + 1)
    (reads : Reads (g.size old) (g.story old).reads (Opened found)) where
  abbrev Still : Image → Type 0
  Still = ReadsThrough (g.size old) found half (g.story old).reads

  still-mid : LeavesFrom g Still since mid
  still-mid = left-synced g Still old mid since begins stayed settled time (ReadsThrough-self (g.size old) (g.story old).reads found half reads)

  -- where it was read alone then,
  pub Opening-read : OnlyReads g mid new → LeavesFrom g Still since new
  Opening-read only = LeavesFrom-read g Still since mid new told still-mid only

  -- and where it was turned then.
  pub Opening-turned : (at : D) (layout : Layout) (last : ℕ) (states : FinMap key_order State) → OnlyReads g mid at → g.size at ≡ g.size old
      → found ≡ found_by layout last states → picked ((g.story old).reads 0) ≡ 1 - half → half ≤ 1
      → total_pages layout ≤ g.size at → InTurn g layout half last states at new → LeavesFrom g Still since new
  Opening-turned at layout last states only size found_is picks two fits turned =
      let image : Image = (g.story old).reads in
      let now : (g.story at).reads ≡ image = (only.stayed told).reads ∙ stayed.reads in
      let there : Reads (g.size at) (g.story at).reads (Opened (found_by layout last states)) =
      subst (λ (n : ℕ). Reads n (g.story at).reads (Opened (found_by layout last states))) (sym size)
      (subst (λ (pages : Image). Reads (g.size old) pages (Opened (found_by layout last states))) (sym now)
      (subst (λ (f : Found). Reads (g.size old) image (Opened f)) found_is reads)) in
      let left = Turn-leaves g layout half last states at new told turned (stays_settled (g.story mid) (g.story at) settled (only.stayed told)) there
      (ap (λ (pages : Image). picked (pages 0)) now ∙ picks) two fits in
      let mine : LeavesOnly Still (g.story at) (g.story new) =
      subst (λ (f : Found). LeavesOnly (ReadsThrough (g.size old) f half image) (g.story at) (g.story new)) (sym found_is)
      (subst (λ (n : ℕ). LeavesOnly (ReadsThrough n (found_by layout last states) half image) (g.story at) (g.story new)) size
      (subst (λ (pages : Image). LeavesOnly (ReadsThrough (g.size at) (found_by layout last states) half pages) (g.story at) (g.story new)) now left)) in
      LeavesFrom-then g Still since at new (LeavesFrom-read g Still since mid at told still-mid only) mine
