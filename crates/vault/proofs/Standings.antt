-- What a crash in a turn or in a lead leaves, by states alone: a disk that reads as the store before, of which each state verifies, or as
-- that store behind those of the group's entries of which all the states verify.
use Rattle.std.proofs.Common.{◌≡◌, ℕ, ◌+◌, ◌-◌, ◌≤◌, IsTrue, List, None, inl, inr, length, refl, sym, ap, ◌∙◌, subst, arith}
use Rattle.std.specs.Prelude.{zip}
use Rattle.disk_model.specs.declared.disk.Disk.{Ghosts}
use Rattle.frame_codec.specs.Values.{model_entries}
use Rattle.frame_codec.specs.declared.entry.Entry.{Entry}
use Rattle.recover.specs.Turns.{InTurn, IsTurnPage, ReadsThrough}
use Rattle.store_model.specs.Disk.{HasPages, Image, SameOff}
use Rattle.store_model.specs.Frame as model_frame
use Rattle.store_model.specs.Half.{picked}
use Rattle.store_model.specs.Images.{LeavesOnly}
use Rattle.store_model.specs.Layout.{data_page}
use Rattle.store_model.specs.Log.{body_pages}
use Rattle.store_model.specs.Reading.{Found}
use Rattle.store_model.specs.Stands.{DoAllTell, DoAllVerify, ReadsWhole, StandsStep}
use Rattle.store_model.specs.Windows.{InSecondWindow, IsBodyPage, IsPouredPage, MayFollow}
use Rattle.store_model.proofs.ImageLaws.{leaves_more, leaves_none, leaves_only, leaves_stayed, leaves_then}
use Rattle.store_model.proofs.OffLaws.{poured-data}
use Rattle.store_model.proofs.TellLaws.{AreContentsAlike, DoAllTell-agree, DoAllVerify-agree}
use Rattle.store_model.proofs.WindowHeldLaws.{IsPoured-unset, verify-first, verify-opened, verify-second}
use Rattle.store_model.proofs.WindowLaws.{Reads-first, Reads-second}
use Rattle.txn.specs.declared.request.Request.{Request}
use Rattle.vault.specs.Pours.{IsSecondPage, pours_of_all, requests_at}
use Rattle.vault.specs.Vaults.{InWindows, IsAtGate, IsAtRest, IsNextFrame, IsVault, StandsBehind, found_of}
use Rattle.vault.specs.declared.memory.Memory.{Memory}
use Rattle.vault.proofs.Commits.{InSecondWindow-laid}
use Rattle.vault.proofs.Contents.{second-poured_page}
use Rattle.vault.proofs.Crashes.{Turn-through}
use Rattle.vault.proofs.Offs.{body-before, turn-before}
use Rattle.vault.proofs.Turnings.{turned-wrote}

-- The contents' pages are as before where no page was written but those of a turn.
pub turn-alike : (found : Found) (half : ℕ) (before image : Image) → half ≤ 1 → SameOff (IsTurnPage found.layout half) before image
    → AreContentsAlike found.layout found.states before image
turn-alike found half before image two same key state p there poured =
    same p (λ page. turn-before found.layout half p two (poured-data found.layout state 0 p poured) page)

-- In a turn a crash leaves the store.
pub Turn-stands : {D : Type 0} (g : Ghosts D) (old new : D) (mine : Memory) → IsTrue g.tells → IsVault g old mine None
    → DoAllVerify (g.story old).reads mine.layout mine.relation.states → InTurn g mine.layout (1 - mine.log.half) mine.last mine.relation.states old new
    → LeavesOnly (λ image. ReadsWhole (g.size old) image (found_of mine)) (g.story old) (g.story new)
Turn-stands g old new mine tells vault verify turned =
    let before : Image = (g.story old).reads in
    let half : ℕ = 1 - mine.log.half in
    let found : Found = found_of mine in
    leaves_more (ReadsThrough (g.size old) found half before) (λ image. ReadsWhole (g.size old) image found) (g.story old) (g.story new)
    (λ image through. record {
      reads = through.reads;
      verify = DoAllVerify-agree found.layout found.states before image (turn-alike found half before image (omega arith) through.same) verify;
    })
    (Turn-through g old new mine tells vault turned)

-- A disk that was at rest at a gate with states that verify,
module _ (pages : ℕ) (base image : Image) (found : Found) (half gate : ℕ) (bytes : List ℕ) (entries : List model_frame.Entry) (whole : HasPages base)
    (at : IsAtGate pages base found half gate) (frame : IsNextFrame found bytes entries) (fits : gate + 1 + body_pages (length bytes) ≤ 511)
    (verify : DoAllVerify base found.layout found.states) where
  follows : MayFollow pages base found at.gives bytes entries
  follows = record { spells = frame.spells; goes_on = frame.goes_on; fits = omega (arith, at.gate_is, fits); places = frame.places; room = frame.room }

  -- reads as the store in the first window,
  pub first-stands : SameOff (IsBodyPage half gate bytes) base image → ReadsWhole pages image found
  first-stands first =
      let here : SameOff (IsBodyPage (picked (base 0)) at.gives.gate bytes) base image =
      subst (λ (k : ℕ). SameOff (IsBodyPage k at.gives.gate bytes) base image) (sym at.half_is)
      (subst (λ (k : ℕ). SameOff (IsBodyPage half k bytes) base image) (sym at.gate_is) first) in
      record {
        reads = Reads-first pages base image found at.gives bytes entries whole follows here;
        verify = verify-first pages base image found at.gives bytes entries follows here verify;
      }

  -- and in the second as that store, or with those of the entries of which all the states verify.
  pub second-stands : (laid : Image) → SameOff (IsBodyPage half gate bytes) base laid → StandsBehind laid half gate bytes
      → SameOff (IsPouredPage found.layout half gate entries) laid image → StandsStep pages image found entries
  second-stands laid first stands second =
      let window : InSecondWindow pages base image found at.gives bytes entries =
      InSecondWindow-laid pages base laid image found half gate bytes entries whole at frame.spells frame.goes_on (omega (arith, fits)) frame.places frame.room first stands second in
      elim (Reads-second pages base image found at.gives bytes entries window) [
        | inl reads ↦ inl (record { reads = reads; verify = verify-second pages base image found at.gives bytes entries window verify })
        | inr part ↦
            inr (record {
              kept = part.0;
              are_kept = part.1;
              reads = record { reads = part.2; verify = verify-opened pages base image found at.gives bytes entries part.0 window part.1 verify };
            })
      ]

-- The windows of a commit, over the disk of a vault that isn't shut.
module _ {D : Type 0} (g : Ghosts D) (before : Memory) (queue : List Request) (places : List ℕ) (es : List Entry) (bytes : List ℕ) (old new : D)
    (tells : IsTrue g.tells) (frame : IsNextFrame (found_of before) bytes (model_entries es))
    (windows : InWindows g before bytes (pours_of_all (zip (requests_at queue places) es)) old new) where
  abbrev base : D
  base = windows.first.base

  base-alike : AreContentsAlike before.layout before.relation.states (g.story old).reads (g.story base).reads
  base-alike = turn-alike (found_of before) (1 - before.log.half) (g.story old).reads (g.story base).reads (omega arith)
      ((turned-wrote g old base before windows.first.turned).wrote tells).reads

  -- They write no page of the contents that the states have.
  windows-alike : AreContentsAlike before.layout before.relation.states (g.story old).reads (g.story new).reads
  windows-alike key state p there poured =
      let past : data_page before.layout ≤ p = poured-data before.layout state 0 p poured in
      late past ∙ (windows.first.wrote.wrote tells).reads p (body-before before.layout windows.first.half windows.first.gate p bytes windows.first.two windows.first.fits past)
      ∙ base-alike key state p there poured where
        unwritten : data_page before.layout ≤ p → IsPouredPage before.layout windows.first.half windows.first.gate (model_entries es) p → ⊥
        unwritten past (inl content) = IsPoured-unset before.layout before.relation.states (model_entries es) key state p frame.places there poured content
        unwritten past (inr gate) = omega (arith, past, gate, windows.first.two, windows.first.fits)

        late : data_page before.layout ≤ p → (g.story new).reads p ≡ (g.story windows.mid).reads p
        late past = elim windows.second [
          | inl same ↦ ap (λ (disk : D). (g.story disk).reads p) same
          | inr both ↦
              (both.1.wrote tells).reads p
              (λ page. unwritten past (second-poured_page before.layout windows.first.half windows.first.gate (requests_at queue places) es p page))
        ]

  -- So what the states told they tell, however the commit ended.
  pub windows-tell : DoAllTell (g.story old).reads before.layout before.relation.states → DoAllTell (g.story new).reads before.layout before.relation.states
  windows-tell tell = DoAllTell-agree before.layout before.relation.states (g.story old).reads (g.story new).reads windows-alike tell

  module _ (vault : IsVault g old before None) (verify : DoAllVerify (g.story old).reads before.layout before.relation.states) where
    abbrev Step : Image → Type 0
    Step image = StandsStep (g.size old) image (found_of before) (model_entries es)

    rest : IsAtRest (g.size old) (g.story old) before
    rest = vault.rest tells refl

    -- The disk may have been turned,
    turn-step : LeavesOnly Step (g.story old) (g.story base)
    turn-step = elim windows.first.turned [
      | inl still ↦ leaves_stayed Step (g.story old) (g.story base) (still.stayed tells)
      | inr turned ↦
          leaves_more (λ image. ReadsWhole (g.size old) image (found_of before)) Step (g.story old) (g.story base) (λ image whole. inl whole)
          (Turn-stands g old base before tells vault verify turned)
    ]

    base-verify : DoAllVerify (g.story base).reads before.layout before.relation.states
    base-verify = DoAllVerify-agree before.layout before.relation.states (g.story old).reads (g.story base).reads base-alike verify

    base-whole : HasPages (g.story base).reads
    base-whole = (g.story base).pages (g.story base).time (g.story base).reads (g.story base).own

    base-at : (half gate : ℕ) → IsAtGate (g.size base) (g.story base).reads (found_of before) half gate → IsAtGate (g.size old) (g.story base).reads (found_of before) half gate
    base-at half gate at =
        subst (λ (n : ℕ). IsAtGate n (g.story base).reads (found_of before) half gate) (turned-wrote g old base before windows.first.turned).keeps.size at

    -- the body may have been laid,
    first-step : LeavesOnly Step (g.story base) (g.story windows.mid)
    first-step = elim windows.first.start [
      | inl same ↦ subst (λ (disk : D). LeavesOnly Step (g.story base) (g.story disk)) (sym same) (leaves_none Step (g.story base))
      | inr start ↦
          (let at = start tells rest in
          leaves_only Step (IsBodyPage windows.first.half windows.first.gate bytes) (g.story base) (g.story windows.mid) at.1 (windows.first.wrote.wrote tells)
          (λ image same.
          inl (first-stands (g.size old) (g.story base).reads image (found_of before) windows.first.half windows.first.gate bytes (model_entries es) base-whole
          (base-at windows.first.half windows.first.gate at.0) frame windows.first.fits base-verify same)))
    ]

    -- and the contents and the gate written.
    second-step : LeavesOnly Step (g.story windows.mid) (g.story new)
    second-step = elim windows.second [
      | inl same ↦ subst (λ (disk : D). LeavesOnly Step (g.story windows.mid) (g.story disk)) (sym same) (leaves_none Step (g.story windows.mid))
      | inr both ↦
          (let begins = both.0 tells in
          let half : ℕ = windows.first.half in
          let gate : ℕ = windows.first.gate in
          leaves_only Step (IsSecondPage before.layout (pours_of_all (zip (requests_at queue places) es)) half gate) (g.story windows.mid) (g.story new) begins.settled
          (both.1.wrote tells) (λ image same.
          second-stands (g.size old) (g.story base).reads image (found_of before) half gate bytes (model_entries es) base-whole (base-at half gate (begins.at rest).0) frame
          windows.first.fits base-verify (g.story windows.mid).reads (windows.first.wrote.wrote tells).reads begins.stands
          (λ p other. same p (λ page. other (second-poured_page before.layout half gate (requests_at queue places) es p page)))))
    ]

    -- At whatever moment of a lead the disk stopped, a crash leaves the store, or that one with some whole entries.
    pub windows-stand : LeavesOnly Step (g.story old) (g.story new)
    windows-stand =
        leaves_then Step (g.story old) (g.story windows.mid) (g.story new)
        (leaves_then Step (g.story old) (g.story base) (g.story windows.mid) turn-step first-step) second-step
