-- Where a disk stands behind a turn.
use Rattle.std.proofs.Common.{◌≡◌, ℕ, ◌+◌, ◌-◌, ◌<◌, ◌≤◌, Bool, true, false, IsTrue, List, [], ◌∷◌, length, Result, Ok, Err, inl, inr, refl, sym, ap, ◌∙◌, subst, arith}
use Rattle.std.specs.Prelude.{OnOk}
use Rattle.disk_model.specs.Disks.{OnlyWrites}
use Rattle.disk_model.specs.declared.disk.Disk.{Ghosts}
use Rattle.disk_model.proofs.DiskLaws.{OnlyWrites-none}
use Rattle.store_model.specs.Dependence.{LosesNone}
use Rattle.store_model.specs.Disk.{Image}
use Rattle.store_model.specs.Frame.{Entry}
use Rattle.store_model.specs.Half.{picked}
use Rattle.store_model.specs.Images.{Settled, Story}
use Rattle.store_model.specs.Layout.{Layout}
use Rattle.store_model.specs.Log.{body_pages}
use Rattle.store_model.specs.LogReading.{AreBodies, StoredBody, gate_is_open}
use Rattle.store_model.specs.Reading.{AreKept, Found, Opened, Reads}
use Rattle.store_model.specs.Windows.{IsBodyPage}
use Rattle.recover.specs.Turns.{IsTurned}
use Rattle.vault.specs.Vaults.{HasLaid, InFirst, IsAtGate, IsAtRest, MayHaveTurned, SameHeld, StandsBehind, found_of}
use Rattle.vault.specs.declared.memory.Memory.{Memory}

-- a log whose first gate is closed has no bodies
pub closed-none : (image : Image) (half gate : ℕ) (bodies : List StoredBody) → AreBodies image half 0 bodies gate → gate_is_open image half 0 ≡ false
    → (bodies ≡ []) × (gate ≡ 0)
closed-none image half gate [] are closed = (refl, sym are)
closed-none image half gate (body ∷ bodies) are closed =
    let both : true ≡ false = sym are.1 ∙ closed in absurd (cc both)

-- and no entries that it could have lost
pub none-lost : (image : Image) (layout : Layout) (bodies : List StoredBody) → bodies ≡ [] → LosesNone image layout bodies
none-lost image layout bodies none =
    subst (LosesNone image layout) (sym none) (λ entries last. subst (λ (es : List Entry). AreKept image layout es es) (sym last) refl)

-- Behind a turn a disk is at rest where memory has the half's log, at its first gate.
pub IsAtRest-turned : (pages half : ℕ) (story : Story) (mine : Memory) (found : Found) → Reads pages story.reads (Opened found) → IsTurned story half → found ≡ found_of mine
    → mine.log.gate ≡ 0 → mine.log.half ≡ half → IsAtRest pages story mine
IsAtRest-turned pages half story mine found reads turned found_is first of_half =
    let image : Image = story.reads in
    let read : Reads pages image (Opened (found_of mine)) = subst (λ (f : Found). Reads pages image (Opened f)) found_is reads in
    let shut : gate_is_open image (picked (image 0)) 0 ≡ false = ap (λ (h : ℕ). gate_is_open image h 0) turned.picks ∙ turned.closed in
    let none = closed-none image (picked (image 0)) read.0.gate read.0.bodies read.0.log.are shut in
    record {
      at = record {
        gives = read.0;
        gate_is = none.1 ∙ sym first;
        half_is = turned.picks ∙ sym of_half;
        lossless = none-lost image read.0.start.layout read.0.bodies none.0;
        apart = read.1;
      };
      settled = turned.settled;
    }

-- A call that answers Ok gives what two of its clauses give together.
pub on_ok_both : {T E : Type 0} {tells : Bool} (A B P : Type 0) (done : Result T E) → (IsTrue tells → OnOk done A) → (IsTrue tells → OnOk done B)
    → ((IsTrue tells → A) → (IsTrue tells → B) → P) → OnOk done P
on_ok_both A B P (Ok x) one other give = give one other
on_ok_both A B P (Err e) one other give = tt

-- A call that answers Ok gives what four of its clauses give together.
pub on_ok_four : {T E : Type 0} (A B C F P : Type 0) (done : Result T E) → OnOk done A → OnOk done B → OnOk done C → OnOk done F → (A → B → C → F → P) → OnOk done P
on_ok_four A B C F P (Ok x) a b c f give = give a b c f
on_ok_four A B C F P (Err e) a b c f give = tt

-- memory that has the same store
pub found-same : (old new : Memory) → SameHeld old new → found_of new ≡ found_of old
found-same old new same = λ i. record { layout = same.layout i; last = same.last i; states = (same.relation i).states }

-- A disk is at rest with memory that has the same store and the same gate.
pub IsAtRest-same : (pages : ℕ) (story : Story) (old new : Memory) → SameHeld old new → new.log.half ≡ old.log.half → new.log.gate ≡ old.log.gate
    → IsAtRest pages story old → IsAtRest pages story new
IsAtRest-same pages story old new same half gate rest =
    record {
      at =
          subst (λ (f : Found). IsAtGate pages story.reads f new.log.half new.log.gate) (sym (found-same old new same))
          (subst (λ (h : ℕ). IsAtGate pages story.reads (found_of old) h new.log.gate) (sym half)
          (subst (λ (n : ℕ). IsAtGate pages story.reads (found_of old) old.log.half n) (sym gate) rest.at));
      settled = rest.settled;
    }

-- A turn may have failed before anything of the body was written.
pub InFirst-none : {D : Type 0} (g : Ghosts D) (before : Memory) (bytes : List ℕ) (old new : D) → body_pages (length bytes) ≤ 510
    → MayHaveTurned g before old new → InFirst g before bytes old new
InFirst-none g before bytes old new short turned =
    record { half = 0; gate = 0; two = omega arith; fits = omega (arith, short); base = new; turned = turned; start = inl refl; wrote = OnlyWrites-none g (IsBodyPage 0 0 bytes) new }

-- Or it was written, or a part of it, from where the disk was at rest with memory that has the same store.
pub InFirst-from : {D : Type 0} (g : Ghosts D) (before mid : Memory) (bytes : List ℕ) (old base new : D) → SameHeld before mid
    → mid.log.half < 2 → body_pages (length bytes) + 1 ≤ 511 - mid.log.gate → MayHaveTurned g before old base
    → (IsTrue g.tells → IsAtRest (g.size old) (g.story old) before → IsAtRest (g.size base) (g.story base) mid)
    → OnlyWrites g (IsBodyPage mid.log.half mid.log.gate bytes) base new → InFirst g before bytes old new
InFirst-from g before mid bytes old base new same two room turned rest wrote = record {
  half = mid.log.half;
  gate = mid.log.gate;
  two = two;
  fits = omega (arith, room);
  base = base;
  turned = turned;
  start = inr (λ tells was.
      let now = rest tells was in
      (subst (λ (f : Found). IsAtGate (g.size base) (g.story base).reads f mid.log.half mid.log.gate) (found-same before mid same) now.at, now.settled));
  wrote = wrote;
}

-- What is so of a body that was laid behind the gate that memory had, where it has the same gate now.
module _ {D : Type 0} (g : Ghosts D) (before mid now : Memory) (bytes : List ℕ) (old base new : D) (same : SameHeld mid now)
    (half : now.log.half ≡ mid.log.half) (gate : now.log.gate ≡ mid.log.gate) where
  pub HasLaid-behind : MayHaveTurned g before old base
      → (IsTrue g.tells → IsAtRest (g.size old) (g.story old) before → IsAtRest (g.size base) (g.story base) mid)
      → OnlyWrites g (IsBodyPage mid.log.half mid.log.gate bytes) base new → (IsTrue g.tells → Settled (g.story new))
      → (IsTrue g.tells → StandsBehind (g.story new).reads mid.log.half mid.log.gate bytes) → HasLaid g before now bytes old base new
  HasLaid-behind turned rest wrote settled stands = record {
    turned = turned;
    rest = λ tells at. IsAtRest-same (g.size base) (g.story base) mid now same half gate (rest tells at);
    wrote =
        subst (λ (h : ℕ). OnlyWrites g (IsBodyPage h now.log.gate bytes) base new) (sym half)
        (subst (λ (n : ℕ). OnlyWrites g (IsBodyPage mid.log.half n bytes) base new) (sym gate) wrote);
    settled = settled;
    stands = λ tells.
        subst (λ (h : ℕ). StandsBehind (g.story new).reads h now.log.gate bytes) (sym half)
        (subst (λ (n : ℕ). StandsBehind (g.story new).reads mid.log.half n bytes) (sym gate) (stands tells));
  }
