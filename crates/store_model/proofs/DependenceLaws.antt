-- The reading of a store depends on what it looks at alone: an image that has that alike reads as the same store.
use Rattle.std.proofs.Common.{◌≡◌, ℕ, List, [], ◌∷◌, refl, sym, ap, ◌∙◌, subst}
use Rattle.store_model.specs.Dependence.{Agrees, AgreesToGate, IsContentPage, LastEntries, LosesNone}
use Rattle.store_model.specs.Disk.{HasPages, Image}
use Rattle.store_model.specs.Frame.{Entry, Spells}
use Rattle.store_model.specs.Half.{picked}
use Rattle.store_model.specs.Layout.{Layout, data_pages}
use Rattle.store_model.specs.LogReading.{HasBodies, StoredBody}
use Rattle.store_model.specs.Reading.{Found, Gives, KeptIn, Opened, Reads, Takes, TakesEach}
use Rattle.store_model.proofs.HalfAgreeLaws.{FindsHalf-agree, HasBodies-agree}
use Rattle.store_model.proofs.LogReadingLaws.{HasBodies-one}
use Rattle.store_model.proofs.ReadingOneLaws.{Starts, start-one}
use Rattle.store_model.proofs.VerifyAgreeLaws.{AreKept-agree}

-- a body is taken where another rule keeps the same of its entries
pub Takes-other : (Kept Other : List Entry → List Entry → Type 0) (before : Found) (body : StoredBody) (after : Found) (takes : Takes Kept before body after)
    → Other takes.entries_told takes.entries_kept → Takes Other before body after
Takes-other Kept Other before body after takes kept = record {
  entries_told = takes.entries_told;
  spells = takes.spells;
  goes_on = takes.goes_on;
  entries_kept = takes.entries_kept;
  kept = kept;
  after_is = takes.after_is;
  room = takes.room;
}

-- the layout stays
pub Takes-layout : (Kept : List Entry → List Entry → Type 0) (before : Found) (body : StoredBody) (after : Found) → Takes Kept before body after
    → after.layout ≡ before.layout
Takes-layout Kept before body after takes = ap (λ (found : Found). found.layout) takes.after_is

-- The same is taken of bodies where the contents of the states that the last of them sets are the same.
pub TakesEach-agree : (image other : Image) (layout : Layout) (before : Found) (bodies : List StoredBody) (after : Found) → before.layout ≡ layout
    → ((entries : List Entry) (p : ℕ) → LastEntries layout bodies entries → IsContentPage layout entries p → other p ≡ image p)
    → TakesEach (KeptIn image layout) before bodies after → TakesEach (KeptIn other layout) before bodies after
TakesEach-agree image other layout before [] after is same takes = takes
TakesEach-agree image other layout before (body ∷ []) after is same takes =
    let last : Takes (KeptIn image layout []) before body takes.0 = takes.1 in
    let spells : Spells (data_pages layout) body.bytes last.entries_told = subst (λ (l : Layout). Spells (data_pages l) body.bytes last.entries_told) is last.spells in (
      takes.0,
      Takes-other (KeptIn image layout []) (KeptIn other layout []) before body takes.0 last
          (AreKept-agree layout image other last.entries_told last.entries_kept (λ p looked. same last.entries_told p spells looked) last.kept),
      takes.2,
    )
TakesEach-agree image other layout before (body ∷ next ∷ bodies) after is same takes = (
  takes.0,
  takes.1,
  TakesEach-agree image other layout takes.0 (next ∷ bodies) after (Takes-layout (KeptIn image layout (next ∷ bodies)) before body takes.0 takes.1 ∙ is) same takes.2,
)

-- The other image picks the same half, and starts with the same.
pub picked-agree : (pages : ℕ) (image other : Image) (found : Found) (gives : Gives pages image found) → AgreesToGate pages image other found gives
    → picked (other 0) ≡ picked (image 0)
picked-agree pages image other found gives agrees = ap picked agrees.selector

pub Starts-agree : (pages : ℕ) (image other : Image) (found : Found) (gives : Gives pages image found) → HasPages image
    → AgreesToGate pages image other found gives → Starts pages other (picked (other 0)) gives.start
Starts-agree pages image other found gives whole agrees =
    let start : Found = gives.start in
    subst (λ (half : ℕ). Starts pages other half start) (sym (picked-agree pages image other found gives agrees))
    (FindsHalf-agree pages image other (picked (image 0)) start.layout start.last start.states whole agrees.half gives.finds)

-- Its log has the same bodies.
pub log-agree : (pages : ℕ) (image other : Image) (found : Found) (gives : Gives pages image found) → HasPages image
    → Agrees pages image other found gives → HasBodies other (picked (other 0)) gives.bodies gives.gate
log-agree pages image other found gives whole agrees =
    subst (λ (half : ℕ). HasBodies other half gives.bodies gives.gate) (sym (picked-agree pages image other found gives agrees.before))
    (HasBodies-agree image other (picked (image 0)) gives.bodies gives.gate whole agrees.before.log agrees.closed gives.log)

-- An image that agrees with one on all that its reading looks at tells the same store.
pub Gives-agree : (pages : ℕ) (image other : Image) (found : Found) (gives : Gives pages image found) → HasPages image
    → Agrees pages image other found gives → Gives pages other found
Gives-agree pages image other found gives whole agrees =
    let start : Found = gives.start in
    record {
      start = start;
      finds = Starts-agree pages image other found gives whole agrees.before;
      bodies = gives.bodies;
      gate = gives.gate;
      log = log-agree pages image other found gives whole agrees;
      takes = TakesEach-agree image other start.layout start gives.bodies found refl agrees.contents gives.takes;
    }

-- It reads as the same store.
pub Reads-agree : (pages : ℕ) (image other : Image) (found : Found) (reads : Reads pages image (Opened found)) → HasPages image
    → Agrees pages image other found reads.0 → Reads pages other (Opened found)
Reads-agree pages image other found reads whole agrees = (Gives-agree pages image other found reads.0 whole agrees, reads.1)

-- Where the last frame lost no entry, it loses none there.
pub LosesNone-agree : (pages : ℕ) (image other : Image) (found : Found) (gives : Gives pages image found) → Agrees pages image other found gives
    → LosesNone image gives.start.layout gives.bodies → LosesNone other gives.start.layout gives.bodies
LosesNone-agree pages image other found gives agrees lossless entries last =
    AreKept-agree gives.start.layout image other entries entries (λ p is. agrees.contents entries p last is) (lossless entries last)

-- A store is found by this start, these bodies and this gate.
pub record IsFoundBy (pages : ℕ) (image : Image) (found : Found) (gives : Gives pages image found) (start : Found) (bodies : List StoredBody) (gate : ℕ) : Type 0 where
  pub start_is : gives.start ≡ start
  pub bodies_are : gives.bodies ≡ bodies
  pub gate_is : gives.gate ≡ gate

-- There is one start, one log and one first closed gate, whatever is taken of them.
pub Gives-found_by : (pages : ℕ) (image : Image) (found : Found) (gives : Gives pages image found) (start : Found) (bodies : List StoredBody) (gate : ℕ)
    → Starts pages image (picked (image 0)) start → HasBodies image (picked (image 0)) bodies gate → IsFoundBy pages image found gives start bodies gate
Gives-found_by pages image found gives start bodies gate starts log =
    let half : ℕ = picked (image 0) in
    let same = HasBodies-one image half gives.bodies bodies gives.gate gate gives.log log in
    record {
      start_is = start-one pages image half gives.start start gives.finds starts;
      bodies_are = same.0;
      gate_is = same.1;
    }

-- On an image that agrees it's the same start, bodies and gate by which a store is found.
pub Agrees-found_by : (pages : ℕ) (image other : Image) (found : Found) (gives : Gives pages image found) → HasPages image
    → Agrees pages image other found gives → (again : Gives pages other found) → IsFoundBy pages other found again gives.start gives.bodies gives.gate
Agrees-found_by pages image other found gives whole agrees again =
    Gives-found_by pages other found again gives.start gives.bodies gives.gate
    (Starts-agree pages image other found gives whole agrees.before) (log-agree pages image other found gives whole agrees)
