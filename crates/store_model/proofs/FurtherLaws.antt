-- With its first closed gate opened over a further body, a disk tells the store as that body's kept entries change it.
use Rattle.std.proofs.Common.{◌≡◌, ℕ, List, [], ◌∷◌, ◌++◌, length, refl, sym, ap, ◌∙◌, subst}
use Rattle.store_model.specs.Dependence.{HasFurther, LastEntries, LosesNone}
use Rattle.store_model.specs.Disk.{HasPages, Image}
use Rattle.store_model.specs.Frame.{Entry, Spells}
use Rattle.store_model.specs.Half.{picked}
use Rattle.store_model.specs.Layout.{Layout, data_pages}
use Rattle.store_model.specs.LogReading.{HasBodies, StoredBody, next_gate}
use Rattle.store_model.specs.Reading.{AreAllKept, AreKept, Found, Gives, KeptIn, Opened, Reads, Takes, TakesEach, blocks_of_states}
use Rattle.store_model.specs.Space.{Apart}
use Rattle.store_model.proofs.DependenceLaws.{Gives-found_by, IsFoundBy, Takes-layout, Takes-other, picked-agree, Starts-agree}
use Rattle.store_model.proofs.FrameLaws.{Spells-one}
use Rattle.store_model.proofs.HalfAgreeLaws.{AreBodies-agree}
use Rattle.store_model.proofs.LogReadingLaws.{AreBodies-more}
use Rattle.store_model.proofs.ReadingLaws.{AreKept-one}
use Rattle.store_model.proofs.ReadingOneLaws.{start-small}

-- the layout stays, whatever is kept
pub TakesEach-layout : (Kept : List StoredBody → List Entry → List Entry → Type 0) (before : Found) (bodies : List StoredBody) (after : Found)
    → TakesEach Kept before bodies after → after.layout ≡ before.layout
TakesEach-layout Kept before [] after takes = ap (λ (found : Found). found.layout) takes
TakesEach-layout Kept before (body ∷ bodies) after takes =
    TakesEach-layout Kept takes.0 bodies after takes.2 ∙ Takes-layout (Kept bodies) before body takes.0 takes.1

-- One more body is taken behind those of which the last lost no entry: of that one all entries stay, as another stands behind it.
pub TakesEach-further : (image other : Image) (layout : Layout) (before : Found) (bodies : List StoredBody) (mid : Found) (body : StoredBody) (after : Found)
    → before.layout ≡ layout → LosesNone image layout bodies → TakesEach (KeptIn image layout) before bodies mid → Takes (AreKept other layout) mid body after
    → TakesEach (KeptIn other layout) before (bodies ++ body ∷ []) after
TakesEach-further image other layout before [] mid body after is lossless takes more =
    (after, subst (λ (found : Found). Takes (AreKept other layout) found body after) takes more, refl)
TakesEach-further image other layout before (one ∷ []) mid body after is lossless takes more =
    let last : Takes (AreKept image layout) before one takes.0 = takes.1 in
    let told : List Entry = last.entries_told in
    let spells : Spells (data_pages layout) one.bytes told = subst (λ (l : Layout). Spells (data_pages l) one.bytes told) is last.spells in
    let all : AreAllKept told last.entries_kept = AreKept-one image layout told last.entries_kept told last.kept (lossless told spells) in (
      takes.0,
      Takes-other (AreKept image layout) AreAllKept before one takes.0 last all,
      (after, subst (λ (found : Found). Takes (AreKept other layout) found body after) takes.2 more, refl),
    )
TakesEach-further image other layout before (one ∷ two ∷ bodies) mid body after is lossless takes more = (
  takes.0,
  takes.1,
  TakesEach-further image other layout takes.0 (two ∷ bodies) mid body after (Takes-layout AreAllKept before one takes.0 takes.1 ∙ is) lossless takes.2 more,
)

-- the further body, with the page of its gate
abbrev pub further_body : ℕ → List ℕ → StoredBody
further_body gate bytes = record { page = gate; bytes = bytes }

-- It stands behind the others in the other image's log.
pub log-further : (pages : ℕ) (image other : Image) (found : Found) (gives : Gives pages image found) (bytes : List ℕ) (after : Found) → HasPages image
    → HasFurther pages image other found gives bytes after
    → HasBodies other (picked (other 0)) (gives.bodies ++ further_body gives.gate bytes ∷ []) (next_gate gives.gate (length bytes))
log-further pages image other found gives bytes after whole further =
    let half : ℕ = picked (image 0) in
    let body : StoredBody = further_body gives.gate bytes in
    let gate : ℕ = next_gate gives.gate (length bytes) in
    let log : HasBodies other half (gives.bodies ++ body ∷ []) gate =
    record {
      are = AreBodies-more other half 0 gives.gate gives.bodies body
          (AreBodies-agree image other half 0 gives.bodies gives.gate whole further.before.log gives.log.are) refl further.opened further.body;
      within = further.body.room;
      closed = further.closed;
    } in
    subst (λ (h : ℕ). HasBodies other h (gives.bodies ++ body ∷ []) gate) (sym (picked-agree pages image other found gives further.before)) log

-- The disk tells the store as the further body's kept entries change it.
pub Gives-further : (pages : ℕ) (image other : Image) (found : Found) (gives : Gives pages image found) (bytes : List ℕ) (after : Found) → HasPages image
    → HasFurther pages image other found gives bytes after → Gives pages other after
Gives-further pages image other found gives bytes after whole further =
    let start : Found = gives.start in
    let body : StoredBody = further_body gives.gate bytes in
    let layout : found.layout ≡ start.layout = TakesEach-layout (KeptIn image start.layout) start gives.bodies found gives.takes in
    record {
      start = start;
      finds = Starts-agree pages image other found gives whole further.before;
      bodies = gives.bodies ++ body ∷ [];
      gate = next_gate gives.gate (length bytes);
      log = log-further pages image other found gives bytes after whole further;
      takes = TakesEach-further image other start.layout start gives.bodies found body after refl further.lossless gives.takes
          (subst (λ (l : Layout). Takes (AreKept other l) found body after) layout further.takes);
    }

-- There it's found by the same start, by this body behind the others, and by the next gate.
pub HasFurther-found_by : (pages : ℕ) (image other : Image) (found : Found) (gives : Gives pages image found) (bytes : List ℕ) (after : Found) → HasPages image
    → HasFurther pages image other found gives bytes after → (again : Gives pages other after)
    → IsFoundBy pages other after again gives.start (gives.bodies ++ further_body gives.gate bytes ∷ []) (next_gate gives.gate (length bytes))
HasFurther-found_by pages image other found gives bytes after whole further again =
    Gives-found_by pages other after again gives.start (gives.bodies ++ further_body gives.gate bytes ∷ []) (next_gate gives.gate (length bytes))
    (Starts-agree pages image other found gives whole further.before) (log-further pages image other found gives bytes after whole further)

-- It reads as that store where no page is owned twice there.
pub Reads-further : (pages : ℕ) (image other : Image) (found : Found) (gives : Gives pages image found) (bytes : List ℕ) (after : Found) → HasPages image
    → HasFurther pages image other found gives bytes after → Apart (blocks_of_states after.states) → Reads pages other (Opened after)
Reads-further pages image other found gives bytes after whole further apart =
    (Gives-further pages image other found gives bytes after whole further, apart)

-- the entries of the last body are those of the one behind the others
LastEntries-further : (layout : Layout) (bodies : List StoredBody) (body : StoredBody) (entries : List Entry) → LastEntries layout (bodies ++ body ∷ []) entries
    → Spells (data_pages layout) body.bytes entries
LastEntries-further layout [] body entries last = last
LastEntries-further layout (one ∷ []) body entries last = last
LastEntries-further layout (one ∷ two ∷ bodies) body entries last = LastEntries-further layout (two ∷ bodies) body entries last

-- Where all entries of the further body are kept, the last frame has lost none again.
pub LosesNone-further : (pages : ℕ) (image other : Image) (found : Found) (gives : Gives pages image found) (bytes : List ℕ) (after : Found)
    (further : HasFurther pages image other found gives bytes after) → AreAllKept further.takes.entries_told further.takes.entries_kept
    → LosesNone other gives.start.layout (gives.bodies ++ further_body gives.gate bytes ∷ [])
LosesNone-further pages image other found gives bytes after further all entries last =
    let start : Found = gives.start in
    let told : List Entry = further.takes.entries_told in
    let layout : found.layout ≡ start.layout = TakesEach-layout (KeptIn image start.layout) start gives.bodies found gives.takes in
    let mine : Spells (data_pages start.layout) bytes told = subst (λ (l : Layout). Spells (data_pages l) bytes told) layout further.takes.spells in
    let theirs : Spells (data_pages start.layout) bytes entries = LastEntries-further start.layout gives.bodies (further_body gives.gate bytes) entries last in
    let same : told ≡ entries =
    Spells-one (data_pages start.layout) bytes told entries (start-small pages image (picked (image 0)) start gives.finds) mine theirs in
    let kept : AreKept other start.layout told told =
    subst (λ (l : Layout). AreKept other l told told) layout
    (subst (λ (es : List Entry). AreKept other found.layout told es) all further.takes.kept) in
    subst (λ (es : List Entry). AreKept other start.layout es es) same kept
