-- What a vault keeps of its disk's images goes on over its calls.
use Rattle.std.proofs.Common.{◌≡◌, ℕ, ◌+◌, ◌-◌, ◌≤◌, IsTrue, List, [], ◌∷◌, ◌++◌, length, map, zip, None, refl, sym, ◌∙◌, ap, subst, arith}
use Rattle.std.proofs.lemmas.List.{length-map, map-append}
use Rattle.std.proofs.lemmas.Slice.Zip.{AllZip-long}
use Rattle.disk_model.specs.Disks.{OnlyReads}
use Rattle.disk_model.specs.declared.disk.Disk.{Ghosts}
use Rattle.disk_model.proofs.DiskLaws.{OnlyReads-none, OnlyWrites-none}
use Rattle.frame_codec.specs.Values.{model_entries, model_entry}
use Rattle.frame_codec.specs.declared.entry.Entry.{Entry}
use Rattle.recover.specs.Openings.{IsMetadata, LeavesFound}
use Rattle.recover.specs.Turns.{InTurn, ReadsThrough}
use Rattle.relation.specs.Changes.{with_entries}
use Rattle.store_model.specs.Disk.{HasPages, Image}
use Rattle.store_model.specs.Fits.{DoesFrameFit}
use Rattle.store_model.specs.Frame as model_frame
use Rattle.store_model.specs.Frame.{body_spelling, entry_spelling}
use Rattle.store_model.specs.Half.{IsHalf, picked, tuples_spelling}
use Rattle.store_model.specs.Images.{LeavesOnly}
use Rattle.store_model.specs.Keeps.{Kept, KeepsImages}
use Rattle.store_model.specs.Reading.{Found, IsWhole, Opened, Reads, last_number, with_frame}
use Rattle.store_model.specs.Stands.{DoAllTell, DoAllVerify, ReadsWhole, StandsStep}
use Rattle.store_model.specs.Store as model
use Rattle.store_model.proofs.ImageLaws.{leaves_stayed}
use Rattle.store_model.proofs.KeepsLaws.{KeepsImages-added, KeepsImages-begin, KeepsImages-lost, KeepsImages-on}
use Rattle.store_model.proofs.SurvivalLaws.{found-one}
use Rattle.store_model.proofs.TellLaws.{DoAllTell-agree, DoAllVerify-agree, DoAllVerify-told}
use Rattle.store_model.proofs.WholeLaws.{DoAllTell-reads, DoAllTell-whole, ReadsAs-told}
use Rattle.txn.specs.declared.request.Request.{Request}
use Rattle.vault.specs.Crashes.{LeadRests}
use Rattle.vault.specs.Keeps.{HasImages, IsBegun, done_of, kept_of}
use Rattle.vault.specs.Pours.{AreAt, AreWrittenBy, pours_of_all, requests_at}
use Rattle.vault.specs.Vaults.{InWindows, IsHeld, IsNextFrame, IsVault, SameStore, found_of}
use Rattle.vault.specs.declared.done.Done.{Done}
use Rattle.vault.specs.declared.inner.Core.{Core}
use Rattle.vault.specs.declared.keeping.Keeping.{Keeping}
use Rattle.vault.specs.declared.memory.Memory.{Memory}
use Rattle.vault.proofs.Behind.{last-counted, same-entries}
use Rattle.vault.proofs.Readings.{IsOpenedAs-read}
use Rattle.vault.proofs.Sames.{InWindows-size, found-store}
use Rattle.vault.proofs.Standings.{Turn-stands, turn-alike, windows-stand, windows-tell}
use Rattle.vault.proofs.Turnings.{InTurn-wrote}

-- What is kept of a vault is kept of one with the same size, the same store in memory and the same as kept.
keeps-same : {D : Type 0} (g : Ghosts D) (new : Core D) (pages since : ℕ) (found : Found) (kept : Kept) → g.size new.disk ≡ pages → found_of new.memory ≡ found
    → kept_of new.keeping ≡ kept → KeepsImages pages (g.story new.disk) found kept since
    → KeepsImages (g.size new.disk) (g.story new.disk) (found_of new.memory) (kept_of new.keeping) since
keeps-same g new pages since found kept size found_is kept_is keeps =
    subst (λ (k : Kept). KeepsImages (g.size new.disk) (g.story new.disk) (found_of new.memory) k since) (sym kept_is)
    (subst (λ (f : Found). KeepsImages (g.size new.disk) (g.story new.disk) f kept since) (sym found_is)
    (subst (λ (n : ℕ). KeepsImages n (g.story new.disk) found kept since) (sym size) keeps))

-- Over an opening, of a disk that read as a whole store,
pub HasImages-opened : {D : Type 0} (g : Ghosts D) (old : D) (new : Core D) (found : Found) (since : ℕ) → IsTrue g.tells → IsWhole (g.size old) (g.story old).reads found
    → Reads (g.size old) (g.story old).reads (Opened (found_of new.memory)) → g.size new.disk ≡ g.size old
    → IsHeld new.memory → LeavesFound g old found since new.disk → IsBegun new.memory.relation.states new.memory.last new.keeping → HasImages g new since
HasImages-opened g old new found since tells whole reads size held from begun =
    let before : Image = (g.story old).reads in
    let half : ℕ = 1 - picked (before 0) in
    let same : found_of new.memory ≡ found = found-one (g.size old) before (found_of new.memory) found reads whole.reads in
    let kept : kept_of new.keeping ≡ record { states = tuples_spelling found.states; last = found.last; groups = []; failed = []; forms = [] } =
    λ i. record {
      states = (begun.states_are ∙ ap (λ (f : Found). tuples_spelling f.states) same) i;
      last = (begun.last_is ∙ ap (λ (f : Found). f.last) same) i;
      groups = begun.groups i;
      failed = begun.failed i;
      forms = map (λ (done : Done). done.form) (begun.history i);
    } in
    let pages : HasPages before = (g.story old).pages (g.story old).time before (g.story old).own in
    let own : ReadsThrough (g.size old) found half before (g.story new.disk).reads =
    from.each (g.story new.disk).reads ((g.story new.disk).since since (g.story new.disk).time (g.story new.disk).reads from.past (omega arith) (g.story new.disk).own) in
    record {
      keeps = keeps-same g new (g.size old) since found (record { states = tuples_spelling found.states; last = found.last; groups = []; failed = []; forms = [] }) size same kept
          (KeepsImages-begin (g.size old) (g.story new.disk) found since (subst (λ (f : Found). IsHalf f.layout f.last f.states) same held.half) from.past
          (λ image left.
          let through = from.each image left in
          record {
            reads = through.reads;
            verify = DoAllVerify-agree found.layout found.states before image (turn-alike found half before image (omega arith) through.same) whole.verifies;
          })
          (DoAllTell-agree found.layout found.states before (g.story new.disk).reads (turn-alike found half before (g.story new.disk).reads (omega arith) own.same)
          (DoAllTell-whole (g.size old) before found pages whole)));
      none = λ yet. begun.failed;
    }

-- over calls that write nothing,
pub HasImages-read : {D : Type 0} (g : Ghosts D) (old new : Core D) (since : ℕ) → IsTrue g.tells → OnlyReads g old.disk new.disk → found_of new.memory ≡ found_of old.memory
    → new.keeping ≡ old.keeping → new.shut ≡ old.shut → HasImages g old since → HasImages g new since
HasImages-read g old new since tells reads found keeping shut images =
    let mine : Found = found_of old.memory in
    let kept : Kept = kept_of old.keeping in
    let stayed = reads.stayed tells in
    record {
      keeps = keeps-same g new (g.size old.disk) since mine kept reads.keeps.size found (ap (λ (k : Keeping). kept_of k) keeping)
          (KeepsImages-on (g.size old.disk) (g.story old.disk) (g.story new.disk) mine kept since images.keeps
          (leaves_stayed (λ image. ReadsWhole (g.size old.disk) image mine) (g.story old.disk) (g.story new.disk) stayed)
          (subst (λ (image : Image). DoAllTell image mine.layout mine.states) (sym stayed.reads) images.keeps.told));
      none = λ yet. ap (λ (k : Keeping). k.failed) keeping ∙ images.none (sym shut ∙ yet);
    }

-- and where memory alone changes, and has the same store,
pub HasImages-same : {D : Type 0} (g : Ghosts D) (old : Core D) (now : Memory) (since : ℕ) → IsTrue g.tells → SameStore old.memory now → HasImages g old since
    → HasImages g (record { disk = old.disk; memory = now; shut = old.shut; keeping = old.keeping }) since
HasImages-same g old now since tells same images =
    HasImages-read g old (record { disk = old.disk; memory = now; shut = old.shut; keeping = old.keeping }) since tells (OnlyReads-none g old.disk)
    (sym (found-store old.memory now same)) refl refl images

-- The states of a vault that isn't shut verify.
vault-verify : {D : Type 0} (g : Ghosts D) (old : Core D) (since : ℕ) → IsTrue g.tells → IsVault g old.disk old.memory None → HasImages g old since
    → DoAllVerify (g.story old.disk).reads old.memory.layout old.memory.relation.states
vault-verify g old since tells vault images =
    let rest = vault.rest tells refl in
    DoAllVerify-told (g.size old.disk) (g.story old.disk).reads (found_of old.memory) (rest.at.gives, rest.at.apart) images.keeps.told

-- over a turn,
pub HasImages-turned : {D : Type 0} (g : Ghosts D) (old new : Core D) (since : ℕ) → IsTrue g.tells → IsVault g old.disk old.memory None → old.shut ≡ None
    → InTurn g old.memory.layout (1 - old.memory.log.half) old.memory.last old.memory.relation.states old.disk new.disk → found_of new.memory ≡ found_of old.memory
    → new.keeping ≡ old.keeping → HasImages g old since → HasImages g new since
HasImages-turned g old new since tells vault yet turned found keeping images =
    let mine : Found = found_of old.memory in
    let kept : Kept = kept_of old.keeping in
    let half : ℕ = 1 - old.memory.log.half in
    let wrote = InTurn-wrote g mine.layout half mine.last mine.states old.disk new.disk turned in
    record {
      keeps = keeps-same g new (g.size old.disk) since mine kept wrote.keeps.size found (ap (λ (k : Keeping). kept_of k) keeping)
          (KeepsImages-on (g.size old.disk) (g.story old.disk) (g.story new.disk) mine kept since images.keeps
          (Turn-stands g old.disk new.disk old.memory tells vault (vault-verify g old since tells vault images) turned)
          (DoAllTell-agree mine.layout mine.states (g.story old.disk).reads (g.story new.disk).reads
          (turn-alike mine half (g.story old.disk).reads (g.story new.disk).reads (omega arith) (wrote.wrote tells).reads) images.keeps.told));
      none = λ still. ap (λ (k : Keeping). k.failed) keeping ∙ images.none yet;
    }

-- the last of some entries has one number
last-any : (one other : ℕ) (told : List model_frame.Entry) → 1 ≤ length told → last_number one told ≡ last_number other told
last-any one other [] some = absurd (omega (arith, some))
last-any one other (entry ∷ told) some = refl

-- what is kept of entries has their spellings
forms-done : (requests : List Request) (es : List Entry) → length requests ≡ length es
    → map (λ (done : Done). done.form) (map done_of (zip requests es)) ≡ map entry_spelling (model_entries es)
forms-done [] [] long = refl
forms-done [] (e ∷ es) long = absurd (omega (arith, long))
forms-done (request ∷ requests) [] long = absurd (omega (arith, long))
forms-done (request ∷ requests) (e ∷ es) long =
    ap (λ (forms : List (List ℕ)). entry_spelling (model_entry e) ∷ forms) (forms-done requests es (omega (arith, long)))

-- and over a commit:
module _ {D : Type 0} (g : Ghosts D) (old new : Core D) (since : ℕ) (queue : List Request) (places : List ℕ) (es : List Entry) (tells : IsTrue g.tells)
    (vault : IsVault g old.disk old.memory None) (yet : old.shut ≡ None) (frame : IsNextFrame (found_of old.memory) (body_spelling (model_entries es)) (model_entries es))
    (windows : InWindows g old.memory (body_spelling (model_entries es)) (pours_of_all (zip (requests_at queue places) es)) old.disk new.disk)
    (images : HasImages g old since) where
  abbrev mine : Found
  mine = found_of old.memory

  abbrev told : List model_frame.Entry
  told = model_entries es

  abbrev kept : Kept
  kept = kept_of old.keeping

  size : g.size new.disk ≡ g.size old.disk
  size = InWindows-size g (body_spelling told) (pours_of_all (zip (requests_at queue places) es)) old.disk new.disk old.memory windows

  stands : LeavesOnly (λ image. StandsStep (g.size old.disk) image mine told) (g.story old.disk) (g.story new.disk)
  stands = windows-stand g old.memory queue places es (body_spelling told) old.disk new.disk tells frame windows vault (vault-verify g old since tells vault images)

  -- where it has failed,
  pub HasImages-lost : found_of new.memory ≡ mine → new.keeping.opened ≡ old.keeping.opened → new.keeping.history ≡ old.keeping.history
      → new.keeping.groups ≡ old.keeping.groups → new.keeping.failed ≡ body_spelling told → (new.shut ≡ None → ⊥) → HasImages g new since
  HasImages-lost found opened history groups failed shut =
      let after : Kept = record { states = kept.states; last = kept.last; groups = kept.groups; failed = body_spelling told; forms = kept.forms } in
      record {
        keeps = keeps-same g new (g.size old.disk) since mine after size found
            (λ i. record {
              states = (opened i).states;
              last = (opened i).last;
              groups = groups i;
              failed = failed i;
              forms = map (λ (done : Done). done.form) (history i);
            })
            (KeepsImages-lost (g.size old.disk) (g.story old.disk) (g.story new.disk) mine kept since images.keeps (images.none yet) told stands (body_spelling told) frame.spells
            (windows-tell g old.memory queue places es (body_spelling told) old.disk new.disk tells frame windows images.keeps.told));
        none = λ still. absurd (shut still);
      }

  -- and where it ended well.
  pub HasImages-added : IsVault g new.disk new.memory None → AreAt queue es places → new.memory.layout ≡ old.memory.layout
      → new.memory.relation.states ≡ with_entries old.memory.relation.states es → new.memory.last ≡ old.memory.last + length es
      → new.keeping.opened ≡ old.keeping.opened → new.keeping.history ≡ old.keeping.history ++ map done_of (zip (requests_at queue places) es)
      → new.keeping.groups ≡ old.keeping.groups ++ (old.memory.last + length es) ∷ [] → new.keeping.failed ≡ old.keeping.failed
      → DoAllTell (g.story new.disk).reads new.memory.layout new.memory.relation.states → DoesFrameFit mine told → HasImages g new since
  HasImages-added now at layout states last opened history groups failed tell fits =
      let rest = now.rest tells refl in
      let last_is : new.memory.last ≡ last_number old.memory.last told =
      omega (arith, last, last-counted old.memory.last told frame.goes_on frame.spells.frame.numbers, length-map es model_entry) in
      let found : found_of new.memory ≡ with_frame mine told told =
      λ i. record { layout = layout i; last = last_is i; states = (states ∙ same-entries old.memory.relation.states es) i } in
      let number : old.memory.last + length es ≡ last_number 0 told =
      sym last ∙ last_is ∙ last-any old.memory.last 0 told frame.spells.frame.some in
      let forms : map (λ (done : Done). done.form) (old.keeping.history ++ map done_of (zip (requests_at queue places) es)) ≡ kept.forms ++ map entry_spelling told =
      map-append (λ (done : Done). done.form) old.keeping.history (map done_of (zip (requests_at queue places) es))
      ∙ ap (λ (more : List (List ℕ)). kept.forms ++ more) (forms-done (requests_at queue places) es (sym (AllZip-long AreWrittenBy (requests_at queue places) es at.written))) in
      let after : Kept = record {
        states = kept.states;
        last = kept.last;
        groups = kept.groups ++ last_number 0 told ∷ [];
        failed = kept.failed;
        forms = kept.forms ++ map entry_spelling told;
      } in
      let tell_found : DoAllTell (g.story new.disk).reads (with_frame mine told told).layout (with_frame mine told told).states =
      subst (λ (f : Found). DoAllTell (g.story new.disk).reads f.layout f.states) found tell in
      let reads : Reads (g.size old.disk) (g.story new.disk).reads (Opened (with_frame mine told told)) =
      subst (λ (n : ℕ). Reads n (g.story new.disk).reads (Opened (with_frame mine told told))) size
      (subst (λ (f : Found). Reads (g.size new.disk) (g.story new.disk).reads (Opened f)) found (rest.at.gives, rest.at.apart)) in
      record {
        keeps = keeps-same g new (g.size old.disk) since (with_frame mine told told) after size found
            (λ i. record {
              states = (opened i).states;
              last = (opened i).last;
              groups = (groups ∙ ap (λ (n : ℕ). kept.groups ++ n ∷ []) number) i;
              failed = failed i;
              forms = (ap (λ (done : List Done). map (λ (one : Done). one.form) done) history ∙ forms) i;
            })
            (KeepsImages-added (g.size old.disk) (g.story old.disk) (g.story new.disk) mine kept since images.keeps (images.none yet) told stands frame.spells.frame rest.settled
            (record {
              reads = reads;
              verify = DoAllVerify-told (g.size old.disk) (g.story new.disk).reads (with_frame mine told told) reads tell_found;
            })
            tell_found fits);
        none = λ still. failed ∙ images.none yet;
      }

-- Behind a lead that ended well the states tell their contents, where those before it did.
pub lead-tells : {D : Type 0} (g : Ghosts D) (before now : Memory) (queue : List Request) (old new : D) → IsTrue g.tells → IsVault g old before None → IsVault g new now None
    → LeadRests g before queue old new → DoAllTell (g.story old).reads before.layout before.relation.states → DoAllTell (g.story new).reads now.layout now.relation.states
lead-tells g before now queue old new tells vault later rests tell =
    let found : Found = found_of before in
    let rest = vault.rest tells refl in
    let behind = later.rest tells refl in
    let reads : Reads (g.size old) (g.story old).reads (Opened found) = (rest.at.gives, rest.at.apart) in
    let objects = ReadsAs-told (g.size old) (g.story old).reads found reads tell in
    let store : model.Store = record { objects = objects.0; last = before.last } in
    let opened = IsOpenedAs-read g old old before before.layout store tells reads (OnlyWrites-none g (IsMetadata (g.size old) (g.story old).reads) old) objects.1 in
    let left = rests store opened.stands opened.held in
    DoAllTell-reads (g.size new) (g.story new).reads before.layout _ _ (found_of now) left.reads (behind.at.gives, behind.at.apart)
