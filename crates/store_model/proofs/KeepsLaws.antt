-- What a vault keeps of its disk's images goes on over its calls: over those that leave the store, and over the step of a group, whether its
-- frame is added or lost.
use Rattle.std.proofs.Common.{◌≡◌, ℕ, suc, ◌≤◌, List, [], ◌∷◌, ◌++◌, length, map, inl, inr, refl, sym, ap, ◌∙◌, subst, arith}
use Rattle.std.proofs.lemmas.List.{append-nil, length-append, map-append}
use Rattle.std.specs.List.{flat_map}
use Rattle.std.proofs.lemmas.Grind.{flat_map-append}
use Rattle.std.proofs.lemmas.List.Elements.{All-append, All-cons, All-nil}
use Rattle.store_model.specs.Disk.{Image}
use Rattle.store_model.specs.Fits.{DoesFrameFit}
use Rattle.store_model.specs.Frame.{Entry, IsFrame, Spells, body_spelling, entry_spelling}
use Rattle.store_model.specs.Half.{IsHalf, tuples_spelling}
use Rattle.store_model.specs.Images.{LeavesOnly, MayLeave, Settled, Story}
use Rattle.store_model.specs.Keeps.{IsLost, Kept, KeepsImages}
use Rattle.store_model.specs.Layout.{data_pages}
use Rattle.store_model.specs.Reading.{Found, last_number, with_entries, with_frame}
use Rattle.store_model.specs.Stands.{DoAllTell, ReadsWhole, Stands, StandsStep, found_at}
use Rattle.store_model.proofs.FrameFitLaws.{DoFit-push}
use Rattle.store_model.proofs.StandsLaws.{Stands-front, Stands-step, Stands-whole, found_at-next}

-- Where no body is kept no frame is lost.
none-lost : (pages : ℕ) (failed : List ℕ) (lost : List (List Entry)) → failed ≡ [] → IsLost pages failed lost → lost ≡ []
none-lost pages failed lost none (inl both) = both.1
none-lost pages failed lost none (inr (entries, is, spells)) =
    let wrong : body_spelling entries ≡ [] = sym spells.bytes_are ∙ none in
    absurd (cc wrong)

-- What crashes left since a time, over calls: each that left only what has P, and what has P has n frames.
left-on : (P : Image → Type 0) (Q : Image → ℕ → Type 0) (n since : ℕ) (old new : Story) → since ≤ old.time
    → ((image : Image) → old.left since image → (k : ℕ) × (k ≤ n) × Q image k) → ((image : Image) → P image → Q image n) → LeavesOnly P old new
    → (image : Image) → new.left since image → (k : ℕ) × (k ≤ n) × Q image k
left-on P Q n since old new past each has only image left = elim (only.leaves since image past left) [
  | inl before ↦ each image before
  | inr now ↦ (n, omega arith, has image now)
]

-- what a crash leaves now
left-now : (P : Image → Type 0) (Q : Image → Type 0) (old new : Story) → ((image : Image) → MayLeave old image → Q image)
    → ((image : Image) → P image → Q image) → LeavesOnly P old new → (image : Image) → MayLeave new image → Q image
left-now P Q old new each has only image left =
    elim (only.leaves old.time image (omega arith) (new.since old.time new.time image only.later (omega arith) left)) [
      | inl before ↦ each image before
      | inr now ↦ has image now
    ]

-- It begins with a disk of which whatever a crash left since then reads as the store.
pub KeepsImages-begin : (pages : ℕ) (story : Story) (mine : Found) (since : ℕ) → IsHalf mine.layout mine.last mine.states → since ≤ story.time
    → ((image : Image) → story.left since image → ReadsWhole pages image mine) → DoAllTell story.reads mine.layout mine.states
    → KeepsImages pages story mine (record { states = tuples_spelling mine.states; last = mine.last; groups = []; failed = []; forms = [] }) since
KeepsImages-begin pages story mine since half past each told = record {
  opened = mine;
  frames = [];
  lost = [];
  are = record {
    layout_is = refl;
    half = half;
    states_are = refl;
    last_is = refl;
    each = All-nil (IsFrame (data_pages mine.layout));
    forms = refl;
    groups = refl;
    lost_is = inl (refl, refl);
  };
  at = refl;
  past = past;
  each = λ image left. (0, omega arith, inl (each image left));
  now = λ image left. inl (each image (story.since since story.time image past (omega arith) left));
  told = told;
  fit = tt;
}

-- It goes on over calls that leave the store.
pub KeepsImages-on : (pages : ℕ) (old new : Story) (mine : Found) (kept : Kept) (since : ℕ) → KeepsImages pages old mine kept since
    → LeavesOnly (λ image. ReadsWhole pages image mine) old new → DoAllTell new.reads mine.layout mine.states → KeepsImages pages new mine kept since
KeepsImages-on pages old new mine kept since keeps only told =
    let n : ℕ = length keeps.frames in
    let P : Image → Type 0 = λ image. ReadsWhole pages image mine in
    let has : (image : Image) → P image → Stands pages image keeps.opened (keeps.frames ++ keeps.lost) n =
    λ image whole. Stands-whole pages image keeps.opened mine keeps.frames keeps.at keeps.lost whole in
    record {
      opened = keeps.opened;
      frames = keeps.frames;
      lost = keeps.lost;
      are = keeps.are;
      at = keeps.at;
      past = omega (arith, keeps.past, only.later);
      each = left-on P (λ image k. Stands pages image keeps.opened (keeps.frames ++ keeps.lost) k) n since old new keeps.past keeps.each has only;
      now = left-now P (λ image. Stands pages image keeps.opened (keeps.frames ++ keeps.lost) n) old new keeps.now has only;
      told = told;
      fit = keeps.fit;
    }

-- And over the step of a group, where none was lost before.
module _ (pages : ℕ) (old new : Story) (mine : Found) (kept : Kept) (since : ℕ) (keeps : KeepsImages pages old mine kept since) (none : kept.failed ≡ [])
    (entries : List Entry) (only : LeavesOnly (λ image. StandsStep pages image mine entries) old new) where
  abbrev opened : Found
  opened = keeps.opened

  abbrev frames : List (List Entry)
  frames = keeps.frames

  abbrev further : List (List Entry)
  further = frames ++ entries ∷ []

  -- whatever stood before stands of one frame more,
  before : (image : Image) (k : ℕ) → k ≤ length frames → Stands pages image opened (frames ++ keeps.lost) k → Stands pages image opened further k
  before image k most stands =
      let alone : frames ++ keeps.lost ≡ frames =
      ap (λ (lost : List (List Entry)). frames ++ lost) (none-lost (data_pages mine.layout) kept.failed keeps.lost none keeps.are.lost_is) ∙ append-nil frames in
      Stands-front pages image opened frames (entries ∷ []) k most (subst (λ (all : List (List Entry)). Stands pages image opened all k) alone stands)

  step : (image : Image) → StandsStep pages image mine entries → Stands pages image opened further (length frames)
  step image stands = Stands-step pages image opened mine frames keeps.at entries stands

  each-step : (image : Image) → new.left since image → (k : ℕ) × (k ≤ length frames) × Stands pages image opened further k
  each-step =
      left-on (λ image. StandsStep pages image mine entries) (λ image k. Stands pages image opened further k) (length frames) since old new keeps.past
      (λ image left. let one = keeps.each image left in (one.0, one.1, before image one.0 one.1 one.2)) step only

  -- Where its lead has failed the frame is lost,
  pub KeepsImages-lost : (body : List ℕ) → Spells (data_pages mine.layout) body entries → DoAllTell new.reads mine.layout mine.states
      → KeepsImages pages new mine (record { states = kept.states; last = kept.last; groups = kept.groups; failed = body; forms = kept.forms }) since
  KeepsImages-lost body spells told = record {
    opened = opened;
    frames = frames;
    lost = entries ∷ [];
    are = record {
      layout_is = keeps.are.layout_is;
      half = keeps.are.half;
      states_are = keeps.are.states_are;
      last_is = keeps.are.last_is;
      each = keeps.are.each;
      forms = keeps.are.forms;
      groups = keeps.are.groups;
      lost_is = inr (entries, refl, spells);
    };
    at = keeps.at;
    past = omega (arith, keeps.past, only.later);
    each = each-step;
    now = left-now (λ image. StandsStep pages image mine entries) (λ image. Stands pages image opened further (length frames)) old new
        (λ image left. before image (length frames) (omega arith) (keeps.now image left)) step only;
    told = told;
    fit = keeps.fit;
  }

  -- and where it ended well it is added, and the disk reads as the store behind it, and a crash leaves just that.
  pub KeepsImages-added : IsFrame (data_pages mine.layout) entries → Settled new → ReadsWhole pages new.reads (with_frame mine entries entries)
      → DoAllTell new.reads mine.layout (with_entries mine.states entries) → DoesFrameFit mine entries
      → KeepsImages pages new (with_frame mine entries entries)
      (record {
        states = kept.states;
        last = kept.last;
        groups = kept.groups ++ last_number 0 entries ∷ [];
        failed = kept.failed;
        forms = kept.forms ++ map entry_spelling entries;
      }) since
  KeepsImages-added frame settled reads told fits =
      let long : length further ≡ suc (length frames) = length-append frames (entries ∷ []) ∙ omega arith in
      let at : with_frame mine entries entries ≡ found_at opened further (length further) =
      ap (λ (f : Found). with_frame f entries entries) keeps.at ∙ sym (found_at-next opened frames entries)
      ∙ ap (λ (n : ℕ). found_at opened further n) (sym long) in
      let alone : further ++ [] ≡ further = append-nil further in
      record {
        opened = opened;
        frames = further;
        lost = [];
        are = record {
          layout_is = keeps.are.layout_is;
          half = keeps.are.half;
          states_are = keeps.are.states_are;
          last_is = keeps.are.last_is;
          each = All-append (IsFrame (data_pages mine.layout)) frames (entries ∷ []) keeps.are.each
              (All-cons (IsFrame (data_pages mine.layout)) entries [] frame (All-nil (IsFrame (data_pages mine.layout))));
          forms = ap (λ (forms : List (List ℕ)). forms ++ map entry_spelling entries) keeps.are.forms
              ∙ sym (forms-more frames);
          groups = ap (λ (groups : List ℕ). groups ++ last_number 0 entries ∷ []) keeps.are.groups
              ∙ sym (map-append (last_number 0) frames (entries ∷ []));
          lost_is = inl (none, refl);
        };
        at = at;
        past = omega (arith, keeps.past, only.later);
        each = λ image left.
            let one = each-step image left in
            (one.0, omega (arith, one.1, long), subst (λ (all : List (List Entry)). Stands pages image opened all one.0) (sym alone) one.2);
        now = λ image left.
            inl (subst (λ (all : List (List Entry)). ReadsWhole pages image (found_at opened all (length further))) (sym alone)
            (subst (λ (f : Found). ReadsWhole pages image f) at
            (subst (λ (i : Image). ReadsWhole pages i (with_frame mine entries entries)) (sym (settled image left)) reads)));
        told = told;
        fit = DoFit-push opened frames entries keeps.fit (subst (λ (f : Found). DoesFrameFit f entries) keeps.at fits);
      } where
        forms-more : (all : List (List Entry)) → map entry_spelling (flat_map (λ (es : List Entry). es) (all ++ entries ∷ []))
            ≡ map entry_spelling (flat_map (λ (es : List Entry). es) all) ++ map entry_spelling entries
        forms-more all =
            ap (λ (es : List Entry). map entry_spelling es)
            (flat_map-append (λ (es : List Entry). es) all (entries ∷ []) ∙ ap (λ (es : List Entry). flat_map (λ (one : List Entry). one) all ++ es) (append-nil entries))
            ∙ map-append entry_spelling (flat_map (λ (es : List Entry). es) all) entries
