-- Entries of a frame that are left to be taken.
use Rattle.std.proofs.Common.{◌≡◌, ℕ, suc, ◌+◌, ◌*◌, ◌≤◌, Bool, true, false, inl, inr, List, [], ◌∷◌, length, map, refl, sym, ap, subst, ◌∙◌, arith}
use Rattle.std.specs.FinMap.{FinMap, insert, remove}
use Rattle.std.specs.List.{All}
use Rattle.std.specs.Prelude.{IsTrue, fold}
use Rattle.disk_model.specs.Disks.{OnlyReads}
use Rattle.disk_model.specs.declared.disk.Disk.{Ghosts}
use Rattle.disk_model.proofs.DiskLaws.{OnlyReads-none, OnlyReads-then}
use Rattle.frame_codec.specs.Values.{model_entries, model_entry, model_write}
use Rattle.frame_codec.specs.declared.entry.Entry.{Entry}
use Rattle.frame_codec.specs.declared.entry.Write.{Write}
use Rattle.frame_codec.specs.declared.entry.Write.TheVariants as write
use Rattle.relation.specs.Changes.{with_writes}
use Rattle.relation.specs.Parts.{encoded_by}
use Rattle.store_model.specs.Disk.{Image}
use Rattle.store_model.specs.Frame as model
use Rattle.store_model.specs.Key.{key_order}
use Rattle.store_model.specs.Layout.{Layout, data_pages}
use Rattle.store_model.specs.Reading as reading
use Rattle.store_model.specs.Reading.{DoesVerify, with_entries}
use Rattle.store_model.specs.State.{State}
use Rattle.recover.specs.Frames.{AreStored, IsMade, IsUpTo, KeptBy, greatest_growth}

-- writes are made as the definitions make them
pub same-writes : (states : FinMap key_order State) (writes : List Write) → with_writes states writes ≡ fold reading.with_write states (map model_write writes)
same-writes states [] = refl
same-writes states (write.Set key state ∷ writes) = same-writes (insert states key state.value) writes
same-writes states (write.Del key ∷ writes) = same-writes (remove states key) writes

-- what is kept of entries behind one more
kept-next : (is_last : Bool) (image : Image) (layout : Layout) (entry : model.Entry) (entries rest : List model.Entry) → (is_last ≡ true → DoesVerify image layout entry)
    → KeptBy is_last image layout entries rest → KeptBy is_last image layout (entry ∷ entries) (entry ∷ rest)
kept-next true image layout entry entries rest does kept = inl (does refl, (rest, refl, kept))
kept-next false image layout entry entries rest does kept = ap (λ (es : List model.Entry). entry ∷ es) kept

kept-without : (is_last : Bool) (image : Image) (layout : Layout) (entry : model.Entry) (entries rest : List model.Entry) → is_last ≡ true → (DoesVerify image layout entry → ⊥)
    → KeptBy is_last image layout entries rest → KeptBy is_last image layout (entry ∷ entries) rest
kept-without true image layout entry entries rest last fails kept = inr (fails, kept)
kept-without false image layout entry entries rest last fails kept = absurd (cc last)

kept-none : (is_last : Bool) (image : Image) (layout : Layout) → KeptBy is_last image layout [] []
kept-none true image layout = refl
kept-none false image layout = refl

-- What is kept of all entries, where this is kept of those that are left.
abbrev pub KeepsAll : Bool → Image → Layout → FinMap key_order State → FinMap key_order State → List model.Entry → List model.Entry → Type 0
KeepsAll is_last image layout before now all left =
    (rest : List model.Entry) → KeptBy is_last image layout left rest
    → (kept : List model.Entry) × KeptBy is_last image layout all kept × (with_entries before kept ≡ with_entries now rest)

KeepsAll-next : (is_last : Bool) (image : Image) (layout : Layout) (before now later : FinMap key_order State) (all : List model.Entry) (entry : Entry) (left : List model.Entry)
    → KeepsAll is_last image layout before now all (model_entry entry ∷ left) → IsMade image layout is_last entry now later → KeepsAll is_last image layout before later all left
KeepsAll-next is_last image layout before now later all entry left so_far made rest kept = elim made [
  | inl makes ↦ (
      let one = so_far (model_entry entry ∷ rest) (kept-next is_last image layout (model_entry entry) left rest makes.0 kept) in (
        one.0,
        one.1,
        one.2 ∙ ap (λ (states : FinMap key_order State). with_entries states rest) (sym (makes.1 ∙ same-writes now entry.writes)),
      )
      )
  | inr drops ↦ (
      let one = so_far rest (kept-without is_last image layout (model_entry entry) left rest drops.0 drops.1 kept) in (
        one.0,
        one.1,
        one.2 ∙ ap (λ (states : FinMap key_order State). with_entries states rest) (sym drops.2),
      )
      )
]

-- Entries are left to be taken.
pub record Taking {D : Type 0} (g : Ghosts D) (layout : Layout) (last : ℕ) (is_last : Bool) (before now : FinMap key_order State) (all left : List Entry) (old new : D) : Type 0 where
  pub kept : IsTrue g.tells → KeepsAll is_last (g.story old).reads layout before now (model_entries all) (model_entries left)
  pub stored : AreStored (data_pages layout) last now
  pub bytes : encoded_by now + greatest_growth * length left ≤ encoded_by before + greatest_growth * length all
  pub upto : All (IsUpTo (data_pages layout) last) (model_entries left)
  pub reads : OnlyReads g old new

pub Taking-none : {D : Type 0} (g : Ghosts D) (layout : Layout) (last : ℕ) (is_last : Bool) (states : FinMap key_order State) (all : List Entry) (disk : D)
    → AreStored (data_pages layout) last states → All (IsUpTo (data_pages layout) last) (model_entries all) → Taking g layout last is_last states states all all disk disk
Taking-none g layout last is_last states all disk stored upto = record {
  kept = λ tells rest kept. (rest, kept, refl);
  stored = stored;
  bytes = omega arith;
  upto = upto;
  reads = OnlyReads-none g disk;
}

-- the next entry is one of these
pub upto-first : (pages last : ℕ) (left rest : List Entry) (entry : Entry) → left ≡ entry ∷ rest → All (IsUpTo pages last) (model_entries left) → IsUpTo pages last (model_entry entry)
upto-first pages last left rest entry is upto =
    let moved : All (IsUpTo pages last) (model_entry entry ∷ model_entries rest) = subst (λ (es : List Entry). All (IsUpTo pages last) (model_entries es)) is upto in
    moved 0 (model_entry entry) (omega arith)

pub Taking-next : {D : Type 0} (g : Ghosts D) (layout : Layout) (last : ℕ) (is_last : Bool) (before now later : FinMap key_order State) (all left rest : List Entry) (entry : Entry) (old mid new : D)
    → Taking g layout last is_last before now all left old mid → left ≡ entry ∷ rest
    → (IsTrue g.tells → IsMade (g.story mid).reads layout is_last entry now later) → AreStored (data_pages layout) last later
    → encoded_by later ≤ encoded_by now + greatest_growth → OnlyReads g mid new → Taking g layout last is_last before later all rest old new
Taking-next g layout last is_last before now later all left rest entry old mid new so_far left_is made stored bytes reads =
    let long : length left ≡ length rest + 1 = ap length left_is ∙ omega arith in
    let upto : All (IsUpTo (data_pages layout) last) (model_entry entry ∷ model_entries rest) =
    subst (λ (es : List Entry). All (IsUpTo (data_pages layout) last) (model_entries es)) left_is so_far.upto in
    record {
      kept = λ tells.
          KeepsAll-next is_last (g.story old).reads layout before now later (model_entries all) entry (model_entries rest)
          (subst (λ (es : List Entry). KeepsAll is_last (g.story old).reads layout before now (model_entries all) (model_entries es)) left_is (so_far.kept tells))
          (subst (λ (image : Image). IsMade image layout is_last entry now later) (so_far.reads.stayed tells).reads (made tells));
      stored = stored;
      bytes = omega (arith, so_far.bytes, ap (λ (n : ℕ). greatest_growth * n) long, bytes);
      upto = λ k d less. upto (suc k) d (omega (arith, less));
      reads = OnlyReads-then g old mid new so_far.reads reads;
    }

-- all of them are taken
pub Taking-all : {D : Type 0} (g : Ghosts D) (layout : Layout) (last : ℕ) (is_last : Bool) (before now : FinMap key_order State) (all left : List Entry) (old new : D)
    → Taking g layout last is_last before now all left old new → left ≡ [] → IsTrue g.tells
    → (kept : List model.Entry) × KeptBy is_last (g.story old).reads layout (model_entries all) kept × (now ≡ with_entries before kept)
Taking-all g layout last is_last before now all left old new taking none tells =
    let ends = subst (λ (es : List Entry). KeepsAll is_last (g.story old).reads layout before now (model_entries all) (model_entries es)) none (taking.kept tells) in
    let one = ends [] (kept-none is_last (g.story old).reads layout) in
    (one.0, one.1, sym one.2)
