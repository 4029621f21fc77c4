-- The numbers of what is dropped, of entries or bodies of which some are left.
use Rattle.std.proofs.Common.{◌≡◌, ℕ, ◌+◌, ◌<◌, Bool, true, false, inl, inr, List, [], ◌∷◌, ◌++◌, length, drop, refl, sym, ap, subst, ◌∙◌, append-nil, append_assoc}
use Rattle.std.specs.Prelude.{◌==◌, ◌&&◌}
use Rattle.store_model.specs.Disk.{Image}
use Rattle.store_model.specs.Frame.{Entry, Spells}
use Rattle.store_model.specs.Layout.{Layout, data_pages}
use Rattle.store_model.specs.LogReading.{StoredBody}
use Rattle.meta_log.specs.Reads.{stored}
use Rattle.meta_log.specs.declared.read.Body.{Body}
use Rattle.recover.specs.Frames.{Adds, DroppedBehind, DroppedBy}
use Rattle.recover.proofs.Followings.{is_nil, nil-there}

-- What is dropped of all of these, where this is dropped of those that are left.
abbrev pub Telling : {X : Type 0} → (List X → List ℕ → Type 0) → List ℕ → List ℕ → List X → List X → Type 0
Telling Dropped before now all left = (rest : List ℕ) → Dropped left rest → (whole : List ℕ) × Dropped all whole × (before ++ whole ≡ now ++ rest)

-- one of them adds its own to what is dropped of those behind it
abbrev Adding : {X : Type 0} → (List X → List ℕ → Type 0) → List ℕ → List ℕ → X → List X → Type 0
Adding Dropped now next one left = (rest : List ℕ) → Dropped left rest → (more : List ℕ) × Dropped (one ∷ left) more × (now ++ more ≡ next ++ rest)

Telling-next : {X : Type 0} (Dropped : List X → List ℕ → Type 0) (before now next : List ℕ) (all left : List X) (one : X) → Telling Dropped before now all (one ∷ left)
    → Adding Dropped now next one left → Telling Dropped before next all left
Telling-next Dropped before now next all left one so_far adds rest dropped =
    let step = adds rest dropped in
    let told = so_far step.0 step.1 in
    (told.0, told.1, told.2 ∙ step.2)

-- none is left
pub Telling-all : {X : Type 0} (Dropped : List X → List ℕ → Type 0) (before now : List ℕ) (all : List X) → Telling Dropped before now all [] → Dropped [] []
    → Adds Dropped all before now
Telling-all Dropped before now all so_far none =
    let told = so_far [] none in
    (told.0, told.1, sym (append-nil now) ∙ sym told.2)

-- nothing is dropped of none
pub by-none : (is_last : Bool) (image : Image) (layout : Layout) → DroppedBy is_last image layout [] []
by-none true image layout = refl
by-none false image layout = refl

pub behind-none : (is_closed : Bool) (image : Image) (layout : Layout) → DroppedBehind is_closed image layout [] []
behind-none true image layout = refl
behind-none false image layout = refl

-- none of its own
adds-none : (now next numbers rest : List ℕ) → numbers ≡ [] → next ≡ now ++ numbers → now ++ rest ≡ next ++ rest
adds-none now next numbers rest none next_is = ap (λ (xs : List ℕ). xs ++ rest) (sym (next_is ∙ ap (λ (xs : List ℕ). now ++ xs) none ∙ append-nil now))

-- what an entry adds stands before what is dropped of those behind it
Adding-entry : (is_last : Bool) (image : Image) (layout : Layout) (entry : Entry) (now next : List ℕ) (left : List Entry)
    → Adds (DroppedBy is_last image layout) (entry ∷ []) now next → Adding (DroppedBy is_last image layout) now next entry left
Adding-entry true image layout entry now next left adds rest dropped = elim adds.1 [
  | inl does ↦ (
    rest,
    inl (does.0, dropped),
    adds-none now next adds.0 rest does.1 adds.2,
  )
  | inr fails ↦ (
      let one : adds.0 ≡ entry.number ∷ [] = fails.1.1 ∙ ap (λ (xs : List ℕ). entry.number ∷ xs) fails.1.2 in (
        entry.number ∷ rest,
        inr (fails.0, (rest, refl, dropped)),
        sym (append_assoc now (entry.number ∷ []) rest) ∙ ap (λ (xs : List ℕ). xs ++ rest) (sym (adds.2 ∙ ap (λ (xs : List ℕ). now ++ xs) one)),
      )
      )
]
Adding-entry false image layout entry now next left adds rest dropped = (
  rest,
  dropped,
  adds-none now next adds.0 rest adds.1 adds.2,
)

-- a frame's numbers are those of its body
pub body-adds : (is_last : Bool) (image : Image) (layout : Layout) (body : StoredBody) (told : List Entry) (old new : List ℕ) → Spells (data_pages layout) body.bytes told
    → Adds (DroppedBy is_last image layout) told old new → Adds (DroppedBehind is_last image layout) (body ∷ []) old new
body-adds true image layout body told old new spells adds = (adds.0, (told, spells, adds.1), adds.2)
body-adds false image layout body told old new spells adds = adds

-- a body adds what is dropped of it where it is the last one before a closed gate, and none elsewhere
adding-body : (is_closed : Bool) (image : Image) (layout : Layout) (body : StoredBody) (left : List StoredBody) (now next : List ℕ)
    → Adds (DroppedBehind (is_closed && is_nil left) image layout) (body ∷ []) now next → Adding (DroppedBehind is_closed image layout) now next body left
adding-body true image layout body [] now next adds rest dropped = (
  adds.0,
  adds.1,
  sym adds.2 ∙ sym (append-nil next) ∙ ap (λ (xs : List ℕ). next ++ xs) (sym dropped),
)
adding-body true image layout body (b ∷ left) now next adds rest dropped = (
  rest,
  dropped,
  adds-none now next adds.0 rest adds.1 adds.2,
)
adding-body false image layout body left now next adds rest dropped = (
  rest,
  dropped,
  adds-none now next adds.0 rest adds.1 adds.2,
)

Adding-body : (is_closed is_last : Bool) (image : Image) (layout : Layout) (bodies : List Body) (i : ℕ) (body : StoredBody) (now next : List ℕ) → i < length bodies
    → is_last ≡ (is_closed && (i + 1 == length bodies)) → Adds (DroppedBehind is_last image layout) (body ∷ []) now next
    → Adding (DroppedBehind is_closed image layout) now next body (stored (drop (i + 1) bodies))
Adding-body is_closed is_last image layout bodies i body now next less is adds =
    let same : is_last ≡ is_closed && is_nil (stored (drop (i + 1) bodies)) = is ∙ ap (λ (b : Bool). is_closed && b) (nil-there bodies i less) in
    adding-body is_closed image layout body (stored (drop (i + 1) bodies)) now next
    (subst (λ (b : Bool). Adds (DroppedBehind b image layout) (body ∷ []) now next) same adds)

-- an entry is taken, of a disk that reads as it did
pub Telling-entry : (is_last : Bool) (image mid : Image) (layout now_layout : Layout) (before now next : List ℕ) (all left rest : List Entry) (entry : Entry) → left ≡ entry ∷ rest
    → mid ≡ image → now_layout ≡ layout → Telling (DroppedBy is_last image layout) before now all left → Adds (DroppedBy is_last mid now_layout) (entry ∷ []) now next
    → Telling (DroppedBy is_last image layout) before next all rest
Telling-entry is_last image mid layout now_layout before now next all left rest entry left_is reads same so_far adds =
    let moved : Adds (DroppedBy is_last image layout) (entry ∷ []) now next =
    subst (λ (l : Layout). Adds (DroppedBy is_last image l) (entry ∷ []) now next) same
    (subst (λ (pages : Image). Adds (DroppedBy is_last pages now_layout) (entry ∷ []) now next) reads adds) in
    Telling-next (DroppedBy is_last image layout) before now next all rest entry
    (subst (λ (es : List Entry). Telling (DroppedBy is_last image layout) before now all es) left_is so_far)
    (Adding-entry is_last image layout entry now next rest moved)

-- and so is a body
pub Telling-body : (is_closed is_last : Bool) (image mid : Image) (layout now_layout : Layout) (before now next : List ℕ) (bodies : List Body) (i : ℕ) (body : StoredBody) → i < length bodies
    → is_last ≡ (is_closed && (i + 1 == length bodies)) → stored (drop i bodies) ≡ body ∷ stored (drop (i + 1) bodies) → mid ≡ image → now_layout ≡ layout
    → Telling (DroppedBehind is_closed image layout) before now (stored bodies) (stored (drop i bodies)) → Adds (DroppedBehind is_last mid now_layout) (body ∷ []) now next
    → Telling (DroppedBehind is_closed image layout) before next (stored bodies) (stored (drop (i + 1) bodies))
Telling-body is_closed is_last image mid layout now_layout before now next bodies i body less is left_is reads same so_far adds =
    let moved : Adds (DroppedBehind is_last image layout) (body ∷ []) now next =
    subst (λ (l : Layout). Adds (DroppedBehind is_last image l) (body ∷ []) now next) same
    (subst (λ (pages : Image). Adds (DroppedBehind is_last pages now_layout) (body ∷ []) now next) reads adds) in
    Telling-next (DroppedBehind is_closed image layout) before now next (stored bodies) (stored (drop (i + 1) bodies)) body
    (subst (λ (left : List StoredBody). Telling (DroppedBehind is_closed image layout) before now (stored bodies) left) left_is so_far)
    (Adding-body is_closed is_last image layout bodies i body now next less is moved)
