-- Bodies of a log that are left to be taken.
use Rattle.std.proofs.Common.{◌≡◌, ℕ, zero, suc, ◌+◌, ◌-◌, ◌<◌, Bool, true, false, inl, inr, List, [], ◌∷◌, length, drop, refl, sym, ap, subst, ◌∙◌, arith, Some}
use Rattle.std.specs.Prelude.{IsTrue, slice_get, ◌==◌, ◌&&◌}
use Rattle.std.proofs.lemmas.Bool.{cases_lt}
use Rattle.std.proofs.lemmas.Bool.Decides.{nat_tests}
use Rattle.std.proofs.lemmas.List.{length-drop, length-map}
use Rattle.meta_log.specs.Reads.{stored, stored_body}
use Rattle.meta_log.specs.declared.read.Body.{Body}
use Rattle.store_model.specs.Disk.{Image}
use Rattle.store_model.specs.Frame.{Entry}
use Rattle.store_model.specs.Layout.{Layout}
use Rattle.store_model.specs.LogReading.{StoredBody}
use Rattle.store_model.specs.Reading.{Found, IsBadFrame, IsFirstBad, Takes, TakesEach}
use Rattle.recover.specs.Frames.{KeptBehind, KeptBy}

-- the bodies from one on
pub stored-from : (bodies : List Body) (i : ℕ) (body : Body) → slice_get bodies i ≡ Some body → stored (drop i bodies) ≡ stored_body body ∷ stored (drop (i + 1) bodies)
stored-from [] i body there = absurd (cc there)
stored-from (b ∷ bodies) zero body there = let same : b ≡ body = cc in ap (λ (one : Body). stored_body one ∷ stored bodies) same
stored-from (b ∷ bodies) (suc i) body there =
    let same : suc i + 1 ≡ suc (i + 1) = omega arith in
    stored-from bodies i body there ∙ ap (λ (n : ℕ). stored_body body ∷ stored (drop n (b ∷ bodies))) (sym same)

-- whether a body is the last one
abbrev pub is_nil : {X : Type 0} → List X → Bool
is_nil [] = true
is_nil (x ∷ xs) = false

is_nil-some : {X : Type 0} (xs : List X) → 0 < length xs → is_nil xs ≡ false
is_nil-some [] some = absurd (omega (arith, some))
is_nil-some (x ∷ xs) some = refl

is_nil-none : {X : Type 0} (xs : List X) → length xs ≡ 0 → is_nil xs ≡ true
is_nil-none [] none = refl
is_nil-none (x ∷ xs) none = absurd (omega (arith, none))

pub nil-there : (bodies : List Body) (i : ℕ) → i < length bodies → (i + 1 == length bodies) ≡ is_nil (stored (drop (i + 1) bodies))
nil-there bodies i less =
    let long : length (stored (drop (i + 1) bodies)) ≡ length bodies - (i + 1) = length-map (drop (i + 1) bodies) stored_body ∙ length-drop (i + 1) bodies in
    elim (cases_lt (i + 1) (length bodies)) [
      | inl more ↦ (let isnt : (i + 1 == length bodies) ≡ false = grind (arith, nat_tests, more) in isnt ∙ sym (is_nil-some (stored (drop (i + 1) bodies)) (omega (arith, long, more))))
      | inr all ↦ (let is : (i + 1 == length bodies) ≡ true = grind (arith, nat_tests, all, less) in is ∙ sym (is_nil-none (stored (drop (i + 1) bodies)) (omega (arith, long, all))))
    ]

kept-behind : (is_closed : Bool) (image : Image) (layout : Layout) (bodies : List StoredBody) (entries kept : List Entry)
    → KeptBy (is_closed && is_nil bodies) image layout entries kept → KeptBehind is_closed image layout bodies entries kept
kept-behind false image layout bodies entries kept keeps = keeps
kept-behind true image layout [] entries kept keeps = keeps
kept-behind true image layout (b ∷ bodies) entries kept keeps = keeps

kept-before : (is_closed : Bool) (image : Image) (layout : Layout) (bodies : List StoredBody) (entries kept : List Entry)
    → KeptBehind is_closed image layout bodies entries kept → KeptBy (is_closed && is_nil bodies) image layout entries kept
kept-before false image layout bodies entries kept keeps = keeps
kept-before true image layout [] entries kept keeps = keeps
kept-before true image layout (b ∷ bodies) entries kept keeps = keeps

-- a body is taken under another name of what is kept
pub Takes-same : (Kept Other : List Entry → List Entry → Type 0) (before : Found) (body : StoredBody) (after : Found) → ((entries kept : List Entry) → Kept entries kept → Other entries kept)
    → Takes Kept before body after → Takes Other before body after
Takes-same Kept Other before body after same takes = record {
  entries_told = takes.entries_told;
  spells = takes.spells;
  goes_on = takes.goes_on;
  entries_kept = takes.entries_kept;
  kept = same takes.entries_told takes.entries_kept takes.kept;
  after_is = takes.after_is;
  room = takes.room;
}

-- the body at this place is taken, or bad, with those behind it
pub taken-there : (is_closed is_last : Bool) (image : Image) (layout : Layout) (bodies : List Body) (i : ℕ) (before : Found) (body : StoredBody) (after : Found) → i < length bodies
    → is_last ≡ (is_closed && (i + 1 == length bodies)) → Takes (KeptBy is_last image layout) before body after
    → Takes (KeptBehind is_closed image layout (stored (drop (i + 1) bodies))) before body after
taken-there is_closed is_last image layout bodies i before body after less is takes =
    let same : is_last ≡ is_closed && is_nil (stored (drop (i + 1) bodies)) = is ∙ ap (λ (b : Bool). is_closed && b) (nil-there bodies i less) in
    Takes-same (KeptBy is_last image layout) (KeptBehind is_closed image layout (stored (drop (i + 1) bodies))) before body after
    (λ entries kept keeps. kept-behind is_closed image layout (stored (drop (i + 1) bodies)) entries kept (subst (λ (b : Bool). KeptBy b image layout entries kept) same keeps)) takes

pub bad-there : (is_closed is_last : Bool) (image : Image) (layout : Layout) (bodies : List Body) (i : ℕ) (before : Found) (body : StoredBody) → i < length bodies
    → is_last ≡ (is_closed && (i + 1 == length bodies)) → IsBadFrame (KeptBy is_last image layout) before body
    → IsBadFrame (KeptBehind is_closed image layout (stored (drop (i + 1) bodies))) before body
bad-there is_closed is_last image layout bodies i before body less is bad after takes =
    let same : is_last ≡ is_closed && is_nil (stored (drop (i + 1) bodies)) = is ∙ ap (λ (b : Bool). is_closed && b) (nil-there bodies i less) in
    bad after (Takes-same (KeptBehind is_closed image layout (stored (drop (i + 1) bodies))) (KeptBy is_last image layout) before body after
    (λ entries kept keeps. subst (λ (b : Bool). KeptBy b image layout entries kept) (sym same) (kept-before is_closed image layout (stored (drop (i + 1) bodies)) entries kept keeps)) takes)

-- Bodies are left to be taken: what comes of them comes of all.
pub record Following (tells : Bool) (Kept : List StoredBody → List Entry → List Entry → Type 0) (before now : Found) (all left : List StoredBody) : Type 0 where
  pub taken : IsTrue tells → (after : Found) → TakesEach Kept now left after → TakesEach Kept before all after
  pub bad : IsTrue tells → (page : ℕ) → IsFirstBad Kept now left page → IsFirstBad Kept before all page

pub Following-none : (tells : Bool) (Kept : List StoredBody → List Entry → List Entry → Type 0) (before : Found) (all : List StoredBody) → Following tells Kept before before all all
Following-none tells Kept before all = record { taken = λ told after takes. takes; bad = λ told page bad. bad }

pub Following-next : (tells : Bool) (Kept : List StoredBody → List Entry → List Entry → Type 0) (before now next : Found) (all left rest : List StoredBody) (body : StoredBody)
    → Following tells Kept before now all left → left ≡ body ∷ rest → (IsTrue tells → Takes (Kept rest) now body next) → Following tells Kept before next all rest
Following-next tells Kept before now next all left rest body so_far left_is takes = record {
  taken = λ told after behind. so_far.taken told after
      (subst (λ (bodies : List StoredBody). TakesEach Kept now bodies after) (sym left_is) (next, takes told, behind));
  bad = λ told page behind. so_far.bad told page
      (subst (λ (bodies : List StoredBody). IsFirstBad Kept now bodies page) (sym left_is) (inr (next, takes told, behind)));
}

-- one of them is bad
pub Following-bad : (tells : Bool) (Kept : List StoredBody → List Entry → List Entry → Type 0) (before now : Found) (all left rest : List StoredBody) (body : StoredBody)
    → Following tells Kept before now all left → left ≡ body ∷ rest → IsTrue tells → IsBadFrame (Kept rest) now body → IsFirstBad Kept before all body.page
Following-bad tells Kept before now all left rest body so_far left_is told bad =
    so_far.bad told body.page (subst (λ (bodies : List StoredBody). IsFirstBad Kept now bodies body.page) (sym left_is) (inl (bad, refl)))
