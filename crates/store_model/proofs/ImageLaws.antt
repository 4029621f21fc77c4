-- Laws of a disk's time and images: calls one after another, what a crash in them leaves, and steps that never fall.
use Rattle.std.proofs.Common.{◌≡◌, ℕ, ◌+◌, ◌<◌, ◌≤◌, inl, inr, List, [], ◌∷◌, ◌++◌, length, take, get_or, refl, sym, ap, ◌∙◌, subst, arith, add-one, length-take}
use Rattle.std.proofs.Math.Nat.{le_refl, le_trans}
use Rattle.std.proofs.Math.Seq.{take-suc}
use Rattle.std.proofs.lemmas.Bool.{eq-eqb, cases_lt}
use Rattle.std.proofs.lemmas.Bool.Decides.{eqb_tells}
use Rattle.store_model.specs.Disk.{HasPages, Image, SameOff, with_page, with_pages}
use Rattle.store_model.specs.Images.{Story, MayLeave, Altered, Settled, Wrote, Stayed, Unchanged, LeavesOnly, Within, Reached, Climbed}

-- the page that was put
pub with_page_at : (image : Image) (page : ℕ) (bytes : List ℕ) → with_page image page bytes page ≡ bytes
with_page_at image page bytes = rw (eq-eqb page page refl) refl

-- another page
pub with_page_off : (image : Image) (page : ℕ) (bytes : List ℕ) (p : ℕ) → (p ≡ page → ⊥) → with_page image page bytes p ≡ image p
with_page_off image page bytes p off = elim (eqb_tells p page) [
  | inl same ↦ absurd (off same.1)
  | inr other ↦ rw (other.0) refl
]

-- a page off those that were put
pub with_pages_off : (image : Image) (first : ℕ) (pages : List (List ℕ)) (p : ℕ) → (Within first (length pages) p → ⊥) → with_pages image first pages p ≡ image p
with_pages_off image first [] p off = refl
with_pages_off image first (bytes ∷ pages) p off =
    with_pages_off (with_page image first bytes) (first + 1) pages p (λ within. off (record { from = omega (arith, within.from); to = omega (arith, within.to) }))
    ∙ with_page_off image first bytes p (λ same. off (record { from = omega arith; to = omega arith }))

-- one more page behind the others
pub with_pages_push : (image : Image) (first : ℕ) (pages : List (List ℕ)) (bytes : List ℕ)
    → with_pages image first (pages ++ bytes ∷ []) ≡ with_page (with_pages image first pages) (first + length pages) bytes
with_pages_push image first [] bytes = ap (λ (n : ℕ). with_page image n bytes) (omega arith)
with_pages_push image first (page ∷ pages) bytes =
    with_pages_push (with_page image first page) (first + 1) pages bytes
    ∙ ap (λ (n : ℕ). with_page (with_pages (with_page image first page) (first + 1) pages) n bytes) (omega arith)

-- one more of the pages
pub with_pages_more : (image : Image) (first : ℕ) (pages : List (List ℕ)) (i : ℕ) (default : List ℕ) → i < length pages
    → with_pages image first (take (i + 1) pages) ≡ with_page (with_pages image first (take i pages)) (first + i) (get_or pages i default)
with_pages_more image first pages i default below =
    let count : length (take i pages) ≡ i = simp length-take (omega arith) in
    rw (add-one, take-suc pages i default below)
    (with_pages_push image first (take i pages) (get_or pages i default)
    ∙ ap (λ (n : ℕ). with_page (with_pages image first (take i pages)) (first + n) (get_or pages i default)) count)

-- no call
pub wrote_none : (pages : ℕ → Type 0) (a : Story) → Wrote pages a a
wrote_none pages a = record {
  later = le_refl a.time;
  reads = λ p off. refl;
  leaves = λ t image most left. inl left;
  keeps = λ t image most left. left;
}

-- a call that writes nothing
pub stayed_wrote : (pages : ℕ → Type 0) (a b : Story) → Stayed a b → Wrote pages a b
stayed_wrote pages a b stayed = record {
  later = stayed.later;
  reads = λ p off. ap (λ (image : Image). image p) stayed.reads;
  leaves = λ t image most left. inl (stayed.leaves t image most left);
  keeps = stayed.keeps;
}

-- no call
pub stayed_none : (a : Story) → Stayed a a
stayed_none a = record {
  later = le_refl a.time;
  reads = refl;
  leaves = λ t image most left. left;
  keeps = λ t image most left. left;
}

-- calls that write nothing, one after another
pub stayed_then : (a b c : Story) → Stayed a b → Stayed b c → Stayed a c
stayed_then a b c one other = record {
  later = omega (arith, one.later, other.later);
  reads = other.reads ∙ one.reads;
  leaves = λ t image most left. one.leaves t image most (other.leaves t image (omega (arith, most, one.later)) left);
  keeps = λ t image most left. other.keeps t image (omega (arith, most, one.later)) (one.keeps t image most left);
}

-- a call that wasn't made
pub unchanged_stayed : (a b : Story) → Unchanged a b → Stayed a b
unchanged_stayed a b same = record {
  later = subst (λ (time : ℕ). a.time ≤ time) (sym same.time) (le_refl a.time);
  reads = same.reads;
  leaves = λ t image most left. same.leaves t image left;
  keeps = λ t image most left. same.keeps t image left;
}

-- fewer pages off
same_off_wider : (fewer pages : ℕ → Type 0) (old new : Image) → ((p : ℕ) → fewer p → pages p) → SameOff fewer old new → SameOff pages old new
same_off_wider fewer pages old new more same p off = same p (λ few. off (more p few))

-- one change of these pages after another
same_off_then : (pages : ℕ → Type 0) (a b c : Image) → SameOff pages a b → SameOff pages b c → SameOff pages a c
same_off_then pages a b c first second p off = second p off ∙ first p off

-- more pages
pub wider : (fewer pages : ℕ → Type 0) (a b : Story) → ((p : ℕ) → fewer p → pages p) → Wrote fewer a b → Wrote pages a b
wider fewer pages a b more wrote = record {
  later = wrote.later;
  reads = same_off_wider fewer pages a.reads b.reads more wrote.reads;
  leaves = λ t image most left. elim (wrote.leaves t image most left) [
    | inl before ↦ inl before
    | inr now ↦ inr (now.0, now.1, same_off_wider fewer pages now.0 image more now.2)
  ];
  keeps = wrote.keeps;
}

-- an image of old, altered nowhere
unaltered : (pages : ℕ → Type 0) (a : Story) (image : Image) → MayLeave a image → Altered pages a image
unaltered pages a image left = (image, left, λ p off. refl)

-- what a crash since old may leave
pub altered : (pages : ℕ → Type 0) (a b : Story) (image : Image) → Wrote pages a b → b.left a.time image → Altered pages a image
altered pages a b image wrote left = elim (wrote.leaves a.time image (le_refl a.time) left) [
  | inl before ↦ unaltered pages a image before
  | inr now ↦ now
]

-- a further alteration of the same pages
altered_then : (pages : ℕ → Type 0) (a b : Story) (image : Image) → Wrote pages a b → Altered pages b image → Altered pages a image
altered_then pages a b image wrote later =
    let first : Altered pages a later.0 = altered pages a b later.0 wrote (b.since a.time b.time later.0 wrote.later (le_refl b.time) later.1) in
    (first.0, first.1, same_off_then pages first.0 later.0 image first.2 later.2)

-- one call after another
pub wrote_then : (pages : ℕ → Type 0) (a b c : Story) → Wrote pages a b → Wrote pages b c → Wrote pages a c
wrote_then pages a b c first second = record {
  later = le_trans first.later second.later;
  reads = same_off_then pages a.reads b.reads c.reads first.reads second.reads;
  leaves = λ t image most left. elim (second.leaves t image (le_trans most first.later) left) [
    | inl before ↦ first.leaves t image most before
    | inr now ↦ inr (altered_then pages a b image first now)
  ];
  keeps = λ t image most left. second.keeps t image (le_trans most first.later) (first.keeps t image most left);
}

-- calls that write fewer pages after others
pub wrote_more : (fewer pages : ℕ → Type 0) (a b c : Story) → ((p : ℕ) → fewer p → pages p) → Wrote pages a b → Wrote fewer b c → Wrote pages a c
wrote_more fewer pages a b c more first second = wrote_then pages a b c first (wider fewer pages b c more second)

-- a call that writes nothing after others
pub wrote_stayed : (pages : ℕ → Type 0) (a b c : Story) → Wrote pages a b → Stayed b c → Wrote pages a c
wrote_stayed pages a b c first second = wrote_then pages a b c first (stayed_wrote pages b c second)

-- off these pages an image reads as the disk did, where that was settled
pub agrees : (pages : ℕ → Type 0) (a b : Story) (image : Image) → Settled a → Wrote pages a b → b.left a.time image → SameOff pages a.reads image
agrees pages a b image settled wrote left =
    let from : Altered pages a image = altered pages a b image wrote left in
    λ p off. from.2 p off ∙ ap (λ (old : Image). old p) (settled from.0 from.1)

-- a settled disk stays so
pub stays_settled : (a b : Story) → Settled a → Stayed a b → Settled b
stays_settled a b settled stayed image left =
    settled image (stayed.leaves a.time image (le_refl a.time) (b.since a.time b.time image stayed.later (le_refl b.time) left)) ∙ sym stayed.reads

-- what has P where at most these pages differ from a settled disk
pub leaves_only : (P : Image → Type 0) (pages : ℕ → Type 0) (a b : Story) → Settled a → Wrote pages a b
    → ((image : Image) → SameOff pages a.reads image → P image) → LeavesOnly P a b
leaves_only P pages a b settled wrote has = record {
  later = wrote.later;
  leaves = λ t image most left. elim (wrote.leaves t image most left) [
    | inl before ↦ inl before
    | inr now ↦ inr (has image (λ p off. now.2 p off ∙ ap (λ (old : Image). old p) (settled now.0 now.1)))
  ];
  keeps = wrote.keeps;
}

-- no call
pub leaves_none : (P : Image → Type 0) (a : Story) → LeavesOnly P a a
leaves_none P a = record {
  later = le_refl a.time;
  leaves = λ t image most left. inl left;
  keeps = λ t image most left. left;
}

-- calls that write nothing
pub leaves_stayed : (P : Image → Type 0) (a b : Story) → Stayed a b → LeavesOnly P a b
leaves_stayed P a b stayed = record { later = stayed.later; leaves = λ t image most left. inl (stayed.leaves t image most left); keeps = stayed.keeps }

-- one call after another
pub leaves_then : (P : Image → Type 0) (a b c : Story) → LeavesOnly P a b → LeavesOnly P b c → LeavesOnly P a c
leaves_then P a b c first second = record {
  later = le_trans first.later second.later;
  leaves = λ t image most left. elim (second.leaves t image (le_trans most first.later) left) [
    | inl before ↦ first.leaves t image most before
    | inr now ↦ inr now
  ];
  keeps = λ t image most left. second.keeps t image (le_trans most first.later) (first.keeps t image most left);
}

-- a weaker fact
pub leaves_more : (P Q : Image → Type 0) (a b : Story) → ((image : Image) → P image → Q image) → LeavesOnly P a b → LeavesOnly Q a b
leaves_more P Q a b more only = record {
  later = only.later;
  leaves = λ t image most left. elim (only.leaves t image most left) [
    | inl before ↦ inl before
    | inr now ↦ inr (more image now)
  ];
  keeps = only.keeps;
}

-- each image since old, where that was settled
pub each : (P : Image → Type 0) (a b : Story) (image : Image) → Settled a → P a.reads → LeavesOnly P a b → b.left a.time image → P image
each P a b image settled has only left = elim (only.leaves a.time image (le_refl a.time) left) [
  | inl before ↦ subst P (sym (settled image before)) has
  | inr now ↦ now
]

-- what was reached stays so while a crash leaves nothing earlier
reached_on : (P : ℕ → Image → Type 0) (k n : ℕ) (a b : Story) → k ≤ n → Reached P k a → LeavesOnly (λ image. (j : ℕ) × (n ≤ j) × P j image) a b → Reached P k b
reached_on P k n a b most reached only = record {
  time = reached.time;
  past = le_trans reached.past only.later;
  once = (reached.once.0, only.keeps reached.time reached.once.0 reached.past reached.once.1, reached.once.2);
  each = λ image left. elim (only.leaves reached.time image reached.past left) [
    | inl before ↦ reached.each image before
    | inr now ↦ (now.0, le_trans most now.1, now.2)
  ];
}

-- nothing is taken back while a crash leaves the last step or a later one
pub climbed_on : (P : ℕ → Image → Type 0) (n : ℕ) (a b : Story) → Climbed P n a → LeavesOnly (λ image. (j : ℕ) × (n ≤ j) × P j image) a b → Climbed P n b
climbed_on P n a b climbed only k most = reached_on P k n a b most (climbed k most) only

-- a settled disk has reached what it reads as
reached_now : (P : ℕ → Image → Type 0) (k : ℕ) (a : Story) → Settled a → P k a.reads → Reached P k a
reached_now P k a settled has = record {
  time = a.time;
  past = le_refl a.time;
  once = (a.reads, a.own, has);
  each = λ image left. (k, le_refl k, subst (P k) (sym (settled image left)) has);
}

-- one step further
pub climbed_up : (P : ℕ → Image → Type 0) (n : ℕ) (a : Story) → Climbed P n a → Settled a → P (n + 1) a.reads → Climbed P (n + 1) a
climbed_up P n a climbed settled has k most = elim (cases_lt n k) [
  | inl above ↦ (let last : n + 1 ≡ k = omega arith in subst (λ (j : ℕ). Reached P j a) last (reached_now P (n + 1) a settled has))
  | inr within ↦ climbed k within
]

-- the first step
pub climbed_first : (P : ℕ → Image → Type 0) (a : Story) → Settled a → P 0 a.reads → Climbed P 0 a
climbed_first P a settled has k most =
    let none : 0 ≡ k = omega arith in
    subst (λ (j : ℕ). Reached P j a) none (reached_now P 0 a settled has)

-- what has P where at most these pages differ from a settled disk, whose images have whole pages
pub leaves_whole : (P : Image → Type 0) (pages : ℕ → Type 0) (a b : Story) → Settled a → Wrote pages a b
    → ((image : Image) → HasPages image → SameOff pages a.reads image → P image) → LeavesOnly P a b
leaves_whole P pages a b settled wrote has = record {
  later = wrote.later;
  leaves = λ t image most left. elim (wrote.leaves t image most left) [
    | inl before ↦ inl before
    | inr now ↦ inr (has image (b.pages t image left) (λ p off. now.2 p off ∙ ap (λ (old : Image). old p) (settled now.0 now.1)))
  ];
  keeps = wrote.keeps;
}
