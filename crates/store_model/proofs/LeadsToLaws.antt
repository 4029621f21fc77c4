-- A state over whose content each link holds tells that content: mark by mark, and the digest behind them.
use Rattle.std.proofs.Common.{◌≡◌, ℕ, zero, suc, ◌+◌, ◌*◌, ◌/◌, ◌%◌, ◌^◌, ◌<◌, ◌≤◌, Bool, true, false, cond, List, [], ◌∷◌, length, take, drop, Some, refl, sym, ◌∙◌, ap, subst, arith}
use Rattle.std.specs.Prelude.{⊤, fold, nat_lt, slice_get, slice_index}
use Rattle.std.proofs.Math.Seq.{take-add}
use Rattle.std.proofs.lemmas.Bool.{le-ltb, lt-ltb}
use Rattle.std.proofs.lemmas.List.{length-map, length-take-le, take-append-drop}
use Rattle.std.proofs.lemmas.Option.{get_or_from_slice_get, slice_get_within}
use Rattle.store_model.specs.BlockFunction.{compress}
use Rattle.store_model.specs.Disk.{Image, page_bytes}
use Rattle.store_model.specs.Hash.{Leads, blocks, bytes_of_state, close, initial_state, sha256, state_after}
use Rattle.store_model.specs.Holds.{Holds, rest_of}
use Rattle.store_model.specs.Shape.{UsesExtent, held_by, pages_used}
use Rattle.store_model.specs.State.{Extent, IsMark, IsState, MarksTell, State, Tells, bytes_through, marks_of, prefix_of}
use Rattle.store_model.specs.Verify.{LeadsTo, Verifies, extent_part, link_from, mark_at}
use Rattle.store_model.proofs.HashLaws.{Leads-append, Leads-empty, close-Leads}
use Rattle.store_model.proofs.HoldsLaws.{computed-given}
use Rattle.store_model.proofs.ShapeLaws.{UsesExtent-HasShape}
use Rattle.store_model.proofs.StateLaws.{bytes_through-min}
use Rattle.store_model.proofs.TupleLaws.{marks-same}
use Rattle.store_model.proofs.VerifyLaws.{before_of, held-none, link_from-next, slice_get-or}

-- each of these is a word
abbrev AreWords : List ℕ → Type 0
AreWords [] = ⊤
AreWords (word ∷ words) = (word < 2 ^ 32) × AreWords words

word-at : (words : List ℕ) (k : ℕ) → AreWords words → slice_index words k < 2 ^ 32
word-at [] k all = omega arith
word-at (word ∷ words) zero all = all.0
word-at (word ∷ words) (suc k) all = word-at words k all.1

-- after a block a state has eight words
IsMark-compress : (state block : List ℕ) → IsMark (compress state block)
unfolding compress
IsMark-compress state block = record {
  eight = refl;
  words = λ k.
      word-at (compress state block) k
      (omega arith, (omega arith, (omega arith, (omega arith, (omega arith, (omega arith, (omega arith, (omega arith, tt))))))));
}

-- so it has after blocks, from one that has
IsMark-fold : (state : List ℕ) (all : List (List ℕ)) → IsMark state → IsMark (fold compress state all)
IsMark-fold state [] mark = mark
IsMark-fold state (block ∷ all) mark = IsMark-fold (compress state block) all (IsMark-compress state block)

pub IsMark-state_after : (state bytes : List ℕ) → IsMark state → IsMark (state_after state bytes)
unfolding state_after
IsMark-state_after state bytes mark = IsMark-fold state (blocks (length bytes / 64) bytes) mark

-- the initial state has
IsMark-initial : IsMark initial_state
IsMark-initial = record {
  eight = refl;
  words = λ k. word-at initial_state k (omega arith, (omega arith, (omega arith, (omega arith, (omega arith, (omega arith, (omega arith, (omega arith, tt))))))));
}

-- what is known of a state over whose content each link holds
record Linked (content : List ℕ) (state : State) : Type 0 where
  sound : IsState state
  leads : LeadsTo content state

-- the mark of an extent
there : (state : State) (i : ℕ) → i < length state.extents → slice_get (marks_of state.extents) i ≡ Some (mark_at state i)
there state i less = slice_get-or (marks_of state.extents) i [] (omega (arith, less, length-map state.extents (λ (e : Extent). e.mark)))

-- is eight words
IsMark-at : (state : State) (i : ℕ) → IsState state → i < length state.extents → IsMark (mark_at state i)
IsMark-at state i sound less = sound.marks i (mark_at state i) (there state i less)

-- so is what a link begins with
IsMark-from : (state : State) (i : ℕ) → IsState state → i ≤ length state.extents → IsMark (link_from state i)
IsMark-from state zero sound most = IsMark-initial
IsMark-from state (suc i) sound most = subst IsMark (sym (link_from-next state i)) (IsMark-at state i sound (omega (arith, most)))

-- each extent is one of the size
uses : (content : List ℕ) (state : State) (i : ℕ) → Linked content state → i < length state.extents → UsesExtent (length content) i
uses content state i linked less =
    subst (λ (n : ℕ). UsesExtent n i) (sym linked.leads.size) (UsesExtent-HasShape state.size i _ linked.sound.extents less)

-- the bytes of an extent lead from where its link begins to its mark
extent-leads : (content : List ℕ) (state : State) (i : ℕ) → Linked content state → i < length state.extents
    → Leads (link_from state i) (extent_part content state.size i) (mark_at state i)
extent-leads content state i linked less =
    let yes : nat_lt i (length state.extents) ≡ true = lt-ltb i (length state.extents) less in
    let end : List ℕ = state_after (link_from state i) (extent_part content state.size i) in
    let last : List ℕ = close (link_from state i) (64 * (state.size / page_bytes)) (rest_of content) in
    let same : bytes_of_state end ≡ bytes_of_state (mark_at state i) =
    sym (ap (λ (b : Bool). cond b (bytes_of_state end) last) yes)
    ∙ linked.leads.links i (omega (arith, less))
    ∙ ap (λ (b : Bool). cond b (bytes_of_state (mark_at state i)) state.digest) yes in
    marks-same end (mark_at state i)
    (IsMark-state_after (link_from state i) (extent_part content state.size i) (IsMark-from state i linked.sound (omega (arith, less))))
    (IsMark-at state i linked.sound less) same

-- The bytes up to the end of an extent lead to its mark, where those before it lead to where its link begins.
mark-from : (content : List ℕ) (state : State) (i : ℕ) → Linked content state → i < length state.extents
    → Leads initial_state (take (before_of (length content) i) content) (link_from state i)
    → Leads initial_state (take (bytes_through (length content) i) content) (mark_at state i)
mark-from content state i linked less from =
    let size : ℕ = length content in
    let used : UsesExtent size i = uses content state i linked less in
    let a : ℕ = page_bytes * held_by i in
    let b : ℕ = page_bytes * pages_used size i in
    let start : before_of size i ≡ a = omega (arith, used) in
    let end : a + b ≡ bytes_through size i = omega arith in
    let whole : length (take a content) % 64 ≡ 0 = omega (arith, used, length-take-le a content (omega (arith, used))) in
    let first : Leads initial_state (take a content) (link_from state i) =
    subst (λ (n : ℕ). Leads initial_state (take n content) (link_from state i)) start from in
    let second : Leads (link_from state i) (take b (drop a content)) (mark_at state i) =
    subst (λ (n : ℕ). Leads (link_from state i) (extent_part content n i) (mark_at state i)) (sym linked.leads.size)
    (extent-leads content state i linked less) in
    subst (λ (bytes : List ℕ). Leads initial_state bytes (mark_at state i))
    (sym (take-add a b content) ∙ ap (λ (n : ℕ). take n content) end)
    (Leads-append initial_state (take a content) (link_from state i) (take b (drop a content)) (mark_at state i) whole first second)

-- So a link begins with what the bytes before it lead to.
led-from : (content : List ℕ) (state : State) (i : ℕ) → Linked content state → i ≤ length state.extents
    → Leads initial_state (take (before_of (length content) i) content) (link_from state i)
led-from content state zero linked most =
    let none : before_of (length content) 0 ≡ 0 = omega (arith, held-none) in
    ap (λ (n : ℕ). state_after initial_state (take n content)) none ∙ Leads-empty initial_state
led-from content state (suc i) linked most =
    let size : ℕ = length content in
    let less : i < length state.extents = omega (arith, most) in
    let next : i + 1 ≡ suc i = omega arith in
    let same : before_of size (suc i) ≡ bytes_through size i =
    ap (λ (n : ℕ). before_of size n) (sym next) ∙ sym (bytes_through-min size i (uses content state i linked less)) in
    ap (λ (n : ℕ). state_after initial_state (take n content)) same
    ∙ mark-from content state i linked less (led-from content state i linked (omega (arith, most))) ∙ sym (link_from-next state i)

-- Each mark is what the content leads to.
marks-told : (content : List ℕ) (state : State) → Linked content state → MarksTell (marks_of state.extents) content
marks-told content state linked i mark is =
    let less : i < length state.extents =
    omega (arith, slice_get_within (marks_of state.extents) i mark is, length-map state.extents (λ (e : Extent). e.mark)) in
    mark-from content state i linked less (led-from content state i linked (omega (arith, less)))
    ∙ get_or_from_slice_get (marks_of state.extents) i mark [] is

-- The digest is the content's.
digest-told : (content : List ℕ) (state : State) → Linked content state → state.digest ≡ sha256 content
digest-told content state linked =
    let size : ℕ = length content in
    let n : ℕ = length state.extents in
    let full : ℕ = page_bytes * (size / page_bytes) in
    let from : List ℕ = link_from state n in
    let no : nat_lt n n ≡ false = le-ltb n n (omega arith) in
    let same : before_of size n ≡ full =
    omega (arith, linked.sound.extents.full, linked.sound.extents.held, linked.leads.size) in
    let led : Leads initial_state (take full content) from =
    subst (λ (k : ℕ). Leads initial_state (take k content) from) same (led-from content state n linked (omega arith)) in
    let count : length (take full content) ≡ 64 * (64 * (size / page_bytes)) = omega (arith, length-take-le full content (omega arith)) in
    sym (ap (λ (b : Bool). cond b (bytes_of_state (mark_at state n)) state.digest) no)
    ∙ sym (linked.leads.links n (omega arith))
    ∙ ap (λ (b : Bool). cond b (bytes_of_state (state_after from (extent_part content state.size n))) (close from (64 * (state.size / page_bytes)) (rest_of content))) no
    ∙ ap (λ (k : ℕ). close from (64 * (k / page_bytes)) (rest_of content)) (sym linked.leads.size)
    ∙ close-Leads from (take full content) (rest_of content) (64 * (size / page_bytes)) count led
    ∙ ap sha256 (take-append-drop full content)

-- A state over whose content each link holds, and that has the content's prefix, tells the content.
pub Tells-LeadsTo : (content : List ℕ) (state : State) → IsState state → state.prefix ≡ prefix_of content → LeadsTo content state → Tells state content
Tells-LeadsTo content state sound prefix leads =
    let linked : Linked content state = record { sound = sound; leads = leads } in
    record {
      size = sym leads.size;
      digest = digest-told content state linked;
      prefix = prefix;
      marks = marks-told content state linked;
    }

-- Over the content that the pages of a state hold each link holds, where it does over the pages.
pub LeadsTo-Verifies : (image : Image) (first : ℕ) (state : State) (content : List ℕ) → Holds image first state content → Verifies image first state
    → LeadsTo content state
LeadsTo-Verifies image first state content held verifies =
    record { size = held.size; links = λ i most. sym (computed-given image first state content i held) ∙ verifies i most }
