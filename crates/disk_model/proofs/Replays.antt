-- What one more call makes of a replay, and of what a crash may leave.
use Rattle.std.proofs.Common.{◌≡◌, ℕ, ◌+◌, ◌<◌, ◌≤◌, ◌⊎◌, inl, inr, true, false, IsTrue, Result, Ok, Err, List, [], ◌∷◌, ◌++◌, length, take, get_or, refl, sym, ap, ◌∙◌, subst, arith, Bool, add-one, add-zero, length-append}
use Rattle.std.specs.Prelude.{fold}
use Rattle.std.proofs.Math.Nat.{le_refl}
use Rattle.std.proofs.Math.Path.{fun_ext}
use Rattle.std.proofs.Math.Seq.{take-suc, take-length}
use Rattle.std.proofs.lemmas.Bool.{cases_lt}
use Rattle.std.proofs.lemmas.Bool.Decides.{eqb_tells, nat_tests}
use Rattle.std.proofs.lemmas.List.{take-append-le}
use Rattle.std.proofs.lemmas.List.Sums.{fold-append, sum_by-append, sum_by-cons}
use Rattle.disk_model.specs.declared.call.Call.{Call}
use Rattle.disk_model.specs.declared.call.Call.TheVariants.{Read, Write, Sync}
use Rattle.disk_model.specs.declared.call.Pick.{Pick}
use Rattle.disk_model.specs.declared.call.Written.{Written}
use Rattle.disk_model.specs.Calls.{Replay, with_written, image_of, image_after, is_write, with_pick, with_picks, settled, replay_call, replay_calls, are_pending, calls_of, crashed}
use Rattle.disk_model.specs.Stories.{IsImage, LeftSince, story_of}
use Rattle.store_model.specs.Disk.{Calls, HasPages, Image, IsPage, SameOff, with_page, with_read, with_sync, with_write}
use Rattle.store_model.specs.Images.{Settled, MayTear, MayStill, Stayed, Unchanged, Wrote, time_of}
use Rattle.store_model.proofs.PageLaws.{HasPages-with_page, IsPage-zero_page, fold-keeps}
use Rattle.store_model.proofs.ImageLaws.{with_page_at, with_page_off, stayed_none, wrote_none}
use Rattle.blob_base.specs.Faults.{OnMade, OnNoMemory}
use Rattle.blob_base.specs.declared.faults.IoFault.{IoFault}
use Rattle.blob_base.specs.declared.faults.IoFault.TheVariants.{Failed, OutOfMemory}

-- each call keeps pages whole
HasPages-replay_call : (replay : Replay) (call : Call) → HasPages replay.reads → HasPages (replay_call replay call).reads
HasPages-replay_call replay Read pages = pages
HasPages-replay_call replay (Write written) pages = HasPages-with_page replay.reads written.page written.bytes.value written.whole pages
HasPages-replay_call replay (Sync true) pages = pages
HasPages-replay_call replay (Sync false) pages = pages

pub HasPages-replay_calls : (replay : Replay) (calls : List Call) → HasPages replay.reads → HasPages (replay_calls replay calls).reads
HasPages-replay_calls = fold-keeps (λ (replay : Replay). HasPages replay.reads) replay_call HasPages-replay_call

pub HasPages-image_of : (writes : List Written) → HasPages (image_of writes)
HasPages-image_of writes =
    fold-keeps HasPages with_written (λ image written. HasPages-with_page image written.page written.bytes.value written.whole) _ writes (λ _. IsPage-zero_page)

-- one more step
pub fold_more : {A B : Type 0} (f : B → A → B) (start : B) (xs : List A) (i : ℕ) (default : A) → i < length xs
    → fold f start (take (i + 1) xs) ≡ f (fold f start (take i xs)) (get_or xs i default)
fold_more f start xs i default below =
    rw (add-one, take-suc xs i default below, fold-append f start (take i xs) (get_or xs i default ∷ [])) refl

-- the pages of a replay are those of the writes alone
pub reads-call : (replay : Replay) (call : Call) → (replay_call replay call).reads ≡ image_after replay.reads call
reads-call replay Read = refl
reads-call replay (Write written) = refl
reads-call replay (Sync true) = refl
reads-call replay (Sync false) = refl

pub reads-calls : (replay : Replay) (calls : List Call) → (replay_calls replay calls).reads ≡ fold image_after replay.reads calls
reads-calls replay [] = refl
reads-calls replay (call ∷ calls) = reads-calls (replay_call replay call) calls ∙ ap (λ (image : Image). fold image_after image calls) (reads-call replay call)

-- one more call
pub replay-push : (replay : Replay) (calls : List Call) (call : Call) → replay_calls replay (calls ++ call ∷ []) ≡ replay_call (replay_calls replay calls) call
replay-push replay calls call = fold-append replay_call replay calls (call ∷ [])

-- the first calls are the same
take-push : (calls : List Call) (call : Call) (k : ℕ) → k ≤ length calls → take k (calls ++ call ∷ []) ≡ take k calls
take-push calls call k most = take-append-le k calls (call ∷ []) most

length-push : (calls : List Call) (call : Call) → length (calls ++ call ∷ []) ≡ length calls + 1
length-push calls call = length-append calls (call ∷ [])

module _ (replay : Replay) (calls : List Call) (call : Call) where
  -- what a crash might have left is still what it might have
  keeps-push : (t : ℕ) (image : Image) → LeftSince replay calls t image → LeftSince replay (calls ++ call ∷ []) t image
  keeps-push t image left = (
    left.0,
    left.1,
    (let most : left.0 ≤ length (calls ++ call ∷ []) = omega (arith, left.2, length-push calls call) in most),
    subst (λ (some : List Call). IsImage (replay_calls replay some) image) (sym (take-push calls call left.0 left.2)) left.3,
  )

  -- an image of now is one behind the last call
  left-last : (t : ℕ) (image : Image) → t ≤ length calls → IsImage (replay_calls replay calls) image → LeftSince replay calls t image
  left-last t image most is = (length calls, most, le_refl (length calls), subst (λ (some : List Call). IsImage (replay_calls replay some) image) (sym (take-length calls)) is)

  -- and the other way round
  last-left : (image : Image) → LeftSince replay calls (length calls) image → IsImage (replay_calls replay calls) image
  last-left image left =
      let last : left.0 ≡ length calls = omega (arith, left.1, left.2) in
      subst (λ (some : List Call). IsImage (replay_calls replay some) image) (ap (λ (k : ℕ). take k calls) last ∙ take-length calls) left.3

  -- behind one more call
  left-push : (t : ℕ) (image : Image) → t ≤ length calls + 1 → IsImage (replay_call (replay_calls replay calls) call) image → LeftSince replay (calls ++ call ∷ []) t image
  left-push t image most is =
      let all : length (calls ++ call ∷ []) ≡ length calls + 1 = length-push calls call in (
        length (calls ++ call ∷ []),
        (let le : t ≤ length (calls ++ call ∷ []) = omega arith in le),
        le_refl (length (calls ++ call ∷ [])),
        subst (λ (some : List Call). IsImage (replay_calls replay some) image) (sym (take-length (calls ++ call ∷ [])))
            (subst (λ (some : Replay). IsImage some image) (sym (replay-push replay calls call)) is),
      )

  -- a crash since then leaves an image of before, or one behind the call
  leaves-push : (t : ℕ) (image : Image) → LeftSince replay (calls ++ call ∷ []) t image
      → LeftSince replay calls t image ⊎ IsImage (replay_call (replay_calls replay calls) call) image
  leaves-push t image left =
      let all : length (calls ++ call ∷ []) ≡ length calls + 1 = length-push calls call in
      elim (cases_lt (length calls) left.0) [
        | inl above ↦ (let last : left.0 ≡ length (calls ++ call ∷ []) = omega (arith, left.2) in
            inr (subst (λ (some : Replay). IsImage some image) (replay-push replay calls call)
            (subst (λ (some : List Call). IsImage (replay_calls replay some) image) (ap (λ (k : ℕ). take k (calls ++ call ∷ [])) last ∙ take-length (calls ++ call ∷ [])) left.3)))
        | inr within ↦ inl (left.0, left.1, within, subst (λ (some : List Call). IsImage (replay_calls replay some) image) (take-push calls call left.0 within) left.3)
      ]

-- a sync that was done, behind other calls
pub synced-done : (image : Image) (calls : List Call) (i : ℕ) (default : Call) → i < length calls → get_or calls i default ≡ Sync true
    → (replay_calls (settled image) (take (i + 1) calls)).synced ≡ fold image_after image (take (i + 1) calls)
synced-done image calls i default below done =
    let before : Replay = replay_calls (settled image) (take i calls) in
    let last : replay_calls (settled image) (take (i + 1) calls) ≡ settled before.reads =
    fold_more replay_call (settled image) calls i default below ∙ ap (λ (call : Call). replay_call before call) done in
    ap (λ (replay : Replay). replay.synced) last ∙ ap (λ (replay : Replay). replay.reads) (sym last) ∙ reads-calls (settled image) (take (i + 1) calls)

-- The time is the sum of the counts.
pub time-calls : (calls : List Call) → length calls ≡ time_of (calls_of calls)
time-calls [] = refl
time-calls (Read ∷ calls) = let rest = time-calls calls in simp (sum_by-cons) (omega arith)
time-calls (Write written ∷ calls) = let rest = time-calls calls in simp (sum_by-cons) (omega arith)
time-calls (Sync done ∷ calls) = let rest = time-calls calls in simp (sum_by-cons) (omega arith)

-- a call that writes no page leaves nothing else
quiet-image : (replay : Replay) (call : Call) (image : Image) → is_write call ≡ false → IsImage (replay_call replay call) image → IsImage replay image
quiet-image replay Read image quiet is = is
quiet-image replay (Write written) image quiet is = absurd (cc)
quiet-image replay (Sync true) image quiet is = record { pages = is.pages; rest = λ page old. is.rest page refl }
quiet-image replay (Sync false) image quiet is = is

quiet-reads : (image : Image) (call : Call) → is_write call ≡ false → image_after image call ≡ image
quiet-reads image Read quiet = refl
quiet-reads image (Write written) quiet = absurd (cc)
quiet-reads image (Sync done) quiet = refl

-- what these calls make of what a disk began with
abbrev replay_of : List Written → List Call → Replay
replay_of start calls = replay_calls (settled (image_of start)) calls

-- a call that writes no page
pub stayed-call : (start : List Written) (calls : List Call) (call : Call) → is_write call ≡ false
    → Stayed (story_of start calls) (story_of start (calls ++ call ∷ []))
stayed-call start calls call quiet =
    let before : Replay = settled (image_of start) in
    record {
      later = omega (arith, length-push calls call);
      reads = ap (λ (replay : Replay). replay.reads) (replay-push before calls call)
          ∙ reads-call (replay_of start calls) call ∙ quiet-reads (replay_of start calls).reads call quiet;
      leaves = λ t image most left. elim (leaves-push before calls call t image left) [
        | inl past ↦ past
        | inr is ↦ left-last before calls call t image most (quiet-image (replay_of start calls) call image quiet is)
      ];
      keeps = λ t image most left. keeps-push before calls call t image left;
    }

-- a call that leaves the replay as it was
pub still-call : (start : List Written) (calls : List Call) (call : Call) → replay_call (replay_of start calls) call ≡ replay_of start calls
    → MayStill (story_of start calls) (story_of start (calls ++ call ∷ []))
still-call start calls call same image left =
    let before : Replay = settled (image_of start) in
    let time : length (calls ++ call ∷ []) ≤ length calls + 1 = omega (arith, length-push calls call) in
    left-push before calls call (length (calls ++ call ∷ [])) image time
    (subst (λ (replay : Replay). IsImage replay image) (sym same) (last-left before calls call image left))

-- a read
pub still-read : (start : List Written) (calls : List Call) → MayStill (story_of start calls) (story_of start (calls ++ Read ∷ []))
still-read start calls = still-call start calls Read refl

-- a sync that failed
pub still-sync : (start : List Written) (calls : List Call) → MayStill (story_of start calls) (story_of start (calls ++ Sync false ∷ []))
still-sync start calls = still-call start calls (Sync false) refl

-- a sync that was done
pub settled-sync : (start : List Written) (calls : List Call) → Settled (story_of start (calls ++ Sync true ∷ []))
settled-sync start calls image left =
    let before : Replay = settled (image_of start) in
    let push : replay_calls before (calls ++ Sync true ∷ []) ≡ settled (replay_of start calls).reads = replay-push before calls (Sync true) in
    let is : IsImage (settled (replay_of start calls).reads) image =
    subst (λ (replay : Replay). IsImage replay image) push (last-left before (calls ++ Sync true ∷ []) Read image left) in
    fun_ext (λ page. is.rest page refl) ∙ ap (λ (replay : Replay). replay.reads) (sym push)

-- an image behind a write is one of before with other bytes on its page
altered-write : (replay : Replay) (written : Written) (image : Image) → HasPages replay.reads → IsImage (replay_call replay (Write written)) image
    → (from : Image) × IsImage replay from × SameOff (λ p. p ≡ written.page) from image
altered-write replay written image pages is = (
  with_page image written.page (replay.reads written.page),
  record {
    pages = λ p. elim (eqb_tells p written.page) [
      | inl same ↦ rw (same.0) (pages written.page)
      | inr other ↦ rw (other.0) (is.pages p)
    ];
    rest = λ p old. elim (eqb_tells p written.page) [
      | inl same ↦ rw (same.1, with_page_at image written.page (replay.reads written.page)) refl
      | inr other ↦ with_page_off image written.page (replay.reads written.page) p other.1
          ∙ is.rest p (rw (other.0) old) ∙ with_page_off replay.reads written.page written.bytes.value p other.1
    ];
  },
  λ p off. sym (with_page_off image written.page (replay.reads written.page) p off),
)

-- and each such image is one behind it
torn-write : (replay : Replay) (written : Written) (from image : Image) → IsImage replay from → SameOff (λ p. p ≡ written.page) from image
    → IsPage (image written.page) → IsImage (replay_call replay (Write written)) image
torn-write replay written from image is same page = record {
  pages = λ p. elim (eqb_tells p written.page) [
    | inl here ↦ subst (λ (q : ℕ). IsPage (image q)) (sym here.1) page
    | inr other ↦ subst IsPage (sym (same p other.1)) (is.pages p)
  ];
  rest = λ p old. elim (eqb_tells p written.page) [
    | inl here ↦ (let pending : true ≡ false = rw (here.0) at old in absurd (cc))
    | inr other ↦ same p other.1 ∙ is.rest p (rw (other.0) at old) ∙ sym (with_page_off replay.reads written.page written.bytes.value p other.1)
  ];
}

-- a write
pub wrote-write : (start : List Written) (calls : List Call) (written : Written)
    → Wrote (λ p. p ≡ written.page) (story_of start calls) (story_of start (calls ++ Write written ∷ []))
wrote-write start calls written =
    let before : Replay = settled (image_of start) in
    let push : replay_calls before (calls ++ Write written ∷ []) ≡ replay_call (replay_of start calls) (Write written) = replay-push before calls (Write written) in
    record {
      later = omega (arith, length-push calls (Write written));
      reads = λ p off. ap (λ (replay : Replay). replay.reads p) push ∙ with_page_off (replay_of start calls).reads written.page written.bytes.value p off;
      leaves = λ t image most left. elim (leaves-push before calls (Write written) t image left) [
        | inl past ↦ inl past
        | inr is ↦ (let whole : HasPages (replay_of start calls).reads = HasPages-replay_calls before calls (HasPages-image_of start) in
            let old = altered-write (replay_of start calls) written image whole is in
            inr (old.0, left-last before calls (Write written) (length calls) old.0 (le_refl (length calls)) old.1, old.2))
      ];
      keeps = λ t image most left. keeps-push before calls (Write written) t image left;
    }

-- each image of before with other bytes on that page is left
pub torn-call : (start : List Written) (calls : List Call) (written : Written)
    → MayTear written.page (story_of start calls) (story_of start (calls ++ Write written ∷ []))
torn-call start calls written from image left same page =
    let before : Replay = settled (image_of start) in
    let time : length (calls ++ Write written ∷ []) ≤ length calls + 1 = omega (arith, length-push calls (Write written)) in
    left-push before calls (Write written) (length (calls ++ Write written ∷ [])) image time
    (torn-write (replay_of start calls) written from image (last-left before calls (Write written) from left) same page)

-- what the pages read as behind a write
pub reads-write : (start : List Written) (calls : List Call) (written : Written)
    → (story_of start (calls ++ Write written ∷ [])).reads ≡ with_page (story_of start calls).reads written.page written.bytes.value
reads-write start calls written = ap (λ (replay : Replay). replay.reads) (replay-push (settled (image_of start)) calls (Write written))

-- pages that aren't pending read as at the last sync that was done
synced-call : (replay : Replay) (call : Call) → ((p : ℕ) → replay.pending p ≡ false → replay.reads p ≡ replay.synced p)
    → (p : ℕ) → (replay_call replay call).pending p ≡ false → (replay_call replay call).reads p ≡ (replay_call replay call).synced p
synced-call replay Read same p old = same p old
synced-call replay (Write written) same p old = elim (eqb_tells p written.page) [
  | inl here ↦ (let pending : true ≡ false = rw (here.0) at old in absurd (cc))
  | inr other ↦ with_page_off replay.reads written.page written.bytes.value p other.1 ∙ same p (rw (other.0) at old)
]
synced-call replay (Sync true) same p old = refl
synced-call replay (Sync false) same p old = same p old

synced-calls : (replay : Replay) (calls : List Call) → ((p : ℕ) → replay.pending p ≡ false → replay.reads p ≡ replay.synced p)
    → (p : ℕ) → (replay_calls replay calls).pending p ≡ false → (replay_calls replay calls).reads p ≡ (replay_calls replay calls).synced p
synced-calls replay [] same = same
synced-calls replay (call ∷ calls) same = synced-calls (replay_call replay call) calls (synced-call replay call same)

-- picks on pages that are pending leave the others
picks-off : (replay : Replay) (image : Image) (picks : List Pick) → IsTrue (are_pending replay picks) → (p : ℕ) → replay.pending p ≡ false
    → with_picks image picks p ≡ image p
picks-off replay image [] pending p old = refl
picks-off replay image (pick ∷ picks) pending p old =
    let both : IsTrue (replay.pending pick.page) × IsTrue (are_pending replay picks) = grind (arith, nat_tests) in
    picks-off replay (with_pick image pick) picks both.1 p old
    ∙ with_page_off image pick.page pick.bytes p (λ same. (let here : replay.pending p ≡ true = rw same both.0 in absurd (cc)))

-- what a crash leaves behind the first calls
pub left-crash : (start : List Written) (calls : List Call) (moment : ℕ) (picks : List Pick) (image : Image) → moment ≤ length calls
    → IsTrue (are_pending (replay_calls (settled (image_of start)) (take moment calls)) picks) → HasPages image
    → image ≡ crashed (replay_calls (settled (image_of start)) (take moment calls)) picks → LeftSince (settled (image_of start)) calls moment image
left-crash start calls moment picks image most pending pages is =
    let before : Replay = settled (image_of start) in
    let replay : Replay = replay_calls before (take moment calls) in (
      moment,
      le_refl moment,
      most,
      record {
        pages = pages;
        rest = λ p old. ap (λ (image : Image). image p) is ∙ picks-off replay replay.synced picks pending p old
            ∙ sym (synced-calls before (take moment calls) (λ q none. refl) p old);
      },
    )

-- what holds of equal starts and calls
along : (P : List Written → List Call → Type 0) (start begin : List Written) (calls after : List Call) → begin ≡ start → after ≡ calls
    → P start calls → P begin after
along P start begin calls after same made holds =
    subst (λ (some : List Written). P some after) (sym same) (subst (λ (some : List Call). P start some) (sym made) holds)

-- what a disk records of a call that it may not have made
pub stayed-take : (result : Result (Unit {0}) IoFault) (start begin : List Written) (calls after : List Call) (call : Call) → begin ≡ start
    → OnMade result (after ≡ calls ++ call ∷ []) → OnNoMemory result (after ≡ calls) → is_write call ≡ false
    → Stayed (story_of start calls) (story_of begin after)
stayed-take (Ok done) start begin calls after call same made unmade quiet =
    along (λ b a. Stayed (story_of start calls) (story_of b a)) start begin (calls ++ call ∷ []) after same made (stayed-call start calls call quiet)
stayed-take (Err Failed) start begin calls after call same made unmade quiet =
    along (λ b a. Stayed (story_of start calls) (story_of b a)) start begin (calls ++ call ∷ []) after same made (stayed-call start calls call quiet)
stayed-take (Err OutOfMemory) start begin calls after call same made unmade quiet =
    along (λ b a. Stayed (story_of start calls) (story_of b a)) start begin calls after same unmade (stayed_none (story_of start calls))

pub wrote-take : (result : Result (Unit {0}) IoFault) (start begin : List Written) (calls after : List Call) (written : Written) → begin ≡ start
    → OnMade result (after ≡ calls ++ Write written ∷ []) → OnNoMemory result (after ≡ calls)
    → Wrote (λ p. p ≡ written.page) (story_of start calls) (story_of begin after)
wrote-take (Ok done) start begin calls after written same made unmade =
    along (λ b a. Wrote (λ p. p ≡ written.page) (story_of start calls) (story_of b a)) start begin (calls ++ Write written ∷ []) after same made (wrote-write start calls written)
wrote-take (Err Failed) start begin calls after written same made unmade =
    along (λ b a. Wrote (λ p. p ≡ written.page) (story_of start calls) (story_of b a)) start begin (calls ++ Write written ∷ []) after same made (wrote-write start calls written)
wrote-take (Err OutOfMemory) start begin calls after written same made unmade =
    along (λ b a. Wrote (λ p. p ≡ written.page) (story_of start calls) (story_of b a)) start begin calls after same unmade (wrote_none (λ p. p ≡ written.page) (story_of start calls))

-- a read that was made
pub still-take : (result : Result (Unit {0}) IoFault) (start begin : List Written) (calls after : List Call) → begin ≡ start
    → OnMade result (after ≡ calls ++ Read ∷ []) → OnMade result (MayStill (story_of start calls) (story_of begin after))
still-take (Ok done) start begin calls after same made =
    along (λ b a. MayStill (story_of start calls) (story_of b a)) start begin (calls ++ Read ∷ []) after same made (still-read start calls)
still-take (Err Failed) start begin calls after same made =
    along (λ b a. MayStill (story_of start calls) (story_of b a)) start begin (calls ++ Read ∷ []) after same made (still-read start calls)
still-take (Err OutOfMemory) start begin calls after same made = tt

-- a write that was made may tear its page
pub torn-take : (result : Result (Unit {0}) IoFault) (start begin : List Written) (calls after : List Call) (written : Written) → begin ≡ start
    → OnMade result (after ≡ calls ++ Write written ∷ []) → OnMade result (MayTear written.page (story_of start calls) (story_of begin after))
torn-take (Ok done) start begin calls after written same made =
    along (λ b a. MayTear written.page (story_of start calls) (story_of b a)) start begin (calls ++ Write written ∷ []) after same made (torn-call start calls written)
torn-take (Err Failed) start begin calls after written same made =
    along (λ b a. MayTear written.page (story_of start calls) (story_of b a)) start begin (calls ++ Write written ∷ []) after same made (torn-call start calls written)
torn-take (Err OutOfMemory) start begin calls after written same made = tt

-- one more call is counted
pub calls-read : (calls : List Call) → calls_of (calls ++ Read ∷ []) ≡ with_read (calls_of calls)
calls-read calls = simp (sum_by-append, sum_by-cons, add-zero) refl

pub calls-write : (calls : List Call) (written : Written) → calls_of (calls ++ Write written ∷ []) ≡ with_write (calls_of calls)
calls-write calls written = simp (sum_by-append, sum_by-cons, add-zero) refl

pub calls-sync : (calls : List Call) (done : Bool) → calls_of (calls ++ Sync done ∷ []) ≡ with_sync (calls_of calls)
calls-sync calls done = simp (sum_by-append, sum_by-cons, add-zero) refl

pub made-take : (result : Result (Unit {0}) IoFault) (calls after : List Call) (call : Call) (more : Calls → Calls) → calls_of (calls ++ call ∷ []) ≡ more (calls_of calls)
    → OnMade result (after ≡ calls ++ call ∷ []) → OnMade result (calls_of after ≡ more (calls_of calls))
made-take (Ok done) calls after call more counted made = ap calls_of made ∙ counted
made-take (Err Failed) calls after call more counted made = ap calls_of made ∙ counted
made-take (Err OutOfMemory) calls after call more counted made = tt

-- a call that wasn't made changes nothing
pub unmade-take : (result : Result (Unit {0}) IoFault) (start begin : List Written) (calls after : List Call) → begin ≡ start → OnNoMemory result (after ≡ calls)
    → OnNoMemory result ((calls_of after ≡ calls_of calls) × Unchanged (story_of start calls) (story_of begin after))
unmade-take (Ok done) start begin calls after same unmade = tt
unmade-take (Err Failed) start begin calls after same unmade = tt
unmade-take (Err OutOfMemory) start begin calls after same unmade = (
  ap calls_of unmade,
  along (λ b a. Unchanged (story_of start calls) (story_of b a)) start begin calls after same unmade
      (record { time = refl; reads = refl; leaves = λ t image left. left; keeps = λ t image left. left }),
)
