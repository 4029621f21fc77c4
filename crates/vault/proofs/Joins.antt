-- The two windows of a commit, joined.
use Rattle.std.proofs.Common.{◌≡◌, ℕ, zero, suc, ◌+◌, ◌<◌, ◌≤◌, IsTrue, List, [], ◌∷◌, length, zip, Option, Some, None, inr, refl, sym, ◌∙◌, subst, arith}
use Rattle.std.specs.Prelude.{slice_get}
use Rattle.std.specs.List.{All, AllZip, cons_option}
use Rattle.std.proofs.lemmas.List.Elements.{All-cons, All-head, All-nil, All-tail}
use Rattle.disk_model.specs.Disks.{OnlyWrites}
use Rattle.disk_model.specs.declared.disk.Disk.{Ghosts}
use Rattle.frame_codec.specs.Values.{model_entries}
use Rattle.frame_codec.specs.declared.entry.Entry.{Entry}
use Rattle.store_model.specs.Disk.{Image, SameOff}
use Rattle.store_model.specs.Frame as model
use Rattle.store_model.specs.Images.{Settled}
use Rattle.store_model.specs.Layout.{Layout}
use Rattle.store_model.specs.Log.{at_log, body_pages, open_page}
use Rattle.store_model.specs.LogReading.{next_gate}
use Rattle.store_model.specs.Reading.{Found, with_frame}
use Rattle.store_model.specs.Windows.{IsPouredPage}
use Rattle.txn.specs.Txns.{NoAppends}
use Rattle.txn.specs.declared.request.Request.{Request}
use Rattle.vault.specs.Pours.{AreWhole, AreWrittenBy, IsSecondPage, Pour, Poured, pours_of_all, requests_at}
use Rattle.vault.specs.Vaults.{HasLaid, InWindows, IsAtGate, IsAtRest, IsCommitted, IsNextFrame, SameHeld, found_of}
use Rattle.vault.specs.declared.memory.Memory.{Memory}
use Rattle.vault.proofs.Commits.{IsAtGate-committed}
use Rattle.vault.proofs.Contents.{entries-verify, second-poured_page}
use Rattle.vault.proofs.Gates.{found-same}

-- the requests at places of a queue without appends have none
one-whole : (queue : List Request) (place : ℕ) (request : Request) → AreWhole queue → slice_get queue place ≡ Some request → NoAppends request.writes
one-whole [] place request whole is = absurd (cc is)
one-whole (first ∷ queue) zero request whole is =
    let same : first ≡ request = cc in
    subst (λ (r : Request). NoAppends r.writes) same (All-head (λ (r : Request). NoAppends r.writes) first queue whole)
one-whole (first ∷ queue) (suc place) request whole is = one-whole queue place request (All-tail (λ (r : Request). NoAppends r.writes) first queue whole) is

place-whole : (queue : List Request) (place : ℕ) (found : Option Request) (others : List Request) → AreWhole queue → slice_get queue place ≡ found
    → All (λ request. NoAppends request.writes) others → All (λ request. NoAppends request.writes) (cons_option found others)
place-whole queue place None others whole is rest = rest
place-whole queue place (Some request) others whole is rest =
    All-cons (λ (r : Request). NoAppends r.writes) request others (one-whole queue place request whole is) rest

pub requests-whole : (queue : List Request) (places : List ℕ) → AreWhole queue → All (λ request. NoAppends request.writes) (requests_at queue places)
requests-whole queue [] whole = All-nil (λ (r : Request). NoAppends r.writes)
requests-whole queue (place ∷ places) whole =
    place-whole queue place (slice_get queue place) (requests_at queue places) whole refl (requests-whole queue places whole)

module _ {D : Type 0} (g : Ghosts D) (before mid now : Memory) (bytes : List ℕ) (queue : List Request) (places : List ℕ) (es : List Entry) (old base laid new : D)
    (has : HasLaid g before mid bytes old base laid) where
  -- Behind both windows the disk is where memory is, with the store behind all the entries.
  pub IsCommitted-joined : SameHeld mid now → now.log.half ≡ mid.log.half → now.log.gate ≡ mid.log.next
      → mid.log.next ≡ mid.log.gate + 1 + body_pages (length bytes) → mid.log.next ≤ 511 → IsNextFrame (found_of mid) bytes (model_entries es)
      → AllZip AreWrittenBy (requests_at queue places) es → AreWhole queue
      → OnlyWrites g (IsSecondPage mid.layout (pours_of_all (zip (requests_at queue places) es)) mid.log.half mid.log.gate) laid new
      → IsTrue g.tells → IsAtRest (g.size old) (g.story old) before → (g.story new).reads (at_log mid.log.half mid.log.gate) ≡ open_page
      → All (Poured (g.story new).reads mid.layout) (pours_of_all (zip (requests_at queue places) es)) → Settled (g.story new)
      → IsCommitted (g.size new) (g.story new) now (model_entries es)
  IsCommitted-joined same half gate next most frame written whole wrote tells was opened poured settled =
      let entries : List model.Entry = model_entries es in
      let pours : List Pour = pours_of_all (zip (requests_at queue places) es) in
      let rest = has.rest tells was in
      let start = g.story base in
      let image : Image = (g.story new).reads in
      let second : SameOff (IsPouredPage mid.layout mid.log.half mid.log.gate entries) (g.story laid).reads image =
      λ p other. (wrote.wrote tells).reads p (λ page. other (second-poured_page mid.layout mid.log.half mid.log.gate (requests_at queue places) es p page)) in
      let at : IsAtGate (g.size base) image (with_frame (found_of mid) entries entries) mid.log.half (next_gate mid.log.gate (length bytes)) =
      IsAtGate-committed (g.size base) start.reads (g.story laid).reads image (found_of mid) mid.log.half mid.log.gate bytes entries (start.pages start.time start.reads start.own)
      rest.at frame.spells frame.goes_on (omega (arith, next, most)) frame.places frame.room (has.wrote.wrote tells).reads (has.stands tells) second opened
      (entries-verify image mid.layout (requests_at queue places) es written (requests-whole queue places whole) poured) in
      let size : g.size new ≡ g.size base = wrote.keeps.size ∙ has.wrote.keeps.size in
      let gate_now : now.log.gate ≡ next_gate mid.log.gate (length bytes) = omega (arith, gate, next) in
      record {
        at =
            subst (λ (f : Found). IsAtGate (g.size new) image (with_frame f entries entries) now.log.half now.log.gate) (sym (found-same mid now same))
            (subst (λ (n : ℕ). IsAtGate n image (with_frame (found_of mid) entries entries) now.log.half now.log.gate) (sym size)
            (subst (λ (h : ℕ). IsAtGate (g.size base) image (with_frame (found_of mid) entries entries) h now.log.gate) (sym half)
            (subst (λ (n : ℕ). IsAtGate (g.size base) image (with_frame (found_of mid) entries entries) mid.log.half n) (sym gate_now) at)));
        settled = settled;
      }

  -- And both windows were written, or a part of the second one.
  pub InWindows-joined : (pours : List Pour) → SameHeld before mid → mid.log.half < 2 → mid.log.gate + 1 + body_pages (length bytes) ≤ 511 → OnlyWrites g (IsSecondPage mid.layout pours mid.log.half mid.log.gate) laid new
      → InWindows g before bytes pours old new
  InWindows-joined pours same two fits wrote = record {
    mid = laid;
    first = record {
      half = mid.log.half;
      gate = mid.log.gate;
      two = two;
      fits = fits;
      base = base;
      turned = has.turned;
      start = inr (λ tells was.
          let rest = has.rest tells was in
          (subst (λ (f : Found). IsAtGate (g.size base) (g.story base).reads f mid.log.half mid.log.gate) (found-same before mid same) rest.at, rest.settled));
      wrote = has.wrote;
    };
    second = inr (
      (λ tells. record {
        at = λ was.
            let rest = has.rest tells was in
            (subst (λ (f : Found). IsAtGate (g.size base) (g.story base).reads f mid.log.half mid.log.gate) (found-same before mid same) rest.at, rest.settled);
        settled = has.settled tells;
        stands = has.stands tells;
      }),
      subst (λ (layout : Layout). OnlyWrites g (IsSecondPage layout pours mid.log.half mid.log.gate) laid new) same.layout wrote,
    );
  }
