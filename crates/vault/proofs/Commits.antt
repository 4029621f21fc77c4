-- What a disk reads as behind both windows of a commit.
use Rattle.std.proofs.Common.{◌≡◌, ℕ, ◌+◌, ◌-◌, ◌≤◌, false, IsTrue, List, [], ◌∷◌, ◌++◌, length, length-append, take, codes, append_assoc, inl, inr, refl, sym, ◌∙◌, ap, subst, arith}
use Rattle.std.specs.Int.{w32, to_be_bytes}
use Rattle.std.specs.List.{All}
use Rattle.store_model.specs.Disk.{HasPages, Image, SameOff, zero_page}
use Rattle.store_model.specs.Frame.{Entry, Spells, body_bytes, body_spelling, entries_spelling}
use Rattle.store_model.specs.Half.{picked}
use Rattle.store_model.specs.Layout.{Layout, data_pages}
use Rattle.store_model.specs.Log.{at_log, body_pages, is_open, log_pages, open_page}
use Rattle.store_model.specs.LogReading.{IsBodyAt, gate_is_open, next_gate}
use Rattle.store_model.specs.Reading.{DoesVerify, Found, Gives, GoesOn, with_frame}
use Rattle.store_model.specs.Windows.{HasPlaces, HasRoomFor, InSecondWindow, IsBodyPage, IsPouredPage}
use Rattle.store_model.proofs.WindowLaws.{AreKept-all, Reads-all, opened-found_by, opened-lossless}
use Rattle.check_point.proofs.Areas.{area-begins}
use Rattle.store_model.proofs.OffLaws.{poured-data}
use Rattle.vault.specs.Vaults.{IsAtGate, StandsBehind}

-- A gate that reads as it is written when it is opened, is open; and one of zeros isn't.
pub open-opened : (image : Image) (half gate : ℕ) → image (at_log half gate) ≡ open_page → IsTrue (gate_is_open image half gate)
open-opened image half gate is = ap is_open is ∙ refl

pub zero-closed : (image : Image) (half gate : ℕ) → image (at_log half gate) ≡ zero_page → gate_is_open image half gate ≡ false
zero-closed image half gate is = ap is_open is ∙ refl

-- Behind both windows, where all the states verify that the entries set, the disk reads as the store behind all the entries, and
-- the next frame goes behind the next gate.
module _ (pages : ℕ) (base image : Image) (found : Found) (bytes : List ℕ) (entries : List Entry) (gives : Gives pages base found) (window : InSecondWindow pages base image found gives bytes entries) where
  pub IsAtGate-behind : IsTrue (gate_is_open image (picked (base 0)) gives.gate) → All (DoesVerify image found.layout) entries → (half gate : ℕ) → picked (base 0) ≡ half
      → gives.gate ≡ gate → picked (image 0) ≡ half → IsAtGate pages image (with_frame found entries entries) half (next_gate gate (length bytes))
  IsAtGate-behind opened verify half gate half_is gate_is picks =
      let read = Reads-all pages base image found gives bytes entries window opened verify in
      let by = opened-found_by pages base image found gives bytes entries entries window opened (AreKept-all image found.layout entries verify) read.0 in
      record {
        gives = read.0;
        gate_is = by.gate_is ∙ ap (λ (n : ℕ). next_gate n (length bytes)) gate_is;
        half_is = picks;
        lossless = opened-lossless pages base image found gives bytes entries window opened verify read.0;
        apart = read.1;
      }

-- the first of two lists, where they are one behind the other
take-front : {X : Type 0} (xs ys : List X) → take (length xs) (xs ++ ys) ≡ xs
take-front [] ys = refl
take-front (x ∷ xs) ys = ap (λ zs. x ∷ zs) (take-front xs ys)

-- a body begins with the text and its length
body-front : (entries : List Entry) (bytes : List ℕ) → bytes ≡ body_spelling entries → take 12 bytes ≡ codes "BLOBFRM1" ++ to_be_bytes w32 (length bytes)
body-front entries bytes is =
    let count : List ℕ = to_be_bytes w32 (body_bytes entries) in
    let rest : List ℕ = length entries ∷ entries_spelling entries in
    let front : List ℕ = codes "BLOBFRM1" ++ count in
    let long : length bytes ≡ body_bytes entries = omega (arith, ap length is, length-append (codes "BLOBFRM1") (count ++ rest), length-append count rest) in
    let twelve : length front ≡ 12 = omega (arith, length-append (codes "BLOBFRM1") count) in
    ap (λ (xs : List ℕ). take 12 xs) (is ∙ sym (append_assoc (codes "BLOBFRM1") count rest))
    ∙ ap (λ (n : ℕ). take n (front ++ rest)) (sym twelve)
    ∙ take-front front rest
    ∙ ap (λ (n : ℕ). codes "BLOBFRM1" ++ to_be_bytes w32 n) (sym long)

-- A body stands behind a gate where its pages do.
pub IsBodyAt-standing : (image : Image) (half gate : ℕ) (entries : List Entry) (bytes : List ℕ) → bytes ≡ body_spelling entries
    → next_gate gate (length bytes) ≤ log_pages - 1 → StandsBehind image half gate bytes → IsBodyAt image half gate bytes
IsBodyAt-standing image half gate entries bytes is fits stands =
    let first : ℕ = at_log half (gate + 1) in
    let here = area-begins (log_pages - 1 - gate) image first bytes (omega (arith, fits))
    (λ i below. ap image (let e : first + i ≡ at_log half (gate + 1 + i) = omega arith in e) ∙ stands.pages i below) in
    record {
      front = body-front entries bytes is;
      least = omega (
        arith,
        ap length is,
        length-append (codes "BLOBFRM1") (to_be_bytes w32 (body_bytes entries) ++ length entries ∷ entries_spelling entries),
        length-append (to_be_bytes w32 (body_bytes entries)) (length entries ∷ entries_spelling entries),
      );
      room = fits;
      stand = ap (λ (xs : List ℕ). take (length bytes) xs) here.1 ∙ take-front bytes here.0;
    }

-- The next gate is closed where its page is one of zeros.
pub closed-standing : (image : Image) (half gate : ℕ) (bytes : List ℕ) → StandsBehind image half gate bytes → gate_is_open image half (next_gate gate (length bytes)) ≡ false
closed-standing image half gate bytes stands =
    zero-closed image half (next_gate gate (length bytes))
    (ap image (let e : at_log half (next_gate gate (length bytes)) ≡ at_log half (gate + 1 + body_pages (length bytes)) = omega arith in e) ∙ stands.closed)

-- The selector is none of the pages that are written in the windows.
picked-behind : (layout : Layout) (half gate : ℕ) (bytes : List ℕ) (entries : List Entry) (base laid image : Image) → SameOff (IsBodyPage half gate bytes) base laid
    → SameOff (IsPouredPage layout half gate entries) laid image → picked (image 0) ≡ picked (base 0)
picked-behind layout half gate bytes entries base laid image first second =
    ap picked (second 0 poured ∙ first 0 (λ page. omega (arith, page.is))) where
      poured : IsPouredPage layout half gate entries 0 → ⊥
      poured (inl content) = omega (arith, poured-data layout content.state 0 0 content.poured)
      poured (inr gate) = omega (arith, gate)

-- A disk was at rest at a gate, a body was laid behind it and these are settled, and then any bytes came on the contents' pages and on
-- that gate: this is what the second window may leave.
pub InSecondWindow-laid : (pages : ℕ) (base laid image : Image) (found : Found) (half gate : ℕ) (bytes : List ℕ) (entries : List Entry) → HasPages base
    → (at : IsAtGate pages base found half gate) → Spells (data_pages found.layout) bytes entries → GoesOn found.last entries → next_gate gate (length bytes) ≤ log_pages - 1
    → HasPlaces found.layout found.states entries → HasRoomFor found.layout found.states entries
    → SameOff (IsBodyPage half gate bytes) base laid → StandsBehind laid half gate bytes → SameOff (IsPouredPage found.layout half gate entries) laid image
    → InSecondWindow pages base image found at.gives bytes entries
InSecondWindow-laid pages base laid image found half gate bytes entries whole at spells goes_on fits places room first stands second =
    let gives : Gives pages base found = at.gives in
    let h : picked (base 0) ≡ half = at.half_is in
    let n : gives.gate ≡ gate = at.gate_is in
    let fits_here : next_gate gives.gate (length bytes) ≤ log_pages - 1 = omega (arith, n, fits) in
    let stands_here : StandsBehind laid (picked (base 0)) gives.gate bytes =
    subst (λ (k : ℕ). StandsBehind laid k gives.gate bytes) (sym h) (subst (λ (k : ℕ). StandsBehind laid half k bytes) (sym n) stands) in
    record {
      whole = whole;
      lossless = at.lossless;
      follows = record { spells = spells; goes_on = goes_on; fits = fits_here; places = places; room = room };
      laid = laid;
      stands = record {
        same = subst (λ (k : ℕ). SameOff (IsBodyPage k gives.gate bytes) base laid) (sym h) (subst (λ (k : ℕ). SameOff (IsBodyPage half k bytes) base laid) (sym n) first);
        body = IsBodyAt-standing laid (picked (base 0)) gives.gate entries bytes spells.bytes_are fits_here stands_here;
        closed = closed-standing laid (picked (base 0)) gives.gate bytes stands_here;
      };
      same =
          subst (λ (k : ℕ). SameOff (IsPouredPage found.layout k gives.gate entries) laid image) (sym h)
          (subst (λ (k : ℕ). SameOff (IsPouredPage found.layout half k entries) laid image) (sym n) second);
    }

-- What a commit leaves that wrote a body and the next gate behind the gate where the disk was at rest, and then the contents and that
-- gate, open: the disk stands at the next gate, with the store behind all the entries.
pub IsAtGate-committed : (pages : ℕ) (base laid image : Image) (found : Found) (half gate : ℕ) (bytes : List ℕ) (entries : List Entry) → HasPages base
    → IsAtGate pages base found half gate → Spells (data_pages found.layout) bytes entries → GoesOn found.last entries → next_gate gate (length bytes) ≤ log_pages - 1
    → HasPlaces found.layout found.states entries → HasRoomFor found.layout found.states entries
    → SameOff (IsBodyPage half gate bytes) base laid → StandsBehind laid half gate bytes → SameOff (IsPouredPage found.layout half gate entries) laid image
    → image (at_log half gate) ≡ open_page → All (DoesVerify image found.layout) entries
    → IsAtGate pages image (with_frame found entries entries) half (next_gate gate (length bytes))
IsAtGate-committed pages base laid image found half gate bytes entries whole at spells goes_on fits places room first stands second opened verify =
    let gives : Gives pages base found = at.gives in
    let h : picked (base 0) ≡ half = at.half_is in
    let n : gives.gate ≡ gate = at.gate_is in
    let opened_here : image (at_log (picked (base 0)) gives.gate) ≡ open_page =
    subst (λ (k : ℕ). image (at_log k gives.gate) ≡ open_page) (sym h) (subst (λ (k : ℕ). image (at_log half k) ≡ open_page) (sym n) opened) in
    let window : InSecondWindow pages base image found gives bytes entries =
    InSecondWindow-laid pages base laid image found half gate bytes entries whole at spells goes_on fits places room first stands second in
    IsAtGate-behind pages base image found bytes entries gives window (open-opened image (picked (base 0)) gives.gate opened_here) verify half gate h n
    (picked-behind found.layout half gate bytes entries base laid image first second ∙ h)
