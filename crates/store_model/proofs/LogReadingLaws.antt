-- Laws of the reading of a log: one body at most stands behind a gate, and a log is read in one way.
use Rattle.std.proofs.Common.{◌≡◌, ℕ, ◌+◌, ◌-◌, ◌^◌, ◌<◌, ◌≤◌, List, [], ◌∷◌, ◌++◌, length, take, Bool, true, false, codes, refl, sym, ap, ◌∙◌, subst, arith}
use Rattle.std.specs.Prelude.{IsTrue}
use Rattle.std.specs.Int.{w32, to_be_bytes}
use Rattle.std.proofs.lemmas.List.{take-take}
use Rattle.store_model.specs.Disk.{HasPages, Image, area_of}
use Rattle.store_model.specs.Log.{at_log, body_pages, log_pages}
use Rattle.store_model.specs.LogReading.{AreBodies, HasBodies, IsBodyAt, LacksBody, StoredBody, behind_gate, gate_is_open, next_gate}
use Rattle.store_model.proofs.AreaLaws.{area-one, take-area}
use Rattle.store_model.proofs.TupleLaws.{four-same, split-same}

-- the first bytes of a body: the text and its length
abbrev pub begin_of : ℕ → List ℕ
begin_of count = codes "BLOBFRM1" ++ to_be_bytes w32 count

-- a body is shorter than its area
pub IsBodyAt-most : (image : Image) (half gate : ℕ) (bytes : List ℕ) → IsBodyAt image half gate bytes → length bytes < 2 ^ 32
IsBodyAt-most image half gate bytes body = omega (arith, body.room)

-- the first bytes behind its gate are its own
pub IsBodyAt-front : (image : Image) (half gate : ℕ) (bytes : List ℕ) → IsBodyAt image half gate bytes
    → take 12 (behind_gate image half gate) ≡ begin_of (length bytes)
IsBodyAt-front image half gate bytes body =
    sym (take-take 12 (length bytes) (behind_gate image half gate) (omega (arith, body.least)))
    ∙ ap (λ (xs : List ℕ). take 12 xs) body.stand
    ∙ body.front

-- they stand on the page behind it
pub IsBodyAt-page : (image : Image) (half gate : ℕ) (bytes : List ℕ) → HasPages image → IsBodyAt image half gate bytes
    → take 12 (image (at_log half (gate + 1))) ≡ begin_of (length bytes)
IsBodyAt-page image half gate bytes pages body =
    sym (
    take-area image (at_log half (gate + 1)) 1 (log_pages - 1 - gate) 12 pages (omega (arith, body.room, body.least)) (omega arith)
    ∙ ap (λ (xs : List ℕ). take 12 xs) (area-one image (at_log half (gate + 1))))
    ∙ IsBodyAt-front image half gate bytes body

-- bodies that begin alike have one length
pub front-same : (a b : ℕ) → a < 2 ^ 32 → b < 2 ^ 32 → begin_of a ≡ begin_of b → a ≡ b
front-same a b low less same =
    four-same a b low less (split-same (codes "BLOBFRM1") (codes "BLOBFRM1") (to_be_bytes w32 a) (to_be_bytes w32 b) refl same).1

-- bytes that are read from the pages behind a gate on, as many as the first of these pages tells
pub IsBodyAt-read : (image : Image) (half gate count : ℕ) (bytes : List ℕ) → HasPages image → take 12 (image (at_log half (gate + 1))) ≡ begin_of count
    → 13 ≤ count → next_gate gate count ≤ log_pages - 1 → length bytes ≡ count
    → bytes ≡ take count (area_of image (at_log half (gate + 1)) (body_pages count)) → IsBodyAt image half gate bytes
IsBodyAt-read image half gate count bytes pages begins least room long is =
    let first : ℕ = at_log half (gate + 1) in
    let area : List ℕ = area_of image first (body_pages count) in
    record {
      front =
          ap (λ (xs : List ℕ). take 12 xs) is
          ∙ take-take 12 count area (omega (arith, least))
          ∙ take-area image first 1 (body_pages count) 12 pages (omega (arith, least)) (omega arith)
          ∙ ap (λ (xs : List ℕ). take 12 xs) (area-one image first)
          ∙ begins
          ∙ ap begin_of (sym long);
      least = omega (arith, least, long);
      room = omega (arith, room, long);
      stand =
          ap (λ (n : ℕ). take n (behind_gate image half gate)) long
          ∙ take-area image first (body_pages count) (log_pages - 1 - gate) count pages (omega (arith, room)) (omega arith)
          ∙ sym is;
    }

-- where that page tells too many, none stands there
pub IsBodyAt-too_long : (image : Image) (half gate count : ℕ) → HasPages image → take 12 (image (at_log half (gate + 1))) ≡ begin_of count
    → count < 2 ^ 32 → log_pages - 1 < next_gate gate count → (bytes : List ℕ) → IsBodyAt image half gate bytes → ⊥
IsBodyAt-too_long image half gate count pages begins low past bytes body =
    let same : length bytes ≡ count = front-same (length bytes) count (IsBodyAt-most image half gate bytes body) low
    (sym (IsBodyAt-page image half gate bytes pages body) ∙ begins) in
    omega (arith, body.room, same, past)

-- nor where it tells no length
pub IsBodyAt-untold : (image : Image) (half gate : ℕ) → HasPages image
    → ((count : ℕ) → 13 ≤ count → count < 2 ^ 32 → take 12 (image (at_log half (gate + 1))) ≡ begin_of count → ⊥)
    → (bytes : List ℕ) → IsBodyAt image half gate bytes → ⊥
IsBodyAt-untold image half gate pages untold bytes body =
    untold (length bytes) body.least (IsBodyAt-most image half gate bytes body) (IsBodyAt-page image half gate bytes pages body)

-- one body at most stands behind a gate
pub IsBodyAt-one : (image : Image) (half gate : ℕ) (bytes other : List ℕ) → IsBodyAt image half gate bytes → IsBodyAt image half gate other → bytes ≡ other
IsBodyAt-one image half gate bytes other mine theirs =
    let long : length bytes ≡ length other =
    front-same (length bytes) (length other) (IsBodyAt-most image half gate bytes mine) (IsBodyAt-most image half gate other theirs)
    (sym (IsBodyAt-front image half gate bytes mine) ∙ IsBodyAt-front image half gate other theirs) in
    sym mine.stand ∙ ap (λ (n : ℕ). take n (behind_gate image half gate)) long ∙ theirs.stand

-- no bodies
pub AreBodies-none : (image : Image) (half from : ℕ) → AreBodies image half from [] from
AreBodies-none image half from = refl

-- one more body behind the others
pub AreBodies-more : (image : Image) (half from mid : ℕ) (bodies : List StoredBody) (body : StoredBody) → AreBodies image half from bodies mid
    → body.page ≡ mid → IsTrue (gate_is_open image half mid) → IsBodyAt image half mid body.bytes
    → AreBodies image half from (bodies ++ body ∷ []) (next_gate mid (length body.bytes))
AreBodies-more image half from mid [] body are page opened stands =
    let moved = λ (at : ℕ). (body.page ≡ at) × IsTrue (gate_is_open image half at) × IsBodyAt image half at body.bytes
    × AreBodies image half (next_gate at (length body.bytes)) [] (next_gate mid (length body.bytes)) in
    subst moved (sym are) (page, opened, stands, refl)
AreBodies-more image half from mid (first ∷ bodies) body are page opened stands = (
  are.0,
  are.1,
  are.2,
  AreBodies-more image half (next_gate from (length first.bytes)) mid bodies body are.3 page opened stands,
)

-- a body, from its parts
abbrev body_of : ℕ → List ℕ → StoredBody
body_of page bytes = record { page = page; bytes = bytes }

-- no gate is both open and closed
not_both : (b : Bool) → IsTrue b → b ≡ false → ⊥
not_both b opened closed = let wrong : true ≡ false = sym opened ∙ closed in absurd (cc wrong)

-- No body stands behind a gate that is open.
abbrev pub IsEnd : Image → ℕ → ℕ → Type 0
IsEnd image half gate = IsTrue (gate_is_open image half gate) → (bytes : List ℕ) → IsBodyAt image half gate bytes → ⊥

-- a closed gate is an end
pub IsEnd-closed : (image : Image) (half gate : ℕ) → gate_is_open image half gate ≡ false → IsEnd image half gate
IsEnd-closed image half gate closed opened = absurd (not_both (gate_is_open image half gate) opened closed)

-- the bodies up to an end are the only ones
pub AreBodies-one : (image : Image) (half from : ℕ) (a b : List StoredBody) (to end : ℕ) → AreBodies image half from a to → AreBodies image half from b end
    → IsEnd image half to → IsEnd image half end → (a ≡ b) × (to ≡ end)
AreBodies-one image half from [] [] to end one other last final = (refl, sym one ∙ other)
AreBodies-one image half from [] (body ∷ b) to end one other last final =
    absurd (subst (IsEnd image half) (sym one) last other.1 body.bytes other.2)
AreBodies-one image half from (body ∷ a) [] to end one other last final =
    absurd (subst (IsEnd image half) (sym other) final one.1 body.bytes one.2)
AreBodies-one image half from (v ∷ a) (w ∷ b) to end one other last final =
    let bytes : v.bytes ≡ w.bytes = IsBodyAt-one image half from v.bytes w.bytes one.2 other.2 in
    let rest = AreBodies-one image half (next_gate from (length v.bytes)) a b to end one.3
    (subst (λ (xs : List ℕ). AreBodies image half (next_gate from (length xs)) b end) (sym bytes) other.3) last final in
    let same : v ≡ w =
    ap (λ (n : ℕ). body_of n v.bytes) (one.0 ∙ sym other.0) ∙ ap (λ (xs : List ℕ). body_of w.page xs) bytes in
    (ap (λ (x : StoredBody). x ∷ a) same ∙ ap (λ (xs : List StoredBody). w ∷ xs) rest.0, rest.1)

-- A log's bodies and its first closed gate are the only ones.
pub HasBodies-one : (image : Image) (half : ℕ) (a b : List StoredBody) (gate other : ℕ) → HasBodies image half a gate → HasBodies image half b other
    → (a ≡ b) × (gate ≡ other)
HasBodies-one image half a b gate other mine theirs =
    AreBodies-one image half 0 a b gate other mine.are theirs.are (IsEnd-closed image half gate mine.closed) (IsEnd-closed image half other theirs.closed)

-- So are the bodies before an open gate that none stands behind, and that gate.
pub LacksBody-one : (image : Image) (half : ℕ) (a b : List StoredBody) (gate other : ℕ) → LacksBody image half a gate → LacksBody image half b other
    → (a ≡ b) × (gate ≡ other)
LacksBody-one image half a b gate other mine theirs =
    AreBodies-one image half 0 a b gate other mine.are theirs.are (λ opened. mine.none) (λ opened. theirs.none)

-- No log is of both kinds.
pub HasBodies-not_lacks : (image : Image) (half : ℕ) (a b : List StoredBody) (gate other : ℕ) → HasBodies image half a gate → LacksBody image half b other → ⊥
HasBodies-not_lacks image half a b gate other mine theirs =
    let same = AreBodies-one image half 0 a b gate other mine.are theirs.are (IsEnd-closed image half gate mine.closed) (λ opened. theirs.none) in
    not_both (gate_is_open image half other) theirs.opened
    (subst (λ (g : ℕ). gate_is_open image half g ≡ false) same.1 mine.closed)
