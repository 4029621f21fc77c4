-- Steps of reading a body.
use Rattle.std.proofs.Common.{◌≡◌, ℕ, ◌+◌, ◌^◌, ◌<◌, ◌≤◌, List, [], ◌∷◌, ◌++◌, length, take, drop, get_or, codes, sym, ap, ◌∙◌, arith}
use Rattle.std.specs.Int.{w32, from_be_bytes, to_be_bytes}
use Rattle.store_model.specs.Disk.{Image, area_of, page_bytes}
use Rattle.store_model.specs.Images.{Story}
use Rattle.store_model.specs.Layout.{log_page}
use Rattle.disk_model.proofs.Areas.{pages-of}
use Rattle.store_model.specs.Log.{at_log, body_pages}
use Rattle.store_model.specs.LogReading.{IsBodyAt}
use Rattle.store_model.proofs.LogReadingLaws.{IsBodyAt-read, IsBodyAt-too_long, IsBodyAt-untold, begin_of}
use Rattle.store_model.proofs.FieldLaws.{AreBytes, take-plus, to_be_bytes-four}

-- the text and the length at the front of a page
pub front-told : (page text : List ℕ) (count : ℕ) → AreBytes page → length page ≡ page_bytes → text ≡ take 8 page → text ≡ codes "BLOBFRM1"
    → count ≡ from_be_bytes w32 (get_or page 8 0 ∷ get_or page 9 0 ∷ get_or page 10 0 ∷ get_or page 11 0 ∷ [])
    → take 12 page ≡ codes "BLOBFRM1" ++ to_be_bytes w32 count
front-told page text count bytes long text_is same count_is =
    take-plus 8 4 page
    ∙ ap (λ (xs : List ℕ). xs ++ take 4 (drop 8 page)) (sym text_is ∙ same)
    ∙ ap (λ (xs : List ℕ). codes "BLOBFRM1" ++ xs) (sym (to_be_bytes-four page 8 count bytes (omega (arith, long)) count_is))

-- the page behind a gate
at-gate : (half gate log : ℕ) → log ≡ log_page half → log + gate + 1 ≡ at_log half (gate + 1)
at-gate half gate log is = omega (arith, is)

-- what its first bytes are
front-at : (story : Story) (half gate log count : ℕ) (page : List ℕ) → log ≡ log_page half → page ≡ story.reads (log + gate + 1)
    → take 12 page ≡ begin_of count → take 12 (story.reads (at_log half (gate + 1))) ≡ begin_of count
front-at story half gate log count page log_is is begins =
    ap (λ (p : ℕ). take 12 (story.reads p)) (sym (at-gate half gate log log_is)) ∙ ap (λ (xs : List ℕ). take 12 xs) (sym is) ∙ begins

-- a body that was read
pub body-found : (old mid : Story) (half gate log count pages : ℕ) (page bytes : List ℕ) → log ≡ log_page half → page ≡ old.reads (log + gate + 1)
    → mid.reads ≡ old.reads → take 12 page ≡ begin_of count → 13 ≤ count → pages ≡ body_pages count → gate + pages + 1 ≤ 511 → length bytes ≡ count
    → (page ≡ mid.reads (log + gate + 1) → bytes ≡ take count (area_of mid.reads (log + gate + 1) (body_pages count))) → IsBodyAt old.reads half gate bytes
body-found old mid half gate log count pages page bytes log_is is same begins least pages_are room long read =
    let bytes_are : bytes ≡ take count (area_of old.reads (at_log half (gate + 1)) (body_pages count)) =
    read (is ∙ ap (λ (image : Image). image (log + gate + 1)) (sym same))
    ∙ ap (λ (image : Image). take count (area_of image (log + gate + 1) (body_pages count))) same
    ∙ ap (λ (p : ℕ). take count (area_of old.reads p (body_pages count))) (at-gate half gate log log_is) in
    IsBodyAt-read old.reads half gate count bytes (pages-of old) (front-at old half gate log count page log_is is begins) least (omega (arith, pages_are, room)) long bytes_are

-- no body stands there, since it would end past the log area
pub none-past : (story : Story) (half gate log count pages : ℕ) (page : List ℕ) → log ≡ log_page half → page ≡ story.reads (log + gate + 1)
    → take 12 page ≡ begin_of count → count < 2 ^ 32 → pages ≡ body_pages count → 511 < gate + pages + 1
    → (bytes : List ℕ) → IsBodyAt story.reads half gate bytes → ⊥
none-past story half gate log count pages page log_is is begins low pages_are past =
    IsBodyAt-too_long story.reads half gate count (pages-of story) (front-at story half gate log count page log_is is begins) low (omega (arith, pages_are, past))

-- none stands there, since no length is told
pub none-told : (story : Story) (half gate log : ℕ) (page : List ℕ) → log ≡ log_page half → page ≡ story.reads (log + gate + 1)
    → ((count : ℕ) → 13 ≤ count → count < 2 ^ 32 → take 12 page ≡ begin_of count → ⊥)
    → (bytes : List ℕ) → IsBodyAt story.reads half gate bytes → ⊥
none-told story half gate log page log_is is untold =
    IsBodyAt-untold story.reads half gate (pages-of story) (λ count least low begins. untold count least low
    (ap (λ (xs : List ℕ). take 12 xs) is ∙ ap (λ (p : ℕ). take 12 (story.reads p)) (at-gate half gate log log_is) ∙ begins))
