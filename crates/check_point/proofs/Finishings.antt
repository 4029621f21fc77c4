-- The pages that end the writing of a half.
use Rattle.std.proofs.Common.{◌≡◌, ℕ, ◌+◌, ◌-◌, ◌*◌, ◌/◌, ◌≤◌, inl, inr, IsTrue, List, length, sym, ap, ◌∙◌, subst, arith}
use Rattle.disk_model.specs.Disks.{Keeps, OnlyWrites}
use Rattle.disk_model.specs.declared.disk.Disk.{Ghosts}
use Rattle.disk_model.proofs.DiskLaws.{OnlyWrites-more, OnlyWrites-wider}
use Rattle.store_model.specs.Disk.{Image, page_bytes, page_of, with_page, zero_page}
use Rattle.store_model.specs.Half.{header_spelling}
use Rattle.store_model.specs.Images.{Within, Wrote}
use Rattle.store_model.specs.Layout.{header_page, log_page, states_page}
use Rattle.store_model.specs.Log.{body_pages}
use Rattle.store_model.specs.State.{State}
use Rattle.store_model.proofs.ImageLaws.{with_page_at, with_page_off}
use Rattle.check_point.specs.Halves.{spelled}
use Rattle.check_point.specs.Writers.{HasTaken, IsOfHalf, Parts}

-- the last page of the states is one of the half
pub OnlyWrites-states : {D : Type 0} (g : Ghosts D) (mine view : Parts) (first : ℕ) (old new : D) → mine ≡ view → first ≡ states_page mine.layout mine.half
    → mine.taken ≤ page_bytes * mine.layout.room
    → OnlyWrites g (Within (first + mine.taken / page_bytes) (body_pages mine.taken - mine.taken / page_bytes)) old new
    → OnlyWrites g (IsOfHalf view.layout view.half) old new
OnlyWrites-states g mine view first old new same is most wrote =
    subst (λ (parts : Parts). OnlyWrites g (IsOfHalf parts.layout parts.half) old new) same
    (OnlyWrites-wider g (Within (first + mine.taken / page_bytes) (body_pages mine.taken - mine.taken / page_bytes)) (IsOfHalf mine.layout mine.half) old new
    (λ p there. inl (record { from = omega (arith, is, there.from); to = omega (arith, is, there.to, most) })) wrote)

-- and so is its header
pub OnlyWrites-header : {D : Type 0} (g : Ghosts D) (mine view : Parts) (page : ℕ) (old mid new : D) → mine ≡ view → page ≡ header_page mine.half
    → OnlyWrites g (IsOfHalf view.layout view.half) old mid → Keeps g mid new → (IsTrue g.tells → Wrote (λ p. p ≡ page) (g.story mid) (g.story new))
    → OnlyWrites g (IsOfHalf view.layout view.half) old new
OnlyWrites-header g mine view page old mid new same is one keeps wrote =
    OnlyWrites-more g (λ p. p ≡ page) (IsOfHalf view.layout view.half) old mid new
    (λ p here. inr (inl (here ∙ is ∙ ap (λ (parts : Parts). header_page parts.half) same))) one (record { keeps = keeps; wrote = wrote })

-- and its first gate
pub OnlyWrites-gate : {D : Type 0} (g : Ghosts D) (mine view : Parts) (page : ℕ) (old mid new : D) → mine ≡ view → page ≡ log_page mine.half
    → OnlyWrites g (IsOfHalf view.layout view.half) old mid → Keeps g mid new → (IsTrue g.tells → Wrote (λ p. p ≡ page) (g.story mid) (g.story new))
    → OnlyWrites g (IsOfHalf view.layout view.half) old new
OnlyWrites-gate g mine view page old mid new same is one keeps wrote =
    OnlyWrites-more g (λ p. p ≡ page) (IsOfHalf view.layout view.half) old mid new
    (λ p here. inr (inr (here ∙ is ∙ ap (λ (parts : Parts). log_page parts.half) same))) one (record { keeps = keeps; wrote = wrote })

-- the gate is closed
pub gate-stands : (mine view : Parts) (gate : ℕ) (old new : Image) → mine ≡ view → gate ≡ log_page mine.half → new ≡ with_page old gate zero_page
    → new (log_page view.half) ≡ zero_page
gate-stands mine view gate old new same is put =
    ap new (sym (ap (λ (parts : Parts). log_page parts.half) same) ∙ sym is)
    ∙ ap (λ (image : Image). image gate) put ∙ with_page_at old gate zero_page

-- the header stands, and tells of these tuples
pub header-stands : (mine view : Parts) (header gate : ℕ) (bytes : List ℕ) (one two three : Image) (tuples : List (List ℕ × State)) → mine ≡ view
    → header ≡ header_page mine.half → gate ≡ log_page mine.half
    → bytes ≡ page_of (header_spelling mine.layout mine.last mine.count mine.taken)
    → two ≡ with_page one header bytes → three ≡ with_page two gate zero_page → HasTaken view tuples
    → three (header_page view.half) ≡ page_of (header_spelling view.layout view.last (length tuples) (length (spelled tuples)))
header-stands mine view header gate bytes one two three tuples same header_is gate_is bytes_is put closed had =
    ap three (sym (ap (λ (parts : Parts). header_page parts.half) same) ∙ sym header_is)
    ∙ ap (λ (image : Image). image header) closed
    ∙ with_page_off two gate zero_page header (λ one. omega (arith, header_is, gate_is, one))
    ∙ ap (λ (image : Image). image header) put
    ∙ with_page_at one header bytes
    ∙ bytes_is
    ∙ ap (λ (parts : Parts). page_of (header_spelling parts.layout parts.last parts.count parts.taken)) same
    ∙ ap (λ (n : ℕ). page_of (header_spelling view.layout view.last n view.taken)) (sym had.count)
    ∙ ap (λ (n : ℕ). page_of (header_spelling view.layout view.last (length tuples) n)) (sym had.ends.taken_is)
