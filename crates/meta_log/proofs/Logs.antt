-- What is written of a log.
use Rattle.std.proofs.Common.{◌≡◌, ℕ, ◌+◌, ◌-◌, ◌*◌, ◌<◌, List, length, take, ap, ◌∙◌, subst, arith}
use Rattle.std.specs.Prelude.{IsTrue}
use Rattle.std.proofs.lemmas.List.{drop_all}
use Rattle.store_model.specs.Disk.{Image, page_bytes, page_of, zero_page}
use Rattle.store_model.specs.Images.{Within, Wrote}
use Rattle.store_model.specs.Layout.{log_page}
use Rattle.store_model.specs.Log.{IsLogPage, at_log, body_page, body_pages}
use Rattle.store_model.proofs.ImageLaws.{wider}
use Rattle.disk_model.specs.Disks.{Keeps, OnlyWrites}
use Rattle.disk_model.specs.declared.disk.Disk.{Ghosts}
use Rattle.disk_model.proofs.DiskLaws.{OnlyWrites-wider}
use Rattle.meta_log.specs.Logs.{Parts}

-- no byte of a body stands behind its pages
pub page-behind : (body : List ℕ) → body_page body (body_pages (length body)) ≡ zero_page
page-behind body = ap (λ (xs : List ℕ). page_of (take page_bytes xs)) (drop_all (page_bytes * body_pages (length body)) body (omega arith))

-- The pages of a body and the gate behind it are pages of the log area.
pub OnlyWrites-log : {D : Type 0} (g : Ghosts D) (log view : Parts) (first given count : ℕ) (old new : D) → log ≡ view → first ≡ log_page log.half + log.gate + 1
    → given ≡ count → OnlyWrites g (Within first given) old new → OnlyWrites g (IsLogPage view.half (view.gate + 1) count) old new
OnlyWrites-log g log view first given count old new same is count_is wrote =
    subst (λ (parts : Parts). OnlyWrites g (IsLogPage parts.half (parts.gate + 1) count) old new) same
    (OnlyWrites-wider g (Within first given) (IsLogPage log.half (log.gate + 1) count) old new
    (λ p there. record { at = p - first; below = omega (arith, there.from, there.to, count_is); is = omega (arith, there.from, is) }) wrote)

-- the gate behind a body is closed
pub reads-closed : (log view : Parts) (first count : ℕ) (body : List ℕ) (image : Image) → log ≡ view → first ≡ log_page log.half + log.gate + 1
    → count ≡ body_pages (length body) + 1 → ((i : ℕ) → i < count → image (first + i) ≡ body_page body i)
    → image (at_log view.half (view.gate + 1 + body_pages (length body))) ≡ zero_page
reads-closed log view first count body image same is count_is reads =
    let pages : ℕ = body_pages (length body) in
    subst (λ (parts : Parts). image (at_log parts.half (parts.gate + 1 + pages)) ≡ zero_page) same
    (ap image (let e : log_page log.half + (log.gate + 1 + pages) ≡ first + pages = omega (arith, is) in e)
    ∙ reads pages (omega (arith, count_is)) ∙ page-behind body)

-- So is the gate's page.
pub OnlyWrites-gate : {D : Type 0} (g : Ghosts D) (log view : Parts) (page : ℕ) (old new : D) → log ≡ view → page ≡ log_page log.half + log.gate
    → Keeps g old new → (IsTrue g.tells → Wrote (λ p. p ≡ page) (g.story old) (g.story new)) → OnlyWrites g (IsLogPage view.half view.gate 1) old new
OnlyWrites-gate g log view page old new same is keeps wrote =
    subst (λ (parts : Parts). OnlyWrites g (IsLogPage parts.half parts.gate 1) old new) same (record {
      keeps = keeps;
      wrote = λ tells. wider (λ p. p ≡ page) (IsLogPage log.half log.gate 1) (g.story old) (g.story new)
          (λ p here. record { at = 0; below = omega arith; is = omega (arith, here, is) }) (wrote tells);
    })
