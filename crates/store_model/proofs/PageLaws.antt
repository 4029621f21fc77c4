-- Laws of pages.
use Rattle.std.proofs.Common.{ℕ, ◌<◌, ◌≤◌, List, [], ◌∷◌, true, false, sym, subst, inl, inr, lit<}
use Rattle.std.specs.Prelude.{◌==◌, fold, if◌then◌else◌}
use Rattle.std.proofs.lemmas.List.{length-replicate, get_or-replicate, get_or_past}
use Rattle.std.proofs.lemmas.Bool.{cases_lt}
use Rattle.store_model.specs.Disk.{HasPages, Image, IsPage, page_bytes, with_page, zero_page}

-- a page of zeros is a page
pub IsPage-zero_page : IsPage zero_page
IsPage-zero_page = record {
  whole = length-replicate {A = ℕ} page_bytes 0;
  each = λ i. elim (cases_lt i page_bytes) [
    | inl below ↦ subst (λ (byte : ℕ). byte < 256) (sym (get_or-replicate {A = ℕ} page_bytes i 0 0 below)) (lit< tt)
    | inr past ↦ subst (λ (byte : ℕ). byte < 256) (sym (get_or_past zero_page i 0 (subst (λ (n : ℕ). n ≤ i) (sym (length-replicate {A = ℕ} page_bytes 0)) past))) (lit< tt)
  ];
}

-- pages stay pages where one is put
pub HasPages-with_page : (image : Image) (page : ℕ) (bytes : List ℕ) → IsPage bytes → HasPages image → HasPages (with_page image page bytes)
HasPages-with_page image page bytes is pages p = elim (p == page) as (λ here. IsPage (if here then bytes else image p)) [
  | true ↦ is
  | false ↦ pages p
]

-- what each step keeps, all of them do
pub fold-keeps : {S C : Type 0} (P : S → Type 0) (step : S → C → S) → ((s : S) (c : C) → P s → P (step s c)) → (s : S) (cs : List C) → P s → P (fold step s cs)
fold-keeps P step keeps s [] holds = holds
fold-keeps P step keeps s (c ∷ cs) holds = fold-keeps P step keeps (step s c) cs (keeps s c holds)
