-- A later run on what survived.
use Rattle.std.proofs.Common.{◌≡◌, ◌⊎◌, ℕ, suc, ◌+◌, Some, inl, inr, refl, sym, ◌∙◌, ap, arith, List}
use Rattle.std.specs.Prelude.{slice_get}
use Rattle.store_model.specs.Disk.{Image}
use Rattle.store_model.specs.Layout.{Layout}
use Rattle.store_model.specs.Store.{Store}
use Rattle.store_model.specs.Survival.{Chance, Group, ReadsAs, ReadsAsPart, Survives, store_at, with_commits}
use Rattle.store_model.proofs.SurvivalLaws.{store_at-next}
use Rattle.store_model.proofs.SurvivalRightLaws.{ReadsAsPart-held}

-- What survived without chance is a store with which the next run begins.
pub survived-again : (pages : ℕ) (image : Image) (layout : Layout) (start : Store) (groups : List Group) (j : ℕ)
    → Survives pages image layout start groups j → ((group : Group) → slice_get groups j ≡ Some group → Chance image layout group → ⊥)
    → (store : Store) × ReadsAs pages image layout store.objects store.last
    × ((store.last ≡ (store_at start groups j).last) ⊎ (store.last ≡ (store_at start groups (j + 1)).last))
survived-again pages image layout start groups j survives none =
    elim survives [
      | inl reading ↦ (store_at start groups j, reading, inl refl)
      | inr next ↦
          (let part : ReadsAsPart pages image layout (store_at start groups j) next.0 = next.2 in
          let step : suc j ≡ j + 1 = omega arith in (
            record { objects = with_commits (store_at start groups j).objects next.0.after.objects part.kept; last = next.0.after.last },
            ReadsAsPart-held pages image layout (store_at start groups j) next.0 (none next.0 next.1) part,
            inr (ap (λ (s : Store). s.last) (sym (store_at-next start groups j next.0 next.1)) ∙ ap (λ (n : ℕ). (store_at start groups n).last) step),
          ))
    ]
