-- What is found behind the first frames of a log, and which of the frames stand on a disk.
use Rattle.std.proofs.Common.{◌≡◌, ℕ, zero, suc, ◌≤◌, List, [], ◌∷◌, ◌++◌, length, Some, inl, inr, refl, sym, ◌∙◌, subst, arith}
use Rattle.std.specs.Prelude.{slice_get}
use Rattle.store_model.specs.Disk.{Image}
use Rattle.store_model.specs.Frame.{Entry}
use Rattle.store_model.specs.Reading.{Found, with_frame}
use Rattle.store_model.specs.Stands.{ReadsPart, ReadsWhole, Stands, StandsStep, found_at}

-- an element of the front, and the one behind it
front-at : {X : Type 0} (xs ys : List X) (i : ℕ) (x : X) → slice_get xs i ≡ Some x → slice_get (xs ++ ys) i ≡ Some x
front-at [] ys i x at = absurd (cc at)
front-at (y ∷ xs) ys zero x at = at
front-at (y ∷ xs) ys (suc i) x at = front-at xs ys i x at

behind-at : {X : Type 0} (xs : List X) (x : X) (ys : List X) → slice_get (xs ++ x ∷ ys) (length xs) ≡ Some x
behind-at [] x ys = refl
behind-at (y ∷ xs) x ys = behind-at xs x ys

-- Further frames change nothing of what is found behind the first ones.
pub found_at-front : (opened : Found) (frames more : List (List Entry)) (k : ℕ) → k ≤ length frames → found_at opened (frames ++ more) k ≡ found_at opened frames k
found_at-front opened frames more zero most = refl
found_at-front opened [] more (suc k) most = absurd (omega (arith, most))
found_at-front opened (entries ∷ frames) more (suc k) most = found_at-front (with_frame opened entries entries) frames more k (omega (arith, most))

-- Behind one more frame its entries are found with what is found before it.
pub found_at-next : (opened : Found) (frames : List (List Entry)) (entries : List Entry)
    → found_at opened (frames ++ entries ∷ []) (suc (length frames)) ≡ with_frame (found_at opened frames (length frames)) entries entries
found_at-next opened [] entries = refl
found_at-next opened (first ∷ frames) entries = found_at-next (with_frame opened first first) frames entries

-- What stands of frames stands of them with further ones.
pub Stands-front : (pages : ℕ) (image : Image) (opened : Found) (frames more : List (List Entry)) (k : ℕ) → k ≤ length frames → Stands pages image opened frames k
    → Stands pages image opened (frames ++ more) k
Stands-front pages image opened frames more k most (inl whole) =
    inl (subst (λ (f : Found). ReadsWhole pages image f) (sym (found_at-front opened frames more k most)) whole)
Stands-front pages image opened frames more k most (inr (entries, there, part)) =
    inr (
      entries,
      front-at frames more k entries there,
      subst (λ (f : Found). ReadsPart pages image f entries) (sym (found_at-front opened frames more k most)) part,
    )

module _ (pages : ℕ) (image : Image) (opened mine : Found) (frames : List (List Entry)) (at : mine ≡ found_at opened frames (length frames)) where
  same : (more : List (List Entry)) → mine ≡ found_at opened (frames ++ more) (length frames)
  same more = at ∙ sym (found_at-front opened frames more (length frames) (omega arith))

  -- All frames stand on a disk that reads as what is found behind them,
  pub Stands-whole : (more : List (List Entry)) → ReadsWhole pages image mine → Stands pages image opened (frames ++ more) (length frames)
  Stands-whole more whole = inl (subst (λ (f : Found). ReadsWhole pages image f) (same more) whole)

  -- and on one that reads so with a part of one more frame.
  pub Stands-step : (entries : List Entry) → StandsStep pages image mine entries → Stands pages image opened (frames ++ entries ∷ []) (length frames)
  Stands-step entries (inl whole) = Stands-whole (entries ∷ []) whole
  Stands-step entries (inr part) =
      inr (
        entries,
        behind-at frames entries [],
        subst (λ (f : Found). ReadsPart pages image f entries) (same (entries ∷ [])) part,
      )
