-- Laws of what an opening drops: it is one list.
use Rattle.std.proofs.Common.{◌≡◌, ℕ, ◌^◌, ◌≤◌, List, [], ◌∷◌, inl, inr, sym, ap, subst, ◌∙◌, arith}
use Rattle.store_model.specs.Disk.{Image}
use Rattle.store_model.specs.Drops.{AreDropped, AreDroppedLast, Drops}
use Rattle.store_model.specs.Frame.{Entry}
use Rattle.store_model.specs.Half.{picked}
use Rattle.store_model.specs.Layout.{Layout, data_pages}
use Rattle.store_model.specs.LogReading.{StoredBody}
use Rattle.store_model.proofs.FrameLaws.{Spells-one}
use Rattle.store_model.proofs.HalfRefusalLaws.{FindsHalf-one}
use Rattle.store_model.proofs.LogReadingLaws.{HasBodies-one}

-- which entries are dropped is one list
pub AreDropped-one : (image : Image) (layout : Layout) (entries : List Entry) (a b : List ℕ) → AreDropped image layout entries a → AreDropped image layout entries b → a ≡ b
AreDropped-one image layout [] a b one other = one ∙ sym other
AreDropped-one image layout (entry ∷ entries) a b one other =
    elim one [
      | inl mine ↦ elim other [
        | inl yours ↦ AreDropped-one image layout entries a b mine.1 yours.1
        | inr fails ↦ absurd (fails.0 mine.0)
      ]
      | inr fails ↦ elim other [
        | inl yours ↦ absurd (fails.0 yours.0)
        | inr both ↦
            fails.1.1 ∙ ap (λ (numbers : List ℕ). entry.number ∷ numbers) (AreDropped-one image layout entries fails.1.0 both.1.0 fails.1.2 both.1.2) ∙ sym both.1.1
      ]
    ]

-- and which of the last body
pub AreDroppedLast-one : (image : Image) (layout : Layout) (bodies : List StoredBody) (a b : List ℕ) → data_pages layout ≤ 2 ^ 32 → AreDroppedLast image layout bodies a
    → AreDroppedLast image layout bodies b → a ≡ b
AreDroppedLast-one image layout [] a b small one other = one ∙ sym other
AreDroppedLast-one image layout (body ∷ []) a b small one other =
    let told : one.0 ≡ other.0 = Spells-one (data_pages layout) body.bytes one.0 other.0 small one.1 other.1 in
    AreDropped-one image layout other.0 a b (subst (λ (entries : List Entry). AreDropped image layout entries a) told one.2) other.2
AreDroppedLast-one image layout (body ∷ next ∷ bodies) a b small one other = AreDroppedLast-one image layout (next ∷ bodies) a b small one other

-- The opening of a disk drops one list of entries.
pub Drops-one : (pages : ℕ) (image : Image) (a b : List ℕ) → Drops pages image a → Drops pages image b → a ≡ b
Drops-one pages image a b one other =
    let h : ℕ = picked (image 0) in
    let start : one.start.layout ≡ other.start.layout =
    (FindsHalf-one pages image h one.start.layout other.start.layout one.start.last other.start.last one.start.states other.start.states one.finds other.finds).0 in
    let log : one.bodies ≡ other.bodies = (HasBodies-one image h one.bodies other.bodies one.gate other.gate one.log other.log).0 in
    let moved : AreDroppedLast image other.start.layout one.bodies a =
    subst (λ (layout : Layout). AreDroppedLast image layout one.bodies a) start one.dropped in
    let mine : AreDroppedLast image other.start.layout other.bodies a =
    subst (λ (bodies : List StoredBody). AreDroppedLast image other.start.layout bodies a) log moved in
    AreDroppedLast-one image other.start.layout other.bodies a b (omega (arith, other.finds.spells.half.sound.most_units)) mine other.dropped
