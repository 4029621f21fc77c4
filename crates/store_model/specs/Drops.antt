-- What an opening drops: the entries of the log's last frame of which not all states verify.
use Rattle.std.specs.Prelude.{ℕ, ◌≡◌, ◌⊎◌, List, [], ◌∷◌}
use Rattle.store_model.specs.Disk.{Image}
use Rattle.store_model.specs.Frame.{Entry, Spells}
use Rattle.store_model.specs.Half.{picked}
use Rattle.store_model.specs.HalfRefusals.{FindsHalf}
use Rattle.store_model.specs.Layout.{Layout, data_pages}
use Rattle.store_model.specs.LogReading.{HasBodies, StoredBody}
use Rattle.store_model.specs.Reading.{DoesVerify, Found}

-- The numbers of the entries that an opening drops: those of the log's last frame of which not all states verify.
abbrev pub AreDropped : Image → Layout → List Entry → List ℕ → Type 0
AreDropped image layout [] numbers = numbers ≡ []
AreDropped image layout (entry ∷ entries) numbers =
    (DoesVerify image layout entry × AreDropped image layout entries numbers)
    ⊎ ((DoesVerify image layout entry → ⊥) × ((rest : List ℕ) × (numbers ≡ entry.number ∷ rest) × AreDropped image layout entries rest))

-- the same of the last of these bodies; none where there is none
abbrev pub AreDroppedLast : Image → Layout → List StoredBody → List ℕ → Type 0
AreDroppedLast image layout [] numbers = numbers ≡ []
AreDroppedLast image layout (body ∷ []) numbers =
    (entries : List Entry) × Spells (data_pages layout) body.bytes entries × AreDropped image layout entries numbers
AreDroppedLast image layout (body ∷ next ∷ bodies) numbers = AreDroppedLast image layout (next ∷ bodies) numbers

-- What the opening of a disk of so many pages drops.
pub record Drops (pages : ℕ) (image : Image) (numbers : List ℕ) : Type 0 where
  pub start : Found
  pub finds : FindsHalf pages image (picked (image 0)) start.layout start.last start.states
  pub bodies : List StoredBody
  pub gate : ℕ
  pub log : HasBodies image (picked (image 0)) bodies gate
  pub dropped : AreDroppedLast image start.layout bodies numbers
