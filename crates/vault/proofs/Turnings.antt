-- What is so where the disk may have been turned before a body is laid.
use Rattle.std.proofs.Common.{◌≡◌, ℕ, ◌-◌, inl, inr, subst}
use Rattle.std.specs.FinMap.{FinMap}
use Rattle.check_point.specs.Writers.{IsOfHalf}
use Rattle.disk_model.specs.Disks.{OnlyWrites}
use Rattle.disk_model.specs.declared.disk.Disk.{Ghosts}
use Rattle.disk_model.proofs.DiskLaws.{OnlyReads-none, OnlyWrites-more, OnlyWrites-none, OnlyWrites-reads, OnlyWrites-wider}
use Rattle.meta_log.specs.Logs.{Parts}
use Rattle.recover.specs.Turns.{InTurn, IsTurnPage}
use Rattle.store_model.specs.Key.{key_order}
use Rattle.store_model.specs.Layout.{Layout}
use Rattle.store_model.specs.Reading.{Found}
use Rattle.store_model.specs.State.{State}
use Rattle.vault.specs.Vaults.{MayHaveTurned, found_of}
use Rattle.vault.specs.declared.memory.Memory.{Memory}

-- A turn writes no other page than its own.
pub InTurn-wrote : {D : Type 0} (g : Ghosts D) (layout : Layout) (half last : ℕ) (states : FinMap key_order State) (old new : D)
    → InTurn g layout half last states old new → OnlyWrites g (IsTurnPage layout half) old new
InTurn-wrote g layout half last states old new turned =
    let first : OnlyWrites g (IsTurnPage layout half) old turned.mid =
    OnlyWrites-wider g (IsOfHalf layout half) (IsTurnPage layout half) old turned.mid (λ p of. inl of) turned.first in
    elim turned.second [
      | inl still ↦ OnlyWrites-reads g (IsTurnPage layout half) old turned.mid new first still
      | inr written ↦ OnlyWrites-more g (λ p. p ≡ 0) (IsTurnPage layout half) old turned.mid new (λ p zero. inr zero) first written.1
    ]

module _ {D : Type 0} (g : Ghosts D) (old base : D) where
  -- So the pages of a turn alone may have been written.
  pub turned-wrote : (before : Memory) → MayHaveTurned g before old base → OnlyWrites g (IsTurnPage before.layout (1 - before.log.half)) old base
  turned-wrote before (inl still) =
      OnlyWrites-reads g (IsTurnPage before.layout (1 - before.log.half)) old old base (OnlyWrites-none g (IsTurnPage before.layout (1 - before.log.half)) old) still
  turned-wrote before (inr turned) = InTurn-wrote g before.layout (1 - before.log.half) before.last before.relation.states old base turned

  -- It is so of each memory that has the same store and the same log.
  pub turned-same : (a b : Memory) → found_of a ≡ found_of b → a.log ≡ b.log → MayHaveTurned g a old base → MayHaveTurned g b old base
  turned-same a b found log (inl still) = inl still
  turned-same a b found log (inr turned) =
      inr (subst (λ (f : Found). InTurn g f.layout (1 - b.log.half) f.last f.states old base) found
      (subst (λ (l : Parts). InTurn g a.layout (1 - l.half) a.last a.relation.states old base) log turned))

-- Nothing may have been written.
pub turned-none : {D : Type 0} (g : Ghosts D) (before : Memory) (disk : D) → MayHaveTurned g before disk disk
turned-none g before disk = inl (OnlyReads-none g disk)
