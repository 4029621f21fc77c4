-- What a step has done to the disk.
use Rattle.std.proofs.Common.{◌≡◌, IsTrue, false, [], sym, subst, arith}
use Rattle.disk_model.specs.Disks.{OnlyReads}
use Rattle.disk_model.specs.declared.disk.Disk.{Ghosts}
use Rattle.store_model.specs.Cost.{Reads}
use Rattle.store_model.specs.Disk.{Image}
use Rattle.store_model.specs.Group.{taken_blocks}
use Rattle.store_model.specs.Standing.{AllStand}
use Rattle.store_model.specs.Store.{Store}
use Rattle.store_model.specs.World.{Outcome}
use Rattle.store_model.proofs.ImageLaws.{stayed_wrote}
use Rattle.vault.specs.Leads.{IsLeadPage}
use Rattle.vault.specs.declared.memory.Memory.{Memory}
use Rattle.blob_steps.specs.Steps.{Did}
use Rattle.blob_steps.specs.declared.world.World.{World}

-- An outcome that changes nothing of the disk: no commit, no turn, and the same store.
pub record IsStill (before : Store) (outcome : Outcome) : Type 0 where
  pub none : outcome.commits ≡ []
  pub stays : outcome.turns ≡ false
  pub same : outcome.world.store ≡ before

-- reads alone
pub Did-reads : {D : Type 0} (g : Ghosts D) (before : Store) (outcome : Outcome) (mine new : World D) → IsStill before outcome
    → new.vault.memory ≡ mine.vault.memory → OnlyReads g mine.vault.disk new.vault.disk
    → (IsTrue g.tells → Reads (g.calls mine.vault.disk) (g.calls new.vault.disk)) → Did g before outcome mine new
Did-reads g before outcome mine new still memory only reads = record {
  objects = λ told from stand.
      subst (λ (s : Store). AllStand from (g.story new.vault.disk).reads mine.vault.memory.layout s.objects) (sym still.same)
      (subst (λ (image : Image). AllStand from image mine.vault.memory.layout before.objects) (sym (only.stayed told).reads) stand);
  wrote = λ told.
      stayed_wrote (IsLeadPage mine.vault.memory.layout (taken_blocks outcome.commits)) (g.story mine.vault.disk) (g.story new.vault.disk)
      (only.stayed told);
  costs = λ cost gate. rw (still.none, still.stays) (record {
    gate = subst (λ (m : Memory). m.log.gate ≡ cost.gate) (sym memory) (sym gate);
    spent = λ told. record { writes = omega (arith, (reads told).writes); syncs = omega (arith, (reads told).syncs) };
  });
}
