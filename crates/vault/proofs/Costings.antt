-- What calls on a vault cost, in the words of the definitions.
use Rattle.std.proofs.Common.{◌≡◌, ℕ, ◌+◌, ◌-◌, ◌≤◌, Bool, true, false, List, [], ◌∷◌, length, refl, sym, subst, arith}
use Rattle.std.specs.Prelude.{IsTrue, if◌then◌else◌, nat_lt}
use Rattle.std.specs.List.{sum_by}
use Rattle.disk_model.specs.declared.disk.Disk.{Ghosts}
use Rattle.recover.specs.Openings.{TookOpening}
use Rattle.store_model.specs.Cost.{Cost, content_pages, frame_bytes, with_body, with_lead, with_opening, with_turn}
use Rattle.store_model.specs.Disk.{Took}
use Rattle.store_model.specs.Group.{Commit}
use Rattle.store_model.specs.Log.{body_pages}
use Rattle.store_model.specs.Store as model
use Rattle.store_model.specs.World.{stored_bytes}
use Rattle.vault.specs.Leads.{Costs}
use Rattle.vault.specs.Vaults.{turn_pages, turn_syncs, turned_gate}
use Rattle.vault.specs.declared.memory.Memory.{Memory}

module _ {D : Type 0} (g : Ghosts D) where
  -- Nothing costs nothing.
  pub Costs-none : (disk : D) (now : Memory) (store : model.Store) (commits : List Commit) (cost : Cost) → commits ≡ [] → now.log.gate ≡ cost.gate
      → Costs g cost (with_lead store commits cost) disk disk now
  Costs-none disk now store commits cost none gate =
      subst (λ (cs : List Commit). Costs g cost (with_lead store cs cost) disk disk now) (sym none)
      (record { gate = gate; spent = λ tells. record { writes = refl; syncs = refl } })

  -- what an opening costs
  pub Costs-opened : (old new : D) (now : Memory) (store : model.Store) (cost : Cost) (bytes : ℕ) → bytes ≡ stored_bytes store.objects → now.log.gate ≡ 0
      → (IsTrue g.tells → TookOpening bytes (g.calls old) (g.calls new)) → Costs g cost (with_opening store cost) old new now
  Costs-opened old new now store cost bytes is gate took = record {
    gate = gate;
    spent = λ tells.
        let took_now = subst (λ (n : ℕ). TookOpening n (g.calls old) (g.calls new)) is (took tells) in
        record { writes = omega (arith, took_now.writes); syncs = omega (arith, took_now.syncs) };
  }

  -- what a turn costs
  pub Costs-turned : (old new : D) (now : Memory) (store : model.Store) (cost : Cost) (bytes : ℕ) → bytes ≡ stored_bytes store.objects → now.log.gate ≡ 0
      → (IsTrue g.tells → Took 0 (body_pages bytes + 3) 2 (g.calls old) (g.calls new)) → Costs g cost (with_turn store cost) old new now
  Costs-turned old new now store cost bytes is gate took = record {
    gate = gate;
    spent = λ tells.
        let took_now = subst (λ (n : ℕ). Took 0 (body_pages n + 3) 2 (g.calls old) (g.calls new)) is (took tells) in
        record { writes = omega (arith, took_now.writes); syncs = omega (arith, took_now.syncs) };
  }

  -- what a lead costs, whether it turns or not
  body-costs : (old new : D) (now : Memory) (store : model.Store) (cost : Cost) (turns : Bool) (pages contents : ℕ)
      → now.log.gate ≡ (if turns then 0 else cost.gate) + 1 + pages
      → (IsTrue g.tells → Took 0 ((if turns then body_pages (stored_bytes store.objects) + 3 else 0) + pages + 1 + (contents + 1)) ((if turns then 2 else 0) + 2) (g.calls old) (g.calls new))
      → Costs g cost (with_body pages contents (if turns then with_turn store cost else cost)) old new now
  body-costs old new now store cost true pages contents gate took = record {
    gate = omega (arith, gate);
    spent = λ tells. record { writes = omega (arith, (took tells).writes); syncs = omega (arith, (took tells).syncs) };
  }
  body-costs old new now store cost false pages contents gate took = record {
    gate = omega (arith, gate);
    spent = λ tells. record { writes = omega (arith, (took tells).writes); syncs = omega (arith, (took tells).syncs) };
  }

  lead-costs : (old new : D) (now : Memory) (store : model.Store) (commits : List Commit) (cost : Cost) → 1 ≤ length commits
      → now.log.gate ≡ turned_gate cost.gate (body_pages (frame_bytes commits) + 1) + 1 + body_pages (frame_bytes commits)
      → (IsTrue g.tells → Took 0
      (turn_pages (511 - cost.gate) (body_pages (frame_bytes commits) + 1) (stored_bytes store.objects) + body_pages (frame_bytes commits) + 1 + (sum_by content_pages commits + 1))
      (turn_syncs (511 - cost.gate) (body_pages (frame_bytes commits) + 1) + 2) (g.calls old) (g.calls new))
      → Costs g cost (with_lead store commits cost) old new now
  lead-costs old new now store [] cost some gate took = absurd (omega (arith, some))
  lead-costs old new now store (commit ∷ commits) cost some gate took =
      body-costs old new now store cost (nat_lt (511 - cost.gate) (body_pages (frame_bytes (commit ∷ commits)) + 1)) (body_pages (frame_bytes (commit ∷ commits)))
      (sum_by content_pages (commit ∷ commits)) gate took

  pub Costs-led : (old new : D) (now : Memory) (store : model.Store) (commits : List Commit) (cost : Cost) (gate bytes stored contents : ℕ) → 1 ≤ length commits
      → cost.gate ≡ gate → bytes ≡ frame_bytes commits → stored ≡ stored_bytes store.objects → contents ≡ sum_by content_pages commits
      → now.log.gate ≡ turned_gate gate (body_pages bytes + 1) + 1 + body_pages bytes
      → (IsTrue g.tells → Took 0 (turn_pages (511 - gate) (body_pages bytes + 1) stored + body_pages bytes + 1 + (contents + 1))
      (turn_syncs (511 - gate) (body_pages bytes + 1) + 2) (g.calls old) (g.calls new))
      → Costs g cost (with_lead store commits cost) old new now
  Costs-led old new now store commits cost gate bytes stored contents some gate_is bytes_is stored_is contents_is gate_now took =
      lead-costs old new now store commits cost some
      (subst (λ (n : ℕ). now.log.gate ≡ turned_gate n (body_pages (frame_bytes commits) + 1) + 1 + body_pages (frame_bytes commits)) (sym gate_is)
      (subst (λ (n : ℕ). now.log.gate ≡ turned_gate gate (body_pages n + 1) + 1 + body_pages n) bytes_is gate_now))
      (λ tells.
      subst (λ (n : ℕ). Took 0
      (turn_pages (511 - n) (body_pages (frame_bytes commits) + 1) (stored_bytes store.objects) + body_pages (frame_bytes commits) + 1 + (sum_by content_pages commits + 1))
      (turn_syncs (511 - n) (body_pages (frame_bytes commits) + 1) + 2) (g.calls old) (g.calls new)) (sym gate_is)
      (subst (λ (n : ℕ). Took 0
      (turn_pages (511 - gate) (body_pages n + 1) (stored_bytes store.objects) + body_pages n + 1 + (sum_by content_pages commits + 1))
      (turn_syncs (511 - gate) (body_pages n + 1) + 2) (g.calls old) (g.calls new)) bytes_is
      (subst (λ (n : ℕ). Took 0
      (turn_pages (511 - gate) (body_pages bytes + 1) n + body_pages bytes + 1 + (sum_by content_pages commits + 1))
      (turn_syncs (511 - gate) (body_pages bytes + 1) + 2) (g.calls old) (g.calls new)) stored_is
      (subst (λ (n : ℕ). Took 0
      (turn_pages (511 - gate) (body_pages bytes + 1) stored + body_pages bytes + 1 + (n + 1))
      (turn_syncs (511 - gate) (body_pages bytes + 1) + 2) (g.calls old) (g.calls new)) contents_is (took tells)))))
