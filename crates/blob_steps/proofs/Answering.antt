-- What a session's turn makes of the program's world and the disk.
use Rattle.std.proofs.Common.{◌≡◌, ℕ, List, [], ◌++◌, Some, None, Result, Ok, Err, refl, sym, ◌∙◌, ap, subst}
use Rattle.std.specs.Prelude.{IfOk}
use Rattle.blob_script.specs.Answers.{model_line}
use Rattle.blob_script.specs.declared.answer.AnswerLine.{AnswerLine}
use Rattle.disk_model.specs.Disks.{Keeps, OnlyReads}
use Rattle.disk_model.specs.declared.disk.Disk.{Ghosts}
use Rattle.disk_model.proofs.DiskLaws.{Keeps-none, OnlyReads-none}
use Rattle.store_model.specs.Answer as answer
use Rattle.store_model.specs.Answer.{answer_text}
use Rattle.store_model.specs.Play.{action_play, transact}
use Rattle.store_model.specs.Script as script
use Rattle.store_model.specs.Store.{Store}
use Rattle.store_model.specs.Turn as turn
use Rattle.store_model.specs.World as model
use Rattle.store_model.specs.World.{Outcome}
use Rattle.vault.specs.declared.vault.Vault.{Vault}
use Rattle.blob_steps.specs.Steps.{CameTo, Did, Stepped, TakesTurn, WorldStands}
use Rattle.blob_steps.specs.declared.fault.StoreFault.{StoreFault}
use Rattle.blob_steps.specs.declared.fault.StoreFault.TheVariants as store_fault
use Rattle.blob_steps.specs.declared.world.World.{World}
use Rattle.blob_steps.proofs.Doing.{Did-reads, IsStill}
use Rattle.blob_steps.proofs.Turning.{WorldKnown-stands}

-- what holds of the value of a result that is known
pub ok-is : {X E : Type 0} (P : X → Type 0) (r : Result X E) (x : X) → r ≡ Ok x → IfOk r P → P x
ok-is P r x is holds = subst (λ s. IfOk s P) is holds

-- an outcome of a session's turn is still
pub transact-still : (world : model.World) (number : ℕ) (action : turn.Action) → IsStill world.store (transact world number action)
transact-still world number action = record { none = refl; stays = refl; same = refl }

-- where the vault is as it was, nothing was done to the disk
pub Did-none : {D : Type 0} (g : Ghosts D) (before : Store) (outcome : Outcome) (mine new : World D) → IsStill before outcome → new.vault ≡ mine.vault
    → Did g before outcome mine new
Did-none {D = D} g before outcome mine new still same =
    Did-reads g before outcome mine new still (ap (λ (v : Vault D). v.memory) same)
    (subst (λ (v : Vault D). OnlyReads g mine.vault.disk v.disk) (sym same) (OnlyReads-none g mine.vault.disk))
    (λ told. record {
      writes = ap (λ (v : Vault D). (g.calls v.disk).writes) same;
      syncs = ap (λ (v : Vault D). (g.calls v.disk).syncs) same;
    })

-- the turn is that of the step
pub turn-plays : {D : Type 0} (g : Ghosts D) (mine later new : World D) (number : ℕ) (action : turn.Action) (asked : script.Action) (line shown : AnswerLine) (text : List ℕ)
    (world : model.World) → WorldStands mine world → TakesTurn mine later number action (model_line line) → new ≡ later → shown ≡ line → asked ≡ script.Transact action
    → action_play world number (script.Transact action) ≡ Some (transact world number action) → text ≡ [] ++ answer_text (answer.Session number (model_line shown) None)
    → (x : Outcome) × (action_play world number asked ≡ Some x) × CameTo g world x text mine new
turn-plays {D = D} g mine later new number action asked line shown text world is takes new_is shown_is asked_is built text_is = (
  transact world number action,
  ap (action_play world number) asked_is ∙ built,
  subst (λ (w : World D). CameTo g world (transact world number action) text mine w) (sym new_is) (record {
    stands = takes.stands world is;
    did = Did-none g world.store (transact world number action) mine later (transact-still world number action) takes.vault;
    text_is = λ told stand. text_is ∙ ap (λ (l : AnswerLine). answer_text (answer.Session number (model_line l) None)) shown_is
        ∙ ap (λ (l : answer.AnswerLine). answer_text (answer.Session number l None)) (takes.line_is world (WorldKnown-stands mine world is));
  }),
)

-- what is kept where the vault is as it was
pub Keeps-same : {D : Type 0} (g : Ghosts D) (mine new : World D) → new.vault ≡ mine.vault → Keeps g mine.vault.disk new.vault.disk
Keeps-same {D = D} g mine new same = subst (λ (v : Vault D). Keeps g mine.vault.disk v.disk) (sym same) (Keeps-none g mine.vault.disk)

-- and nothing else has changed
pub turn-stepped : {D T : Type 0} (g : Ghosts D) (mine later new : World D) (number : ℕ) (action : turn.Action) (line : answer.AnswerLine) (value : T)
    → TakesTurn mine later number action line → new ≡ later → Stepped g mine new (Ok value)
turn-stepped {D = D} {T = T} g mine later new number action line value takes new_is =
    subst (λ (w : World D). Stepped {T = T} g mine w (Ok value)) (sym new_is) (record {
      sound = takes.sound;
      begun = takes.begun;
      layout = ap (λ (v : Vault D). v.memory.layout) takes.vault;
      keeps = Keeps-same g mine later takes.vault;
      raised = tt;
      among = tt;
      damage = λ world is. tt;
      whole = λ told world is stand. tt;
    })

-- nor has it where there was no memory for the answer
pub turn-failed : {D T : Type 0} (g : Ghosts D) (mine later new : World D) (number : ℕ) (action : turn.Action) (line : answer.AnswerLine) (result : Result T StoreFault)
    → TakesTurn mine later number action line → new ≡ later → result ≡ Err store_fault.OutOfMemory → Stepped g mine new result
turn-failed {D = D} {T = T} g mine later new number action line result takes new_is result_is =
    subst (λ (r : Result T StoreFault). Stepped g mine new r) (sym result_is)
    (subst (λ (w : World D). Stepped {T = T} g mine w (Err store_fault.OutOfMemory)) (sym new_is) (record {
      sound = tt;
      begun = λ n have. tt;
      layout = ap (λ (v : Vault D). v.memory.layout) takes.vault;
      keeps = Keeps-same g mine later takes.vault;
      raised = tt;
      among = tt;
      damage = λ world is. tt;
      whole = λ told world is stand. tt;
    }))

-- a fault is the fault of the step
pub Stepped-err : {D T U : Type 0} (g : Ghosts D) (mine later : World D) (one : Result T StoreFault) (other : Result U StoreFault) (fault : StoreFault)
    → one ≡ Err fault → other ≡ Err fault → Stepped g mine later one → Stepped g mine later other
Stepped-err {T = T} {U = U} g mine later one other fault one_is other_is stepped =
    let failed : Stepped {T = T} g mine later (Err fault) = subst (λ (r : Result T StoreFault). Stepped g mine later r) one_is stepped in
    subst (λ (r : Result U StoreFault). Stepped g mine later r) (sym other_is) (record {
      sound = tt;
      begun = λ n have. tt;
      layout = failed.layout;
      keeps = failed.keeps;
      raised = failed.raised;
      among = failed.among;
      damage = failed.damage;
      whole = failed.whole;
    })

-- Where the vault is as it was, no page was written.
pub only-same : {D : Type 0} (g : Ghosts D) (mine later new : World D) → later.vault ≡ mine.vault → new ≡ later → OnlyReads g mine.vault.disk new.vault.disk
only-same {D = D} g mine later new same new_is =
    subst (λ (w : World D). OnlyReads g mine.vault.disk w.vault.disk) (sym new_is)
    (subst (λ (v : Vault D). OnlyReads g mine.vault.disk v.disk) (sym same) (OnlyReads-none g mine.vault.disk))
