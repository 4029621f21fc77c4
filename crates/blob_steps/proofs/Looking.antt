-- Looks at keys, over the program's world.
use Rattle.std.proofs.Common.{◌≡◌, ℕ, IsTrue, List, [], ◌++◌, Option, Some, None, Result, Ok, refl, sym, ◌∙◌, ap, subst, arith}
use Rattle.std.specs.FinMap.{FinMap, get}
use Rattle.std.specs.Prelude.{IfOk, option_map}
use Rattle.blob_script.specs.Answers.{model_line}
use Rattle.blob_script.specs.declared.answer.AnswerLine.{AnswerLine}
use Rattle.blob_steps.specs.Looks.{show_of}
use Rattle.blob_steps.specs.declared.look.Look.{Look}
use Rattle.blob_steps.specs.declared.look.Look.TheVariants as look
use Rattle.disk_model.specs.Disks.{Keeps, OnlyReads}
use Rattle.disk_model.specs.declared.disk.Disk.{Ghosts}
use Rattle.store_model.specs.Answer as answer
use Rattle.store_model.specs.Answer.{answer_text}
use Rattle.store_model.specs.Cost.{Reads}
use Rattle.store_model.specs.Key.{key_order}
use Rattle.store_model.specs.Play.{transact}
use Rattle.store_model.specs.Script as script
use Rattle.store_model.specs.Standing.{AllHeld, SameObjects}
use Rattle.store_model.specs.Store.{Object, content_at}
use Rattle.store_model.specs.Turn as turn
use Rattle.store_model.specs.Turn.{session_after}
use Rattle.store_model.specs.World as model
use Rattle.store_model.specs.World.{Outcome, transaction_of, with_session}
use Rattle.txn.specs.Txns.{own_bytes}
use Rattle.vault.specs.declared.memory.Memory.{Memory}
use Rattle.vault.specs.declared.vault.Vault.{Vault}
use Rattle.blob_steps.specs.Faults.{DamageAt, IsDamageAmong, NamesGet}
use Rattle.blob_steps.specs.declared.fault.StoreFault.{StoreFault}
use Rattle.blob_steps.specs.declared.fault.StoreFault.TheVariants as store_fault
use Rattle.store_model.specs.State.{State}
use Rattle.store_model.specs.Verify.{IsDamage}
use Rattle.blob_steps.specs.Sessions.{HasLooked, IsPut, LooksTo, look_action, looked_line}
use Rattle.blob_steps.specs.Steps.{CameTo, Did, IsWorld, Stepped, WorldKnown, WorldStands}
use Rattle.blob_steps.specs.declared.session.Looked.{Looked}
use Rattle.blob_steps.specs.declared.session.Looked.TheVariants as looked
use Rattle.blob_steps.specs.declared.world.World.{World}
use Rattle.blob_steps.proofs.Answering.{Did-none, transact-still}
use Rattle.blob_steps.proofs.Doing.{Did-reads}
use Rattle.blob_steps.proofs.Turning.{LeavesQueue, Moves, Moves-alone, WorldKnown-stands, same-self, session-here}

look-leaves : (one : Look) (key : List ℕ) → LeavesQueue (look_action one key)
look-leaves look.Get key = λ stage queue number. refl
look-leaves look.Stat key = λ stage queue number. refl

-- The vault has in memory what it had, and is shut where it was.
pub record WasLooked {D : Type 0} (mine new : World D) : Type 0 where
  pub memory : new.vault.memory ≡ mine.vault.memory
  pub shut : new.vault.shut ≡ mine.vault.shut
  pub queue : new.queue ≡ mine.queue

-- so it is where the vault is as it was
pub same-looked : {D : Type 0} (mine new : World D) → new.vault ≡ mine.vault → new.queue ≡ mine.queue → WasLooked mine new
same-looked {D = D} mine new same queue = record {
  memory = ap (λ (v : Vault D). v.memory) same;
  shut = ap (λ (v : Vault D). v.shut) same;
  queue = queue;
}

-- what came of a step is told of the same world
pub came-as : {D : Type 0} (g : Ghosts D) (world : model.World) (outcome : Outcome) (text : List ℕ) (mine new later : World D) → later ≡ new
    → CameTo g world outcome text mine new → CameTo g world outcome text mine later
came-as {D = D} g world outcome text mine new later same came = subst (λ (w : World D). CameTo g world outcome text mine w) (sym same) came

module _ {D : Type 0} (g : Ghosts D) (mine new : World D) (number : ℕ) (key : List ℕ) (found : Looked) (sound : IsWorld mine) (left : WasLooked mine new)
    (done : HasLooked mine.vault.memory mine.sessions.items new.sessions.items number key found) where
  pub looks-in : (one : Look) (world : model.World) → WorldKnown mine world → LooksTo one world.store (world.sessions number) key number done.later found
  looks-in one world is = done.looks one (world.sessions number) world.store is.store (is.sessions number done.was done.set_is.there)

  pub look-moves : (one : Look) → Moves mine new number (look_action one key)
  look-moves one =
      Moves-alone mine new number done.was done.later (look_action one key) sound
      (record {
        set_is = done.set_is;
        memory = left.memory;
        unshut = left.shut ∙ sound.unshut;
        queue = left.queue;
        begun = omega (arith, done.begun);
        waits = done.waits;
      })
      (λ world is. (looks-in one world is).stands) (done.some one)
      (λ world is. look-leaves one key (world.sessions number).stage world.queue number)

  -- a look leaves a sound world
  pub look-stepped : {T : Type 0} (one : Look) (later : World D) (value : T) → later ≡ new → Keeps g mine.vault.disk new.vault.disk → Stepped g mine later (Ok value)
  look-stepped {T = T} one later value later_is keeps =
      let moves = look-moves one in
      subst (λ (w : World D). Stepped {T = T} g mine w (Ok value)) (sym later_is) (record {
        sound = moves.sound;
        begun = moves.begun;
        layout = ap (λ (m : Memory). m.layout) left.memory;
        keeps = keeps;
        raised = tt;
        among = tt;
        damage = λ world is. tt;
        whole = λ told world is stand. tt;
      })

  module _ (one : Look) (world : model.World) (is : WorldStands mine world) where
    -- what the look is answered
    abbrev shown_line : answer.AnswerLine
    shown_line = (turn.turn world.store (world.sessions number) (look_action one key)).line

    -- the world after it
    abbrev after : model.World
    after = (transact world number (look_action one key)).world

    came-look : (text : List ℕ) → Did g world.store (transact world number (look_action one key)) mine new
        → (IsTrue g.tells → AllHeld (g.story mine.vault.disk).reads mine.vault.memory.layout world.store.objects → text ≡ answer_text (answer.Session number shown_line None))
        → CameTo g world (transact world number (look_action one key)) text mine new
    came-look text did told = record { stands = (look-moves one).stands world is; did = did; text_is = told }

    -- it is answered without the store
    pub came-line : (text : List ℕ) (line : AnswerLine) → found ≡ looked.Line line → new.vault ≡ mine.vault
        → text ≡ [] ++ answer_text (answer.Session number (model_line line) None) → CameTo g world (transact world number (look_action one key)) text mine new
    came-line text line found_is same text_is =
        let line_is : shown_line ≡ model_line line =
        (looks-in one world (WorldKnown-stands mine world is)).line_is
        ∙ ap (λ (f : Looked). looked_line one world.store (turn.turn world.store (world.sessions number) (look_action one key)).stage key f) found_is in
        came-look text (Did-none g world.store (transact world number (look_action one key)) mine new (transact-still world number (look_action one key)) same)
        (λ told stand. text_is ∙ ap (λ (l : answer.AnswerLine). answer_text (answer.Session number l None)) (sym line_is))

    -- it is answered by the store
    pub came-stored : {E : Type 0} (text : List ℕ) (shown : Result AnswerLine E) (line : AnswerLine) → shown ≡ Ok line → found ≡ looked.Stored
        → OnlyReads g mine.vault.disk new.vault.disk → (IsTrue g.tells → Reads (g.calls mine.vault.disk) (g.calls new.vault.disk))
        → (IsTrue g.tells → (objects : FinMap key_order Object) → SameObjects mine.vault.memory.relation.states objects
        → AllHeld (g.story mine.vault.disk).reads mine.vault.memory.layout objects
        → IfOk shown (λ l. model_line l ≡ show_of one (option_map (λ (o : Object). o.content) (get objects key))))
        → text ≡ [] ++ answer_text (answer.Session number (model_line line) None) → CameTo g world (transact world number (look_action one key)) text mine new
    came-stored text shown line shown_is found_is only reads shows text_is =
        let line_is : shown_line ≡ show_of one (content_at world.store key) =
        (looks-in one world (WorldKnown-stands mine world is)).line_is
        ∙ ap (λ (f : Looked). looked_line one world.store (turn.turn world.store (world.sessions number) (look_action one key)).stage key f) found_is in
        came-look text
        (Did-reads g world.store (transact world number (look_action one key)) mine new (transact-still world number (look_action one key)) left.memory only reads)
        (λ told stand. text_is ∙ ap (λ (l : answer.AnswerLine). answer_text (answer.Session number l None))
        (answered told stand ∙ sym line_is)) where
          answered : IsTrue g.tells → AllHeld (g.story mine.vault.disk).reads mine.vault.memory.layout world.store.objects → model_line line ≡ show_of one (content_at world.store key)
          answered told stand =
              subst (λ (r : Result AnswerLine _). IfOk r (λ l. model_line l ≡ show_of one (content_at world.store key))) shown_is
              (shows told world.store.objects is.store.objects stand)

    -- it is answered what the transaction itself puts
    pub came-own : (text : List ℕ) → found ≡ looked.Own → new.vault ≡ mine.vault
        → ((later : model.World) → WorldStands new later → IsPut (later.sessions number).stage key looked.Own
        → text ≡ [] ++ answer_text (answer.Session number (show_of one (Some (own_bytes (get (transaction_of (later.sessions number).stage).changes key)))) None))
        → CameTo g world (transact world number (look_action one key)) text mine new
    came-own text found_is same shows =
        let looks : LooksTo one world.store (world.sessions number) key number done.later looked.Own =
        subst (LooksTo one world.store (world.sessions number) key number done.later) found_is (looks-in one world (WorldKnown-stands mine world is)) in
        let session : turn.Session = session_after (world.sessions number) (look_action one key) (turn.turn world.store (world.sessions number) (look_action one key)) in
        let here : with_session world.sessions number session number ≡ session = session-here world.sessions number session number (same-self number) in
        let put : IsPut (after.sessions number).stage key looked.Own = subst (λ (s : turn.Session). IsPut s.stage key looked.Own) (sym here) looks.put in
        came-look text (Did-none g world.store (transact world number (look_action one key)) mine new (transact-still world number (look_action one key)) same)
        (λ told stand. shows after ((look-moves one).stands world is) put
        ∙ ap (λ (s : turn.Session). answer_text (answer.Session number (show_of one (Some (own_bytes (get (transaction_of s.stage).changes key)))) None)) here
        ∙ ap (λ (l : answer.AnswerLine). answer_text (answer.Session number l None)) (sym looks.line_is))

-- damage that a look shows is that of the key's state
pub shown-among : (states : FinMap key_order State) (key : List ℕ) (fault : StoreFault) → DamageAt key (get states key) fault → IsDamageAmong states fault
shown-among states key store_fault.Failed damaged = tt
shown-among states key store_fault.OutOfMemory damaged = tt
shown-among states key (store_fault.Damaged damaged_key link want got) damaged =
    let found = among-one (get states key) damaged in
    (found.0, ap (get states) found.3 ∙ found.1, found.2) where
      among-one : (state : Option State) → DamageAt key state (store_fault.Damaged damaged_key link want got)
          → (one : State) × (state ≡ Some one) × IsDamage one link want got × (damaged_key ≡ key)
      among-one None is = absurd is
      among-one (Some one) is = (one, refl, is.1, is.0)

-- and it is that of the key that is got
pub shown-named : (one : Look) (session : ℕ) (key : List ℕ) (state : Option State) (fault : StoreFault) → one ≡ look.Get → DamageAt key state fault
    → NamesGet (script.Session session (script.Transact (look_action one key))) fault
shown-named one session key state store_fault.Failed got damaged = tt
shown-named one session key state store_fault.OutOfMemory got damaged = tt
shown-named one session key None (store_fault.Damaged damaged_key link want given) got damaged = absurd damaged
shown-named one session key (Some state) (store_fault.Damaged damaged_key link want given) got damaged = (
  session,
  ap (λ (l : Look). script.Session session (script.Transact (look_action l key))) got
      ∙ ap (λ (k : List ℕ). script.Session session (script.Transact (turn.Get k))) (sym damaged.0),
)
