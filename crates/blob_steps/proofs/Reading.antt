-- Reads and deletes in a session's open transaction.
use Rattle.std.proofs.Common.{◌≡◌, ◌≢◌, ℕ, Bool, true, false, cond, List, Option, Some, None, refl, sym, ◌∙◌, ap, subst}
use Rattle.std.specs.Prelude.{⊤, is_some, option_map}
use Rattle.std.specs.FinMap.{get}
use Rattle.blob_script.specs.Answers.{model_line}
use Rattle.blob_steps.specs.declared.look.Look.{Look}
use Rattle.blob_steps.specs.declared.look.Look.TheVariants as look
use Rattle.store_model.specs.Answer as answer
use Rattle.store_model.specs.Store.{Object, Store, content_at, content_of_object, number_at}
use Rattle.store_model.specs.Transaction as model
use Rattle.store_model.specs.Transaction.{Transaction}
use Rattle.store_model.specs.Turn as turn
use Rattle.store_model.specs.Turn.{Turned, changed_content, delete_found, is_one_too_many, is_stale, reading_turn, stage_turn, too_many, value_of, with_changed, with_read}
use Rattle.store_model.proofs.MapLaws.{get-map_values}
use Rattle.txn.specs.Refusals.{IsReadRefusal}
use Rattle.txn.specs.Requests.{model_change}
use Rattle.txn.specs.Txns.{MayRead, NoAppends, Parts, is_append, transaction_by, value_by}
use Rattle.txn.specs.Txns as value
use Rattle.txn.specs.declared.change.Change.{Change}
use Rattle.txn.specs.declared.change.Change.TheVariants as change
use Rattle.txn.specs.declared.refusal.TxnRefusal.{TxnRefusal}
use Rattle.txn.specs.declared.refusal.TxnRefusal.TheVariants as refusal
use Rattle.store_model.specs.World.{transaction_of}
use Rattle.blob_script.specs.declared.answer.AnswerLine.{AnswerLine}
use Rattle.blob_steps.specs.Sessions.{LooksTo, SessionStands, ShowsStored, StageStands, TurnsTo, look_action, refused_line}
use Rattle.blob_steps.specs.declared.session.Looked.TheVariants as looked
use Rattle.blob_steps.specs.declared.session.Session.{Session}
use Rattle.blob_steps.specs.declared.session.Stage.TheVariants as stage
use Rattle.blob_steps.specs.Looks.{show_of}

-- a change other than more bytes, or none
abbrev pub NoMore : Option model.Change → Type 0
NoMore (Some (model.More bytes)) = ⊥
NoMore _ = ⊤

whole-by : (o : Option Change) → ((one : Change) → o ≡ Some one → is_append one ≡ false) → NoMore (option_map model_change o)
whole-by None none = tt
whole-by (Some (change.Put content)) none = tt
whole-by (Some (change.Append extension)) none = absurd (let no : true ≡ false = none (change.Append extension) refl in cc)
whole-by (Some change.Del) none = tt

-- no transaction has one
pub no-more : (parts : Parts) (key : List ℕ) → NoAppends parts.changes → NoMore (get (transaction_by parts).changes key)
no-more parts key none = subst NoMore (sym (get-map_values model_change parts.changes key)) (whole-by (get parts.changes key) (λ one is. none key one is))

-- so no read finds own bytes behind the store's
pub never-extended : (one : Option model.Change) (there : Bool) → NoMore one → value_by one there ≡ value.Extended → ⊥
never-extended None false whole is = absurd (cc is)
never-extended None true whole is = absurd (cc is)
never-extended (Some (model.Put content)) there whole is = absurd (cc is)
never-extended (Some (model.More bytes)) there whole is = absurd whole
never-extended (Some model.Gone) there whole is = absurd (cc is)

-- the value of a key that has one
value-found : (one : Option model.Change) (stored : Option (List ℕ)) (there : Bool) → NoMore one → is_some stored ≡ there → value_by one there ≢ value.Absent
    → (content : List ℕ) × (changed_content one stored ≡ Some content)
value-found None None there whole is found = absurd (found (ap (value_by None) (sym is)))
value-found None (Some content) there whole is found = (content, refl)
value-found (Some (model.Put content)) stored there whole is found = (content, refl)
value-found (Some (model.More bytes)) stored there whole is found = absurd whole
value-found (Some model.Gone) stored there whole is found = absurd (found refl)

-- what the transaction itself puts
own-put : (one : Option model.Change) (there : Bool) → value_by one there ≡ value.Own → (content : List ℕ) × (one ≡ Some (model.Put content))
own-put None false is = absurd (cc is)
own-put None true is = absurd (cc is)
own-put (Some (model.Put content)) there is = (content, refl)
own-put (Some (model.More bytes)) there is = absurd (cc is)
own-put (Some model.Gone) there is = absurd (cc is)

-- what is made of something is there where that is
pub some-map : {X Y : Type 0} (f : X → Y) (o : Option X) → is_some (option_map f o) ≡ is_some o
some-map f None = refl
some-map f (Some x) = refl

-- an object has a content where it has a number
content-there : (object : Option Object) → is_some (content_of_object object) ≡ is_some (option_map (λ (o : Object). o.number) object)
content-there None = refl
content-there (Some object) = refl

-- a key without a value
value-missing : (one : Option model.Change) (stored : Option (List ℕ)) (there : Bool) → is_some stored ≡ there → value_by one there ≡ value.Absent
    → changed_content one stored ≡ None
value-missing None None there is none = refl
value-missing None (Some content) false is none = absurd (cc is)
value-missing None (Some content) true is none = absurd (cc none)
value-missing (Some (model.Put content)) stored there is none = absurd (cc none)
value-missing (Some (model.More bytes)) stored there is none = absurd (cc none)
value-missing (Some model.Gone) stored there is none = refl

-- what the store has is shown where the transaction has no change of the key, and the store has it
stored-known : (one : Option model.Change) (now : Option ℕ) → value_by one (is_some now) ≡ value.Stored → (one ≡ None) × ((born : ℕ) × (now ≡ Some born))
stored-known None None is = absurd (cc is)
stored-known None (Some born) is = (refl, (born, refl))
stored-known (Some (model.Put content)) now is = absurd (cc is)
stored-known (Some (model.More bytes)) now is = absurd (cc is)
stored-known (Some model.Gone) now is = absurd (cc is)

value-apart : value.Stored ≡ value.Absent → ⊥
value-apart is = absurd (cc is)

-- a change is there, or none
put-changed : (one : Option model.Change) (change : model.Change) → one ≡ Some change → one ≡ None → ⊥
put-changed one change there none = let both : Some change ≡ None = sym there ∙ none in absurd (cc both)

true-false : (b : Bool) → b ≡ true → b ≡ false → ⊥
true-false b is not_so = let both : true ≡ false = sym is ∙ not_so in absurd (cc both)

-- nothing is shown of a key without a value
show-none : (one : Look) → show_of one None ≡ answer.Absent
show-none look.Get = refl
show-none look.Stat = refl

module _ (store : Store) (t : Transaction) (key : List ℕ) (now : Option ℕ) (number_is : number_at store key ≡ now) where
  -- a read that isn't refused
  reading-passes : (next : Option (List ℕ) → Transaction → Turned) → MayRead t key now → reading_turn store t key next ≡ next (value_of store t key) (with_read store.last now t key)
  reading-passes next may =
      let last : Turned = next (value_of store t key) (with_read store.last (number_at store key) t key) in
      let stale : Turned = record { line = answer.Stale (number_at store key); stage = turn.Open t } in
      ap (λ (b : Bool). cond b (too_many t) (cond (is_stale (number_at store key) t key) stale last)) may.room
      ∙ ap (λ (b : Bool). cond b stale last) (ap (λ (n : Option ℕ). is_stale n t key) number_is ∙ may.fresh)
      ∙ ap (λ (n : Option ℕ). next (value_of store t key) (with_read store.last n t key)) number_is

  -- and one that is
  reading-full : (next : Option (List ℕ) → Transaction → Turned) → is_one_too_many t key ≡ true → reading_turn store t key next ≡ too_many t
  reading-full next full =
      let last : Turned = next (value_of store t key) (with_read store.last (number_at store key) t key) in
      let stale : Turned = record { line = answer.Stale (number_at store key); stage = turn.Open t } in
      ap (λ (b : Bool). cond b (too_many t) (cond (is_stale (number_at store key) t key) stale last)) full

  reading-stale : (next : Option (List ℕ) → Transaction → Turned) → is_one_too_many t key ≡ false → is_stale now t key ≡ true
      → reading_turn store t key next ≡ record { line = answer.Stale now; stage = turn.Open t }
  reading-stale next room moved =
      let last : Turned = next (value_of store t key) (with_read store.last (number_at store key) t key) in
      let stale : Turned = record { line = answer.Stale (number_at store key); stage = turn.Open t } in
      ap (λ (b : Bool). cond b (too_many t) (cond (is_stale (number_at store key) t key) stale last)) room
      ∙ ap (λ (b : Bool). cond b stale last) (ap (λ (n : Option ℕ). is_stale n t key) number_is ∙ moved)
      ∙ ap (λ (n : Option ℕ). record { line = answer.Stale n; stage = turn.Open t }) number_is

-- An open transaction of a session, read or changed to another: what the program has of it before and after.
pub record IsOpen (mine : Session) (old new : Parts) (store : Store) (theirs : turn.Session) (number : ℕ) (key : List ℕ) (now : Option ℕ) (front : ℕ) : Type 0 where
  pub opened : mine.stage ≡ stage.Open old
  pub last : store.last ≡ front
  pub number_is : number_at store key ≡ now
  pub stands : SessionStands mine number theirs
  pub session : new.session ≡ old.session
  pub nth : new.nth ≡ old.nth

module _ (mine : Session) (old new : Parts) (store : Store) (theirs : turn.Session) (number : ℕ) (key : List ℕ) (now : Option ℕ) (front : ℕ)
    (is : IsOpen mine old new store theirs number key now front) where
  stood : (theirs.stage ≡ turn.Open (transaction_by old)) × (old.session ≡ number) × (old.nth ≡ mine.begun)
  stood = subst (λ s. StageStands s number mine.begun theirs.stage) is.opened is.stands.stage

  -- the transaction of a look that shows what the store has
  shows-open : (shows : ShowsStored store theirs key) → shows.transaction ≡ transaction_by old
  shows-open shows = let both : turn.Open shows.transaction ≡ turn.Open (transaction_by old) = sym shows.opened ∙ stood.0 in cc

  fresh-now : ShowsStored store theirs key → is_stale now (transaction_by old) key ≡ false
  fresh-now shows =
      ap (λ (n : Option ℕ). is_stale n (transaction_by old) key) (sym is.number_is)
      ∙ ap (λ (u : Transaction). is_stale (number_at store key) u key) (sym (shows-open shows)) ∙ shows.fresh

  value-stored : ShowsStored store theirs key → value_by (get (transaction_by old).changes key) (is_some now) ≡ value.Stored
  value-stored shows =
      ap (λ (c : Option model.Change). value_by c (is_some now)) (ap (λ (u : Transaction). get u.changes key) (sym (shows-open shows)) ∙ shows.unchanged)
      ∙ ap (λ (n : Option ℕ). value_by None (is_some n)) (sym is.number_is ∙ shows.there)

  -- the session after an action that leads to the new transaction
  stands-open : (action : turn.Action) (line : answer.AnswerLine) → turn.begun_after action theirs.stage theirs.begun ≡ theirs.begun
      → turn.turn store theirs action ≡ record { line = line; stage = turn.Open (transaction_by new) }
      → SessionStands (record { begun = mine.begun; stage = stage.Open new }) number (turn.session_after theirs action (turn.turn store theirs action))
  stands-open action line begun turned = record {
    begun = is.stands.begun ∙ sym begun;
    stage = (ap (λ (done : Turned). done.stage) turned, is.session ∙ stood.1, is.nth ∙ stood.2);
  }

  -- a delete of a key that was there
  pub delete-turns : NoAppends old.changes → MayRead (transaction_by old) key now → value_by (get (transaction_by old).changes key) (is_some now) ≢ value.Absent
      → transaction_by new ≡ with_changed (with_read front now (transaction_by old) key) key model.Gone
      → TurnsTo store theirs (turn.Delete key) number (record { begun = mine.begun; stage = stage.Open new }) answer.Deleted
  delete-turns none may found new_is =
      let t : Transaction = transaction_by old in
      let there : is_some (content_at store key) ≡ is_some now = content-there (get store.objects key) ∙ ap (λ (n : Option ℕ). is_some n) is.number_is in
      let content = value-found (get t.changes key) (content_at store key) (is_some now) (no-more old key none) there found in
      let after : Transaction = with_changed (with_read store.last now t key) key model.Gone in
      let after_is : after ≡ transaction_by new = ap (λ (n : ℕ). with_changed (with_read n now t key) key model.Gone) is.last ∙ sym new_is in
      let turned : turn.turn store theirs (turn.Delete key) ≡ record { line = answer.Deleted; stage = turn.Open (transaction_by new) } =
      ap (λ (s : turn.Stage). stage_turn store s (turn.Delete key)) stood.0
      ∙ reading-passes store t key now is.number_is (delete_found key) may
      ∙ ap (λ (v : Option (List ℕ)). delete_found key v (with_read store.last now t key)) content.1
      ∙ ap (λ (u : Transaction). record { line = answer.Deleted; stage = turn.Open u }) after_is in
      record {
        line_is = sym (ap (λ (done : Turned). done.line) turned);
        stands = stands-open (turn.Delete key) answer.Deleted refl turned;
      }

  -- a look is a read that shows what it finds
  look-turns : (one : Look) → turn.turn store theirs (look_action one key) ≡ turn.look_turn (show_of one) store (transaction_by old) key
  look-turns look.Get = ap (λ (s : turn.Stage). stage_turn store s (turn.Get key)) stood.0
  look-turns look.Stat = ap (λ (s : turn.Stage). stage_turn store s (turn.Stat key)) stood.0

  look-begun : (one : Look) → turn.begun_after (look_action one key) theirs.stage theirs.begun ≡ theirs.begun
  look-begun look.Get = refl
  look-begun look.Stat = refl

  -- it shows what the transaction itself puts
  pub look-own : (one : Look) → MayRead (transaction_by old) key now → value_by (get (transaction_by old).changes key) (is_some now) ≡ value.Own
      → transaction_by new ≡ with_read front now (transaction_by old) key
      → LooksTo one store theirs key number (record { begun = mine.begun; stage = stage.Open new }) looked.Own
  look-own one may own new_is =
      let t : Transaction = transaction_by old in
      let put = own-put (get t.changes key) (is_some now) own in
      let same : (transaction_by new).changes ≡ t.changes = ap (λ (u : Transaction). u.changes) new_is in
      let put_now : get (transaction_by new).changes key ≡ Some (model.Put put.0) = ap (λ cs. get cs key) same ∙ put.1 in
      let after_is : with_read store.last now t key ≡ transaction_by new = ap (λ (n : ℕ). with_read n now t key) is.last ∙ sym new_is in
      let turned : turn.turn store theirs (look_action one key) ≡ record { line = show_of one (Some put.0); stage = turn.Open (transaction_by new) } =
      look-turns one
      ∙ reading-passes store t key now is.number_is (λ v after. record { line = show_of one v; stage = turn.Open after }) may
      ∙ ap (λ (c : Option model.Change). record { line = show_of one (changed_content c (content_at store key)); stage = turn.Open (with_read store.last now t key) }) put.1
      ∙ ap (λ (u : Transaction). record { line = show_of one (Some put.0); stage = turn.Open u }) after_is in
      record {
        line_is = ap (λ (done : Turned). done.line) turned
            ∙ sym (ap (λ (s : turn.Stage). show_of one (Some (value.own_bytes (get (transaction_of s).changes key)))) (ap (λ (done : Turned). done.stage) turned)
            ∙ ap (λ (c : Option model.Change). show_of one (Some (value.own_bytes c))) put_now);
        stands = stands-open (look_action one key) (show_of one (Some put.0)) (look-begun one) turned;
        put = (transaction_by new, ap (λ (done : Turned). done.stage) turned, (put.0, put_now));
        stored = (
          λ same. absurd (cc same),
          λ shows. absurd (put-changed (get t.changes key) (model.Put put.0) put.1 (ap (λ (u : Transaction). get u.changes key) (sym (shows-open shows)) ∙ shows.unchanged)),
        );
      }

  -- a look that is refused leaves the transaction as it was
  pub look-refused : (one : Look) (why : TxnRefusal) (line : AnswerLine) → IsReadRefusal (transaction_by old) key now why → refused_line why ≡ Some (model_line line) → new ≡ old
      → LooksTo one store theirs key number (record { begun = mine.begun; stage = stage.Open new }) (looked.Line line)
  look-refused one refusal.Absent line refused told same = absurd refused
  look-refused one (refusal.TooLong size) line refused told same = absurd refused
  look-refused one refusal.OutOfMemory line refused told same = absurd (cc told)
  look-refused one (refusal.TooMany keys) line refused told same =
      let t : Transaction = transaction_by old in
      let line_is : answer.TooMany keys ≡ model_line line = cc in
      let turned : turn.turn store theirs (look_action one key) ≡ record { line = model_line line; stage = turn.Open (transaction_by new) } =
      look-turns one ∙ reading-full store t key now is.number_is (λ v after. record { line = show_of one v; stage = turn.Open after }) refused.0
      ∙ ap (λ (l : answer.AnswerLine). record { line = l; stage = turn.Open t }) (ap (λ (n : ℕ). answer.TooMany n) (sym refused.1) ∙ line_is)
      ∙ ap (λ (p : Parts). record { line = model_line line; stage = turn.Open (transaction_by p) }) (sym same) in
      record {
        line_is = ap (λ (done : Turned). done.line) turned;
        stands = stands-open (look_action one key) (model_line line) (look-begun one) turned;
        put = tt;
        stored = (
          λ same. absurd (cc same),
          λ shows. absurd (true-false (is_one_too_many t key) refused.0 (ap (λ (u : Transaction). is_one_too_many u key) (sym (shows-open shows)) ∙ shows.few)),
        );
      }
  look-refused one (refusal.Stale number_now) line refused told same =
      let t : Transaction = transaction_by old in
      let line_is : answer.Stale number_now ≡ model_line line = cc in
      let turned : turn.turn store theirs (look_action one key) ≡ record { line = model_line line; stage = turn.Open (transaction_by new) } =
      look-turns one ∙ reading-stale store t key now is.number_is (λ v after. record { line = show_of one v; stage = turn.Open after }) refused.0 refused.1
      ∙ ap (λ (l : answer.AnswerLine). record { line = l; stage = turn.Open t }) (ap (λ (n : Option ℕ). answer.Stale n) (sym refused.2) ∙ line_is)
      ∙ ap (λ (p : Parts). record { line = model_line line; stage = turn.Open (transaction_by p) }) (sym same) in
      record {
        line_is = ap (λ (done : Turned). done.line) turned;
        stands = stands-open (look_action one key) (model_line line) (look-begun one) turned;
        put = tt;
        stored = (
          λ same. absurd (cc same),
          λ shows. absurd (true-false (is_stale now t key) refused.1 (fresh-now shows)),
        );
      }

  -- it shows nothing where the key has no value
  pub look-absent : (one : Look) (line : AnswerLine) → model_line line ≡ answer.Absent → MayRead (transaction_by old) key now
      → value_by (get (transaction_by old).changes key) (is_some now) ≡ value.Absent → transaction_by new ≡ with_read front now (transaction_by old) key
      → LooksTo one store theirs key number (record { begun = mine.begun; stage = stage.Open new }) (looked.Line line)
  look-absent one line line_absent may none new_is =
      let t : Transaction = transaction_by old in
      let there : is_some (content_at store key) ≡ is_some now = content-there (get store.objects key) ∙ ap (λ (n : Option ℕ). is_some n) is.number_is in
      let nothing : changed_content (get t.changes key) (content_at store key) ≡ None = value-missing (get t.changes key) (content_at store key) (is_some now) there none in
      let after_is : with_read store.last now t key ≡ transaction_by new = ap (λ (n : ℕ). with_read n now t key) is.last ∙ sym new_is in
      let turned : turn.turn store theirs (look_action one key) ≡ record { line = model_line line; stage = turn.Open (transaction_by new) } =
      look-turns one
      ∙ reading-passes store t key now is.number_is (λ v after. record { line = show_of one v; stage = turn.Open after }) may
      ∙ ap (λ (v : Option (List ℕ)). record { line = show_of one v; stage = turn.Open (with_read store.last now t key) }) nothing
      ∙ ap (λ (l : answer.AnswerLine). record { line = l; stage = turn.Open (with_read store.last now t key) }) (show-none one ∙ sym line_absent)
      ∙ ap (λ (u : Transaction). record { line = model_line line; stage = turn.Open u }) after_is in
      record {
        line_is = ap (λ (done : Turned). done.line) turned;
        stands = stands-open (look_action one key) (model_line line) (look-begun one) turned;
        put = tt;
        stored = (
          λ same. absurd (cc same),
          λ shows. absurd (value-apart (sym (value-stored shows) ∙ none)),
        );
      }

  -- it shows what the store has
  pub look-stored : (one : Look) → MayRead (transaction_by old) key now → value_by (get (transaction_by old).changes key) (is_some now) ≡ value.Stored
      → transaction_by new ≡ with_read front now (transaction_by old) key
      → LooksTo one store theirs key number (record { begun = mine.begun; stage = stage.Open new }) looked.Stored
  look-stored one may from_store new_is =
      let t : Transaction = transaction_by old in
      let known = stored-known (get t.changes key) now from_store in
      let after_is : with_read store.last now t key ≡ transaction_by new = ap (λ (n : ℕ). with_read n now t key) is.last ∙ sym new_is in
      let turned : turn.turn store theirs (look_action one key) ≡ record { line = show_of one (content_at store key); stage = turn.Open (transaction_by new) } =
      look-turns one
      ∙ reading-passes store t key now is.number_is (λ v after. record { line = show_of one v; stage = turn.Open after }) may
      ∙ ap (λ (c : Option model.Change). record { line = show_of one (changed_content c (content_at store key)); stage = turn.Open (with_read store.last now t key) }) known.0
      ∙ ap (λ (u : Transaction). record { line = show_of one (content_at store key); stage = turn.Open u }) after_is in
      record {
        line_is = ap (λ (done : Turned). done.line) turned;
        stands = stands-open (look_action one key) (show_of one (content_at store key)) (look-begun one) turned;
        put = tt;
        stored = (
          λ same. record {
            transaction = t;
            opened = stood.0;
            few = may.room;
            fresh = ap (λ (n : Option ℕ). is_stale n t key) is.number_is ∙ may.fresh;
            unchanged = known.0;
            born = known.1.0;
            there = is.number_is ∙ known.1.1;
          },
          λ shows. refl,
        );
      }
