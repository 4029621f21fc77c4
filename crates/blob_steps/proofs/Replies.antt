-- Replies to the sessions of a group's members.
use Rattle.std.proofs.Common.{◌≡◌, ℕ, zero, suc, ◌+◌, ◌==◌, Bool, true, false, ◌||◌, List, [], ◌∷◌, ◌++◌, length, take, Some, None, refl, sym, ◌∙◌, ap, arith, append_assoc}
use Rattle.std.specs.Prelude.{slice_get}
use Rattle.std.proofs.lemmas.List.Folds.{list_any-append}
use Rattle.group_plan.specs.Plans.{model_reply}
use Rattle.group_plan.specs.declared.plan.Reply.{Reply as ReplyTo}
use Rattle.store_model.specs.Answer as answer
use Rattle.store_model.specs.Answer.{answer_text}
use Rattle.store_model.specs.World.{reply_line}
use Rattle.blob_steps.specs.Sessions.{IsSet}
use Rattle.blob_steps.specs.Steps.{LeavesFree, Replying, is_of, replies_text, stage_left}
use Rattle.blob_steps.specs.declared.session.Session.{Session}
use Rattle.blob_steps.specs.declared.session.Stage.TheVariants.{Free}
use Rattle.blob_steps.specs.declared.world.World.{World}
use Rattle.blob_steps.proofs.Turning.{IsSet-each, same-self, sixteen-set}

plus-one : (i : ℕ) → i + 1 ≡ suc i
plus-one i = omega arith

-- one more of the first elements
take-one : (xs : List ℕ) (i x : ℕ) → slice_get xs i ≡ Some x → take (i + 1) xs ≡ take i xs ++ x ∷ []
take-one xs i x is = ap (λ (n : ℕ). take n xs) (plus-one i) ∙ take-more xs i is where
  take-more : (ys : List ℕ) (k : ℕ) → slice_get ys k ≡ Some x → take (suc k) ys ≡ take k ys ++ x ∷ []
  take-more [] k there = absurd (cc there)
  take-more (y ∷ ys) zero there = let same : y ≡ x = cc in ap (λ (z : ℕ). z ∷ []) same
  take-more (y ∷ ys) (suc k) there = ap (λ (zs : List ℕ). y ∷ zs) (take-more ys k there)

-- whether a session is that of one number more
is_of-more : (number : ℕ) (numbers : List ℕ) (one : ℕ) → is_of number (numbers ++ one ∷ []) ≡ (is_of number numbers || (number == one || false))
is_of-more number numbers one = list_any-append (λ (n : ℕ). number == n) numbers (one ∷ [])

either-true : (a b : Bool) → b ≡ true → (a || (b || false)) ≡ true
either-true true b is = refl
either-true false true is = refl
either-true false false is = absurd (cc is)

either-false : (a b : Bool) → b ≡ false → (a || (b || false)) ≡ a
either-false true b is = refl
either-false false true is = absurd (cc is)
either-false false false is = refl

-- none was replied to yet
pub Replying-none : {D : Type 0} (numbers : List ℕ) (mine : World D) → length mine.sessions.items ≡ 16 → Replying 0 numbers mine mine
Replying-none numbers mine sixteen = record {
  sessions = λ number one is. (one, is, refl, refl);
  sixteen = sixteen;
  queue = refl;
  vault = refl;
}

-- what is known of a session where replies were given
abbrev HasReplied : {D : Type 0} → List ℕ → World D → ℕ → ℕ → Session → Type 0
HasReplied numbers mine n number one =
    (was : Session) × (slice_get mine.sessions.items number ≡ Some was) × (one.begun ≡ was.begun) × (one.stage ≡ stage_left (is_of number (take n numbers)) was.stage)

-- one more was
pub Replying-next : {D : Type 0} (numbers : List ℕ) (mine now later : World D) (n session : ℕ) → slice_get numbers n ≡ Some session → Replying n numbers mine now
    → LeavesFree now later session → Replying (n + 1) numbers mine later
Replying-next numbers mine now later n session there so_far left =
    let free : Session = record { begun = left.one.begun; stage = Free } in
    let set_is : IsSet now.sessions.items later.sessions.items session left.one free = record { there = left.was; new_is = left.sessions } in
    let before = so_far.sessions session left.one left.was in
    let now_of : (number : ℕ) → is_of number (take (n + 1) numbers) ≡ (is_of number (take n numbers) || (number == session || false)) =
    λ number. ap (λ (ns : List ℕ). is_of number ns) (take-one numbers n session there) ∙ is_of-more number (take n numbers) session in
    let here : HasReplied numbers mine (n + 1) session free = (
      before.0,
      before.1,
      before.2,
      sym (ap (λ (b : Bool). stage_left b before.0.stage)
          (now_of session ∙ either-true (is_of session (take n numbers)) (session == session) (same-self session))),
    ) in
    record {
      sessions = IsSet-each now.sessions.items later.sessions.items session left.one free (HasReplied numbers mine (n + 1)) set_is here
          (λ number one other is.
          let was = so_far.sessions number one is in (
            was.0,
            was.1,
            was.2,
            was.3 ∙ sym (ap (λ (b : Bool). stage_left b was.0.stage)
                (now_of number ∙ either-false (is_of number (take n numbers)) (number == session) other)),
          ));
      sixteen = sixteen-set now.sessions.items later.sessions.items session left.one free set_is so_far.sixteen;
      queue = left.queue ∙ so_far.queue;
      vault = left.vault ∙ so_far.vault;
    }

-- the text of a reply to a session
abbrev reply_of_text : ℕ × ReplyTo → List ℕ
reply_of_text one = answer_text (answer.Session one.0 (reply_line (model_reply one.1)) None)

-- no replies have no text
pub replies_text-none : (numbers : List ℕ) → [] ≡ replies_text numbers []
replies_text-none [] = refl
replies_text-none (n ∷ numbers) = refl

append-none : (xs : List ℕ) → xs ++ [] ≡ xs
append-none [] = refl
append-none (x ∷ xs) = ap (λ ys. x ∷ ys) (append-none xs)

-- the text of one reply more
replies_text-more : (numbers : List ℕ) (replies : List ReplyTo) (i session : ℕ) (reply : ReplyTo) → slice_get numbers i ≡ Some session → slice_get replies i ≡ Some reply
    → replies_text numbers (take (suc i) replies) ≡ replies_text numbers (take i replies) ++ reply_of_text (session, reply)
replies_text-more [] replies i session reply is there = absurd (cc is)
replies_text-more (n ∷ numbers) [] i session reply is there = absurd (cc there)
replies_text-more (n ∷ numbers) (r ∷ replies) zero session reply is there =
    let one : n ≡ session = cc is in
    let other : r ≡ reply = cc in
    ap (λ (text : List ℕ). reply_of_text (n, r) ++ text) (sym (replies_text-none numbers)) ∙ append-none (reply_of_text (n, r))
    ∙ ap (λ (x : ℕ). reply_of_text (x, r)) one ∙ ap (λ (y : ReplyTo). reply_of_text (session, y)) other
replies_text-more (n ∷ numbers) (r ∷ replies) (suc i) session reply is there =
    ap (λ (text : List ℕ). reply_of_text (n, r) ++ text) (replies_text-more numbers replies i session reply is there)
    ∙ sym (append_assoc (reply_of_text (n, r)) (replies_text numbers (take i replies)) (reply_of_text (session, reply)))

pub replies_text-next : (numbers : List ℕ) (replies : List ReplyTo) (i session : ℕ) (reply : ReplyTo) (old new : List ℕ) → slice_get numbers i ≡ Some session
    → slice_get replies i ≡ Some reply → old ≡ replies_text numbers (take i replies) → new ≡ old ++ reply_of_text (session, reply)
    → new ≡ replies_text numbers (take (i + 1) replies)
replies_text-next numbers replies i session reply old new is there so_far new_is =
    new_is ∙ ap (λ (text : List ℕ). text ++ reply_of_text (session, reply)) so_far
    ∙ sym (ap (λ (n : ℕ). replies_text numbers (take n replies)) (plus-one i) ∙ replies_text-more numbers replies i session reply is there)
