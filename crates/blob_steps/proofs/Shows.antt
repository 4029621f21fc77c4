-- What a look shows, as text.
use Rattle.std.proofs.Common.{◌≡◌, ℕ, List, [], ◌++◌, length, Option, Some, None, sym, ◌∙◌, ap, Result, OnOk}
use Rattle.std.specs.Prelude.{option_map}
use Rattle.std.specs.FinMap.{get}
use Rattle.blob_state.specs.declared.values.Print.{Print}
use Rattle.blob_steps.specs.Looks.{show_of}
use Rattle.blob_steps.specs.declared.look.Look.TheVariants as look
use Rattle.store_model.specs.Answer as answer
use Rattle.store_model.specs.Answer.{answer_text}
use Rattle.store_model.specs.Hash.{sha256}
use Rattle.store_model.specs.Transaction as model
use Rattle.store_model.specs.Transaction.{Transaction}
use Rattle.store_model.specs.Turn as turn
use Rattle.store_model.specs.World.{transaction_of}
use Rattle.txn.specs.Txns.{own_bytes, print_by}
use Rattle.blob_steps.proofs.Turning.{on-ok}

-- a text of a line that is another's
pub same-text : {X E : Type 0} (r : Result X E) (new text : List ℕ) (session : ℕ) (one other : answer.AnswerLine) → one ≡ other
    → OnOk r (new ≡ text ++ answer_text (answer.Session session one None)) → OnOk r (new ≡ text ++ answer_text (answer.Session session other None))
same-text r new text session one other same =
    on-ok r (λ is. is ∙ ap (λ (l : answer.AnswerLine). text ++ answer_text (answer.Session session l None)) same)

-- the size and the digest that are printed of a content that the transaction puts
pub stat-own : (printed : Option Print) (print : Print) (stage : turn.Stage) (transaction : Transaction) (content key : List ℕ) → printed ≡ Some print
    → option_map (λ (p : Print). (p.size, p.digest.bytes)) printed ≡ print_by (get transaction.changes key) → stage ≡ turn.Open transaction
    → get transaction.changes key ≡ Some (model.Put content)
    → answer.Stat print.size print.digest.bytes ≡ show_of look.Stat (Some (own_bytes (get (transaction_of stage).changes key)))
stat-own printed print stage transaction content key is told opened put =
    let both : Some (print.size, print.digest.bytes) ≡ Some (length content, sha256 content) =
    sym (ap (λ (o : Option Print). option_map (λ (p : Print). (p.size, p.digest.bytes)) o) is) ∙ told ∙ ap (λ (o : Option model.Change). print_by o) put in
    let size : print.size ≡ length content = ap (λ (o : Option (ℕ × List ℕ)). first_or o) both in
    let digest : print.digest.bytes ≡ sha256 content = ap (λ (o : Option (ℕ × List ℕ)). second_or o) both in
    ap (λ (n : ℕ). answer.Stat n print.digest.bytes) size ∙ ap (λ (d : List ℕ). answer.Stat (length content) d) digest
    ∙ ap (λ (o : Option model.Change). show_of look.Stat (Some (own_bytes o))) (sym put)
    ∙ ap (λ (s : turn.Stage). show_of look.Stat (Some (own_bytes (get (transaction_of s).changes key)))) (sym opened) where
      first_or : Option (ℕ × List ℕ) → ℕ
      first_or None = 0
      first_or (Some p) = p.0

      second_or : Option (ℕ × List ℕ) → List ℕ
      second_or None = []
      second_or (Some p) = p.1

-- they are printed
pub none-printed : (printed : Option Print) (transaction : Transaction) (content key : List ℕ) → printed ≡ None
    → option_map (λ (p : Print). (p.size, p.digest.bytes)) printed ≡ print_by (get transaction.changes key)
    → get transaction.changes key ≡ Some (model.Put content) → ⊥
none-printed printed transaction content key is told put =
    let both : None ≡ Some (length content, sha256 content) =
    sym (ap (λ (o : Option Print). option_map (λ (p : Print). (p.size, p.digest.bytes)) o) is) ∙ told ∙ ap (λ (o : Option model.Change). print_by o) put in
    absurd (cc both)
