-- What writes do to the bytes of states, and writes that are left to be made.
use Rattle.std.proofs.Common.{◌≡◌, ℕ, ◌+◌, ◌*◌, ◌≤◌, List, ◌∷◌, length, sym, ◌∙◌, ap, arith}
use Rattle.std.specs.FinMap.{FinMap, insert, remove}
use Rattle.frame_codec.specs.declared.entry.Write.{Write}
use Rattle.relation.specs.Changes.{with_write, with_writes}
use Rattle.relation.specs.Parts.{encoded_by}
use Rattle.store_model.specs.Key.{key_order}
use Rattle.store_model.specs.State.{State}
use Rattle.store_model.specs.Tuple.{greatest_tuple, spelling}
use Rattle.store_model.proofs.EntryLaws.{sum-insert}
use Rattle.store_model.proofs.RemovalLaws.{sum-remove}

-- the states take no more bytes than those of one more state
pub encoded-insert : (states : FinMap key_order State) (key : List ℕ) (state : State) → length (spelling key state) ≤ greatest_tuple
    → encoded_by (insert states key state) ≤ encoded_by states + greatest_tuple
encoded-insert states key state few = omega (arith, sum-insert (λ (k : List ℕ) (s : State). length (spelling k s)) states key state, few)

pub encoded-remove : (states : FinMap key_order State) (key : List ℕ) → encoded_by (remove states key) ≤ encoded_by states
encoded-remove states key = omega (arith, sum-remove (λ (k : List ℕ) (s : State). length (spelling k s)) states key)

-- Some writes of an entry are left to be made.
pub record Making (before now : FinMap key_order State) (spare_before spare_now : ℕ) (all left : List Write) : Type 0 where
  pub states : with_writes now left ≡ with_writes before all
  pub spare : spare_before + length left ≤ spare_now + length all
  pub bytes : encoded_by now + greatest_tuple * length left ≤ encoded_by before + greatest_tuple * length all
  pub few : length left ≤ length all

pub Making-none : (states : FinMap key_order State) (spare : ℕ) (all left : List Write) → left ≡ all → Making states states spare spare all left
Making-none states spare all left same = record {
  states = ap (with_writes states) same;
  spare = omega (arith, ap length same);
  bytes = omega (arith, ap (λ (ws : List Write). greatest_tuple * length ws) same);
  few = omega (arith, ap length same);
}

pub Making-next : (before now later : FinMap key_order State) (spare_before spare spare_later : ℕ) (all left rest : List Write) (write : Write)
    → Making before now spare_before spare all left → left ≡ write ∷ rest → later ≡ with_write now write → spare ≤ spare_later + 1
    → encoded_by later ≤ encoded_by now + greatest_tuple → Making before later spare_before spare_later all rest
Making-next before now later spare_before spare spare_later all left rest write so_far left_is later_is spares bytes =
    let long : length left ≡ length rest + 1 = ap length left_is ∙ omega arith in
    record {
      states = ap (λ (m : FinMap key_order State). with_writes m rest) later_is ∙ ap (with_writes now) (sym left_is) ∙ so_far.states;
      spare = omega (arith, so_far.spare, long, spares);
      bytes = omega (arith, so_far.bytes, ap (λ (n : ℕ). greatest_tuple * n) long, bytes);
      few = omega (arith, so_far.few, long);
    }
