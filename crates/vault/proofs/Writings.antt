-- The writes of an entry, made in states that are as others were at the keys that they write.
use Rattle.std.proofs.Common.{◌≡◌, ℕ, suc, ◌<◌, Bool, true, false, ◌||◌, cond, List, [], ◌∷◌, map, Option, Some, None, refl, sym, ◌∙◌, ap, arith}
use Rattle.std.specs.Prelude.{bytes_eq, slice_get, zip}
use Rattle.std.specs.List.{AllZip, list_any}
use Rattle.std.specs.Ordering.{eq_by_cmp, is_eq}
use Rattle.std.specs.FinMap.{FinMap, get, get-insert, get-remove}
use Rattle.std.specs.declared.cmp.Ordering.{Ordering}
use Rattle.std.specs.declared.cmp.Ordering.TheVariants.{Less, Equal, Greater}
use Rattle.frame_codec.specs.Writes.{key_of_write}
use Rattle.frame_codec.specs.declared.entry.Write.{Write}
use Rattle.frame_codec.specs.declared.entry.Write.TheVariants as write
use Rattle.group_plan.specs.Plans.{DoesWrite, IsWritten, holdings_by}
use Rattle.store_model.specs.Group.{is_among}
use Rattle.store_model.specs.Key.{key_order}
use Rattle.store_model.specs.Placing.{Need, Placed, new_place}
use Rattle.store_model.specs.State.{State}
use Rattle.store_model.specs.Store.{Placement}
use Rattle.store_model.proofs.SortedLaws.{greater-less, keys_exact, keys_total, untied-greater}
use Rattle.txn.specs.Requests.{need_of}
use Rattle.txn.specs.Txns.{is_append}
use Rattle.txn.specs.declared.change.Change.{Change}
use Rattle.vault.specs.Pours.{AreStates}
use Rattle.relation.specs.Changes.{with_write, with_writes}
use Rattle.vault.proofs.Placings.{IsPlaced}
use Rattle.std.proofs.lemmas.Slice.Eq.{bytes_eq-Decides}

-- neither of two
pub neither-left : (a b : Bool) → a || b ≡ false → a ≡ false
neither-left true b is = is
neither-left false b is = refl

pub neither-right : (a b : Bool) → a || b ≡ false → b ≡ false
neither-right true b is = absurd (cc is)
neither-right false b is = is

is-equal : (o : Ordering) → is_eq o ≡ true → o ≡ Equal
is-equal Less same = absurd (cc same)
is-equal Equal same = refl
is-equal Greater same = absurd (cc same)

same-bytes : (k : List ℕ) → bytes_eq k k ≡ true
same-bytes k = (bytes_eq-Decides k k).1 refl

-- keys that differ aren't tied
pub untied : (q k : List ℕ) → bytes_eq q k ≡ false → eq_by_cmp key_order q k ≡ false
untied q k differ = go (eq_by_cmp key_order q k) refl where
  go : (b : Bool) → eq_by_cmp key_order q k ≡ b → b ≡ false
  go false is = refl
  go true is =
      let same : q ≡ k = keys_exact q k (is-equal (key_order q k) is) in
      absurd (cc (sym (same-bytes k) ∙ ap (λ (x : List ℕ). bytes_eq x k) (sym same) ∙ differ))

-- a write is of its change's key
pub write-key : (key : List ℕ) (one : Change) (number : ℕ) (place : Option Placement) (written : Write) → DoesWrite key one number place written → key_of_write written ≡ key
write-key key one number (Some place) (write.Set at state) does = does.0
write-key key one number (Some place) (write.Del at) does = absurd does
write-key key one number None (write.Set at state) does = absurd does
write-key key one number None (write.Del at) does = does

-- a write leaves the other keys as they are
pub kept-write : (states : FinMap key_order State) (written : Write) (q : List ℕ) → eq_by_cmp key_order q (key_of_write written) ≡ false → get (with_write states written) q ≡ get states q
kept-write states (write.Set at state) q apart = get-insert keys_total states at state.value q ∙ ap (λ (b : Bool). cond b (Some state.value) (get states q)) apart
kept-write states (write.Del at) q apart = get-remove keys_total states at q ∙ ap (λ (b : Bool). cond b None (get states q)) apart

-- Changes in the order of their keys, with their places over the states before, and what an entry writes for them: the states now are as
-- before at their keys, and each state there keeps its rules.
pub record AreReady (before now : FinMap key_order State) (number : ℕ) (es : List (List ℕ × Change)) (placed : List Placed) (writes : List Write) : Type 0 where
  pub rise : (i j : ℕ) (a b : List ℕ × Change) → i < j → slice_get es i ≡ Some a → slice_get es j ≡ Some b → key_order a.0 b.0 ≡ Less
  pub whole : (j : ℕ) (one : List ℕ × Change) → slice_get es j ≡ Some one → is_append one.1 ≡ false
  pub known : AreStates before
  pub same : (j : ℕ) (one : List ℕ × Change) → slice_get es j ≡ Some one → get now one.0 ≡ get before one.0
  pub placed_are : AllZip (IsPlaced (holdings_by before)) (map {B = List ℕ × Need} (λ one. (one.0, need_of one.1)) es) placed
  pub written : AllZip (IsWritten number) (zip es placed) writes

-- the first of them is made
pub AreReady-next : (before now : FinMap key_order State) (number : ℕ) (e : List ℕ × Change) (es : List (List ℕ × Change)) (p : Placed) (placed : List Placed) (w : Write) (writes : List Write)
    → AreReady before now number (e ∷ es) (p ∷ placed) (w ∷ writes) → AreReady before (with_write now w) number es placed writes
AreReady-next before now number e es p placed w writes ready = record {
  rise = λ i j a b less at other. ready.rise (suc i) (suc j) a b (omega (arith, less)) at other;
  whole = λ j one is. ready.whole (suc j) one is;
  known = ready.known;
  same = λ j one is.
      let less : key_order e.0 one.0 ≡ Less = ready.rise 0 (suc j) e one (omega arith) refl is in
      let key : key_of_write w ≡ e.0 = write-key e.0 e.1 number (new_place p) w ready.written.0 in
      kept-write now w one.0 (ap (eq_by_cmp key_order one.0) key ∙ untied-greater one.0 e.0 (greater-less e.0 one.0 less)) ∙ ready.same (suc j) one is;
  placed_are = ready.placed_are.1;
  written = ready.written.1;
}

-- what isn't among their keys stays
pub kept-writes : (before now : FinMap key_order State) (number : ℕ) (es : List (List ℕ × Change)) (placed : List Placed) (writes : List Write) → AreReady before now number es placed writes
    → (q : List ℕ) → is_among q (map (λ one. one.key) placed) ≡ false → get (with_writes now writes) q ≡ get now q
kept-writes before now number [] [] [] ready q apart = refl
kept-writes before now number [] [] (w ∷ writes) ready q apart = absurd ready.written
kept-writes before now number [] (p ∷ placed) writes ready q apart = absurd ready.placed_are
kept-writes before now number (e ∷ es) [] writes ready q apart = absurd ready.placed_are
kept-writes before now number (e ∷ es) (p ∷ placed) [] ready q apart = absurd ready.written
kept-writes before now number (e ∷ es) (p ∷ placed) (w ∷ writes) ready q apart =
    let others : list_any (λ other. bytes_eq q other) (map (λ one. one.key) placed) ≡ false = neither-right (bytes_eq q p.key) (is_among q (map (λ one. one.key) placed)) apart in
    let key : key_of_write w ≡ e.0 = write-key e.0 e.1 number (new_place p) w ready.written.0 in
    let differ : eq_by_cmp key_order q p.key ≡ false = untied q p.key (neither-left (bytes_eq q p.key) (is_among q (map (λ one. one.key) placed)) apart) in
    kept-writes before (with_write now w) number es placed writes (AreReady-next before now number e es p placed w writes ready) q others
    ∙ kept-write now w q (ap (eq_by_cmp key_order q) (key ∙ sym ready.placed_are.0.key) ∙ differ)
