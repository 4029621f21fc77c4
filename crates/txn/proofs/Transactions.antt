-- Transactions on the way as those of the definitions.
use Rattle.std.proofs.Common.{is_err, ◌≡◌, ℕ, zero, suc, ◌+◌, ◌-◌, ◌<◌, ◌≤◌, Bool, true, false, not, ◌&&◌, ◌||◌, cond, if◌then◌else◌, List, [], ◌∷◌, map, take, length, Option, Some, None, refl, sym, ◌∙◌, ap, subst, arith, option_map, Result, Ok, Err, OnOk, OnErr, max}
use Rattle.std.proofs.Math.Dec.{T}
use Rattle.std.specs.Prelude.{count_by, is_some, nat_le, slice_get}
use Rattle.std.specs.List.{sum_by}
use Rattle.std.specs.Ordering.{eq_by_cmp, is_eq}
use Rattle.std.specs.Cmp.{tied_itself}
use Rattle.std.specs.FinMap.{FinMap, contains_key, empty, empty_of_len, entries, entries_sorted, get, get-empty, get-insert, get-remove, insert, keys, len, len-empty, len-entries, len-insert, len-remove, remove, same_map}
use Rattle.std.specs.FinMap.Entries.{below_all, is_sorted}
use Rattle.std.specs.declared.cmp.Ordering.TheVariants.{Less}
use Rattle.std.proofs.lemmas.Bool.Decides.{nat_tests}
use Rattle.std.proofs.lemmas.List.{length-map, length-take, take_all}
use Rattle.std.proofs.lemmas.List.Sums.{count_by-le-length, sum_by-cons, sum_by-le-sum_by, sum_by_more}
use Rattle.std.proofs.lemmas.Option.{get_or_from_slice_get, slice_get_within}
use Rattle.store_model.specs.Key.{key_order}
use Rattle.store_model.specs.Maps.{map_values}
use Rattle.store_model.specs.Transaction as model
use Rattle.store_model.specs.Transaction.{Transaction, is_touched, new_transaction, touched_count}
use Rattle.store_model.specs.Turn.{is_one_too_many, with_changed, with_read}
use Rattle.store_model.proofs.EntryLaws.{part_of, sum-insert, sum_entries}
use Rattle.store_model.proofs.MapLaws.{entries-map_values, get-map_values, map_values-insert}
use Rattle.store_model.proofs.SortedLaws.{greater-less, keys_exact, keys_total, sorted-at, untied-greater}
use Rattle.blob_base.proofs.KeyLists.{remove-insert}
use Rattle.txn.specs.Appends.{AppendsRead}
use Rattle.txn.specs.Requests.{model_change}
use Rattle.txn.specs.Txns.{IsTxn, NoAppends, Parts, is_append, transaction_by}
use Rattle.txn.specs.declared.change.Change.{Change}
use Rattle.txn.specs.declared.change.Change.TheVariants.{Append}

-- the change of a key
pub change-is : (m : FinMap key_order Change) (key : List ℕ) (o : Option Change) → get m key ≡ o → get (map_values model_change m) key ≡ option_map model_change o
change-is m key o is = get-map_values model_change m key ∙ ap (option_map model_change) is

is_some-map : (o : Option Change) → is_some (option_map model_change o) ≡ is_some o
is_some-map None = refl
is_some-map (Some one) = refl

-- which keys are changed
pub changes-key : (m : FinMap key_order Change) (key : List ℕ) → contains_key (map_values model_change m) key ≡ contains_key m key
changes-key m key = ap is_some (get-map_values model_change m key) ∙ is_some-map (get m key)

firsts : (es : List (List ℕ × Change)) → map (λ (e : List ℕ × model.Change). e.0) (map (λ (e : List ℕ × Change). (e.0, model_change e.1)) es) ≡ map (λ (e : List ℕ × Change). e.0) es
firsts [] = refl
firsts (e ∷ es) = ap (λ ks. e.0 ∷ ks) (firsts es)

pub changes-keys : (m : FinMap key_order Change) → keys (map_values model_change m) ≡ keys m
changes-keys m = ap (map (λ (e : List ℕ × model.Change). e.0)) (entries-map_values model_change m) ∙ firsts (entries m)

-- no changes
pub changes-empty : (m : FinMap key_order Change) → m ≡ empty → map_values model_change m ≡ empty
changes-empty m none =
    same_map keys_total keys_exact (map_values model_change m) empty (λ q.
    get-map_values model_change m q ∙ ap (λ n. option_map model_change (get n q)) none ∙ ap (option_map model_change) (get-empty key_order q) ∙ sym (get-empty key_order q))

-- how many keys are touched
pub touched-is : (parts : Parts) → touched_count (transaction_by parts) ≡ len parts.reads + count_by (λ key. not (contains_key parts.reads key)) (keys parts.changes)
touched-is parts = ap (λ ks. len parts.reads + count_by (λ key. not (contains_key parts.reads key)) ks) (changes-keys parts.changes)

-- what is told of a key's change, at the fields and at the value that they stand for
pub under-change : {X : Type 0} (F : Option model.Change → X) {inside now : Parts} (key : List ℕ) (o : Option Change) → inside ≡ now
    → get inside.changes key ≡ o → F (get (map_values model_change now.changes) key) ≡ F (option_map model_change o)
under-change F {inside} {now} key o same is =
    ap (λ (p : Parts). F (get (map_values model_change p.changes) key)) (sym same) ∙ ap F (change-is inside.changes key o is)

-- a key that wasn't read is touched where it is changed
pub touched-unread : {inside now : Parts} (key : List ℕ) (r : Bool) → inside ≡ now → contains_key inside.reads key ≡ false
    → r ≡ contains_key inside.changes key → r ≡ is_touched (transaction_by now) key
touched-unread {inside} {now} key r same unread is =
    is ∙ sym (changes-key inside.changes key)
    ∙ sym (ap (λ b. b || contains_key (map_values model_change inside.changes) key) unread)
    ∙ ap (λ (p : Parts). is_touched (transaction_by p) key) same

sum-firsts : {V : Type 0} (f : List ℕ → ℕ) (es : List (List ℕ × V)) → sum_by f (map (λ (e : List ℕ × V). e.0) es) ≡ sum_by (λ (e : List ℕ × V). f e.0) es
sum-firsts f [] = refl
sum-firsts {V} f (e ∷ es) =
    omega (arith, sum_by-cons f e.0 (map (λ (x : List ℕ × V). x.0) es), sum_by-cons (λ (x : List ℕ × V). f x.0) e es, sum-firsts f es)

below : (n : ℕ) → nat_le 16 n ≡ false → n < 16
below n more = grind (arith, nat_tests)

both-second : (a b : Bool) → T (a && b) → T b
both-second true b p = p
both-second false b p = absurd p

bit-small : (b : Bool) → cond b 1 0 ≤ 1
bit-small true = omega arith
bit-small false = omega arith

one-more : (b : Bool) (n : ℕ) → cond b n (n + 1) ≤ n + 1
one-more true n = omega arith
one-more false n = omega arith

either-bit : (b : Bool) → cond b 1 0 + cond (not b) 1 0 ≡ 1
either-bit true = refl
either-bit false = refl

module _ {V : Type 0} where
  -- a count of keys is a sum over entries
  pub count-keys : (p : List ℕ → Bool) (m : FinMap key_order V) → count_by p (keys m) ≡ sum_entries (λ k _. cond (p k) 1 0) m
  count-keys p m = sum-firsts (λ k. cond (p k) 1 0) (entries m)

  counted-there : (p : List ℕ → Bool) (k : List ℕ) (o : Option V) → is_some o ≡ true → part_of (λ q _. cond (p q) 1 0) k o ≡ cond (p k) 1 0
  counted-there p k None there = absurd (cc there)
  counted-there p k (Some v) there = refl

  -- an insert of a key that isn't counted, or was there, leaves the count
  count-unasked : (p : List ℕ → Bool) (m : FinMap key_order V) (k : List ℕ) (v : V) → p k ≡ false → count_by p (keys (insert m k v)) ≤ count_by p (keys m)
  count-unasked p m k v unasked =
      let nothing : cond (p k) 1 0 ≡ 0 = ap {B = ℕ} (λ b. cond b 1 0) unasked in
      omega (arith, count-keys p m, count-keys p (insert m k v), sum-insert (λ q _. cond (p q) 1 0) m k v, nothing)

  count-there : (p : List ℕ → Bool) (m : FinMap key_order V) (k : List ℕ) (v : V) → contains_key m k ≡ true → count_by p (keys (insert m k v)) ≤ count_by p (keys m)
  count-there p m k v there =
      omega (arith, count-keys p m, count-keys p (insert m k v), sum-insert (λ q _. cond (p q) 1 0) m k v, counted-there p k (get m k) there)

  count-more : (p : List ℕ → Bool) (m : FinMap key_order V) (k : List ℕ) (v : V) → count_by p (keys (insert m k v)) ≤ count_by p (keys m) + 1
  count-more p m k v =
      omega (arith, count-keys p m, count-keys p (insert m k v), sum-insert (λ q _. cond (p q) 1 0) m k v, bit-small (p k))

  len-more : (m : FinMap key_order V) (k : List ℕ) (v : V) → len (insert m k v) ≤ len m + 1
  len-more m k v = omega (arith, len-insert keys_total m k v, one-more (contains_key m k) (len m))

  unread-less : (b : Bool) (v : V) (o : Option V) → cond (not (is_some (cond b (Some v) o))) 1 0 ≤ cond (not (is_some o)) 1 0
  unread-less true v o = omega arith
  unread-less false v o = omega arith

  -- with one more key fewer are missing
  missing-less : (m : FinMap key_order V) (k : List ℕ) (v : V) (ks : List (List ℕ))
      → count_by (λ q. not (contains_key (insert m k v) q)) ks ≤ count_by (λ q. not (contains_key m q)) ks
  missing-less m k v ks =
      sum_by-le-sum_by (λ q. cond (not (contains_key (insert m k v) q)) 1 0) (λ q. cond (not (contains_key m q)) 1 0) ks (λ q.
      subst (λ (o : Option V). cond (not (is_some o)) 1 0 ≤ cond (not (contains_key m q)) 1 0) (sym (get-insert keys_total m k v q))
      (unread-less (eq_by_cmp key_order q k) v (get m q)))

  -- a map that has a key isn't empty
  len-there : (m : FinMap key_order V) (k : List ℕ) (n : ℕ) → len m ≡ n → contains_key m k ≡ true → 1 ≤ n
  len-there m k zero is there =
      let none : is_some (get m k) ≡ false = ap (λ (e : FinMap key_order V). is_some (get e k)) (empty_of_len m is) ∙ ap is_some (get-empty key_order k) in
      let wrong : true ≡ false = sym there ∙ none in absurd (cc wrong)
  len-there m k (suc n) is there = omega arith

  taken : (m : FinMap key_order V) (k : List ℕ) → cond (contains_key m k) 1 0 + len (remove m k) ≡ len m
  taken m k =
      elim (contains_key m k) as (λ (b : Bool). contains_key m k ≡ b → cond b 1 0 + len (remove m k) ≡ len m) [
        | true ↦ λ is. omega (arith, len-remove keys_total m k, ap (λ b. cond b (len m - 1) (len m)) is, len-there m k (len m) refl is)
        | false ↦ λ is. omega (arith, len-remove keys_total m k, ap (λ b. cond b (len m - 1) (len m)) is)
      ] refl

  split : (p : List ℕ → Bool) (es : List (List ℕ × V))
      → sum_by (λ (e : List ℕ × V). cond (p e.0) 1 0) es + sum_by (λ (e : List ℕ × V). cond (not (p e.0)) 1 0) es ≡ length es
  split p [] = refl
  split p (e ∷ es) =
      omega (
        arith,
        sum_by-cons (λ (x : List ℕ × V). cond (p x.0) 1 0) e es,
        sum_by-cons (λ (x : List ℕ × V). cond (not (p x.0)) 1 0) e es,
        either-bit (p e.0),
        split p es,
      )

-- the keys that two maps share are no more than those of one
module _ {V W : Type 0} where
  others-stay : (m : FinMap key_order W) (k : List ℕ) (es : List (List ℕ × V))
      → ((j : ℕ) (one : List ℕ × V) → slice_get es j ≡ Some one → key_order k one.0 ≡ Less)
      → sum_by (λ (e : List ℕ × V). cond (contains_key (remove m k) e.0) 1 0) es ≡ sum_by (λ (e : List ℕ × V). cond (contains_key m e.0) 1 0) es
  others-stay m k [] less = refl
  others-stay m k (e ∷ es) less =
      let other : get (remove m k) e.0 ≡ get m e.0 =
      get-remove keys_total m k e.0 ∙ ap (λ b. cond b None (get m e.0)) (untied-greater e.0 k (greater-less k e.0 (less 0 e refl))) in
      omega (
        arith,
        sum_by-cons (λ (x : List ℕ × V). cond (contains_key (remove m k) x.0) 1 0) e es,
        sum_by-cons (λ (x : List ℕ × V). cond (contains_key m x.0) 1 0) e es,
        ap {B = ℕ} (λ (o : Option W). cond (is_some o) 1 0) other,
        others-stay m k es (λ j one is. less (suc j) one is),
      )

  shared-less : (es : List (List ℕ × V)) (m : FinMap key_order W) → T (is_sorted key_order es)
      → sum_by (λ (e : List ℕ × V). cond (contains_key m e.0) 1 0) es ≤ len m
  shared-less [] m sorted = omega arith
  shared-less (e ∷ es) m sorted =
      omega (
        arith,
        sum_by-cons (λ (x : List ℕ × V). cond (contains_key m x.0) 1 0) e es,
        others-stay m e.0 es (λ j one is. sorted-at (e ∷ es) 0 (suc j) e one sorted (omega arith) refl is),
        shared-less es (remove m e.0) (both-second (below_all key_order e.0 es) (is_sorted key_order es) sorted),
        taken m e.0,
      )

  -- the keys of a map are those that another has, and the rest
  pub len-split : (reads : FinMap key_order W) (m : FinMap key_order V) → len m ≤ len reads + count_by (λ k. not (contains_key reads k)) (keys m)
  len-split reads m =
      omega (
        arith,
        len-entries m,
        split (contains_key reads) (entries m),
        shared-less (entries m) reads (entries_sorted m),
        count-keys (λ k. not (contains_key reads k)) m,
      )

-- room for an untouched key
room-untouched : (t : Transaction) (key : List ℕ) → is_one_too_many t key ≡ false → is_touched t key ≡ false → touched_count t < 16
room-untouched t key room untouched =
    below (touched_count t) (sym (ap (λ b. not b && nat_le 16 (touched_count t)) untouched) ∙ room)

pub few-changed : (t : Transaction) (key : List ℕ) (change : model.Change) → touched_count t ≤ 16 → is_one_too_many t key ≡ false
    → touched_count (with_changed t key change) ≤ 16
few-changed t key change few room =
    let p : List ℕ → Bool = λ k. not (contains_key t.reads k) in
    elim (contains_key t.reads key) as (λ (b : Bool). contains_key t.reads key ≡ b → touched_count (with_changed t key change) ≤ 16) [
      | true ↦ λ read. omega (arith, few, count-unasked p t.changes key change (ap not read))
      | false ↦ λ unread.
          elim (contains_key t.changes key) as (λ (b : Bool). contains_key t.changes key ≡ b → touched_count (with_changed t key change) ≤ 16) [
            | true ↦ λ there. omega (arith, few, count-there p t.changes key change there)
            | false ↦ λ gone.
                let untouched : is_touched t key ≡ false = ap (λ b. b || contains_key t.changes key) unread ∙ gone in
                omega (arith, room-untouched t key room untouched, count-more p t.changes key change)
          ] refl
    ] refl

pub few-read : (t : Transaction) (key : List ℕ) (now : Option ℕ) → is_one_too_many t key ≡ false → is_touched t key ≡ false
    → touched_count (record { seen = t.seen; reads = insert t.reads key now; changes = t.changes }) ≤ 16
few-read t key now room untouched =
    omega (arith, room-untouched t key room untouched, len-more t.reads key now, missing-less t.reads key now (keys t.changes))

-- changes with one more
chosen : (b : Bool) (one other : Change) (o : Option Change) → is_append one ≡ false → (o ≡ Some other → is_append other ≡ false)
    → cond b (Some one) o ≡ Some other → is_append other ≡ false
chosen true one other o whole rest is = let same : one ≡ other = cc in ap is_append (sym same) ∙ whole
chosen false one other o whole rest is = rest is

pub appends-insert : (m : FinMap key_order Change) (key : List ℕ) (one : Change) → NoAppends m → is_append one ≡ false → NoAppends (insert m key one)
appends-insert m key one none whole = λ q other is.
    chosen (eq_by_cmp key_order q key) one other (get m q) whole (none q other) (sym (get-insert keys_total m key one q) ∙ is)

pub appends-read : (reads : FinMap key_order (Option ℕ)) (m : FinMap key_order Change) → NoAppends m → AppendsRead reads m
appends-read reads m none = λ key extension is. let wrong : true ≡ false = none key (Append extension) is in absurd (cc wrong)

-- the parts with these changes
abbrev pub with-changes : Parts → FinMap key_order Change → Parts
with-changes p m = record { session = p.session; nth = p.nth; seen = p.seen; reads = p.reads; changes = m }

abbrev pub with-reads : Parts → FinMap key_order (Option ℕ) → Parts
with-reads p m = record { session = p.session; nth = p.nth; seen = p.seen; reads = m; changes = p.changes }

pub changed-is : (p : Parts) (key : List ℕ) (one : Change) (new : FinMap key_order Change) → new ≡ insert p.changes key one
    → transaction_by (with-changes p new) ≡ with_changed (transaction_by p) key (model_change one)
changed-is p key one new is =
    let same : map_values model_change new ≡ insert (map_values model_change p.changes) key (model_change one) =
    ap (map_values model_change) is ∙ map_values-insert model_change p.changes key one in
    λ i. record { seen = p.seen; reads = p.reads; changes = same i }

-- after a change, or none for want of memory
pub IsTxn-change : {X E : Type 0} (p : Parts) (key copy : List ℕ) (one : Change) (new : FinMap key_order Change) (r : Result X E) → IsTxn p
    → is_one_too_many (transaction_by p) key ≡ false → is_append one ≡ false → copy ≡ key → OnOk r (new ≡ insert p.changes copy one)
    → OnErr r (new ≡ p.changes) → IsTxn (with-changes p new)
IsTxn-change p key copy one new (Ok x) before room whole copied ok err =
    let is : new ≡ insert p.changes key one = ok ∙ ap (λ (k : List ℕ). insert p.changes k one) copied in
    record {
      session = before.session;
      numbered = before.numbered;
      few = subst (λ (t : Transaction). touched_count t ≤ 16) (sym (changed-is p key one new is)) (few-changed (transaction_by p) key (model_change one) before.few room);
      appends = subst NoAppends (sym is) (appends-insert p.changes key one before.appends whole);
    }
IsTxn-change p key copy one new (Err e) before room whole copied ok err = subst (λ m. IsTxn (with-changes p m)) (sym err) before

pub change-ok : {X E : Type 0} {p now : Parts} (key copy : List ℕ) (one : Change) (new : FinMap key_order Change) (r : Result X E) → p ≡ now → copy ≡ key
    → OnOk r (new ≡ insert p.changes copy one) → OnOk r (transaction_by (with-changes p new) ≡ with_changed (transaction_by now) key (model_change one))
change-ok {p = p} key copy one new (Ok x) same copied ok =
    changed-is p key one new (ok ∙ ap (λ (k : List ℕ). insert p.changes k one) copied)
    ∙ ap (λ (q : Parts). with_changed (transaction_by q) key (model_change one)) same
change-ok key copy one new (Err e) same copied ok = tt

-- a transaction that has read and changed nothing
pub few-none : (p : Parts) → p.reads ≡ empty → p.changes ≡ empty → touched_count (transaction_by p) ≤ 16
few-none p no_reads no_changes =
    omega (
      arith,
      touched-is p,
      ap len no_reads,
      ap len no_changes,
      len-empty key_order (Option ℕ),
      len-empty key_order Change,
      count_by-le-length (λ key. not (contains_key p.reads key)) (keys p.changes),
      length-map (entries p.changes) (λ (e : List ℕ × Change). e.0),
      len-entries p.changes,
    )

pub IsTxn-none : (p : Parts) → p.session < 16 → 1 ≤ p.nth → p.reads ≡ empty → p.changes ≡ empty → IsTxn p
IsTxn-none p session numbered no_reads no_changes = record {
  session = session;
  numbered = numbered;
  few = few-none p no_reads no_changes;
  appends = λ key one is.
      let wrong : None ≡ Some one = sym (ap (λ (m : FinMap key_order Change). get m key) no_changes ∙ get-empty key_order key) ∙ is in absurd (cc wrong);
}

pub none-is : (p : Parts) → p.reads ≡ empty → p.changes ≡ empty → transaction_by p ≡ new_transaction p.seen
none-is p no_reads no_changes =
    let none : map_values model_change p.changes ≡ empty = changes-empty p.changes no_changes in
    λ i. record { seen = p.seen; reads = no_reads i; changes = none i }

-- a count on the way
pub count-within : {X : Type 0} (p : X → Bool) (xs : List X) (i : ℕ) → count_by p (take i xs) ≤ i
count-within p xs i = omega (arith, count_by-le-length p (take i xs), length-take i xs)

pub count-next : {V W : Type 0} (reads : FinMap key_order W) (es : List (List ℕ × V)) (i n m : ℕ) (one : List ℕ × V) (read : Bool)
    → slice_get es i ≡ Some one → contains_key reads one.0 ≡ read → n ≡ count_by (λ (e : List ℕ × V). not (contains_key reads e.0)) (take i es)
    → m ≡ n + cond (not read) 1 0 → m ≡ count_by (λ (e : List ℕ × V). not (contains_key reads e.0)) (take (i + 1) es)
count-next {V} reads es i n m one read is told before more =
    let bit : (List ℕ × V) → ℕ = λ e. cond (not (contains_key reads e.0)) 1 0 in
    omega (
      arith,
      before,
      more,
      sum_by_more bit es i one (slice_get_within es i one is),
      ap bit (get_or_from_slice_get es i one one is),
      ap {B = ℕ} (λ b. cond (not b) 1 0) told,
    )

pub count-all : {inside now : Parts} (i n : ℕ) → inside ≡ now → len inside.changes ≤ i
    → n ≡ count_by (λ (e : List ℕ × Change). not (contains_key inside.reads e.0)) (take i (entries inside.changes))
    → n ≡ count_by (λ key. not (contains_key now.reads key)) (keys now.changes)
count-all {inside} {now} i n same all is =
    is
    ∙ ap (count_by (λ (e : List ℕ × Change). not (contains_key inside.reads e.0))) (take_all i (entries inside.changes) (omega (arith, all, len-entries inside.changes)))
    ∙ sym (count-keys (λ key. not (contains_key inside.reads key)) inside.changes)
    ∙ ap (λ (p : Parts). count_by (λ key. not (contains_key p.reads key)) (keys p.changes)) same

-- both counts together
pub count-both : {inside now : Parts} (n m : ℕ) → inside ≡ now → n ≡ len inside.reads
    → m ≡ count_by (λ key. not (contains_key now.reads key)) (keys now.changes) → n + m ≡ touched_count (transaction_by now)
count-both {inside} {now} n m same reads unread = omega (arith, reads, unread, ap (λ (p : Parts). len p.reads) same, touched-is now)

pub few-both : {inside now : Parts} → inside ≡ now → IsTxn inside → touched_count (transaction_by now) ≤ 16
few-both same before = subst (λ (p : Parts). touched_count (transaction_by p) ≤ 16) same before.few

-- after a read
pub IsTxn-read : (p : Parts) (key copy : List ℕ) (now : Option ℕ) (seen : ℕ) (reads : FinMap key_order (Option ℕ)) → IsTxn p
    → is_one_too_many (transaction_by p) key ≡ false → is_touched (transaction_by p) key ≡ false → copy ≡ key → reads ≡ insert p.reads copy now
    → IsTxn (record { session = p.session; nth = p.nth; seen = seen; reads = reads; changes = p.changes })
IsTxn-read p key copy now seen reads before room untouched copied is = record {
  session = before.session;
  numbered = before.numbered;
  few =
      subst (λ m. touched_count (record { seen = seen; reads = m; changes = map_values model_change p.changes }) ≤ 16)
      (sym (is ∙ ap (λ (k : List ℕ). insert p.reads k now) copied)) (few-read (transaction_by p) key now room untouched);
  appends = before.appends;
}

pub IsTxn-seen : (p : Parts) (seen : ℕ) → IsTxn p → IsTxn (record { session = p.session; nth = p.nth; seen = seen; reads = p.reads; changes = p.changes })
IsTxn-seen p seen before = record { session = before.session; numbered = before.numbered; few = before.few; appends = before.appends }

-- a key that was read isn't one too many
pub room-read : (t : Transaction) (last : ℕ) (now : Option ℕ) (key : List ℕ) → is_one_too_many (with_read last now t key) key ≡ false
room-read t last now key =
    let after : Bool → Transaction = λ b. record { seen = max t.seen last; reads = if b then t.reads else insert t.reads key now; changes = t.changes } in
    elim (is_touched t key) as (λ (b : Bool). is_touched t key ≡ b → is_one_too_many (after b) key ≡ false) [
      | true ↦ λ touched. ap (λ b. not b && nat_le 16 (touched_count (after true))) touched
      | false ↦ λ untouched.
          let there : contains_key (insert t.reads key now) key ≡ true =
          ap is_some (get-insert keys_total t.reads key now key ∙ ap (λ b. cond b (Some now) (get t.reads key)) (ap is_eq (tied_itself keys_total key))) in
          ap (λ b. not (b || contains_key t.changes key) && nat_le 16 (touched_count (after false))) there
    ] refl

-- what a read recorded is taken back
missing : {X : Type 0} (o : Option X) (b : Bool) → is_some o || b ≡ false → o ≡ None
missing None b untouched = refl
missing (Some x) b untouched = absurd (cc untouched)

pub read-back : (old recorded : Parts) (key : List ℕ) (now : Option ℕ) (last : ℕ) → transaction_by recorded ≡ with_read last now (transaction_by old) key
    → is_touched (transaction_by old) key ≡ false → remove recorded.reads key ≡ old.reads
read-back old recorded key now last is untouched =
    let inserted : recorded.reads ≡ insert old.reads key now =
    ap (λ (t : Transaction). t.reads) is ∙ ap (λ b. if b then old.reads else insert old.reads key now) untouched in
    ap (λ m. remove m key) inserted ∙ remove-insert old.reads key now (missing (get old.reads key) (contains_key (map_values model_change old.changes) key) untouched)

pub read-kept : (old recorded : Parts) (key : List ℕ) (now : Option ℕ) (last : ℕ) → transaction_by recorded ≡ with_read last now (transaction_by old) key
    → is_touched (transaction_by old) key ≡ true → recorded.reads ≡ old.reads
read-kept old recorded key now last is touched =
    ap (λ (t : Transaction). t.reads) is ∙ ap (λ b. if b then old.reads else insert old.reads key now) touched

pub on-err : {X E : Type 0} {P : Type 0} (r : Result X E) → is_err r ≡ true → OnErr r P → P
on-err (Ok x) failed p = absurd (cc failed)
on-err (Err e) failed p = p

-- the parts after the undo of a read
pub same-parts : (old recorded after : Parts) (seen : ℕ) (reads : FinMap key_order (Option ℕ)) → recorded.session ≡ old.session → recorded.nth ≡ old.nth
    → recorded.changes ≡ old.changes → after ≡ recorded → seen ≡ old.seen → reads ≡ old.reads
    → record { session = after.session; nth = after.nth; seen = seen; reads = reads; changes = after.changes } ≡ old
same-parts old recorded after seen reads session nth changes is same_seen same_reads =
    let same_session : after.session ≡ old.session = ap (λ (p : Parts). p.session) is ∙ session in
    let same_nth : after.nth ≡ old.nth = ap (λ (p : Parts). p.nth) is ∙ nth in
    let same_changes : after.changes ≡ old.changes = ap (λ (p : Parts). p.changes) is ∙ changes in
    λ i. record { session = same_session i; nth = same_nth i; seen = same_seen i; reads = same_reads i; changes = same_changes i }
