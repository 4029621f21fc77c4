-- The changes of a request that take their places one after the other.
use Rattle.std.proofs.Common.{◌≡◌, ℕ, zero, suc, ◌+◌, ◌*◌, ◌≤◌, ◌&&◌, Bool, true, false, List, [], ◌∷◌, ◌++◌, length, length-append, map, take, drop, Option, Some, None, Result, Ok, Err, refl, sym, ◌∙◌, ap, subst, arith, append_assoc, append-nil}
use Rattle.std.specs.Prelude.{option_map, slice_get, zip}
use Rattle.std.specs.List.{AllZip, flat_map, sum_by}
use Rattle.std.specs.List.Sorted.{IsPermutation}
use Rattle.std.specs.FinMap.{FinMap, entries, entries_sorted, get, get-entries}
use Rattle.std.specs.FinMap.Entries.{below_all, is_sorted}
use Rattle.std.specs.Ordering.{is_lt}
use Rattle.std.proofs.Math.Dec.{T}
use Rattle.std.proofs.lemmas.List.{map-append}
use Rattle.std.proofs.lemmas.List.Sums.{sum_by-cons}
use Rattle.std.proofs.lemmas.Grind.{flat_map-append}
use Rattle.extent_alloc.specs.Parts.{Parts}
use Rattle.frame_codec.specs.Writes.{do_rise, key_of_write}
use Rattle.frame_codec.specs.declared.entry.Write.{Write}
use Rattle.frame_codec.specs.declared.entry.Write.TheVariants as write
use Rattle.store_model.specs.Key.{key_order}
use Rattle.store_model.specs.Places.{taken}
use Rattle.store_model.specs.Placing.{Holding, Need, Placed, bytes_after, bytes_at, bytes_before, freed_blocks, new_blocks, new_place, place_all, place_held, placed_before, placed_then, tiers_of}
use Rattle.store_model.specs.Space.{Block}
use Rattle.store_model.specs.State.{State}
use Rattle.store_model.specs.Store.{Placement}
use Rattle.store_model.proofs.OrderLaws.{place_all-permutation}
use Rattle.store_model.proofs.SortedLaws.{find-at}
use Rattle.txn.specs.Requests.{need_of}
use Rattle.txn.specs.declared.change.Change.{Change}
use Rattle.txn.specs.declared.change.Change.TheVariants as change
use Rattle.group_plan.specs.Frees.{left_by}
use Rattle.group_plan.specs.Places.{PlacesChange, needs_of, place_of_write}
use Rattle.group_plan.specs.Plans.{DoesWrite, IsWritten, holding_of, holdings_by}
use Rattle.group_plan.specs.Takings.{Fails, HasMoved, IsTakeFault, Moves, TakesHeads}
use Rattle.group_plan.specs.declared.takings.Takings.{Takings}
use Rattle.group_plan.specs.declared.takings.TakeFault.TheVariants as take_fault
use Rattle.group_plan.proofs.Blocks.{Moves-then}
use Rattle.group_plan.proofs.Walks.{drop-end, drop-next, take-end, take-next}

-- these placed changes before the others
abbrev pub placed_behind : List Placed → Result (List Placed) (List ℕ × ℕ) → Result (List Placed) (List ℕ × ℕ)
placed_behind before (Ok others) = Ok (before ++ others)
placed_behind before (Err none) = Err none

behind-both : (before : List Placed) (one : Placed) (rest : Result (List Placed) (List ℕ × ℕ)) → placed_behind before (placed_before one rest) ≡ placed_behind (before ++ one ∷ []) rest
behind-both before one (Ok others) = ap Ok (sym (append_assoc before (one ∷ []) others))
behind-both before one (Err none) = refl

behind-none : (rest : Result (List Placed) (List ℕ × ℕ)) → rest ≡ placed_behind [] rest
behind-none (Ok others) = refl
behind-none (Err none) = refl

-- what a write does, it does under its change's key, with its place
does-key : (key : List ℕ) (one : Change) (number : ℕ) (place : Option Placement) (written : Write) → DoesWrite key one number place written → key_of_write written ≡ key
does-key key one number (Some place) (write.Set at state) does = does.0
does-key key one number (Some place) (write.Del at) does = absurd does
does-key key one number None (write.Set at state) does = absurd does
does-key key one number None (write.Del at) does = does

does-place : (key : List ℕ) (one : Change) (number : ℕ) (place : Option Placement) (written : Write) → DoesWrite key one number place written → place_of_write written ≡ place
does-place key (change.Put content) number (Some place) (write.Set at state) does = ap Some does.2.1
does-place key (change.Append extension) number (Some place) (write.Set at state) does = ap Some (λ i. record { heads = does.2.heads i; tail = does.2.tail i })
does-place key change.Del number (Some place) (write.Set at state) does = absurd does.2
does-place key one number (Some place) (write.Del at) does = absurd does
does-place key one number None (write.Set at state) does = absurd does
does-place key one number None (write.Del at) does = refl

taken-alone : (tiers heads : List ℕ) (old new : Parts) → TakesHeads tiers heads old new → taken old.pages tiers old.owned ≡ Ok heads
taken-alone tiers heads old new took =
    ap (λ (ts : List ℕ). taken old.pages ts old.owned) (sym (append-nil tiers)) ∙ took [] ∙ ap Ok (append-nil heads)

taken-fails : (tiers : List ℕ) (tier : ℕ) (old : Parts) → Fails tiers tier old → taken old.pages tiers old.owned ≡ Err tier
taken-fails tiers tier old fails = ap (λ (ts : List ℕ). taken old.pages ts old.owned) (sym (append-nil tiers)) ∙ fails []

abbrev placed_as : (List ℕ → Option Holding) → List ℕ → Need → List ℕ → Placed
placed_as held key need heads = record { key = key; need = need; old = held key; heads = heads }

-- the first change takes these blocks, and then the others theirs
place_all-next : (held : List ℕ → Option Holding) (key : List ℕ) (need : Need) (rest : List (List ℕ × Need)) (heads : List ℕ) (old new : Parts) → TakesHeads (tiers_of need (held key)) heads old new
    → IsPermutation new.owned (new_blocks (placed_as held key need heads) ++ old.owned)
    → place_all old.pages held ((key, need) ∷ rest) old.owned ≡ placed_before (placed_as held key need heads) (place_all old.pages held rest new.owned)
place_all-next held key need rest heads old new took moved =
    ap (λ (r : Result (List ℕ) ℕ). placed_then key r (placed_as held key need) (λ (p : Placed). place_all old.pages held rest (new_blocks p ++ old.owned))) (taken-alone (tiers_of need (held key)) heads old new took)
    ∙ ap (placed_before (placed_as held key need heads)) (sym (place_all-permutation old.pages held rest new.owned (new_blocks (placed_as held key need heads) ++ old.owned) moved))

-- the first change finds no place
place_all-fails : (held : List ℕ → Option Holding) (key : List ℕ) (need : Need) (rest : List (List ℕ × Need)) (tier : ℕ) (old : Parts) → Fails (tiers_of need (held key)) tier old
    → place_all old.pages held ((key, need) ∷ rest) old.owned ≡ Err (key, tier)
place_all-fails held key need rest tier old fails =
    ap (λ (r : Result (List ℕ) ℕ). placed_then key r (placed_as held key need) (λ (p : Placed). place_all old.pages held rest (new_blocks p ++ old.owned))) (taken-fails (tiers_of need (held key)) tier old fails)

-- Some of a request's changes have places, and are written.
pub record PlacedSoFar (held : List ℕ → Option Holding) (number : ℕ) (all : List (List ℕ × Change)) (i : ℕ) (writes : List Write) (added replaced : ℕ) (old now : Parts) (before listed : Takings) : Type 0 where
  pub placed : List Placed
  pub found : place_all old.pages held (needs_of all) old.owned ≡ placed_behind placed (place_all now.pages held (needs_of (drop i all)) now.owned)
  pub count : length (take i all) ≡ length placed
  pub written : AllZip (IsWritten number) (zip (take i all) placed) writes
  pub moves : Moves (flat_map new_blocks placed) old now before listed
  pub added_is : added ≡ sum_by bytes_after placed
  pub replaced_is : replaced ≡ sum_by bytes_before placed
  pub few : added ≤ 4717 * i
  pub few_replaced : replaced ≤ 4717 * i
  pub number_of : length writes ≡ i
  pub keys : map key_of_write writes ≡ map (λ (one : List ℕ × Change). one.0) (take i all)

pub PlacedSoFar-none : (held : List ℕ → Option Holding) (number : ℕ) (all : List (List ℕ × Change)) (old : Parts) (before : Takings) → Moves [] old old before before → PlacedSoFar held number all 0 [] 0 0 old old before before
PlacedSoFar-none held number all old before none = record {
  placed = [];
  found = behind-none (place_all old.pages held (needs_of all) old.owned);
  count = refl;
  written = tt;
  moves = none;
  added_is = refl;
  replaced_is = refl;
  few = omega arith;
  few_replaced = omega arith;
  number_of = refl;
  keys = refl;
}

zip-push : {A B : Type 0} (xs : List A) (ys : List B) (x : A) (y : B) → length xs ≡ length ys → zip (xs ++ x ∷ []) (ys ++ y ∷ []) ≡ zip xs ys ++ (x, y) ∷ []
zip-push [] [] x y same = refl
zip-push [] (b ∷ ys) x y same = absurd (omega (arith, same))
zip-push (a ∷ xs) [] x y same = absurd (omega (arith, same))
zip-push {A = A} {B = B} (a ∷ xs) (b ∷ ys) x y same = ap (λ (zs : List (A × B)). (a, b) ∷ zs) (zip-push xs ys x y (omega (arith, same)))

all-push : {A B : Type 0} (R : A → B → Type 0) (xs : List A) (ys : List B) (x : A) (y : B) → AllZip R xs ys → R x y → AllZip R (xs ++ x ∷ []) (ys ++ y ∷ [])
all-push R [] [] x y all one = (one, tt)
all-push R [] (b ∷ ys) x y all one = absurd all
all-push R (a ∷ xs) [] x y all one = absurd all
all-push R (a ∷ xs) (b ∷ ys) x y all one = (all.0, all-push R xs ys x y all.1 one)

sum-push : (f : Placed → ℕ) (xs : List Placed) (x : Placed) → sum_by f (xs ++ x ∷ []) ≡ sum_by f xs + f x
sum-push f [] x = sum_by-cons f x [] ∙ omega arith
sum-push f (y ∷ xs) x = omega (arith, sum_by-cons f y (xs ++ x ∷ []), sum_by-cons f y xs, sum-push f xs x)

-- one more has
pub PlacedSoFar-next : (held : List ℕ → Option Holding) (number : ℕ) (all : List (List ℕ × Change)) (i : ℕ) (writes : List Write) (added replaced more less : ℕ) (key : List ℕ) (one : Change) (written : Write)
    (old now new : Parts) (before listed after : Takings) → PlacedSoFar held number all i writes added replaced old now before listed → slice_get all i ≡ Some (key, one)
    → PlacesChange number key one (held key) now new listed after written
    → more ≡ added + bytes_at (key_of_write written) (place_of_write written) → more ≤ added + 4717 → less ≡ replaced + bytes_at key (place_held (held key)) → less ≤ replaced + 4717
    → PlacedSoFar held number all (i + 1) (writes ++ written ∷ []) more less old new before after
PlacedSoFar-next held number all i writes added replaced more less key one written old now new before listed after so_far is change_is more_is more_few less_is less_few =
    let p : Placed = placed_as held key (need_of one) change_is.heads in
    let front : take (i + 1) all ≡ take i all ++ (key, one) ∷ [] = take-next all i (key, one) is in
    let blocks : flat_map new_blocks (so_far.placed ++ p ∷ []) ≡ flat_map new_blocks so_far.placed ++ new_blocks p =
    flat_map-append new_blocks so_far.placed (p ∷ []) ∙ ap (λ (bs : List Block). flat_map new_blocks so_far.placed ++ bs) (append-nil (new_blocks p)) in
    let under : key_of_write written ≡ key = does-key key one number (new_place p) written change_is.does in
    let place : place_of_write written ≡ new_place p = does-place key one number (new_place p) written change_is.does in
    let bytes : bytes_at (key_of_write written) (place_of_write written) ≡ bytes_after p = ap (λ (k : List ℕ). bytes_at k (place_of_write written)) under ∙ ap (bytes_at key) place in
    record {
      placed = so_far.placed ++ p ∷ [];
      found = so_far.found
          ∙ ap (λ (es : List (List ℕ × Change)). placed_behind so_far.placed (place_all now.pages held (needs_of es) now.owned)) (drop-next all i (key, one) is)
          ∙ ap (placed_behind so_far.placed) (place_all-next held key (need_of one) (needs_of (drop (i + 1) all)) change_is.heads now new change_is.takes.took change_is.takes.moves.owned)
          ∙ ap (λ (n : ℕ). placed_behind so_far.placed (placed_before p (place_all n held (needs_of (drop (i + 1) all)) new.owned))) (sym change_is.takes.moves.pages)
          ∙ behind-both so_far.placed p (place_all new.pages held (needs_of (drop (i + 1) all)) new.owned);
      count = ap length front ∙ omega (arith, length-append (take i all) ((key, one) ∷ []), length-append so_far.placed (p ∷ []), so_far.count);
      written = subst (λ (zs : List ((List ℕ × Change) × Placed)). AllZip (IsWritten number) zs (writes ++ written ∷ []))
          (sym (ap (λ (es : List (List ℕ × Change)). zip es (so_far.placed ++ p ∷ [])) front ∙ zip-push (take i all) so_far.placed (key, one) p so_far.count))
          (all-push (IsWritten number) (zip (take i all) so_far.placed) writes ((key, one), p) written so_far.written change_is.does);
      moves = subst (λ (bs : List Block). Moves bs old new before after) (sym blocks) (Moves-then (flat_map new_blocks so_far.placed) (new_blocks p) old now new before listed after so_far.moves change_is.takes.moves);
      added_is = omega (arith, more_is, so_far.added_is, bytes, sum-push bytes_after so_far.placed p);
      replaced_is = omega (arith, less_is, so_far.replaced_is, sum-push bytes_before so_far.placed p);
      few = omega (arith, so_far.few, more_few);
      few_replaced = omega (arith, so_far.few_replaced, less_few);
      number_of = omega (arith, so_far.number_of, length-append writes (written ∷ []));
      keys = map-append key_of_write writes (written ∷ [])
          ∙ ap (λ (ks : List (List ℕ)). ks ++ key_of_write written ∷ []) so_far.keys
          ∙ ap (λ (k : List ℕ). map (λ (e : List ℕ × Change). e.0) (take i all) ++ k ∷ []) under
          ∙ sym (map-append (λ (e : List ℕ × Change). e.0) (take i all) ((key, one) ∷ []))
          ∙ ap (map (λ (e : List ℕ × Change). e.0)) (sym front);
    }

-- all changes have places
pub place_all-all : (held : List ℕ → Option Holding) (number : ℕ) (all : List (List ℕ × Change)) (i : ℕ) (writes : List Write) (added replaced : ℕ) (old now : Parts) (before listed : Takings)
    (so_far : PlacedSoFar held number all i writes added replaced old now before listed) → length all ≤ i
    → (place_all old.pages held (needs_of all) old.owned ≡ Ok so_far.placed) × AllZip (IsWritten number) (zip all so_far.placed) writes
place_all-all held number all i writes added replaced old now before listed so_far done = (
  so_far.found ∙ ap (λ (es : List (List ℕ × Change)). placed_behind so_far.placed (place_all now.pages held (needs_of es) now.owned)) (drop-end all i done) ∙ ap Ok (append-nil so_far.placed),
  subst (λ (es : List (List ℕ × Change)). AllZip (IsWritten number) (zip es so_far.placed) writes) (take-end all i done) so_far.written,
)

-- one of the changes finds no place
pub place_all-none : (held : List ℕ → Option Holding) (number : ℕ) (all : List (List ℕ × Change)) (i : ℕ) (writes : List Write) (added replaced : ℕ) (key : List ℕ) (one : Change) (tier : ℕ) (old now new : Parts) (before listed after : Takings)
    → PlacedSoFar held number all i writes added replaced old now before listed → slice_get all i ≡ Some (key, one)
    → IsTakeFault (tiers_of (need_of one) (held key)) now new listed after (take_fault.NoSpace tier)
    → (place_all old.pages held (needs_of all) old.owned ≡ Err (key, tier)) × HasMoved old new before after
place_all-none held number all i writes added replaced key one tier old now new before listed after so_far is fails = (
  so_far.found
      ∙ ap (λ (es : List (List ℕ × Change)). placed_behind so_far.placed (place_all now.pages held (needs_of es) now.owned)) (drop-next all i (key, one) is)
      ∙ ap (placed_behind so_far.placed) (place_all-fails held key (need_of one) (needs_of (drop (i + 1) all)) tier now fails.0),
  (flat_map new_blocks so_far.placed ++ fails.1.0, Moves-then (flat_map new_blocks so_far.placed) fails.1.0 old now new before listed after so_far.moves fails.1.1),
)

pub moved-behind : (held : List ℕ → Option Holding) (number : ℕ) (all : List (List ℕ × Change)) (i : ℕ) (writes : List Write) (added replaced : ℕ) (old now new : Parts) (before listed after : Takings)
    → PlacedSoFar held number all i writes added replaced old now before listed → HasMoved now new listed after → HasMoved old new before after
moved-behind held number all i writes added replaced old now new before listed after so_far moved =
    (flat_map new_blocks so_far.placed ++ moved.0, Moves-then (flat_map new_blocks so_far.placed) moved.0 old now new before listed after so_far.moves moved.1)

below-keys : {V W : Type 0} (k : List ℕ) (es : List (List ℕ × V)) (fs : List (List ℕ × W)) → map (λ (e : List ℕ × V). e.0) es ≡ map (λ (f : List ℕ × W). f.0) fs → below_all key_order k es ≡ below_all key_order k fs
below-keys k [] [] same = refl
below-keys k [] (f ∷ fs) same = absurd (cc same)
below-keys k (e ∷ es) [] same = absurd (cc same)
below-keys k (e ∷ es) (f ∷ fs) same =
    let first : e.0 ≡ f.0 = cc same in
    let others = below-keys k es fs (cc same) in
    λ i. is_lt (key_order k (first i)) && others i

-- whether entries are sorted is a matter of their keys
pub sorted-keys : {V W : Type 0} (es : List (List ℕ × V)) (fs : List (List ℕ × W)) → map (λ (e : List ℕ × V). e.0) es ≡ map (λ (f : List ℕ × W). f.0) fs → is_sorted key_order es ≡ is_sorted key_order fs
sorted-keys [] [] same = refl
sorted-keys [] (f ∷ fs) same = absurd (cc same)
sorted-keys (e ∷ es) [] same = absurd (cc same)
sorted-keys {V = V} {W = W} (e ∷ es) (f ∷ fs) same =
    let first : e.0 ≡ f.0 = cc same in
    let rest : map (λ (e : List ℕ × V). e.0) es ≡ map (λ (f : List ℕ × W). f.0) fs = cc same in
    ap (λ (k : List ℕ). below_all key_order k es && is_sorted key_order es) first ∙ (λ i. below-keys f.0 es fs rest i && sorted-keys es fs rest i)

and-first : (a b : Bool) → T (a && b) → T a
and-first true b both = tt
and-first false b both = both

and-second : (a b : Bool) → T (a && b) → T b
and-second true b both = both
and-second false b both = absurd both

and-both : (a b : Bool) → T a → T b → T (a && b)
and-both true b one other = other
and-both false b one other = one

below-take : {V : Type 0} (k : List ℕ) (es : List (List ℕ × V)) (i : ℕ) → T (below_all key_order k es) → T (below_all key_order k (take i es))
below-take k [] zero below = tt
below-take k [] (suc i) below = tt
below-take k (e ∷ es) zero below = tt
below-take k (e ∷ es) (suc i) below =
    and-both (is_lt (key_order k e.0)) (below_all key_order k (take i es)) (and-first (is_lt (key_order k e.0)) (below_all key_order k es) below)
    (below-take k es i (and-second (is_lt (key_order k e.0)) (below_all key_order k es) below))

-- the first of sorted entries are sorted
sorted-take : {V : Type 0} (es : List (List ℕ × V)) (i : ℕ) → T (is_sorted key_order es) → T (is_sorted key_order (take i es))
sorted-take [] zero sorted = tt
sorted-take [] (suc i) sorted = tt
sorted-take (e ∷ es) zero sorted = tt
sorted-take (e ∷ es) (suc i) sorted =
    and-both (below_all key_order e.0 (take i es)) (is_sorted key_order (take i es)) (below-take e.0 es i (and-first (below_all key_order e.0 es) (is_sorted key_order es) sorted))
    (sorted-take es i (and-second (below_all key_order e.0 es) (is_sorted key_order es) sorted))

write-keys : (writes : List Write) → map (λ (e : List ℕ × Write). e.0) (map (λ (one : Write). (key_of_write one, one)) writes) ≡ map key_of_write writes
write-keys [] = refl
write-keys (one ∷ writes) = ap (λ (ks : List (List ℕ)). key_of_write one ∷ ks) (write-keys writes)

-- writes of the first changes rise
pub do_rise-keys : (changes : FinMap key_order Change) (i : ℕ) (writes : List Write) → map key_of_write writes ≡ map (λ (one : List ℕ × Change). one.0) (take i (entries changes)) → do_rise writes
do_rise-keys changes i writes keys =
    subst T (sym (sorted-keys (map (λ (one : Write). (key_of_write one, one)) writes) (take i (entries changes)) (write-keys writes ∙ keys)))
    (sorted-take (entries changes) i (entries_sorted changes))

-- what a map has at an index it has under the key there
pub get-at : (changes : FinMap key_order Change) (i : ℕ) (key : List ℕ) (one : Change) → slice_get (entries changes) i ≡ Some (key, one) → get changes key ≡ Some one
get-at changes i key one is = get-entries changes key ∙ find-at (entries changes) i key (key, one) (entries_sorted changes) is refl

-- one more has, over the state that its key has
pub PlacedSoFar-over : (states : FinMap key_order State) (number : ℕ) (changes : FinMap key_order Change) (i : ℕ) (writes : List Write) (added replaced more less : ℕ) (key : List ℕ) (one : Change) (seen : Option State) (written : Write)
    (old now new : Parts) (before listed after : Takings) → PlacedSoFar (holdings_by states) number (entries changes) i writes added replaced old now before listed → slice_get (entries changes) i ≡ Some (key, one)
    → seen ≡ get states key → PlacesChange number key one (option_map holding_of seen) now new listed after written
    → more ≡ bytes_at (key_of_write written) (place_of_write written) → more ≤ 4717 → less ≡ bytes_at key (place_held (option_map holding_of seen)) → less ≤ 4717
    → PlacedSoFar (holdings_by states) number (entries changes) (i + 1) (writes ++ written ∷ []) (added + more) (replaced + less) old new before after
PlacedSoFar-over states number changes i writes added replaced more less key one seen written old now new before listed after so_far is there change_is more_is more_few less_is less_few =
    PlacedSoFar-next (holdings_by states) number (entries changes) i writes added replaced (added + more) (replaced + less) key one written old now new before listed after so_far is
    (subst (λ (o : Option State). PlacesChange number key one (option_map holding_of o) now new listed after written) there change_is)
    (ap (λ (n : ℕ). added + n) more_is) (omega (arith, more_few))
    (ap (λ (n : ℕ). replaced + n) (less_is ∙ ap (λ (o : Option State). bytes_at key (place_held (option_map holding_of o))) there)) (omega (arith, less_few))

-- the keys of changes
abbrev pub map_keys : List (List ℕ × Change) → List (List ℕ)
map_keys changes = map (λ (one : List ℕ × Change). one.0) changes

before-placed : (one : Placed) (rest : Result (List Placed) (List ℕ × ℕ)) (placed : List Placed) → placed_before one rest ≡ Ok placed → (others : List Placed) × (rest ≡ Ok others) × (one ∷ others ≡ placed)
before-placed one (Ok others) placed is = (others, refl, cc is)
before-placed one (Err none) placed is = absurd (cc is)

then-placed : (key : List ℕ) (r : Result (List ℕ) ℕ) (make : List ℕ → Placed) (rest : Placed → Result (List Placed) (List ℕ × ℕ)) (placed : List Placed) → placed_then key r make rest ≡ Ok placed
    → (heads : List ℕ) × (others : List Placed) × (rest (make heads) ≡ Ok others) × (make heads ∷ others ≡ placed)
then-placed key (Ok heads) make rest placed is =
    let behind = before-placed (make heads) (rest (make heads)) placed is in
    (heads, behind.0, behind.1, behind.2)
then-placed key (Err tier) make rest placed is = absurd (cc is)

-- placed changes are those of the keys, in their order
pub place_all-keys : (pages : ℕ) (held : List ℕ → Option Holding) (changes : List (List ℕ × Change)) (owned : List Block) (placed : List Placed) → place_all pages held (needs_of changes) owned ≡ Ok placed
    → map (λ (one : Placed). one.key) placed ≡ map_keys changes
place_all-keys pages held [] owned placed is = let none : [] ≡ placed = cc is in ap (map (λ (one : Placed). one.key)) (sym none)
place_all-keys pages held (one ∷ changes) owned placed is =
    let behind = then-placed one.0 (taken pages (tiers_of (need_of one.1) (held one.0)) owned) (placed_as held one.0 (need_of one.1)) (λ (p : Placed). place_all pages held (needs_of changes) (new_blocks p ++ owned)) placed is in
    let p : Placed = placed_as held one.0 (need_of one.1) behind.0 in
    ap (map (λ (x : Placed). x.key)) (sym behind.3)
    ∙ ap (λ (ks : List (List ℕ)). one.0 ∷ ks) (place_all-keys pages held changes (new_blocks p ++ owned) behind.1 behind.2)

-- and free what stood there
pub place_all-freed : (pages : ℕ) (held : List ℕ → Option Holding) (changes : List (List ℕ × Change)) (owned : List Block) (placed : List Placed) → place_all pages held (needs_of changes) owned ≡ Ok placed
    → flat_map freed_blocks placed ≡ left_by held changes
place_all-freed pages held [] owned placed is = let none : [] ≡ placed = cc is in ap (flat_map freed_blocks) (sym none)
place_all-freed pages held (one ∷ changes) owned placed is =
    let behind = then-placed one.0 (taken pages (tiers_of (need_of one.1) (held one.0)) owned) (placed_as held one.0 (need_of one.1)) (λ (p : Placed). place_all pages held (needs_of changes) (new_blocks p ++ owned)) placed is in
    let p : Placed = placed_as held one.0 (need_of one.1) behind.0 in
    ap (flat_map freed_blocks) (sym behind.3)
    ∙ ap (λ (bs : List Block). freed_blocks p ++ bs) (place_all-freed pages held changes (new_blocks p ++ owned) behind.1 behind.2)
