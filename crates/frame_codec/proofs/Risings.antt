-- Keys that rise one by one are sorted.
use Rattle.std.proofs.Common.{◌≡◌, ℕ, ◌+◌, suc, arith, Bool, true, false, ◌&&◌, List, [], ◌∷◌, ◌++◌, map, refl, sym, ap, ◌∙◌}
use Rattle.std.specs.Ordering.{is_lt}
use Rattle.std.specs.FinMap.Entries.{below_all, is_sorted}
use Rattle.std.proofs.Math.Dec.{T}
use Rattle.std.specs.declared.cmp.Ordering.{Ordering}
use Rattle.std.specs.declared.cmp.Ordering.TheVariants.{Less, Equal, Greater}
use Rattle.store_model.specs.Frame as model
use Rattle.store_model.specs.Key.{key_order}
use Rattle.store_model.proofs.SortedLaws.{keys_total}
use Rattle.frame_codec.specs.Values.{model_write}
use Rattle.frame_codec.specs.Writes.{do_rise, key_of_write}
use Rattle.frame_codec.specs.declared.entry.Write.{Write}
use Rattle.frame_codec.proofs.Followings.{model_key}

both : (a b : Bool) → T a → T b → T (a && b)
both true b p q = q
both false b p q = absurd p

both-first : (a b : Bool) → T (a && b) → T a
both-first true b p = tt
both-first false b p = absurd p

both-second : (a b : Bool) → T (a && b) → T b
both-second true b p = p
both-second false b p = absurd p

is-less : (o : Ordering) → T (is_lt o) → o ≡ Less
is-less Less p = refl
is-less Equal p = absurd p
is-less Greater p = absurd p

less-is : (o : Ordering) → o ≡ Less → T (is_lt o)
less-is o is = rw is tt

-- below a key, and so below all that it is below
below-all : {V : Type 0} (x y : List ℕ) (es : List (List ℕ × V)) → key_order x y ≡ Less → T (below_all key_order y es) → T (below_all key_order x es)
below-all x y [] less below = tt
below-all x y (e ∷ es) less below =
    let first : key_order y e.0 ≡ Less = is-less (key_order y e.0) (both-first (is_lt (key_order y e.0)) (below_all key_order y es) below) in
    both (is_lt (key_order x e.0)) (below_all key_order x es) (less-is (key_order x e.0) (keys_total.trans x y e.0 less first))
    (below-all x y es less (both-second (is_lt (key_order y e.0)) (below_all key_order y es) below))

-- writes with their keys
abbrev keyed : List Write → List (List ℕ × Write)
keyed writes = map (λ one. (key_of_write one, one)) writes

pub do_rise-rise : (writes : List Write) → model.DoKeysRise (map model_write writes) → do_rise writes
do_rise-rise [] rise = tt
do_rise-rise (one ∷ []) rise = tt
do_rise-rise (one ∷ other ∷ writes) rise =
    let x : List ℕ = key_of_write one in
    let y : List ℕ = key_of_write other in
    let rest : T (is_sorted key_order (keyed (other ∷ writes))) = do_rise-rise (other ∷ writes) (λ i a b is next. rise (suc i) a b is (let same : suc i + 1 ≡ suc (i + 1) = omega arith in rw same next)) in
    let less : key_order x y ≡ Less =
    ap (λ (k : List ℕ). key_order k y) (sym (model_key one)) ∙ ap (key_order (model.key_of_write (model_write one))) (sym (model_key other))
    ∙ rise 0 (model_write one) (model_write other) refl refl in
    let below : T (below_all key_order y (keyed writes)) = both-first (below_all key_order y (keyed writes)) (is_sorted key_order (keyed writes)) rest in
    both (below_all key_order x (keyed (other ∷ writes))) (is_sorted key_order (keyed (other ∷ writes)))
    (both (is_lt (key_order x y)) (below_all key_order x (keyed writes)) (less-is (key_order x y) less) (below-all x y (keyed writes) less below)) rest

-- one more write
pub do_rise-next : (writes : List Write) (one : Write) (all : List model.Write) → map model_write (writes ++ one ∷ []) ≡ all → model.DoKeysRise all → do_rise (writes ++ one ∷ [])
do_rise-next writes one all same rise = do_rise-rise (writes ++ one ∷ []) (rw (← same) at rise)
