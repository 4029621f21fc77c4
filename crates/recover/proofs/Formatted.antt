-- A store without states.
use Rattle.std.proofs.Common.{◌≡◌, ℕ, List, [], length, sym, ap, subst, ◌∙◌, arith}
use Rattle.std.proofs.lemmas.List.{nil_from_length}
use Rattle.std.specs.FinMap.{FinMap, empty, entries, get-empty, len-empty, len-entries}
use Rattle.std.specs.List.{flat_map}
use Rattle.check_point.specs.Writers.{HasTaken, Parts}
use Rattle.store_model.specs.Half.{IsHalf, tuples_spelling}
use Rattle.store_model.specs.Holds.{place_of}
use Rattle.store_model.specs.Key.{key_order}
use Rattle.store_model.specs.Layout.{IsLayout, Layout}
use Rattle.store_model.specs.Reading.{blocks_of_states}
use Rattle.store_model.specs.Space.{Apart, blocks_of, owners}
use Rattle.store_model.specs.State.{State}
use Rattle.store_model.specs.Tuple.{spelling}

-- no states
abbrev pub nothing : FinMap key_order State
nothing = empty

no_entries : entries nothing ≡ []
no_entries = nil_from_length (entries nothing) (sym (len-entries nothing) ∙ len-empty key_order State)

-- a half may have none
pub IsHalf-none : (layout : Layout) → IsLayout layout → IsHalf layout 0 nothing
IsHalf-none layout sound =
    let short : length (tuples_spelling nothing) ≡ 0 = ap (λ (es : List (List ℕ × State)). length (flat_map (λ e. spelling e.0 e.1) es)) no_entries in
    record {
      sound = sound;
      most = omega arith;
      tuples = λ key state there. absurd (cc (get-empty {X = State} key_order key, there));
      born = λ key state there. absurd (cc (get-empty {X = State} key_order key, there));
      room = omega (arith, short);
    }

pub Apart-none : Apart (blocks_of_states nothing)
Apart-none page =
    let alone : owners (blocks_of_states nothing) page ≡ 0 =
    ap (λ (es : List (List ℕ × State)). owners (flat_map (λ e. blocks_of (place_of e.1)) es) page) no_entries in
    omega (arith, alone)

pub HasTaken-none : (writer : Parts) → HasTaken writer [] → HasTaken writer (entries nothing)
HasTaken-none writer had = subst (HasTaken writer) (sym no_entries) had
