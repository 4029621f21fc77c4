-- A relation, as contracts see it.
use Rattle.std.specs.Prelude.{ℕ, ◌+◌, ◌^◌, ◌<◌, ◌≤◌, ◌≡◌, List, length, Option, refl}
use Rattle.std.specs.Coded.{Coded, code_by, coded×, coded_list, coded_option, coded_ℕ}
use Rattle.std.specs.Vec.{vec_capacity, vec_len}
use Rattle.std.specs.FinMap.{FinMap, code, entries, from_sorted}
use Rattle.store_model.specs.Key.{key_order}
use Rattle.store_model.specs.Holds.{place_of}
use Rattle.store_model.specs.Space.{Block, blocks_of}
use Rattle.store_model.specs.State.{Extent, State}
use Rattle.store_model.specs.Tuple.{spelling}
use Rattle.std.specs.List.{flat_map, sum_by}
use Rattle.relation.specs.declared.relation.Relation.TheInside.{Inside}
use Rattle.relation.specs.Entries.{are_sorted, entries_of}

-- the states by their keys, and how many more keys can be set without taking memory
pub record Parts : Type 0 where
  pub states : FinMap key_order State
  pub spare : ℕ

-- Codes of these values, by which proofs tell them apart.
abbrev pub extent_code : Coded Extent
extent_code = code_by (ℕ × List ℕ) (coded× coded_ℕ (coded_list coded_ℕ)) (λ e. (e.head, e.mark)) (λ p. record { head = p.0; mark = p.1 }) (λ _. refl)

abbrev pub state_code : Coded State
state_code =
    code_by ((ℕ × ℕ) × ((List ℕ × List ℕ) × (List Extent × Option ℕ)))
    (coded× (coded× coded_ℕ coded_ℕ) (coded× (coded× (coded_list coded_ℕ) (coded_list coded_ℕ)) (coded× (coded_list extent_code) (coded_option coded_ℕ))))
    (λ s. ((s.size, s.born), ((s.digest, s.prefix), (s.extents, s.tail))))
    (λ p. record { size = p.0.0; born = p.0.1; digest = p.1.0.0; prefix = p.1.0.1; extents = p.1.1.0; tail = p.1.1.1 })
    (λ _. refl)

abbrev pub parts_code : Coded Parts
parts_code =
    code_by (FinMap key_order State × ℕ) (coded× (code (coded_list coded_ℕ) state_code) coded_ℕ) (λ p. (p.states, p.spare)) (λ q. record { states = q.0; spare = q.1 }) (λ _. refl)

abbrev pub parts_of : Inside → Parts
parts_of r = record { states = from_sorted (entries_of r.entries.items); spare = r.spare }

-- how many bytes states take where they are stored, each with its key
abbrev pub encoded_bytes : List (List ℕ × State) → ℕ
encoded_bytes es = sum_by (λ entry. length (spelling entry.0 entry.1)) es

-- a relation keeps the count of its bytes below this
abbrev pub bytes_bound : ℕ
bytes_bound = 2 ^ 62

-- the entries stand in the order of their keys, a place is free for each spare one, and there is room for a free place to
-- become an entry and back, and the bytes are those that the entries take
pub record IsSound (r : Inside) : Type 0 where
  pub sorted : are_sorted (entries_of r.entries.items)
  pub spare : r.spare ≤ vec_len r.free
  pub room : vec_len r.entries + vec_len r.free ≤ vec_capacity r.entries
  pub back : vec_len r.entries + vec_len r.free ≤ vec_capacity r.free
  pub bytes : r.bytes ≡ encoded_bytes (entries_of r.entries.items)
  pub few : r.bytes < bytes_bound

-- the blocks of states by their keys, one behind the other
abbrev pub blocks_by : List (List ℕ × State) → List Block
blocks_by es = flat_map (λ entry. blocks_of (place_of entry.1)) es

-- the blocks of all states, in the order of the keys
abbrev pub owned_by : FinMap key_order State → List Block
owned_by states = blocks_by (entries states)

-- how many bytes the states of a relation take where they are stored
abbrev pub encoded_by : FinMap key_order State → ℕ
encoded_by states = encoded_bytes (entries states)
