-- The transactions that a group commits: no two change one key, their numbers go on, and each changes the keys of its session's
-- transaction.
use Rattle.std.proofs.Common.{◌≡◌, ℕ, ◌+◌, Bool, true, false, ◌||◌, cond, List, [], ◌∷◌, ◌++◌, map, Option, Some, None, Result, Ok, Err, inl, inr, refl, sym, ap, ◌∙◌, arith}
use Rattle.std.specs.Prelude.{⊤, Contains, nat_lt}
use Rattle.std.specs.Cmp.Lexicographic.{nat_list_eq_equiv}
use Rattle.std.specs.List.{list_any}
use Rattle.std.proofs.lemmas.Bool.{both_ways}
use Rattle.std.proofs.lemmas.Map.Views.{list_any-from_Contains}
use Rattle.store_model.specs.Group.{Commit, is_among}
use Rattle.store_model.specs.Judgement.{Ahead, Asked, Ledger, NoNumber, NoRoom, Tally, first_moved, growth_of, judge, judge_places, judge_reads}
use Rattle.store_model.specs.Placing.{Holding, Need, Placed, new_blocks, place_all, placed_before, placed_then, tiers_of}
use Rattle.store_model.specs.Places.{taken}
use Rattle.store_model.specs.Space.{Block}
use Rattle.store_model.specs.State.{greatest_number}
use Rattle.store_model.specs.Survival.{AreChangesApart, DoesChange}
use Rattle.store_model.specs.Turn.{Session}
use Rattle.store_model.specs.World.{changes_of}
use Rattle.store_model.proofs.SetLaws.{among-cases}

-- the keys of placed changes, and of what changes need
abbrev pub placed_keys : List Placed → List (List ℕ)
placed_keys placed = map (λ one. one.key) placed

abbrev pub first_keys : {X : Type 0} → List (List ℕ × X) → List (List ℕ)
first_keys ones = map (λ one. one.0) ones

before-placed : (one : Placed) (rest : Result (List Placed) (List ℕ × ℕ)) (placed : List Placed) → placed_before one rest ≡ Ok placed
    → (others : List Placed) × (rest ≡ Ok others) × (one ∷ others ≡ placed)
before-placed one (Ok others) placed is = (others, refl, cc is)
before-placed one (Err none) placed is = absurd (cc is)

then-placed : (key : List ℕ) (r : Result (List ℕ) ℕ) (make : List ℕ → Placed) (rest : Placed → Result (List Placed) (List ℕ × ℕ)) (placed : List Placed)
    → placed_then key r make rest ≡ Ok placed → (heads : List ℕ) × (others : List Placed) × (rest (make heads) ≡ Ok others) × (make heads ∷ others ≡ placed)
then-placed key (Ok heads) make rest placed is =
    let behind = before-placed (make heads) (rest (make heads)) placed is in
    (heads, behind.0, behind.1, behind.2)
then-placed key (Err tier) make rest placed is = absurd (cc is)

-- placed changes are those of the keys, in their order
placed-keys : (pages : ℕ) (held : List ℕ → Option Holding) (needs : List (List ℕ × Need)) (owned : List Block) (placed : List Placed)
    → place_all pages held needs owned ≡ Ok placed → placed_keys placed ≡ first_keys needs
placed-keys pages held [] owned placed is = let none : [] ≡ placed = cc is in ap placed_keys (sym none)
placed-keys pages held (one ∷ needs) owned placed is =
    let make : List ℕ → Placed = λ heads. record { key = one.0; need = one.1; old = held one.0; heads = heads } in
    let rest : Placed → Result (List Placed) (List ℕ × ℕ) = λ p. place_all pages held needs (new_blocks p ++ owned) in
    let behind = then-placed one.0 (taken pages (tiers_of one.1 (held one.0)) owned) make rest placed is in
    ap placed_keys (sym behind.3)
    ∙ ap (λ (ks : List (List ℕ)). one.0 ∷ ks) (placed-keys pages held needs (new_blocks (make behind.0) ++ owned) behind.1 behind.2)

room-placed : (bytes room : ℕ) (some placed : List Placed) (b : Bool) → cond b (Err (NoRoom bytes room)) (Ok some) ≡ Ok placed → some ≡ placed
room-placed bytes room some placed true is = absurd (cc is)
room-placed bytes room some placed false is = cc is

places-keys : (ledger : Ledger) (tally : Tally) (asked : Asked) (r : Result (List Placed) (List ℕ × ℕ)) (placed : List Placed)
    → place_all ledger.pages ledger.held asked.needs (tally.taken ++ ledger.owned) ≡ r → judge_places ledger tally r ≡ Ok placed
    → placed_keys placed ≡ first_keys asked.needs
places-keys ledger tally asked (Err none) placed found is = absurd (cc is)
places-keys ledger tally asked (Ok some) placed found is =
    let bytes : ℕ = ledger.bytes + tally.grown + growth_of some in
    let same : some ≡ placed = room-placed bytes ledger.room some placed (nat_lt ledger.room bytes) is in
    ap placed_keys (sym same) ∙ placed-keys ledger.pages ledger.held asked.needs (tally.taken ++ ledger.owned) some found

number-keys : (ledger : Ledger) (tally : Tally) (asked : Asked) (b : Bool) (placed : List Placed)
    → cond b (judge_places ledger tally (place_all ledger.pages ledger.held asked.needs (tally.taken ++ ledger.owned))) (Err (NoNumber tally.last)) ≡ Ok placed
    → placed_keys placed ≡ first_keys asked.needs
number-keys ledger tally asked false placed is = absurd (cc is)
number-keys ledger tally asked true placed is =
    places-keys ledger tally asked (place_all ledger.pages ledger.held asked.needs (tally.taken ++ ledger.owned)) placed refl is

reads-keys : (ledger : Ledger) (tally : Tally) (asked : Asked) (moved : Option (List ℕ × Option ℕ)) (placed : List Placed)
    → judge_reads ledger tally asked moved ≡ Ok placed → placed_keys placed ≡ first_keys asked.needs
reads-keys ledger tally asked (Some moved) placed is = absurd (cc is)
reads-keys ledger tally asked None placed is = number-keys ledger tally asked (nat_lt tally.last greatest_number) placed is

told-keys : (ledger : Ledger) (tally : Tally) (asked : Asked) (b : Bool) (placed : List Placed)
    → cond b (Err (Ahead asked.seen ledger.last)) (judge_reads ledger tally asked (first_moved ledger asked.reads)) ≡ Ok placed
    → placed_keys placed ≡ first_keys asked.needs
told-keys ledger tally asked true placed is = absurd (cc is)
told-keys ledger tally asked false placed is = reads-keys ledger tally asked (first_moved ledger asked.reads) placed is

-- a request that is committed changes the keys that it asked for
pub judged-keys : (ledger : Ledger) (tally : Tally) (asked : Asked) (placed : List Placed) → judge ledger tally asked ≡ Ok placed
    → placed_keys placed ≡ first_keys asked.needs
judged-keys ledger tally asked placed is = told-keys ledger tally asked (nat_lt ledger.last asked.seen) placed is

-- numbers go on behind this one
abbrev pub AreNumbered : ℕ → List Commit → Type 0
AreNumbered last [] = ⊤
AreNumbered last (commit ∷ commits) = (commit.number ≡ last + 1) × AreNumbered (last + 1) commits

-- what holds of the transactions that are committed behind those that came to a tally
pub record AreCommitted (sessions : ℕ → Session) (tally : Tally) (commits : List Commit) : Type 0 where
  pub fresh : (commit : Commit) (key : List ℕ) → Contains commits commit → DoesChange commit key → Contains tally.changed key → ⊥
  pub apart : AreChangesApart commits
  pub numbers : AreNumbered tally.last commits
  pub keys : (commit : Commit) → Contains commits commit → placed_keys commit.placed ≡ first_keys (changes_of sessions commit.session)

pub none-committed : (sessions : ℕ → Session) (tally : Tally) → AreCommitted sessions tally []
none-committed sessions tally = record {
  fresh = λ commit key among changes changed. absurd (omega (arith, among.1));
  apart = λ i j one other key less at there changes again. absurd (cc at);
  numbers = tt;
  keys = λ commit among. absurd (omega (arith, among.1));
}

-- of two that aren't, the second isn't
pub second-false : (a b : Bool) → a || b ≡ false → b ≡ false
second-false true b is = absurd (cc is)
second-false false b is = is

first-false : (a b : Bool) → a || b ≡ false → a ≡ false
first-false true b is = is
first-false false b is = refl

-- a request that touches none of some keys asks for none of them
pub untouched : (needs : List (List ℕ × Need)) (changed : List (List ℕ)) (key : List ℕ) → list_any (λ need. is_among need.0 changed) needs ≡ false
    → Contains (first_keys needs) key → Contains changed key → ⊥
untouched [] changed key none among there = absurd (omega (arith, among.1))
untouched (one ∷ needs) changed key none among there =
    let rest : Bool = list_any (λ (need : List ℕ × Need). is_among need.0 changed) needs in
    elim (among-cases one.0 (first_keys needs) key among) [
      | inl here ↦ both_ways (is_among key changed) (ap (λ (k : List ℕ). is_among k changed) (sym here) ∙ first-false (is_among one.0 changed) rest none)
          (list_any-from_Contains nat_list_eq_equiv key changed there)
      | inr behind ↦ untouched needs changed key (second-false (is_among one.0 changed) rest none) behind there
    ]
