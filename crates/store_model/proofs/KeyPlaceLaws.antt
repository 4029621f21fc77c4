-- A text is a key, or has a first place that shows it is none.
use Rattle.std.proofs.Common.{◌≡◌, ℕ, zero, suc, ◌+◌, ◌-◌, ◌<◌, ◌≤◌, ◌==◌, inl, inr, true, false, List, [], ◌∷◌, length, drop, get_or, sym, ◌∙◌, ap, arith, length-drop}
use Rattle.std.proofs.lemmas.Bool.{both_ways, cases_Bool, cases_lt, eq-eqb, eqb-true}
use Rattle.std.proofs.lemmas.List.{get_or-drop}
use Rattle.store_model.specs.Key.{IsBadAt, is_key, is_key_character}
use Rattle.store_model.proofs.KeyTextLaws.{NameRead, RelationRead, bad_name, bad_relation, read_is_key}

-- how many key characters stand at the front of a text, up to so many
record Characters (text : List ℕ) (most count : ℕ) : Type 0 where
  within : count ≤ length text
  few : count ≤ most
  each : (k : ℕ) → k < count → is_key_character (get_or text k 0) ≡ true
  last : count < length text → count < most → is_key_character (get_or text count 0) ≡ false

one-more : (c : ℕ) (text : List ℕ) (n : ℕ) → is_key_character c ≡ true → ((k : ℕ) → k < n → is_key_character (get_or text k 0) ≡ true)
    → (k : ℕ) → k < suc n → is_key_character (get_or (c ∷ text) k 0) ≡ true
one-more c text n first others zero below = first
one-more c text n first others (suc k) below = others k (omega (arith, below))

characters : (text : List ℕ) (most : ℕ) → (count : ℕ) × Characters text most count
characters [] most = (0, record { within = omega arith; few = omega arith; each = λ k below. absurd (omega (arith, below)); last = λ has fewer. absurd (omega (arith, has)) })
characters (c ∷ text) zero = (0, record { within = omega arith; few = omega arith; each = λ k below. absurd (omega (arith, below)); last = λ has fewer. absurd (omega (arith, fewer)) })
characters (c ∷ text) (suc most) =
    let rest = characters text most in
    elim (cases_Bool (is_key_character c)) [
      | inl passes ↦ (
        suc rest.0,
        record {
          within = omega (arith, rest.1.within);
          few = omega (arith, rest.1.few);
          each = one-more c text rest.0 passes rest.1.each;
          last = λ has fewer. rest.1.last (omega (arith, has)) (omega (arith, fewer));
        },
      )
      | inr fails ↦ (
        0,
        record { within = omega arith; few = omega arith; each = λ k below. absurd (omega (arith, below)); last = λ has fewer. fails },
      )
    ]

relation-some : (text : List ℕ) → (relation : ℕ) × RelationRead text relation
relation-some text =
    let read = characters text 16 in
    (read.0, record { within = read.1.within; most = read.1.few; each = read.1.each; last = read.1.last })

name-some : (text : List ℕ) (relation : ℕ) → relation + 1 ≤ length text → (name : ℕ) × NameRead text relation name
name-some text relation within =
    let read = characters (drop (relation + 1) text) 47 in
    let long : length (drop (relation + 1) text) ≡ length text - (relation + 1) = length-drop (relation + 1) text in (
      read.0,
      record {
        within = omega (arith, read.1.within, long, within);
        most = read.1.few;
        each = λ k below. ap is_key_character (sym (get_or-drop (relation + 1) text k 0)) ∙ read.1.each k below;
        last = λ has fewer. ap is_key_character (sym (get_or-drop (relation + 1) text read.0 0)) ∙ read.1.last (omega (arith, has, long)) fewer;
      },
    )

-- a name was read behind a slash
named-bad : (text : List ℕ) (relation : ℕ) → RelationRead text relation → 1 ≤ relation → relation < length text → get_or text relation 0 ≡ 47 → is_key text ≡ false
    → (at : ℕ) × IsBadAt text at
named-bad text relation read some has slash no_key =
    let name = name-some text relation (omega (arith, has)) in
    elim (cases_lt 0 name.0) [
      | inr none ↦ (relation + 1 + name.0, bad_name text relation name.0 read some slash name.1 (inl (omega (arith, none))))
      | inl any ↦ elim (cases_lt (relation + 1 + name.0) (length text)) [
        | inl more ↦ (relation + 1 + name.0, bad_name text relation name.0 read some slash name.1 (inr more))
        | inr end ↦
            absurd (both_ways (is_key text) no_key (read_is_key text relation name.0 read some slash name.1 (omega (arith, any)) (omega (arith, end, name.1.within))))
      ]
    ]

-- A text that is no key has a first place that shows it.
pub IsBadAt-some : (text : List ℕ) → is_key text ≡ false → (at : ℕ) × IsBadAt text at
IsBadAt-some text no_key =
    let relation = relation-some text in
    elim (cases_lt 0 relation.0) [
      | inr none ↦ (relation.0, bad_relation text relation.0 relation.1 (inl (omega (arith, none))))
      | inl some ↦ elim (cases_lt relation.0 (length text)) [
        | inr end ↦ (relation.0, bad_relation text relation.0 relation.1 (inr (λ has slash. absurd (omega (arith, has, end)))))
        | inl has ↦ elim (cases_Bool (get_or text relation.0 0 == 47)) [
          | inl slash ↦ named-bad text relation.0 relation.1 (omega (arith, some)) has (eqb-true (get_or text relation.0 0) 47 slash) no_key
          | inr other ↦
              (relation.0, bad_relation text relation.0 relation.1 (inr (λ within slash. both_ways (get_or text relation.0 0 == 47) other (eq-eqb (get_or text relation.0 0) 47 slash))))
        ]
      ]
    ]
