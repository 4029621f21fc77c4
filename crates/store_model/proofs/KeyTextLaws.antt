-- Laws of texts that are no keys: the first place that shows it, from how far the relation and the name were read.
use Rattle.std.proofs.Common.{◌≡◌, ◌≢◌, ℕ, ◌+◌, ◌-◌, ◌<◌, ◌≤◌, ◌⊎◌, inl, inr, true, false, List, [], ◌∷◌, ◌++◌, length, take, get_or, refl, sym, ◌∙◌, ap, arith, length-append}
use Rattle.std.proofs.lemmas.Bool.{both_ways, cases_lt, false_from_ne_true}
use Rattle.std.proofs.Math.Nat.{eq-or-lt_of_le, sub_self}
use Rattle.std.proofs.lemmas.List.{get_or-take, get_or_append_left, get_or-append_right, length-take-le}
use Rattle.store_model.specs.Key.{is_key, is_key_character, is_slash, BeginsKey, IsBadAt}
use Rattle.store_model.proofs.KeySplitLaws.{SplitsAt, is_key-from_split, no_slash, same_byte, splits_at-key}

-- Two texts have the same bytes up to this place, which both have.
pub record SameUpTo (one other : List ℕ) (at : ℕ) : Type 0 where
  pub one_has : at < length one
  pub other_has : at < length other
  pub same : (k : ℕ) → k ≤ at → get_or other k 0 ≡ get_or one k 0

-- what stands before the slash, as far as it was read
pub record RelationRead (text : List ℕ) (relation : ℕ) : Type 0 where
  pub within : relation ≤ length text
  pub most : relation ≤ 16
  pub each : (k : ℕ) → k < relation → is_key_character (get_or text k 0) ≡ true
  pub last : relation < length text → relation < 16 → is_key_character (get_or text relation 0) ≡ false

-- the same of what stands behind it
pub record NameRead (text : List ℕ) (relation name : ℕ) : Type 0 where
  pub within : relation + 1 + name ≤ length text
  pub most : name ≤ 47
  pub each : (k : ℕ) → k < name → is_key_character (get_or text (relation + 1 + k) 0) ≡ true
  pub last : relation + 1 + name < length text → name < 47 → is_key_character (get_or text (relation + 1 + name) 0) ≡ false

-- no slash stands among the characters that were read
slash_behind : (text other : List ℕ) (relation at : ℕ) → RelationRead text relation → SplitsAt other at → ((k : ℕ) → k < relation → get_or other k 0 ≡ get_or text k 0) → relation ≤ at
slash_behind text other relation at read s same =
    elim (cases_lt at relation) [
      | inl below ↦ absurd (both_ways (is_slash 47) (no_slash 47 (same_byte 47 _ (sym s.slash ∙ same at below) (read.each at below))) refl)
      | inr not_below ↦ not_below
    ]

-- Where the relation is empty or no slash stands behind it, no text that goes on so is split.
pub no_split_at_relation : (text other : List ℕ) (relation at : ℕ) → RelationRead text relation → (relation ≡ 0) ⊎ (get_or text relation 0 ≢ 47) → SameUpTo text other relation → SplitsAt other at → ⊥
no_split_at_relation text other relation at read broken same s =
    let behind : relation ≤ at = slash_behind text other relation at read s (λ k below. same.same k (omega arith)) in
    let past : relation < at = elim broken [
      | inl none ↦ omega arith
      | inr other_byte ↦ elim (eq-or-lt_of_le behind) [
        | inl here ↦ absurd (other_byte (sym (same.same relation (omega arith)) ∙ ap (λ i. get_or other i 0) here ∙ s.slash))
        | inr lt ↦ lt
      ]
    ] in
    both_ways _ (read.last same.one_has (omega arith)) (same_byte _ _ (sym (same.same relation (omega arith))) (s.before relation past))

-- a relation with nothing behind it is no key
pub no_split_without_slash : (text : List ℕ) (relation at : ℕ) → RelationRead text relation → relation ≡ length text → SplitsAt text at → ⊥
no_split_without_slash text relation at read all s =
    let behind : relation ≤ at = slash_behind text text relation at read s (λ k below. refl) in
    absurd (omega arith)

-- the slash of a text that goes on so stands right behind the relation
slash_there : (text other : List ℕ) (relation at : ℕ) → RelationRead text relation → get_or other relation 0 ≡ 47 → SplitsAt other at → ((k : ℕ) → k < relation → get_or other k 0 ≡ get_or text k 0) → relation ≡ at
slash_there text other relation at read slash s same =
    elim (eq-or-lt_of_le (slash_behind text other relation at read s same)) [
      | inl here ↦ here
      | inr past ↦ absurd (both_ways (is_slash 47) (no_slash 47 (same_byte 47 _ (sym slash) (s.before relation past))) refl)
    ]

-- Behind the name's characters nothing of a key follows.
pub no_split_at_name : (text other : List ℕ) (relation name at : ℕ) → RelationRead text relation → get_or text relation 0 ≡ 47 → NameRead text relation name → SameUpTo text other (relation + 1 + name) → SplitsAt other at → ⊥
no_split_at_name text other relation name at read slash read_name same s =
    let here : relation ≡ at = slash_there text other relation at read (same.same relation (omega arith) ∙ slash) s (λ k below. same.same k (omega arith)) in
    let one_has = same.one_has in
    let other_has = same.other_has in
    elim (cases_lt name 47) [
      | inl few ↦ both_ways _ (read_name.last one_has few) (same_byte _ _ (sym (same.same (relation + 1 + name) (omega arith))) (s.after (relation + 1 + name) (omega arith) other_has))
      | inr many ↦ absurd (omega arith)
    ]

-- a relation and a slash are no key
pub no_split_without_name : (text : List ℕ) (relation at : ℕ) → RelationRead text relation → get_or text relation 0 ≡ 47 → relation + 1 ≡ length text → SplitsAt text at → ⊥
no_split_without_name text relation at read slash all s =
    let here : relation ≡ at = slash_there text text relation at read slash s (λ k below. refl) in
    absurd (omega arith)

-- at most sixteen key characters begin a key
begins_relation : (part : List ℕ) → length part ≤ 16 → ((k : ℕ) → k < length part → is_key_character (get_or part k 0) ≡ true) → BeginsKey part
begins_relation [] few each = (97 ∷ 47 ∷ 97 ∷ [], refl)
begins_relation (c ∷ cs) few each =
    let front : List ℕ = c ∷ cs in
    let more : List ℕ = 47 ∷ 97 ∷ [] in
    let len : length (front ++ more) ≡ length front + 2 = length-append front more in (
      more,
      is_key-from_split (front ++ more) (length front) (record {
        slash = get_or-append_right front more (length front) (length front) 0 refl (omega arith) ∙ ap (λ i. get_or more i 0) (sub_self (length front));
        some_relation = omega arith;
        most_relation = few;
        some_name = omega arith;
        most_name = omega arith;
        before = λ k below. same_byte _ _ (get_or_append_left front more 0 k below) (each k below);
        after = λ k above below.
            let below' : k < length (front ++ more) = below in
            let e : k - length front ≡ 1 = omega arith in
            same_byte _ _ (get_or-append_right front more (length front) k 0 refl (omega arith) ∙ ap (λ i. get_or more i 0) e) refl;
      }),
    )

-- a whole relation, a slash, some of a name, and more of it
split_with : (front more : List ℕ) (relation name : ℕ) → 1 ≤ relation → relation ≤ 16 → length front ≡ relation + 1 + name
    → ((k : ℕ) → k < relation → is_key_character (get_or front k 0) ≡ true) → get_or front relation 0 ≡ 47
    → ((k : ℕ) → k < name → is_key_character (get_or front (relation + 1 + k) 0) ≡ true)
    → ((k : ℕ) → k < length more → is_key_character (get_or more k 0) ≡ true)
    → 1 ≤ name + length more → name + length more ≤ 47 → SplitsAt (front ++ more) relation
split_with front more relation name some most len before slash after each some_name most_name =
    let all : length (front ++ more) ≡ length front + length more = length-append front more in
    record {
      slash = get_or_append_left front more 0 relation (omega arith) ∙ slash;
      some_relation = some;
      most_relation = most;
      some_name = omega arith;
      most_name = omega arith;
      before = λ k below. same_byte _ _ (get_or_append_left front more 0 k (omega arith)) (before k below);
      after = λ k above below. elim (cases_lt k (length front)) [
        | inl within ↦
            let e : relation + 1 + (k - (relation + 1)) ≡ k = omega arith in
            same_byte _ _ (get_or_append_left front more 0 k within ∙ ap (λ i. get_or front i 0) (sym e)) (after (k - (relation + 1)) (omega arith))
        | inr past ↦ same_byte _ _ (get_or-append_right front more (length front) k 0 refl past) (each (k - length front) (omega arith))
      ];
    }

begins_name : (text : List ℕ) (relation name : ℕ) → RelationRead text relation → 1 ≤ relation → get_or text relation 0 ≡ 47 → NameRead text relation name → BeginsKey (take (relation + 1 + name) text)
begins_name text relation name read some slash read_name =
    let end = relation + 1 + name in
    let front = take end text in
    let len : length front ≡ end = length-take-le end text read_name.within in
    let before : (k : ℕ) → k < relation → is_key_character (get_or front k 0) ≡ true =
    λ k below. same_byte _ _ (get_or-take end text k 0 (omega arith)) (read.each k below) in
    let slash_here : get_or front relation 0 ≡ 47 = get_or-take end text relation 0 (omega arith) ∙ slash in
    let after : (k : ℕ) → k < name → is_key_character (get_or front (relation + 1 + k) 0) ≡ true =
    λ k below. same_byte _ _ (get_or-take end text (relation + 1 + k) 0 (omega arith)) (read_name.each k below) in
    elim (cases_lt name 47) [
      | inl few ↦ (
        97 ∷ [],
        is_key-from_split _ relation (split_with front (97 ∷ []) relation name some read.most len before slash_here after
            (λ k below. let e : k ≡ 0 = omega arith in same_byte _ _ (ap (λ i. get_or (97 ∷ []) i 0) e) refl) (omega arith) (omega arith)),
      )
      | inr many ↦ (
        [],
        is_key-from_split _ relation (split_with front [] relation name some read.most len before slash_here after
            (λ k below. absurd (omega arith)) (omega (arith, read_name.most)) (omega (arith, read_name.most))),
      )
    ]

-- what goes on from a front of a text
front_same : (text more : List ℕ) (at : ℕ) → at < length text → SameUpTo text (take (at + 1) text ++ more) at
front_same text more at has =
    let front = take (at + 1) text in
    let len : length front ≡ at + 1 = length-take-le (at + 1) text (omega arith) in
    record {
      one_has = has;
      other_has = omega (arith, length-append front more);
      same = λ k most. get_or_append_left front more 0 k (omega arith) ∙ get_or-take (at + 1) text k 0 (omega arith);
    }

-- a text is no key where it isn't split anywhere
not_key : (text : List ℕ) → ((at : ℕ) → SplitsAt text at → ⊥) → is_key text ≡ false
not_key text none = false_from_ne_true (is_key text) (λ h. none _ (splits_at-key text h))

pub bad_relation : (text : List ℕ) (relation : ℕ) → RelationRead text relation → (relation ≡ 0) ⊎ ((relation < length text → get_or text relation 0 ≢ 47)) → IsBadAt text relation
bad_relation text relation read broken =
    let here : relation < length text → (relation ≡ 0) ⊎ (get_or text relation 0 ≢ 47) = λ has. elim broken [ inl none ↦ inl none | inr slash ↦ inr (slash has) ] in
    record {
      no_key = elim (cases_lt relation (length text)) [
        | inl has ↦ not_key text (λ at s. no_split_at_relation text text relation at read (here has) (record { one_has = has; other_has = has; same = λ k most. refl }) s)
        | inr past ↦ not_key text (λ at s. no_split_without_slash text relation at read (omega (arith, read.within)) s)
      ];
      within = read.within;
      before =
          let len : length (take relation text) ≡ relation = length-take-le relation text read.within in
          begins_relation (take relation text) (omega (arith, read.most)) (λ k below. same_byte _ _ (get_or-take relation text k 0 (omega arith)) (read.each k (omega arith)));
      here = λ has begins. no_split_at_relation text _ relation _ read (here has) (front_same text begins.0 relation has) (splits_at-key _ begins.1);
    }

pub bad_name : (text : List ℕ) (relation name : ℕ) → RelationRead text relation → 1 ≤ relation → get_or text relation 0 ≡ 47 → NameRead text relation name → (name ≡ 0) ⊎ (relation + 1 + name < length text) → IsBadAt text (relation + 1 + name)
bad_name text relation name read some slash read_name broken =
    let end = relation + 1 + name in
    record {
      no_key = elim (cases_lt end (length text)) [
        | inl has ↦ not_key text (λ at s. no_split_at_name text text relation name at read slash read_name (record { one_has = has; other_has = has; same = λ k most. refl }) s)
        | inr past ↦ elim broken [
          | inl none ↦ not_key text (λ at s. no_split_without_name text relation at read slash (omega (arith, read_name.within)) s)
          | inr has ↦ absurd (omega arith)
        ]
      ];
      within = read_name.within;
      before = begins_name text relation name read some slash read_name;
      here = λ has begins. no_split_at_name text _ relation name _ read slash read_name (front_same text begins.0 end has) (splits_at-key _ begins.1);
    }

-- all of a text was read as a relation, a slash and a name
pub read_is_key : (text : List ℕ) (relation name : ℕ) → RelationRead text relation → 1 ≤ relation → get_or text relation 0 ≡ 47 → NameRead text relation name → 1 ≤ name → relation + 1 + name ≡ length text → is_key text ≡ true
read_is_key text relation name read some slash read_name some_name all =
    is_key-from_split text relation (record {
      slash = slash;
      some_relation = some;
      most_relation = read.most;
      some_name = omega arith;
      most_name = omega (arith, read_name.most);
      before = read.each;
      after = λ k above below.
          let e : relation + 1 + (k - (relation + 1)) ≡ k = omega arith in
          same_byte _ _ (ap (λ i. get_or text i 0) (sym e)) (read_name.each (k - (relation + 1)) (omega arith));
    })
