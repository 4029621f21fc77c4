-- What a part of a group's transactions makes of the objects before it: what the group sets stands under the keys that they change,
-- and under the others what stood there.
use Rattle.std.proofs.Common.{◌≡◌, ℕ, ◌⊎◌, Bool, true, false, cond, List, [], ◌∷◌, map, Option, Some, None, inl, inr, refl, sym, ap, ◌∙◌, subst, arith}
use Rattle.std.specs.Prelude.{Contains, fold}
use Rattle.std.specs.Cmp.{eq_by_cmp_equiv}
use Rattle.std.specs.FinMap.{FinMap, get, get-insert, get-remove}
use Rattle.std.specs.Ordering.{eq_by_cmp}
use Rattle.std.proofs.lemmas.Bool.{cases_Bool}
use Rattle.store_model.specs.Group.{Commit}
use Rattle.store_model.specs.Key.{key_order}
use Rattle.store_model.specs.Placing.{Placed}
use Rattle.store_model.specs.Store.{Object}
use Rattle.store_model.specs.Survival.{DoesChange, IsUnder, with_changes, with_commits, with_placed}
use Rattle.store_model.specs.Transaction.{with_object}
use Rattle.store_model.proofs.RemovalLaws.{tied}
use Rattle.store_model.proofs.SetLaws.{among-behind, among-cases, among-first, apart-test}
use Rattle.store_model.proofs.SortedLaws.{keys_total}

-- what stands under a key where another object, or none, was put
pub get-with_object : (objects : FinMap key_order Object) (k : List ℕ) (one : Option Object) (key : List ℕ)
    → get (with_object objects k one) key ≡ cond (eq_by_cmp key_order key k) one (get objects key)
get-with_object objects k (Some object) key = get-insert keys_total objects k object key
get-with_object objects k None key = get-remove keys_total objects k key

-- a key that isn't the one stays as it was
pub placed-other : (after objects : FinMap key_order Object) (one : Placed) (key : List ℕ) → (key ≡ one.key → ⊥)
    → get (with_placed after objects one) key ≡ get objects key
placed-other after objects one key differ =
    get-with_object objects one.key (get after one.key) key
    ∙ ap (λ (b : Bool). cond b (get after one.key) (get objects key)) (apart-test key one.key differ)

-- the one has what is there after it
placed-sets : (after objects : FinMap key_order Object) (one : Placed) → get (with_placed after objects one) one.key ≡ get after one.key
placed-sets after objects one =
    get-with_object objects one.key (get after one.key) one.key
    ∙ ap (λ (b : Bool). cond b (get after one.key) (get objects one.key)) ((eq_by_cmp_equiv keys_total).refl one.key)

-- a key is the one or it isn't
pub key-cases : (key k : List ℕ) → (key ≡ k) ⊎ (key ≡ k → ⊥)
key-cases key k =
    elim (cases_Bool (eq_by_cmp key_order key k)) [
      | inl here ↦ inl (tied key k here)
      | inr other ↦ inr (λ same. differs (subst (λ (q : List ℕ). eq_by_cmp key_order q k ≡ false) same other))
    ] where
      differs : eq_by_cmp key_order k k ≡ false → ⊥
      differs wrong = let both : true ≡ false = sym ((eq_by_cmp_equiv keys_total).refl k) ∙ wrong in absurd (cc both)

-- what is there already stays
placed-stays : (after objects : FinMap key_order Object) (one : Placed) (key : List ℕ) → get objects key ≡ get after key
    → get (with_placed after objects one) key ≡ get after key
placed-stays after objects one key is =
    elim (key-cases key one.key) [
      | inl here ↦ subst (λ (k : List ℕ). get (with_placed after objects one) k ≡ get after k) (sym here) (placed-sets after objects one)
      | inr other ↦ placed-other after objects one key other ∙ is
    ]

changes-stays : (after objects : FinMap key_order Object) (placed : List Placed) (key : List ℕ) → get objects key ≡ get after key
    → get (fold (with_placed after) objects placed) key ≡ get after key
changes-stays after objects [] key is = is
changes-stays after objects (one ∷ placed) key is = changes-stays after (with_placed after objects one) placed key (placed-stays after objects one key is)

changes-other : (after objects : FinMap key_order Object) (placed : List Placed) (key : List ℕ) → (Contains (map (λ one. one.key) placed) key → ⊥)
    → get (fold (with_placed after) objects placed) key ≡ get objects key
changes-other after objects [] key unnamed = refl
changes-other after objects (one ∷ placed) key unnamed =
    changes-other after (with_placed after objects one) placed key
    (λ named. unnamed (among-behind one.key (map (λ (p : Placed). p.key) placed) key named))
    ∙ placed-other after objects one key (λ same. unnamed (0, omega arith, sym same))

changes-set : (after objects : FinMap key_order Object) (placed : List Placed) (key : List ℕ) → Contains (map (λ one. one.key) placed) key
    → get (fold (with_placed after) objects placed) key ≡ get after key
changes-set after objects [] key named = absurd (omega (arith, named.1))
changes-set after objects (one ∷ placed) key named =
    elim (among-cases one.key (map (λ (p : Placed). p.key) placed) key named) [
      | inl here ↦
          changes-stays after (with_placed after objects one) placed key
          (subst (λ (k : List ℕ). get (with_placed after objects one) k ≡ get after k) here (placed-sets after objects one))
      | inr behind ↦ changes-set after (with_placed after objects one) placed key behind
    ]

-- a key that the first changes, or one behind it
pub under-first : (commit : Commit) (commits : List Commit) (key : List ℕ) → DoesChange commit key → IsUnder (commit ∷ commits) key
under-first commit commits key changes = (commit, among-first commit commits, changes)

pub under-behind : (commit : Commit) (commits : List Commit) (key : List ℕ) → IsUnder commits key → IsUnder (commit ∷ commits) key
under-behind commit commits key under = (under.0, among-behind commit commits under.0 under.1, under.2)

pub under-cases : (commit : Commit) (commits : List Commit) (key : List ℕ) → IsUnder (commit ∷ commits) key → DoesChange commit key ⊎ IsUnder commits key
under-cases commit commits key under =
    elim (among-cases commit commits under.0 under.1) [
      | inl here ↦ inl (subst (λ (c : Commit). DoesChange c key) (sym here) under.2)
      | inr behind ↦ inr (under.0, behind, under.2)
    ]

commits-stay : (before after : FinMap key_order Object) (commits : List Commit) (key : List ℕ) → get before key ≡ get after key
    → get (with_commits before after commits) key ≡ get after key
commits-stay before after [] key is = is
commits-stay before after (commit ∷ commits) key is = commits-stay (with_changes after before commit) after commits key (changes-stays after before commit.placed key is)

-- A key that none of them changes stays as it was.
pub commits-other : (before after : FinMap key_order Object) (commits : List Commit) (key : List ℕ) → (IsUnder commits key → ⊥)
    → get (with_commits before after commits) key ≡ get before key
commits-other before after [] key none = refl
commits-other before after (commit ∷ commits) key none =
    commits-other (with_changes after before commit) after commits key (λ under. none (under-behind commit commits key under))
    ∙ changes-other after before commit.placed key (λ changes. none (under-first commit commits key changes))

-- One that they change has what the group sets.
pub commits-set : (before after : FinMap key_order Object) (commits : List Commit) (key : List ℕ) → IsUnder commits key
    → get (with_commits before after commits) key ≡ get after key
commits-set before after [] key under = absurd (omega (arith, under.1.1))
commits-set before after (commit ∷ commits) key under =
    elim (under-cases commit commits key under) [
      | inl here ↦ commits-stay (with_changes after before commit) after commits key (changes-set after before commit.placed key here)
      | inr behind ↦ commits-set (with_changes after before commit) after commits key behind
    ]

-- whether one of these changes a key is decided
named-decided : (placed : List Placed) (key : List ℕ) → Contains (map (λ one. one.key) placed) key ⊎ (Contains (map (λ one. one.key) placed) key → ⊥)
named-decided [] key = inr (λ named. absurd (omega (arith, named.1)))
named-decided (one ∷ placed) key =
    let keys : List (List ℕ) = map (λ (p : Placed). p.key) placed in
    elim (key-cases one.key key) [
      | inl here ↦ inl (0, omega arith, here)
      | inr other ↦ elim (named-decided placed key) [
        | inl behind ↦ inl (among-behind one.key keys key behind)
        | inr none ↦ inr (λ named. elim (among-cases one.key keys key named) [
          | inl here ↦ other here
          | inr behind ↦ none behind
        ])
      ]
    ]

pub under-decided : (commits : List Commit) (key : List ℕ) → IsUnder commits key ⊎ (IsUnder commits key → ⊥)
under-decided [] key = inr (λ under. absurd (omega (arith, under.1.1)))
under-decided (commit ∷ commits) key =
    elim (named-decided commit.placed key) [
      | inl here ↦ inl (under-first commit commits key here)
      | inr other ↦ elim (under-decided commits key) [
        | inl behind ↦ inl (under-behind commit commits key behind)
        | inr none ↦ inr (λ under. elim (under-cases commit commits key under) [
          | inl here ↦ other here
          | inr behind ↦ none behind
        ])
      ]
    ]

-- Where all of a group are kept the store after it stands, if what they don't change is as before.
pub commits-all : (before after : FinMap key_order Object) (commits : List Commit) (key : List ℕ) → ((IsUnder commits key → ⊥) → get before key ≡ get after key)
    → get (with_commits before after commits) key ≡ get after key
commits-all before after commits key others =
    elim (under-decided commits key) [
      | inl under ↦ commits-set before after commits key under
      | inr none ↦ commits-other before after commits key none ∙ others none
    ]
