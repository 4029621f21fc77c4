-- Reading a disk as a whole store and reading it as objects are one: each state that verifies stands for an object, whose content is
-- what the pages hold; and a disk reads as one map of objects.
use Rattle.std.proofs.Common.{◌≡◌, ℕ, suc, Bool, true, false, cond, List, [], ◌∷◌, Option, Some, None, refl, sym, ap, subst, ◌∙◌}
use Rattle.std.specs.Prelude.{slice_get}
use Rattle.std.specs.FinMap.{FinMap, empty, entries, get, get-empty, get-entries, get-insert, insert}
use Rattle.std.specs.FinMap.Entries.{find}
use Rattle.std.specs.Ordering.{eq_by_cmp}
use Rattle.store_model.specs.Disk.{HasPages, Image}
use Rattle.store_model.specs.Holds.{Holds, place_of}
use Rattle.store_model.specs.Key.{key_order}
use Rattle.store_model.specs.Layout.{Layout, data_page}
use Rattle.store_model.specs.Reading.{Found, IsWhole, Opened, Reads}
use Rattle.store_model.specs.Stands.{DoAllTell}
use Rattle.store_model.specs.State.{IsState, State, Tells, prefix_of}
use Rattle.store_model.specs.Store.{Object}
use Rattle.store_model.specs.Survival.{BothTold, IsObjectOn, NoneFree, ReadsAs}
use Rattle.store_model.specs.Verify.{Verifies}
use Rattle.store_model.proofs.FoundLaws.{Gives-tuples, entry-there}
use Rattle.store_model.proofs.HoldsLaws.{Holds-there}
use Rattle.store_model.proofs.LeadsToLaws.{LeadsTo-Verifies, Tells-LeadsTo}
use Rattle.store_model.proofs.SortedLaws.{keys_total}
use Rattle.store_model.proofs.SurvivalHeldLaws.{told-content}
use Rattle.store_model.proofs.SurvivalLaws.{told-by}
use Rattle.store_model.proofs.VerifyLaws.{Verifies-Holds}

-- the object of a state, with this content
abbrev object_of : State → List ℕ → Object
object_of state content = record { content = content; number = state.born; place = place_of state }

-- an object that the disk tells by this state
abbrev IsTold : Image → ℕ → State → Object → Type 0
IsTold image first state object = IsObjectOn ⊥ image first state object

-- A state that tells the content that its pages hold tells an object.
content-told : (image : Image) (first : ℕ) (state : State) → IsState state → ((content : List ℕ) × Tells state content × Holds image first state content)
    → (object : Object) × IsTold image first state object
content-told image first state sound (content, tells, holds) = (
  object_of state content,
  record { stands = record { sound = sound; number = refl; place = refl; tells = tells }; holds = λ none. holds },
)

-- what is told under a key where one more state and its object stand under another, or under this one
told-more : (image : Image) (first : ℕ) (here : Bool) (state : State) (object : Object) (others : Option State) (rest : Option Object)
    → IsTold image first state object → BothTold ⊥ image first others rest → BothTold ⊥ image first (cond here (Some state) others) (cond here (Some object) rest)
told-more image first true state object others rest told both = told
told-more image first false state object others rest told both = both

-- these objects are those that a disk tells by these entries
abbrev AreTold : Image → ℕ → List (List ℕ × State) → FinMap key_order Object → Type 0
AreTold image first states objects = (key : List ℕ) → BothTold ⊥ image first (find key_order key states) (get objects key)

-- Objects are told by entries each of which tells one.
objects-of : (image : Image) (first : ℕ) (states : List (List ℕ × State))
    → ((i : ℕ) (one : List ℕ × State) → slice_get states i ≡ Some one → (object : Object) × IsTold image first one.1 object)
    → (objects : FinMap key_order Object) × AreTold image first states objects
objects-of image first [] each = (empty, λ key. subst (λ (o : Option Object). BothTold ⊥ image first None o) (sym (get-empty key_order key)) tt)
objects-of image first (one ∷ states) each =
    let object = each 0 one refl in
    let rest = objects-of image first states (λ i other is. each (suc i) other is) in (
      insert rest.0 one.0 object.0,
      λ key. subst (λ (o : Option Object). BothTold ⊥ image first (find key_order key (one ∷ states)) o) (sym (get-insert keys_total rest.0 one.0 object.0 key))
          (told-more image first (eq_by_cmp key_order key one.0) one.1 object.0 (find key_order key states) (get rest.0 key) object.1 (rest.1 key)),
    )

-- A disk of which each state tells the content that its pages hold reads as objects with these contents.
pub ReadsAs-told : (pages : ℕ) (image : Image) (found : Found) → Reads pages image (Opened found) → DoAllTell image found.layout found.states
    → (objects : FinMap key_order Object) × ReadsAs pages image found.layout objects found.last
ReadsAs-told pages image found reads tell =
    let first : ℕ = data_page found.layout in
    let tuples = Gives-tuples pages image found reads.0 in
    let objects = objects-of image first (entries found.states) (λ i one at.
    let there : get found.states one.0 ≡ Some one.1 = entry-there found.states i one at in
    content-told image first one.1 (tuples one.0 one.1 there).stands (tell one.0 one.1 there)) in (
      objects.0,
      record {
        found = found;
        reads = reads;
        layout_is = refl;
        last_is = refl;
        told = λ key. subst (λ (s : Option State). BothTold ⊥ image first s (get objects.0 key)) (sym (get-entries found.states key)) (objects.1 key);
      },
    )

-- Each state of a whole store tells the content that its pages hold.
pub DoAllTell-whole : (pages : ℕ) (image : Image) (found : Found) → HasPages image → IsWhole pages image found → DoAllTell image found.layout found.states
DoAllTell-whole pages image found whole is key state there =
    let first : ℕ = data_page found.layout in
    let sound : IsState state = (Gives-tuples pages image found is.reads.0 key state there).stands in
    let held = Holds-there image first state whole sound in (
      held.0,
      Tells-LeadsTo held.0 state sound (is.prefix key state held.0 there held.1) (LeadsTo-Verifies image first state held.0 held.1 (is.verifies key state there)),
      held.1,
    )

-- A disk that reads as a whole store reads as objects: their contents are what its pages hold.
pub ReadsAs-whole : (pages : ℕ) (image : Image) (found : Found) → HasPages image → IsWhole pages image found
    → (objects : FinMap key_order Object) × ReadsAs pages image found.layout objects found.last
ReadsAs-whole pages image found whole is = ReadsAs-told pages image found is.reads (DoAllTell-whole pages image found whole is)

-- what a state that tells an object tells
told-tell : (image : Image) (first : ℕ) (state : State) (object : Option Object) → BothTold ⊥ image first (Some state) object
    → (content : List ℕ) × Tells state content × Holds image first state content
told-tell image first state None told = absurd told
told-tell image first state (Some object) told = (object.content, told.stands.tells, told.holds (λ none. none))

-- Each state of a disk that reads as objects tells the content that its pages hold.
pub DoAllTell-reads : (pages : ℕ) (image : Image) (layout : Layout) (objects : FinMap key_order Object) (last : ℕ) (found : Found)
    → ReadsAs pages image layout objects last → Reads pages image (Opened found) → DoAllTell image found.layout found.states
DoAllTell-reads pages image layout objects last found reading reads key state there =
    let told = told-by NoneFree pages image layout objects last found reads reading in
    let here : BothTold ⊥ image (data_page layout) (Some state) (get objects key) =
    subst (λ (s : Option State). BothTold ⊥ image (data_page layout) s (get objects key)) there (told.2 key) in
    told-tell image (data_page found.layout) state (get objects key)
    (subst (λ (l : Layout). BothTold ⊥ image (data_page l) (Some state) (get objects key)) (sym told.1) here)

-- a state that tells an object verifies, and has the first bytes of what its pages hold as its prefix
told-verifies : (image : Image) (first : ℕ) (state : State) (object : Option Object) → BothTold ⊥ image first (Some state) object → Verifies image first state
told-verifies image first state None told = absurd told
told-verifies image first state (Some object) told =
    Verifies-Holds image first state object.content told.stands.sound told.stands.tells (told.holds (λ none. none))

told-prefix : (image : Image) (first : ℕ) (state : State) (object : Option Object) (content : List ℕ) → BothTold ⊥ image first (Some state) object
    → Holds image first state content → state.prefix ≡ prefix_of content
told-prefix image first state None content told held = absurd told
told-prefix image first state (Some object) content told held =
    told.stands.tells.prefix ∙ ap prefix_of (sym (told-content image first state object content told held))

-- A disk that reads as objects reads as a whole store.
pub IsWhole-reads : (pages : ℕ) (image : Image) (layout : Layout) (objects : FinMap key_order Object) (last : ℕ) → ReadsAs pages image layout objects last
    → (found : Found) × IsWhole pages image found × (found.layout ≡ layout) × (found.last ≡ last)
IsWhole-reads pages image layout objects last reading =
    let found : Found = reading.found in
    let first : ℕ = data_page found.layout in
    let told : (key : List ℕ) → BothTold ⊥ image first (get found.states key) (get objects key) =
    λ key. subst (λ (l : Layout). BothTold ⊥ image (data_page l) (get found.states key) (get objects key)) (sym reading.layout_is) (reading.told key) in
    let here : (key : List ℕ) (state : State) → get found.states key ≡ Some state → BothTold ⊥ image first (Some state) (get objects key) =
    λ key state there. subst (λ (s : Option State). BothTold ⊥ image first s (get objects key)) there (told key) in (
      found,
      record {
        reads = reading.reads;
        verifies = λ key state there. told-verifies image first state (get objects key) (here key state there);
        prefix = λ key state content there held. told-prefix image first state (get objects key) content (here key state there) held;
      },
      reading.layout_is,
      reading.last_is,
    )

-- a state tells one object
IsTold-one : (image : Image) (first : ℕ) (state : State) (a b : Object) → IsTold image first state a → IsTold image first state b → a ≡ b
IsTold-one image first state a b one other =
    let content : a.content ≡ b.content = told-content image first state b a.content other (one.holds (λ none. none)) in
    let number : a.number ≡ b.number = sym one.stands.number ∙ other.stands.number in
    let place : a.place ≡ b.place = sym one.stands.place ∙ other.stands.place in
    λ i. record { content = content i; number = number i; place = place i }

BothTold-one : (image : Image) (first : ℕ) (state : Option State) (a b : Option Object) → BothTold ⊥ image first state a → BothTold ⊥ image first state b → a ≡ b
BothTold-one image first None None None one other = refl
BothTold-one image first None None (Some b) one other = absurd other
BothTold-one image first None (Some a) b one other = absurd one
BothTold-one image first (Some state) None b one other = absurd one
BothTold-one image first (Some state) (Some a) None one other = absurd other
BothTold-one image first (Some state) (Some a) (Some b) one other = ap (λ (o : Object). Some o) (IsTold-one image first state a b one other)

-- A disk reads as one map of objects, in one layout and with one last number.
pub ReadsAs-one : (pages : ℕ) (image : Image) (layout other_layout : Layout) (one other : FinMap key_order Object) (last other_last : ℕ)
    → ReadsAs pages image layout one last → ReadsAs pages image other_layout other other_last
    → (layout ≡ other_layout) × (last ≡ other_last) × ((key : List ℕ) → get one key ≡ get other key)
ReadsAs-one pages image layout other_layout one other last other_last mine yours =
    let found : Found = yours.found in
    let told = told-by NoneFree pages image layout one last found yours.reads mine in
    let same : layout ≡ other_layout = sym told.1 ∙ yours.layout_is in (
      same,
      sym told.0 ∙ yours.last_is,
      λ key. BothTold-one image (data_page other_layout) (get found.states key) (get one key) (get other key)
          (subst (λ (l : Layout). BothTold ⊥ image (data_page l) (get found.states key) (get one key)) same (told.2 key)) (yours.told key),
    )
