-- A content that is read back.
use Rattle.std.proofs.Common.{◌≡◌, ℕ, ◌-◌, List, ◌++◌, length, take, min, Option, Some, None, Result, Ok, Err, IfOk, IfErr, OnOk, refl, sym, ◌∙◌, ap, subst, arith}
use Rattle.std.specs.Prelude.{option_map}
use Rattle.std.specs.FinMap.{FinMap, get}
use Rattle.std.proofs.lemmas.List.{take-append-le, take_all}
use Rattle.store_model.specs.Disk.{Calls, HasPages, Image, Took}
use Rattle.store_model.specs.Cost.{Reads}
use Rattle.store_model.specs.Holds.{Holds, HoldsAt}
use Rattle.store_model.specs.Layout.{Layout, data_page}
use Rattle.store_model.specs.Answer.{Value}
use Rattle.store_model.specs.Key.{key_order}
use Rattle.store_model.specs.Standing.{AllHeld, BothStand, IsDamaged, SameObjects, StandsFor}
use Rattle.store_model.specs.State.{IsState, State}
use Rattle.store_model.specs.Verify.{FailsFirst, LeadsTo, Verifies, given}
use Rattle.store_model.specs.Store.{Object, Placement}
use Rattle.store_model.specs.Turn.{shown}
use Rattle.store_model.proofs.HoldsLaws.{FailsFirst-held, Holds-there, Verifies-LeadsTo, Verifies-whole}
use Rattle.store_model.proofs.VerifyLaws.{Verifies-Holds}
use Rattle.blob_script.specs.Answers.{model_line}
use Rattle.blob_steps.specs.Faults.{DamageOf, FailsOn, FailsOver, IsUndamagedFault, ShowsDamageFault}
use Rattle.blob_script.specs.declared.answer.AnswerLine.{AnswerLine}
use Rattle.blob_steps.specs.Looks.{ShownOf}
use Rattle.blob_steps.specs.declared.fault.StoreFault.{StoreFault}
use Rattle.blob_steps.specs.declared.look.Look.TheVariants as look
use Rattle.blob_steps.specs.declared.fault.StoreFault.TheVariants as fault

-- all bytes of a content were read
pub gathered : (content read : List ℕ) (size len n : ℕ) → length content ≡ size → len ≡ size → length read ≡ len
    → n ≡ min len (size - 0) → take n read ≡ take n content → read ≡ content
gathered content read size len n size_is len_is read_is n_is same =
    let all : n ≡ len = omega (arith, n_is, len_is) in
    sym (take_all n read (omega (arith, all, read_is))) ∙ same ∙ take_all n content (omega (arith, all, len_is, size_is))

-- a buffer that was written as a whole
pub written-whole : (n : ℕ) (read behind all : List ℕ) → all ≡ take n (read ++ behind) → n ≡ length read → all ≡ read
written-whole n read behind all is long =
    is ∙ take-append-le n read behind (omega (arith, long)) ∙ take_all n read (omega (arith, long))

-- what fails over a content fails over the same content, of the same state
pub fails-same : (there : Option State) (one state : State) (read content : List ℕ) (link : ℕ) (want got : List ℕ) → Some one ≡ there → there ≡ Some state
    → read ≡ content → FailsFirst (given read one) one link want got → FailsFirst (given content state) state link want got
fails-same there one state read content link want got known is same fails =
    let both : Some one ≡ Some state = known ∙ is in
    let equal : one ≡ state = cc both in
    subst (λ (s : State). FailsFirst (given content s) s link want got) equal
    (subst (λ (xs : List ℕ). FailsFirst (given xs one) one link want got) same fails)

-- what was read of the pages is what they hold
pub read-held : (image : Image) (first : ℕ) (state : State) (read : List ℕ) (n : ℕ) → HasPages image → IsState state → length read ≡ state.size
    → n ≡ min (length read) (state.size - 0) → ((content : List ℕ) → Holds image first state content → take n read ≡ take n content)
    → Holds image first state read
read-held image first state read n pages sound size n_is same =
    let there = Holds-there image first state pages sound in
    let equal : read ≡ there.0 =
    gathered there.0 read state.size (length read) n there.1.size size refl n_is (same there.0 there.1) in
    subst (Holds image first state) (sym equal) there.1

-- a content that was shown is one that leads to its state
pub shown-leads : (result : Result AnswerLine StoreFault) (read : List ℕ) (state : State)
    → IfOk result (λ line. (model_line line ≡ Value read) × LeadsTo read state)
    → IfOk result (λ line. (content : List ℕ) × (model_line line ≡ Value content) × LeadsTo content state)
shown-leads (Ok line) read state is = (read, is.0, is.1)
shown-leads (Err e) read state is = tt

-- what was read is shown as the content that it is
pub shown-content : (result : Result AnswerLine StoreFault) (read content : List ℕ) (state : State) → read ≡ content
    → IfOk result (λ line. (model_line line ≡ Value read) × LeadsTo read state) → IfOk result (λ line. model_line line ≡ Value content)
shown-content (Ok line) read content state same is = is.0 ∙ ap Value same
shown-content (Err e) read content state same is = tt

-- where what the pages hold is shown, the state verifies
pub shown-verifies : (image : Image) (first : ℕ) (result : Result AnswerLine StoreFault) (read : List ℕ) (state : State) → Holds image first state read
    → IfOk result (λ line. (model_line line ≡ Value read) × LeadsTo read state) → OnOk result (Verifies image first state)
shown-verifies image first (Ok line) read state held is = Verifies-LeadsTo image first state read held is.1
shown-verifies image first (Err e) read state held is = tt

-- damage of a content that was read is what the pages give, where they hold it
pub fails-on : (image : Image) (first : ℕ) (key : List ℕ) (state : State) (read : List ℕ) (result : Result AnswerLine StoreFault) → Holds image first state read
    → IfErr result (FailsOver key state read) → IfErr result (FailsOn image first state)
fails-on image first key state read (Ok line) held is = tt
fails-on image first key state read (Err fault.Failed) held is = tt
fails-on image first key state read (Err fault.OutOfMemory) held is = tt
fails-on image first key state read (Err (fault.Damaged k link want got)) held is = FailsFirst-held image first state read link want got held is.1

-- it is what a look for the bytes shows of the state
pub shown-at : (there : Option State) (state : State) (result : Result AnswerLine StoreFault) → there ≡ Some state
    → IfOk result (λ line. (content : List ℕ) × (model_line line ≡ Value content) × LeadsTo content state)
    → IfOk result (λ line. ShownOf look.Get there (model_line line))
shown-at there state result is shown =
    subst (λ (one : Option State). IfOk result (λ line. ShownOf look.Get one (model_line line))) (sym is) shown

-- a key has one state
pub one-state : (there : Option State) (one state : State) → there ≡ Some one → there ≡ Some state → one ≡ state
one-state there one state is also = let both : Some one ≡ Some state = sym is ∙ also in cc both

-- a buffer of a state's size that was read as far as the state's bytes go has what the pages hold
pub held-read : (image : Image) (first : ℕ) (state : State) (all read : List ℕ) (n long : ℕ) → HasPages image → IsState state → all ≡ read
    → length read ≡ long → long ≡ state.size → n ≡ min long (state.size - 0)
    → ((content : List ℕ) → Holds image first state content → take n read ≡ take n content) → Holds image first state all
held-read image first state all read n long pages sound all_is read_is size n_is same =
    subst (Holds image first state) (sym all_is)
    (read-held image first state read n pages sound (read_is ∙ size) (n_is ∙ ap (λ (k : ℕ). min k (state.size - 0)) (sym read_is)) same)

-- what is known of a key that has a state
module _ (states : FinMap key_order State) (objects : FinMap key_order Object) (key : List ℕ) (state : State) (there : Some state ≡ get states key)
    (same : SameObjects states objects) where
  -- the object for which the state stands
  known-object : (one : Option State) (object : Option Object) → BothStand one object → one ≡ Some state → (o : Object) × (object ≡ Some o) × StandsFor state o
  known-object None object stands is = absurd (cc is)
  known-object (Some one) None stands is = absurd stands
  known-object (Some one) (Some object) stands is =
      let equal : one ≡ state = cc is in (object, refl, subst (λ (s : State). StandsFor s object) equal stands)

  pub object-of : (o : Object) × (get objects key ≡ Some o) × StandsFor state o
  object-of = known-object (get states key) (get objects key) (same key) (sym there)

  -- its content is held where the objects stand
  pub held-of : (image : Image) (layout : Layout) → AllHeld image layout objects → Holds image (data_page layout) state object-of.0.content
  held-of image layout all =
      let object = object-of in
      let held : HoldsAt image (data_page layout) object.0.place object.0.content = all key object.0 object.1 in
      record { size = sym object.2.tells.size; at = subst (λ (p : Placement). HoldsAt image (data_page layout) p object.0.content) (sym object.2.place) held }

  -- the line of a value that was shown
  pub shown-of : (content : List ℕ) (result : Result AnswerLine StoreFault) → content ≡ object-of.0.content → IfOk result (λ line. model_line line ≡ Value content)
      → IfOk result (λ line. model_line line ≡ shown (option_map (λ (o : Object). o.content) (get objects key)))
  shown-of content (Ok line) is shows =
      shows ∙ ap Value is ∙ sym (ap (λ (o : Option Object). shown (option_map (λ (one : Object). one.content) o)) object-of.1)
  shown-of content (Err e) is shows = tt

  -- damage of the state is damage of the key's object
  pub damage-of : (result : Result AnswerLine StoreFault) → IfErr result (DamageOf key state) → IfErr result (ShowsDamageFault objects)
  damage-of (Ok line) is = tt
  damage-of (Err fault.Failed) is = tt
  damage-of (Err fault.OutOfMemory) is = tt
  damage-of (Err (fault.Damaged k link want got)) is =
      let object = object-of in
      subst (λ (q : List ℕ). IsDamaged objects q link want got) (sym is.0)
      (record { object = object.0; there = object.1; state = state; stands = object.2; damage = is.1 })

  -- where the objects stand, no link fails
  pub whole-of : (image : Image) (layout : Layout) (result : Result AnswerLine StoreFault) → AllHeld image layout objects
      → IfErr result (FailsOn image (data_page layout) state) → IfErr result IsUndamagedFault
  whole-of image layout (Ok line) all fails = tt
  whole-of image layout (Err fault.Failed) all fails = tt
  whole-of image layout (Err fault.OutOfMemory) all fails = tt
  whole-of image layout (Err (fault.Damaged k link want got)) all fails =
      let object = object-of in
      Verifies-whole image (data_page layout) state link want got
      (Verifies-Holds image (data_page layout) state object.0.content object.2.sound object.2.tells (held-of image layout all)) fails

-- reads alone
pub Reads-took : (n : ℕ) (was now : Calls) → Took n 0 0 was now → Reads was now
Reads-took n was now took = record { writes = omega (arith, took.writes); syncs = omega (arith, took.syncs) }
