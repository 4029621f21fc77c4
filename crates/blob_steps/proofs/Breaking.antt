-- Gets of contents that don't verify, over the program's world.
use Rattle.std.proofs.Common.{◌≡◌, ℕ, ◌+◌, ◌%◌, ◌≤◌, Bool, IsTrue, List, [], ◌∷◌, take, Option, Some, None, inl, inr, refl, sym, ◌∙◌, ap, subst, arith}
use Rattle.std.proofs.Math.Path.{fun_ext}
use Rattle.std.proofs.lemmas.Bool.{cases_lt}
use Rattle.std.specs.FinMap.{FinMap, get}
use Rattle.std.specs.Prelude.{slice_index}
use Rattle.std.specs.List.{flat_map, range_with_len}
use Rattle.blob_script.specs.declared.answer.AnswerLine.{AnswerLine}
use Rattle.disk_model.specs.Disks.{OnlyReads}
use Rattle.disk_model.specs.declared.disk.Disk.{Ghosts}
use Rattle.store_model.specs.Disk.{Image}
use Rattle.store_model.specs.Key.{key_order}
use Rattle.store_model.specs.Layout.{Layout, data_page}
use Rattle.store_model.specs.Play.{step_play, transact}
use Rattle.store_model.specs.Report.{Damage}
use Rattle.store_model.specs.Script as script
use Rattle.store_model.specs.Script.{Asks, Line, Malformed, Skipped, Step, line_at, lines_of}
use Rattle.store_model.specs.Shape.{pages_used}
use Rattle.store_model.specs.State.{State, heads_of}
use Rattle.store_model.specs.Store.{Store}
use Rattle.store_model.specs.Turn as turn
use Rattle.store_model.specs.Verify.{FailsFirst, computed, extent_bytes, kept, link_value, tail_on}
use Rattle.store_model.specs.World as model
use Rattle.store_model.proofs.HoldsLaws.{Verifies-whole}
use Rattle.vault.specs.declared.memory.Memory.{Memory}
use Rattle.vault.specs.declared.vault.Vault.{Vault}
use Rattle.blob_report.specs.Ends.{EndsPrinting}
use Rattle.blob_script.specs.declared.status.Status.{Status}
use Rattle.blob_script.specs.declared.status.Status.TheVariants as status
use Rattle.blob_steps.specs.Breaks.{Breaks, BreaksFault, ComesTo, ComingTo, EndsAtBreak, EndsBreaking, IsBrokenGet, NeverBreaks, comes_line, comes_then}
use Rattle.blob_steps.specs.Going.{BadLine, EndsReading, TakesLine, step_ending}
use Rattle.blob_steps.specs.Lines.{LineTaken, NoLine}
use Rattle.blob_steps.specs.Faults.{DamageAt, FailsAt}
use Rattle.blob_steps.specs.Looks.{VerifiesAt}
use Rattle.blob_steps.specs.Sessions.{HasLooked, ShowsStored, look_action}
use Rattle.blob_steps.specs.Steps.{DoesFollow, Follows, IsWorld, TakesTurn, WorldKnown}
use Rattle.blob_steps.specs.declared.world.Played.TheVariants.{Answered}
use Rattle.blob_steps.specs.declared.fault.StoreFault.{StoreFault}
use Rattle.blob_steps.specs.declared.fault.StoreFault.TheVariants as store_fault
use Rattle.blob_steps.specs.declared.look.Look.{Look}
use Rattle.blob_steps.specs.declared.look.Look.TheVariants as look
use Rattle.blob_steps.specs.declared.session.Looked.{Looked}
use Rattle.blob_steps.specs.declared.session.Looked.TheVariants as looked
use Rattle.blob_steps.specs.declared.world.World.{World}
use Rattle.blob_steps.proofs.Looking.{WasLooked, look-moves, looks-in}

-- the first link that fails is one, and so are its values
FailsFirst-most : (value : ℕ → List ℕ) (state : State) (a b : ℕ) (want got want_other got_other : List ℕ) → FailsFirst value state a want got
    → FailsFirst value state b want_other got_other → a ≤ b
FailsFirst-most value state a b want got want_other got_other one other = elim (cases_lt b a) [
  | inl less ↦ absurd (other.differ (other.want_is ∙ sym (one.before b less) ∙ sym other.got_is))
  | inr most ↦ most
]

FailsFirst-one : (value : ℕ → List ℕ) (state : State) (a b : ℕ) (want got want_other got_other : List ℕ) → FailsFirst value state a want got
    → FailsFirst value state b want_other got_other → (a ≡ b) × (want ≡ want_other) × (got ≡ got_other)
FailsFirst-one value state a b want got want_other got_other one other =
    let same : a ≡ b =
    omega (
      arith,
      FailsFirst-most value state a b want got want_other got_other one other,
      FailsFirst-most value state b a want_other got_other want got other one,
    ) in
    (same, one.want_is ∙ ap (kept state) same ∙ sym other.want_is, one.got_is ∙ ap value same ∙ sym other.got_is)

-- a link gives the same over images that have the same data area
tail-agree : (image other : Image) (first size : ℕ) (tail : Option ℕ) → ((at : ℕ) → image (first + at) ≡ other (first + at))
    → tail_on image first size tail ≡ tail_on other first size tail
tail-agree image other first size None same = refl
tail-agree image other first size (Some page) same = ap (take (size % 4096)) (same page)

computed-agree : (image other : Image) (first : ℕ) (state : State) → ((at : ℕ) → image (first + at) ≡ other (first + at))
    → (i : ℕ) → computed image first state i ≡ computed other first state i
computed-agree image other first state same i =
    ap (λ (extent : ℕ → List ℕ). link_value extent (tail_on image first state.size state.tail) state i)
    (fun_ext (λ (j : ℕ). ap (λ (pages : ℕ → List ℕ). flat_map pages (range_with_len (slice_index (heads_of state.extents) j) (pages_used state.size j))) (fun_ext same)))
    ∙ ap (λ (tail : List ℕ). link_value (extent_bytes other first state) tail state i) (tail-agree image other first state.size state.tail same)

-- so a get is broken over both
pub IsBrokenGet-agree : (image other : Image) (first : ℕ) (states : FinMap key_order State) (world : model.World) (step : Step) (one : Damage)
    → ((at : ℕ) → image (first + at) ≡ other (first + at)) → IsBrokenGet image first states world step one → IsBrokenGet other first states world step one
IsBrokenGet-agree image other first states world step one same broken =
    let value = computed-agree image other first broken.state same in
    record {
      session = broken.session;
      step_is = broken.step_is;
      shows = broken.shows;
      state = broken.state;
      there = broken.there;
      fails = record {
        exists = broken.fails.exists;
        before = λ i less. sym (value i) ∙ broken.fails.before i less;
        want_is = broken.fails.want_is;
        got_is = broken.fails.got_is ∙ value one.link;
        differ = broken.fails.differ;
      };
    }

-- the key of a get
get-key : (s t : ℕ) (key other : List ℕ) → script.Session s (script.Transact (turn.Get key)) ≡ script.Session t (script.Transact (turn.Get other)) → key ≡ other
get-key s t key other same = cc same

-- a broken get finds one damage
pub IsBrokenGet-one : (image : Image) (first : ℕ) (states : FinMap key_order State) (world : model.World) (step : Step) (one other : Damage)
    → IsBrokenGet image first states world step one → IsBrokenGet image first states world step other → one ≡ other
IsBrokenGet-one image first states world step one other a b =
    let key : one.key ≡ other.key = get-key a.session b.session one.key other.key (sym a.step_is ∙ b.step_is) in
    let both : Some a.state ≡ Some b.state = sym a.there ∙ ap (get states) key ∙ b.there in
    let same : a.state ≡ b.state = cc both in
    let fails : FailsFirst (computed image first b.state) b.state one.link one.want one.got =
    subst (λ (s : State). FailsFirst (computed image first s) s one.link one.want one.got) same a.fails in
    let found = FailsFirst-one (computed image first b.state) b.state one.link other.link one.want one.got other.want other.got fails b.fails in
    λ i. record { key = key i; link = found.0 i; want = found.1 i; got = found.2 i }

-- A script comes to one damage, where each step finds one.
module _ (layout : Layout) (Broken : model.World → Step → Damage → Type 0)
    (determined : (world : model.World) (step : Step) (one other : Damage) → Broken world step one → Broken world step other → one ≡ other) (one other : Damage) where
  then-one : (outcome : Option model.Outcome) (Mine Theirs : model.World → Type 0) → ((world : model.World) → Mine world → Theirs world → one ≡ other)
      → comes_then outcome Mine → comes_then outcome Theirs → one ≡ other
  then-one None Mine Theirs rest mine theirs = absurd mine
  then-one (Some outcome) Mine Theirs rest mine theirs = rest outcome.world mine.1 theirs.1

  line-one : (world : model.World) (what : Line) (Mine Theirs : model.World → Type 0) → ((later : model.World) → Mine later → Theirs later → one ≡ other)
      → comes_line layout Broken one world what Mine → comes_line layout Broken other world what Theirs → one ≡ other
  line-one world Skipped Mine Theirs rest mine theirs = rest world mine theirs
  line-one world Malformed Mine Theirs rest mine theirs = absurd mine
  line-one world (Asks step) Mine Theirs rest (inl mine) (inl theirs) = determined world step one other mine theirs
  line-one world (Asks step) Mine Theirs rest (inl mine) (inr theirs) = absurd (theirs.0 one mine)
  line-one world (Asks step) Mine Theirs rest (inr mine) (inl theirs) = absurd (mine.0 other theirs)
  line-one world (Asks step) Mine Theirs rest (inr mine) (inr theirs) = then-one (step_play layout world step) Mine Theirs rest mine.1 theirs.1

  pub ComesTo-one : (number : ℕ) (lines : List (List ℕ)) (world : model.World) → ComesTo layout Broken one number lines world
      → ComesTo layout Broken other number lines world → one ≡ other
  ComesTo-one number [] world mine theirs = absurd mine
  ComesTo-one number (line ∷ lines) world mine theirs =
      line-one world (line_at number line) (ComesTo layout Broken one (number + 1) lines) (ComesTo layout Broken other (number + 1) lines)
      (λ later. ComesTo-one (number + 1) lines later) mine theirs

-- a look of this kind is no get
stat-get : (s t : ℕ) (key other : List ℕ) → script.Session s (script.Transact (turn.Stat key)) ≡ script.Session t (script.Transact (turn.Get other)) → ⊥
stat-get s t key other same = absurd (cc same)

-- the session of a get
get-session : (s t : ℕ) (key other : List ℕ) → script.Session s (script.Transact (turn.Get key)) ≡ script.Session t (script.Transact (turn.Get other)) → s ≡ t
get-session s t key other same = cc same

-- what a look finds is one thing
pub own-stored : (found : Looked) → found ≡ looked.Own → found ≡ looked.Stored → ⊥
own-stored found own stored = let both : looked.Own ≡ looked.Stored = sym own ∙ stored in absurd (cc both)

pub line-stored : (found : Looked) (line : AnswerLine) → found ≡ looked.Line line → found ≡ looked.Stored → ⊥
line-stored found line is stored = let both : looked.Line line ≡ looked.Stored = sym is ∙ stored in absurd (cc both)

module _ {D : Type 0} (g : Ghosts D) (mine new : World D) (number : ℕ) (key : List ℕ) (found : Looked) (sound : IsWorld mine) (left : WasLooked mine new)
    (done : HasLooked mine.vault.memory mine.sessions.items new.sessions.items number key found) (world : model.World) (is : WorldKnown mine world) where
  -- where a get is broken, the session shows what the store has
  shows-broken : (one : Damage) → Breaks g mine world (script.Session number (script.Transact (turn.Get key))) one → found ≡ looked.Stored
  shows-broken one broken =
      let session : number ≡ broken.session = get-session number broken.session key one.key broken.step_is in
      let same : key ≡ one.key = get-key number broken.session key one.key broken.step_is in
      (looks-in g mine new number key found sound left done look.Get world is).stored.1
      (subst (λ (n : ℕ). ShowsStored world.store (world.sessions n) key) (sym session)
      (subst (λ (k : List ℕ). ShowsStored world.store (world.sessions broken.session) k) (sym same) broken.shows))

  -- a look that shows something else is never broken
  pub unbroken-line : (kind : Look) → (found ≡ looked.Stored → ⊥) → NeverBreaks g mine world (script.Session number (script.Transact (look_action kind key)))
  unbroken-line look.Get other one broken = other (shows-broken one broken)
  unbroken-line look.Stat other one broken = stat-get number broken.session key one.key broken.step_is

  -- nor is one that shows a content, which verifies
  pub unbroken-stored : (kind : Look) → VerifiesAt kind (g.story mine.vault.disk).reads (data_page mine.vault.memory.layout) (get mine.vault.memory.relation.states key)
      → NeverBreaks g mine world (script.Session number (script.Transact (look_action kind key)))
  unbroken-stored look.Stat verifies one broken = stat-get number broken.session key one.key broken.step_is
  unbroken-stored look.Get verifies one broken =
      let same : key ≡ one.key = get-key number broken.session key one.key broken.step_is in
      let there : get mine.vault.memory.relation.states key ≡ Some broken.state = ap (get mine.vault.memory.relation.states) same ∙ broken.there in
      Verifies-whole (g.story mine.vault.disk).reads (data_page mine.vault.memory.layout) broken.state one.link one.want one.got
      (subst (λ (o : Option State). VerifiesAt look.Get (g.story mine.vault.disk).reads (data_page mine.vault.memory.layout) o) there verifies) broken.fails

  -- damage that is told is that of a broken get
  pub broken-stored : (kind : Look) (fault : StoreFault) → kind ≡ look.Get → found ≡ looked.Stored → DamageAt key (get mine.vault.memory.relation.states key) fault
      → FailsAt (g.story mine.vault.disk).reads (data_page mine.vault.memory.layout) (get mine.vault.memory.relation.states key) fault
      → BreaksFault g mine world (script.Session number (script.Transact (look_action kind key))) fault
  broken-stored kind store_fault.Failed kind_is stored damaged fails = tt
  broken-stored kind store_fault.OutOfMemory kind_is stored damaged fails = tt
  broken-stored kind (store_fault.Damaged damaged_key link want got) kind_is stored damaged fails =
      let at = state-at (get mine.vault.memory.relation.states key) damaged fails in
      record {
        session = number;
        step_is = ap (λ (one : Look). script.Session number (script.Transact (look_action one key))) kind_is
            ∙ ap (λ (k : List ℕ). script.Session number (script.Transact (turn.Get k))) (sym at.2);
        shows = subst (λ (k : List ℕ). ShowsStored world.store (world.sessions number) k) (sym at.2)
            ((looks-in g mine new number key found sound left done look.Get world is).stored.0 stored);
        state = at.0;
        there = ap (get mine.vault.memory.relation.states) at.2 ∙ at.1;
        fails = at.3;
      } where
        state-at : (o : Option State) → DamageAt key o (store_fault.Damaged damaged_key link want got)
            → FailsAt (g.story mine.vault.disk).reads (data_page mine.vault.memory.layout) o (store_fault.Damaged damaged_key link want got)
            → (state : State) × (o ≡ Some state) × (damaged_key ≡ key)
            × FailsFirst (computed (g.story mine.vault.disk).reads (data_page mine.vault.memory.layout) state) state link want got
        state-at None damaged fails = absurd damaged
        state-at (Some state) damaged fails = (state, refl, damaged.0, fails)

  -- the world behind a look
  pub follows-look : (kind : Look) → OnlyReads g mine.vault.disk new.vault.disk → Follows g (transact world number (look_action kind key)).world mine new
  follows-look kind only = record {
    known = (look-moves g mine new number key found sound left done kind).knows world is;
    states = ap (λ (m : Memory). m.relation.states) left.memory;
    pages = λ told at. ap (λ (image : Image). image (data_page mine.vault.memory.layout + at)) (only.stayed told).reads;
  }

-- the world behind another turn
pub follows-turn : {D : Type 0} (g : Ghosts D) (mine later new : World D) (number : ℕ) (action : turn.Action) {line : _} (world : model.World) → WorldKnown mine world
    → TakesTurn mine later number action line → new ≡ later → Follows g (transact world number action).world mine new
follows-turn {D = D} g mine later new number action world is takes new_is =
    subst (λ (w : World D). Follows g (transact world number action).world mine w) (sym new_is) (record {
      known = takes.knows world is;
      states = ap (λ (v : Vault D). v.memory.relation.states) takes.vault;
      pages = λ told at. ap (λ (v : Vault D). (g.story v.disk).reads (data_page mine.vault.memory.layout + at)) takes.vault;
    })

-- A fault that ends a step ends its run so.
pub EndsBreaking-ending : {D : Type 0} (g : Ghosts D) (mine : World D) (world : model.World) (step : Step) (fault : StoreFault) → BreaksFault g mine world step fault
    → EndsBreaking g mine world step (step_ending fault)
EndsBreaking-ending g mine world step store_fault.Failed breaks = tt
EndsBreaking-ending g mine world step store_fault.OutOfMemory breaks = tt
EndsBreaking-ending g mine world step (store_fault.Damaged key link want got) breaks = breaks

module _ {D : Type 0} (g : Ghosts D) (layout : Layout) (image : Image) (states : FinMap key_order State) (one : Damage) (number : ℕ) (left : Option (List ℕ)) (mine : World D)
    (coming : ComingTo g layout image states one number left mine) where
  -- what finds a damage
  abbrev Broken : model.World → Step → Damage → Type 0
  Broken = IsBrokenGet image (data_page layout) states

  -- a get of the program's world is broken where it is over the image
  broken-over : (step : Step) (other : Damage) → Breaks g mine coming.world step other → Broken coming.world step other
  broken-over step other breaks =
      let here : IsBrokenGet (g.story mine.vault.disk).reads (data_page layout) states coming.world step other =
      subst (λ (l : Layout). IsBrokenGet (g.story mine.vault.disk).reads (data_page l) states coming.world step other) coming.layout_is
      (subst (λ (ss : FinMap key_order State). IsBrokenGet (g.story mine.vault.disk).reads (data_page mine.vault.memory.layout) ss coming.world step other) coming.states_are breaks) in
      IsBrokenGet-agree (g.story mine.vault.disk).reads image (data_page layout) states coming.world step other coming.pages here

  broken-here : (step : Step) (other : Damage) → Broken coming.world step other → Breaks g mine coming.world step other
  broken-here step other broken =
      let here : IsBrokenGet (g.story mine.vault.disk).reads (data_page layout) states coming.world step other =
      IsBrokenGet-agree image (g.story mine.vault.disk).reads (data_page layout) states coming.world step other (λ at. sym (coming.pages at)) broken in
      subst (λ (ss : FinMap key_order State). IsBrokenGet (g.story mine.vault.disk).reads (data_page mine.vault.memory.layout) ss coming.world step other) (sym coming.states_are)
      (subst (λ (l : Layout). IsBrokenGet (g.story mine.vault.disk).reads (data_page l) states coming.world step other) (sym coming.layout_is) here)

  -- the line that was taken off what is left
  line-comes : (rest : Option (List ℕ)) (what : Line) (takes : TakesLine number left rest what)
      → (script : List ℕ) × (rest ≡ Some script) × comes_line layout Broken one coming.world what (ComesTo layout Broken one (number + 1) (lines_of script))
  line-comes rest what takes =
      let taken : LineTaken (Some coming.script) takes.line rest = subst (λ (l : Option (List ℕ)). LineTaken l takes.line rest) coming.left_is takes.taken in
      rest-comes rest taken where
        rest-comes : (after : Option (List ℕ)) → LineTaken (Some coming.script) takes.line after
            → (script : List ℕ) × (after ≡ Some script) × comes_line layout Broken one coming.world what (ComesTo layout Broken one (number + 1) (lines_of script))
        rest-comes None taken = absurd taken
        rest-comes (Some script) taken = (
          script,
          refl,
          subst (λ (l : Line). comes_line layout Broken one coming.world l (ComesTo layout Broken one (number + 1) (lines_of script))) takes.is
              (subst (λ (lines : List (List ℕ)). ComesTo layout Broken one number lines coming.world) taken coming.comes),
        )

  -- a run doesn't end at the end of a script that comes to a damage
  pub coming-end : NoLine left → ⊥
  coming-end none =
      let empty : lines_of coming.script ≡ [] = subst NoLine coming.left_is none in
      subst (λ (lines : List (List ℕ)). ComesTo layout Broken one number lines coming.world) empty coming.comes

  -- nor at a malformed line
  pub coming-bad : BadLine number left → ⊥
  coming-bad bad =
      let here = subst (BadLine number) coming.left_is bad in
      subst (λ (l : Line). comes_line layout Broken one coming.world l (ComesTo layout Broken one (number + 1) here.1)) here.3
      (subst (λ (lines : List (List ℕ)). ComesTo layout Broken one number lines coming.world) here.2 coming.comes)

  -- a line that is skipped leads on
  pub coming-skipped : (later : World D) (rest : Option (List ℕ)) → TakesLine number left rest Skipped → later ≡ mine
      → ComingTo g layout image states one (number + 1) rest later
  coming-skipped later rest takes later_is =
      let comes = line-comes rest Skipped takes in
      subst (λ (w : World D). ComingTo g layout image states one (number + 1) rest w) (sym later_is) (record {
        world = coming.world;
        known = coming.known;
        script = comes.0;
        left_is = comes.1;
        comes = comes.2;
        layout_is = coming.layout_is;
        states_are = coming.states_are;
        pages = coming.pages;
      })

  module _ (step : Step) (rest : Option (List ℕ)) (takes : TakesLine number left rest (Asks step)) where
    -- a step that isn't broken leads on
    pub coming-next : (later : World D) → NeverBreaks g mine coming.world step → DoesFollow g coming.world step mine later Answered
        → later.vault.memory.layout ≡ mine.vault.memory.layout → IsTrue g.tells → ComingTo g layout image states one (number + 1) rest later
    coming-next later never follows same told =
        let comes = line-comes rest (Asks step) takes in
        next comes.0 comes.1 comes.2 where
          next : (script : List ℕ) → rest ≡ Some script → comes_line layout Broken one coming.world (Asks step) (ComesTo layout Broken one (number + 1) (lines_of script))
              → ComingTo g layout image states one (number + 1) rest later
          next script rest_is (inl broken) = absurd (never one (broken-here step one broken))
          next script rest_is (inr behind) =
              let played : step_play layout coming.world step ≡ Some follows.0 = ap (λ (l : Layout). step_play l coming.world step) (sym coming.layout_is) ∙ follows.1 in
              let on = subst (λ (o : Option model.Outcome). comes_then o (ComesTo layout Broken one (number + 1) (lines_of script))) played behind.1 in
              let led = follows.2 on.0 in
              record {
                world = follows.0.world;
                known = led.known;
                script = script;
                left_is = rest_is;
                comes = on.1;
                layout_is = same ∙ coming.layout_is;
                states_are = led.states ∙ coming.states_are;
                pages = λ at. subst (λ (l : Layout). (g.story later.vault.disk).reads (data_page l + at) ≡ (g.story mine.vault.disk).reads (data_page l + at)) coming.layout_is (led.pages told at)
                    ∙ coming.pages at;
              }

    -- and one that ends the run is the broken one
    pub coming-ended : (how : Status) → EndsBreaking g mine coming.world step how → EndsAtBreak one how
    coming-ended how ends =
        let comes = line-comes rest (Asks step) takes in
        at-end comes.0 how ends comes.2 where
          at-end : (after : List ℕ) (how : Status) → EndsBreaking g mine coming.world step how
              → comes_line layout Broken one coming.world (Asks step) (ComesTo layout Broken one (number + 1) (lines_of after))
              → EndsAtBreak one how
          at-end after (status.Damaged key link want got) ends (inl broken) =
              IsBrokenGet-one image (data_page layout) states coming.world step (record { key = key; link = link; want = want; got = got }) one (broken-over step _ ends) broken
          at-end after (status.Damaged key link want got) ends (inr behind) =
              absurd (behind.0 (record { key = key; link = link; want = want; got = got }) (broken-over step _ ends))
          at-end after status.DiskFault ends comes = tt
          at-end after status.OutOfMemory ends comes = tt
          at-end after (status.NotBuilt line) ends (inl broken) =
              let none : step_play mine.vault.memory.layout coming.world (script.Session broken.session (script.Transact (turn.Get one.key))) ≡ None =
              subst (λ (s : Step). step_play mine.vault.memory.layout coming.world s ≡ None) broken.step_is ends in
              absurd (cc none)
          at-end after (status.NotBuilt line) ends (inr behind) =
              let none : step_play layout coming.world step ≡ None = ap (λ (l : Layout). step_play l coming.world step) (sym coming.layout_is) ∙ ends in
              absurd (subst (λ (o : Option model.Outcome). comes_then o (ComesTo layout Broken one (number + 1) (lines_of after))) none behind.1)
          at-end after status.Done ends comes = absurd ends
          at-end after (status.Malformed line) ends comes = absurd ends
          at-end after status.ReadFault ends comes = absurd ends
          at-end after status.WriteFault ends comes = absurd ends
          at-end after (status.Refused why) ends comes = absurd ends
          at-end after status.Usage ends comes = absurd ends

  -- a line that isn't read ends the run before the damage
  pub coming-reading : (how : Status) (before now : ℕ) → EndsReading how number left before now → EndsAtBreak one how
  coming-reading (status.Malformed line) before now ends = absurd (coming-bad ends.1)
  coming-reading status.ReadFault before now ends = tt
  coming-reading status.OutOfMemory before now ends = tt
  coming-reading status.Done before now ends = absurd ends
  coming-reading (status.NotBuilt line) before now ends = absurd ends
  coming-reading status.WriteFault before now ends = absurd ends
  coming-reading status.DiskFault before now ends = absurd ends
  coming-reading (status.Refused why) before now ends = absurd ends
  coming-reading status.Usage before now ends = absurd ends
  coming-reading (status.Damaged key link want got) before now ends = absurd ends

-- so does an answer that isn't printed
pub EndsAtBreak-printing : (one : Damage) (how : Status) (frugal : Bool) (before now : ℕ) → EndsPrinting how frugal before now → EndsAtBreak one how
EndsAtBreak-printing one status.WriteFault frugal before now ends = tt
EndsAtBreak-printing one status.OutOfMemory frugal before now ends = tt
EndsAtBreak-printing one status.Done frugal before now ends = absurd ends
EndsAtBreak-printing one (status.Malformed line) frugal before now ends = absurd ends
EndsAtBreak-printing one (status.NotBuilt line) frugal before now ends = absurd ends
EndsAtBreak-printing one status.ReadFault frugal before now ends = absurd ends
EndsAtBreak-printing one status.DiskFault frugal before now ends = absurd ends
EndsAtBreak-printing one (status.Refused why) frugal before now ends = absurd ends
EndsAtBreak-printing one status.Usage frugal before now ends = absurd ends
EndsAtBreak-printing one (status.Damaged key link want got) frugal before now ends = absurd ends

-- a run that begins is on the way
pub coming-over : {D : Type 0} (g : Ghosts D) (world : World D) (vault : Vault D) (image : Image) (start : Store) (text : List ℕ) (one : Damage) (left : Option (List ℕ))
    → world.vault ≡ vault → WorldKnown world (model.world_over start)
    → ((at : ℕ) → (g.story vault.disk).reads (data_page vault.memory.layout + at) ≡ image (data_page vault.memory.layout + at)) → left ≡ Some text
    → ComesTo vault.memory.layout (IsBrokenGet image (data_page vault.memory.layout) vault.memory.relation.states) one 1 (lines_of text) (model.world_over start)
    → ComingTo g vault.memory.layout image vault.memory.relation.states one 1 left world
coming-over {D = D} g world vault image start text one left same known pages left_is comes = record {
  world = model.world_over start;
  known = known;
  script = text;
  left_is = left_is;
  comes = comes;
  layout_is = ap (λ (v : Vault D). v.memory.layout) same;
  states_are = ap (λ (v : Vault D). v.memory.relation.states) same;
  pages = λ at. ap (λ (v : Vault D). (g.story v.disk).reads (data_page vault.memory.layout + at)) same ∙ pages at;
}
