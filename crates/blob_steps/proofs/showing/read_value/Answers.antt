use Rattle.std.proofs.Common.{◌≡◌, ◌++◌, ℕ, IsTrue, List, Some, drop, length, rules, take, refl, sym, ◌∙◌, ap}
use Rattle.std.specs.FinMap.{get}
use Rattle.store_model.specs.Holds.{Holds}
use Rattle.store_model.specs.Layout.{data_page}
use Rattle.store_model.specs.State.{State}
use Rattle.store_model.proofs.HoldsLaws.{Holds-one}
use Rattle.vault.specs.declared.memory.Memory.{Memory}
use Rattle.blob_steps.proofs.Values.{fails-on, held-read, one-state, shown-content, shown-leads, shown-verifies, written-whole}
use Rattle.blob_steps.proofs.showing.read_value.Given as given
use Rattle.blob_steps.proofs.showing.read_value.Goals as goal

-- the bytes that were read
abbrev bytes : (g : given.Over) → goal.After-check_value g → List ℕ
bytes g c =
    take c.in_ok-content.content.len
    (c.gather.new.into ++ drop (length c.gather.new.into) c.in_ok-content.content.items)

bytes-read : (g : given.Over) (c : goal.After-check_value g) → bytes g c ≡ c.gather.new.into
bytes-read g c =
    written-whole c.in_ok-content.content.len c.gather.new.into (drop (length c.gather.new.into) c.in_ok-content.content.items) (bytes g c) refl
    (search rules)

-- the vault has the state that it had
still-there : (g : given.Over) (c : goal.After-check_value g) (state : State) → get c.args.vault.now.memory.relation.states c.args.key.now ≡ Some state
    → get c.gather.new.self.memory.relation.states c.args.key.now ≡ Some state
still-there g c state there = ap (λ (m : Memory). get m.relation.states c.args.key.now) c.in_default.ensures.only.memory ∙ there

-- there are as many bytes as the state has
size-read : (g : given.Over) (c : goal.After-check_value g) (state : State) → get c.args.vault.now.memory.relation.states c.args.key.now ≡ Some state
    → length c.deref_mut.result.now ≡ state.size
size-read g c state there =
    let known = c.requires.there in
    let long : length c.deref_mut.result.now ≡ c.args.size = search rules in
    long ∙ sym known.2 ∙ ap (λ (s : State). s.size) (one-state (get c.args.vault.now.memory.relation.states c.args.key.now) known.0 state known.1 there)

-- they are what the state's pages hold
bytes-held : (g : given.Over) (c : goal.After-check_value g) (state : State) → IsTrue g.D.Disk.tells
    → get c.args.vault.now.memory.relation.states c.args.key.now ≡ Some state
    → Holds (g.D.Disk.story c.args.vault.now.disk).reads (data_page c.args.vault.now.memory.layout) state (bytes g c)
bytes-held g c state tells there =
    let story = g.D.Disk.story c.args.vault.now.disk in
    held-read story.reads (data_page c.args.vault.now.memory.layout) state (bytes g c) c.gather.new.into c.in_default.field-0
    (length c.deref_mut.result.now) (story.pages story.time story.reads story.own)
    (c.rules.ensures.held.half.tuples c.args.key.now state there).stands (bytes-read g c) c.in_default.ensures.length (size-read g c state there)
    (c.in_default.ensures.count state there) (λ content holds. c.in_default.ensures.bytes tells state content there holds)

pub returns-clause-shown : goal.returns-clause-shown
returns-clause-shown g c = λ state there.
    shown-leads c.check_value.result (bytes g c) state (c.check_value.ensures.whole state (still-there g c state there))

pub returns-clause-line : goal.returns-clause-line
returns-clause-line g c = λ tells state there content holds.
    let story = g.D.Disk.story c.args.vault.now.disk in
    shown-content c.check_value.result (bytes g c) content state
    (Holds-one story.reads (data_page c.args.vault.now.memory.layout) state (bytes g c) content (bytes-held g c state tells there) holds)
    (c.check_value.ensures.whole state (still-there g c state there))

pub returns-clause-verifies : goal.returns-clause-verifies
returns-clause-verifies g c = λ tells state there.
    let story = g.D.Disk.story c.args.vault.now.disk in
    shown-verifies story.reads (data_page c.args.vault.now.memory.layout) c.check_value.result (bytes g c) state (bytes-held g c state tells there)
    (c.check_value.ensures.whole state (still-there g c state there))

pub returns-clause-fails : goal.returns-clause-fails
returns-clause-fails g c = λ tells state there.
    let story = g.D.Disk.story c.args.vault.now.disk in
    fails-on story.reads (data_page c.args.vault.now.memory.layout) c.args.key.now state (bytes g c) c.check_value.result (bytes-held g c state tells there)
    (c.check_value.ensures.damaged state (still-there g c state there))
