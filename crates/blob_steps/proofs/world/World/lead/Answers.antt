use Rattle.std.proofs.Common.{◌≡◌, ◌==◌, ◌<◌, ℕ, List, ◌++◌, length, false, true, refl, sym, ◌∙◌, ap, arith, subst}
use Rattle.std.proofs.lemmas.Bool.Decides.{nat_tests}
use Rattle.std.proofs.lemmas.List.{nil_from_length}
use Rattle.disk_model.specs.Disks.{Keeps}
use Rattle.disk_model.proofs.DiskLaws.{OnlyReads-none}
use Rattle.group_plan.specs.Plans.{members_of}
use Rattle.vault.specs.Leads.{ledger_in}
use Rattle.vault.specs.declared.vault.Vault.{Vault}
use Rattle.blob_steps.specs.Steps.{Replying, StepSurvives, replies_text}
use Rattle.store_model.specs.Answer as answer
use Rattle.store_model.specs.Answer.{answer_text}
use Rattle.store_model.specs.Group.{no_tally}
use Rattle.store_model.specs.Script as script
use Rattle.blob_steps.specs.declared.world.World.{World}
use Rattle.blob_steps.proofs.Leading.{AreOf-some, HasLed, came-led, few-requests, follows-led, follows-none, group_members, lead-keeps, lead-none, led-begun, led-sound, length-some_members, replies-count, session-below, sessions-below, some_members, survives-led}
use Rattle.blob_steps.proofs.Surviving.{StepSurvives-reads}
use Rattle.blob_steps.proofs.Members.{AreOf-members}
use Rattle.blob_steps.proofs.world.World.lead.Goals as goal

pub returns-then-is_empty-clause-came : goal.returns-then-is_empty-clause-came
returns-then-is_empty-clause-came g c = λ world is.
    let mine = c.args.self.now in
    let empty : (length mine.queue == 0) ≡ true = sym c.is_empty.ensures ∙ c.if-is_empty.true in
    lead-none g.D.Disk mine world c.print.new.out is (nil_from_length mine.queue (grind (arith, nat_tests, empty)))
    (c.in_ok-print.ensures ∙ ap (λ (front : List ℕ). front ++ answer_text answer.Idle) c.requires.none)

pub lead-requires-clause-few : goal.lead-requires-clause-few
lead-requires-clause-few g c =
    let sound = c.requires.sound in
    few-requests c.args.self.now.queue sound.distinct (λ i request there. session-below c.args.self.now sound i request there)

pub reply_all-requires-clause-sessions : goal.reply_all-requires-clause-sessions
reply_all-requires-clause-sessions g c = sessions-below c.args.self.now c.in_ok-numbers.numbers c.requires.sound c.in_ok-numbers.ensures

pub returns-clause-came : goal.returns-clause-came
returns-clause-came g c = λ world is.
    let mine = c.args.self.now in
    let middle : World _ = record { vault = c.lead.new.self; sessions = mine.sessions; queue = c.lead.new.queue } in
    let new = c.reply_all.new.self in
    let replies = c.in_ok-replies.replies in
    let led = c.in_ok-replies.ensures.led world.store is.store in
    let filled : (length mine.queue == 0) ≡ false = sym c.is_empty.ensures ∙ c.if-is_empty.false in
    let some : 0 < length mine.queue = grind (arith, nat_tests, filled) in
    came-led g.D.Disk mine middle new replies world is led (length replies) c.reply_all.new.text
    (record {
      sound = c.requires.sound;
      sessions = refl;
      queue = c.in_ok-replies.ensures.left;
      layout = c.in_ok-replies.ensures.layout;
      unshut = c.in_ok-replies.ensures.ok;
      are = AreOf-members (ledger_in mine.vault.memory) (no_tally (ledger_in mine.vault.memory)) mine.queue;
      count = replies-count replies (group_members g.D.Disk mine middle new replies) led.replies_are;
      replied = subst (λ (ns : List ℕ). Replying (length replies) ns middle new) c.in_ok-numbers.ensures c.in_ok-reply_all.ensures.replied;
    }) some (c.in_ok-reply_all.ensures.text ∙ ap (λ (ns : List ℕ). replies_text ns replies) c.in_ok-numbers.ensures)

pub returns-clause-stepped : goal.returns-clause-stepped
returns-clause-stepped g c =
    let mine = c.args.self.now in
    let middle : World _ = record { vault = c.lead.new.self; sessions = mine.sessions; queue = c.lead.new.queue } in
    let new = c.reply_all.new.self in
    let replies = c.in_ok-replies.replies in
    let ledger = ledger_in mine.vault.memory in
    let members = some_members ledger (length replies) mine.queue in
    let done : HasLed mine middle new members (length replies) = record {
      sound = c.requires.sound;
      sessions = refl;
      queue = c.in_ok-replies.ensures.left;
      layout = c.in_ok-replies.ensures.layout;
      unshut = c.in_ok-replies.ensures.ok;
      are = AreOf-some ledger (length replies) mine.queue;
      count = length-some_members ledger (length replies) mine.queue c.in_ok-replies.ensures.few;
      replied = subst (λ (ns : List ℕ). Replying (length replies) ns middle new) c.in_ok-numbers.ensures c.in_ok-reply_all.ensures.replied;
    } in
    let sound = led-sound mine middle new members (length replies) done in
    record {
      sound = sound;
      begun = led-begun mine middle new members (length replies) done;
      layout = ap (λ (v : Vault _). v.memory.layout) c.in_ok-reply_all.ensures.vault ∙ c.in_ok-replies.ensures.layout;
      keeps = subst (λ (v : Vault _). Keeps g.D.Disk mine.vault.disk v.disk) (sym c.in_ok-reply_all.ensures.vault)
          (lead-keeps g.D.Disk mine.vault.memory mine.queue (members_of ledger mine.queue) mine.vault.disk c.lead.new.self.disk c.in_ok-replies.ensures.wrote);
      raised = tt;
      among = tt;
      damage = λ world is. tt;
      whole = λ told world is stand. tt;
    }

pub returns-then-is_empty-clause-follows : goal.returns-then-is_empty-clause-follows
returns-then-is_empty-clause-follows g c = λ world is none.
    let mine = c.args.self.now in
    let empty : (length mine.queue == 0) ≡ true = sym c.is_empty.ensures ∙ c.if-is_empty.true in
    follows-none g.D.Disk mine world is (nil_from_length mine.queue (grind (arith, nat_tests, empty)))

pub returns-clause-follows : goal.returns-clause-follows
returns-clause-follows g c = λ world is none.
    let mine = c.args.self.now in
    let middle : World _ = record { vault = c.lead.new.self; sessions = mine.sessions; queue = c.lead.new.queue } in
    let new = c.reply_all.new.self in
    let replies = c.in_ok-replies.replies in
    let filled : (length mine.queue == 0) ≡ false = sym c.is_empty.ensures ∙ c.if-is_empty.false in
    let some : 0 < length mine.queue = grind (arith, nat_tests, filled) in
    follows-led g.D.Disk mine middle new replies world (length replies) is
    (record {
      sound = c.requires.sound;
      sessions = refl;
      queue = c.in_ok-replies.ensures.left;
      layout = c.in_ok-replies.ensures.layout;
      unshut = c.in_ok-replies.ensures.ok;
      are = AreOf-members (ledger_in mine.vault.memory) (no_tally (ledger_in mine.vault.memory)) mine.queue;
      count = replies-count replies (group_members g.D.Disk mine middle new replies) c.in_ok-replies.ensures.replied;
      replied = subst (λ (ns : List ℕ). Replying (length replies) ns middle new) c.in_ok-numbers.ensures c.in_ok-reply_all.ensures.replied;
    }) some c.in_ok-replies.ensures.idle none

pub returns-then-is_empty-clause-survives : goal.returns-then-is_empty-clause-survives
returns-then-is_empty-clause-survives g c =
    let mine = c.args.self.now in
    StepSurvives-reads g.D.Disk script.Lead mine mine (OnlyReads-none g.D.Disk mine.vault.disk)

pub returns-in_err-numbers-clause-survives : goal.returns-in_err-numbers-clause-survives
returns-in_err-numbers-clause-survives g c =
    let mine = c.args.self.now in
    StepSurvives-reads g.D.Disk script.Lead mine mine (OnlyReads-none g.D.Disk mine.vault.disk)

pub returns-in_err-replies-clause-survives : goal.returns-in_err-replies-clause-survives
returns-in_err-replies-clause-survives g c =
    let mine = c.args.self.now in
    let later : World _ = record { vault = c.lead.new.self; sessions = mine.sessions; queue = c.lead.new.queue } in
    let filled : (length mine.queue == 0) ≡ false = sym c.is_empty.ensures ∙ c.if-is_empty.false in
    survives-led g.D.Disk mine later c.requires.sound (grind (arith, nat_tests, filled)) (λ told. c.lead.ensures.survives told c.requires.sound.unshut)

pub returns-in_err-reply_all-clause-survives : goal.returns-in_err-reply_all-clause-survives
returns-in_err-reply_all-clause-survives g c =
    let mine = c.args.self.now in
    let later : World _ = record { vault = c.lead.new.self; sessions = mine.sessions; queue = c.lead.new.queue } in
    let filled : (length mine.queue == 0) ≡ false = sym c.is_empty.ensures ∙ c.if-is_empty.false in
    subst (λ (v : Vault _). StepSurvives g.D.Disk script.Lead mine (record { vault = v; sessions = c.reply_all.new.self.sessions; queue = c.reply_all.new.self.queue }))
    (sym c.reply_all.ensures.vault)
    (survives-led g.D.Disk mine later c.requires.sound (grind (arith, nat_tests, filled)) (λ told. c.lead.ensures.survives told c.requires.sound.unshut))

pub returns-clause-survives : goal.returns-clause-survives
returns-clause-survives g c =
    let mine = c.args.self.now in
    let later : World _ = record { vault = c.lead.new.self; sessions = mine.sessions; queue = c.lead.new.queue } in
    let filled : (length mine.queue == 0) ≡ false = sym c.is_empty.ensures ∙ c.if-is_empty.false in
    subst (λ (v : Vault _). StepSurvives g.D.Disk script.Lead mine (record { vault = v; sessions = c.reply_all.new.self.sessions; queue = c.reply_all.new.self.queue }))
    (sym c.reply_all.ensures.vault)
    (survives-led g.D.Disk mine later c.requires.sound (grind (arith, nat_tests, filled)) (λ told. c.lead.ensures.survives told c.requires.sound.unshut))
