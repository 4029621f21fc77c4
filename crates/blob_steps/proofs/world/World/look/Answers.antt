use Rattle.std.proofs.Common.{List, ℕ, refl, sym, ◌∙◌, ap, subst, ◌++◌, Some, None}
use Rattle.std.proofs.lemmas.Result.{err_from_is_err_and}
use Rattle.blob_script.specs.Answers.{model_line}
use Rattle.blob_script.specs.declared.answer.AnswerLine.{AnswerLine}
use Rattle.disk_model.specs.Disks.{OnlyReads}
use Rattle.disk_model.proofs.DiskLaws.{Keeps-none, OnlyReads-none}
use Rattle.std.specs.FinMap.{get}
use Rattle.blob_steps.specs.Looks.{show_of}
use Rattle.store_model.specs.Answer as answer
use Rattle.store_model.specs.World.{transaction_of}
use Rattle.txn.specs.Txns.{own_bytes}
use Rattle.store_model.specs.Answer.{answer_text}
use Rattle.blob_steps.proofs.Looking.{WasLooked, came-as, came-line, came-own, came-stored, look-moves, look-stepped, same-looked, shown-among, shown-named}
use Rattle.blob_steps.proofs.Breaking.{broken-stored, follows-look, line-stored, own-stored, unbroken-line, unbroken-stored}
use Rattle.blob_steps.specs.Steps.{Follows}
use Rattle.blob_steps.specs.declared.world.World.{World}
use Rattle.blob_steps.specs.Sessions.{look_action}
use Rattle.store_model.specs.Play.{transact}
use Rattle.vault.specs.declared.memory.Memory.{Memory}
use Rattle.blob_steps.proofs.world.World.look.Goals.{in-Line, in-Stored+in_ok-line-in-Stored}
use Rattle.blob_steps.proofs.world.World.look.Goals as goal

pub returns-in-Own-clause-came : goal.returns-in-Own-clause-came
returns-in-Own-clause-came g c = λ world is.
    let mine = c.args.self.now in
    let new : World _ = record { vault = mine.vault; sessions = c.find.new.sessions; queue = mine.queue } in
    came-own g.D.Disk mine new c.args.session c.args.key.now c.in_ok-line.field-0 c.requires.sound (same-looked mine new refl refl)
    c.in_ok-line.ensures c.args.look world is c.show_own.new.text c.in-Own.is refl
    (λ later stands put. c.in_ok-show_own-in-Own.ensures later stands put
    ∙ ap (λ (front : List ℕ). front ++ answer_text (answer.Session c.args.session
    (show_of c.args.look (Some (own_bytes (get (transaction_of (later.sessions c.args.session).stage).changes c.args.key.now)))) None)) c.requires.none)

pub returns-in-Own-clause-stepped : goal.returns-in-Own-clause-stepped
returns-in-Own-clause-stepped g c =
    let mine = c.args.self.now in
    let new : World _ = record { vault = mine.vault; sessions = c.find.new.sessions; queue = mine.queue } in
    let moves = look-moves g.D.Disk mine new c.args.session c.args.key.now c.in_ok-line.field-0 c.requires.sound (same-looked mine new refl refl)
    c.in_ok-line.ensures c.args.look in
    record {
      sound = moves.sound;
      begun = moves.begun;
      layout = refl;
      keeps = Keeps-none g.D.Disk mine.vault.disk;
      raised = tt;
      among = tt;
      damage = λ world is. tt;
      whole = λ told world is stand. tt;
    }

pub returns-in_err-line-in-Stored-clause-stepped : goal.returns-in_err-line-in-Stored-clause-stepped
returns-in_err-line-in-Stored-clause-stepped g c =
    let p = err_from_is_err_and c.from_residual-in_err-line-in-Stored.result c.from_residual-in_err-line-in-Stored.ensures.1 in
    let shown = c.in_err-line-in-Stored.ensures in
    rw (p.1, p.2)
    (record {
      sound = tt;
      begun = λ n have. tt;
      layout = ap (λ (m : Memory). m.layout) shown.memory;
      keeps = shown.only_reads.keeps;
      raised = shown.raised;
      among = shown-among c.args.self.now.vault.memory.relation.states c.args.key.now c.in_err-line-in-Stored.field-0.0 shown.damaged;
      damage = λ world is. shown.damage world.store.objects is.store.objects;
      whole = λ told world is stand. shown.whole told world.store.objects is.store.objects stand;
    })

pub returns-clause-came : goal.returns-clause-came
returns-clause-came g c = λ world is.
    let mine = c.args.self.now in
    let text = c.in_ok-answer.ensures ∙ ap (λ (front : List ℕ). front ++ answer_text (answer.Session c.args.session (model_line c.match-branch-2.line) None)) c.requires.none in
    elim c.match-branch-2.branch [
      | in-Line w ↦
          (let new : World _ = record { vault = mine.vault; sessions = c.find.new.sessions; queue = mine.queue } in
          came-as g.D.Disk world (transact world c.args.session (look_action c.args.look c.args.key.now)) c.answer.new.text mine new c.match-branch-2.self w.self-is
          (came-line g.D.Disk mine new c.args.session c.args.key.now c.in_ok-line.field-0 c.requires.sound (same-looked mine new refl refl)
          c.in_ok-line.ensures c.args.look world is c.answer.new.text w.in-Line.line w.in-Line.is refl
          (text ∙ ap (λ (l : AnswerLine). answer_text (answer.Session c.args.session (model_line l) None)) w.line-is)))
      | in-Stored+in_ok-line-in-Stored w ↦
          (let new : World _ = record { vault = w.show.new.vault; sessions = c.find.new.sessions; queue = mine.queue } in
          let shown = w.in_ok-line-in-Stored.ensures in
          let left : WasLooked mine new = record { memory = shown.memory; shut = shown.shut; queue = refl } in
          came-as g.D.Disk world (transact world c.args.session (look_action c.args.look c.args.key.now)) c.answer.new.text mine new c.match-branch-2.self w.self-is
          (came-stored g.D.Disk mine new c.args.session c.args.key.now c.in_ok-line.field-0 c.requires.sound left
          c.in_ok-line.ensures c.args.look world is c.answer.new.text w.show.result w.in_ok-line-in-Stored.line w.in_ok-line-in-Stored.was w.in-Stored.is
          shown.only_reads shown.reads w.show.ensures.line
          (text ∙ ap (λ (l : AnswerLine). answer_text (answer.Session c.args.session (model_line l) None)) w.line-is)))
    ]

pub returns-clause-stepped : goal.returns-clause-stepped
returns-clause-stepped g c =
    let mine = c.args.self.now in
    elim c.match-branch-2.branch [
      | in-Line w ↦
          (let new : World _ = record { vault = mine.vault; sessions = c.find.new.sessions; queue = mine.queue } in
          look-stepped g.D.Disk mine new c.args.session c.args.key.now c.in_ok-line.field-0 c.requires.sound (same-looked mine new refl refl)
          c.in_ok-line.ensures c.args.look c.match-branch-2.self tt w.self-is (Keeps-none g.D.Disk mine.vault.disk))
      | in-Stored+in_ok-line-in-Stored w ↦
          (let new : World _ = record { vault = w.show.new.vault; sessions = c.find.new.sessions; queue = mine.queue } in
          let shown = w.in_ok-line-in-Stored.ensures in
          let left : WasLooked mine new = record { memory = shown.memory; shut = shown.shut; queue = refl } in
          look-stepped g.D.Disk mine new c.args.session c.args.key.now c.in_ok-line.field-0 c.requires.sound left
          c.in_ok-line.ensures c.args.look c.match-branch-2.self tt w.self-is shown.only_reads.keeps)
    ]

pub returns-in-Own-clause-follows : goal.returns-in-Own-clause-follows
returns-in-Own-clause-follows g c = λ world is.
    let mine = c.args.self.now in
    let new : World _ = record { vault = mine.vault; sessions = c.find.new.sessions; queue = mine.queue } in
    follows-look g.D.Disk mine new c.args.session c.args.key.now c.in_ok-line.field-0 c.requires.sound (same-looked mine new refl refl)
    c.in_ok-line.ensures world is c.args.look (OnlyReads-none g.D.Disk mine.vault.disk)

pub returns-in-Own-clause-breaks : goal.returns-in-Own-clause-breaks
returns-in-Own-clause-breaks g c = λ told world is.
    let mine = c.args.self.now in
    let new : World _ = record { vault = mine.vault; sessions = c.find.new.sessions; queue = mine.queue } in
    unbroken-line g.D.Disk mine new c.args.session c.args.key.now c.in_ok-line.field-0 c.requires.sound (same-looked mine new refl refl)
    c.in_ok-line.ensures world is c.args.look (own-stored c.in_ok-line.field-0 c.in-Own.is)

pub returns-in_err-line-in-Stored-clause-breaks : goal.returns-in_err-line-in-Stored-clause-breaks
returns-in_err-line-in-Stored-clause-breaks g c = λ told world is.
    let p = err_from_is_err_and c.from_residual-in_err-line-in-Stored.result c.from_residual-in_err-line-in-Stored.ensures.1 in
    let shown = c.in_err-line-in-Stored.ensures in
    let mine = c.args.self.now in
    let new : World _ = record { vault = mine.vault; sessions = c.find.new.sessions; queue = mine.queue } in
    rw (p.1, p.2)
    (broken-stored g.D.Disk mine new c.args.session c.args.key.now c.in_ok-line.field-0 c.requires.sound (same-looked mine new refl refl)
    c.in_ok-line.ensures world is c.args.look c.in_err-line-in-Stored.field-0.0 shown.get c.in-Stored.is shown.damaged (shown.fails told))

pub returns-clause-follows : goal.returns-clause-follows
returns-clause-follows g c = λ world is.
    let mine = c.args.self.now in
    let after = (transact world c.args.session (look_action c.args.look c.args.key.now)).world in
    elim c.match-branch-2.branch [
      | in-Line w ↦
          (let new : World _ = record { vault = mine.vault; sessions = c.find.new.sessions; queue = mine.queue } in
          subst (λ (later : World _). Follows g.D.Disk after mine later) (sym w.self-is)
          (follows-look g.D.Disk mine new c.args.session c.args.key.now c.in_ok-line.field-0 c.requires.sound (same-looked mine new refl refl)
          c.in_ok-line.ensures world is c.args.look (OnlyReads-none g.D.Disk mine.vault.disk)))
      | in-Stored+in_ok-line-in-Stored w ↦
          (let new : World _ = record { vault = w.show.new.vault; sessions = c.find.new.sessions; queue = mine.queue } in
          let shown = w.in_ok-line-in-Stored.ensures in
          let left : WasLooked mine new = record { memory = shown.memory; shut = shown.shut; queue = refl } in
          subst (λ (later : World _). Follows g.D.Disk after mine later) (sym w.self-is)
          (follows-look g.D.Disk mine new c.args.session c.args.key.now c.in_ok-line.field-0 c.requires.sound left c.in_ok-line.ensures world is c.args.look shown.only_reads))
    ]

pub returns-clause-breaks : goal.returns-clause-breaks
returns-clause-breaks g c = λ told world is.
    let mine = c.args.self.now in
    let new : World _ = record { vault = mine.vault; sessions = c.find.new.sessions; queue = mine.queue } in
    let left : WasLooked mine new = same-looked mine new refl refl in
    elim c.match-branch-2.branch [
      | in-Line w ↦
          unbroken-line g.D.Disk mine new c.args.session c.args.key.now c.in_ok-line.field-0 c.requires.sound left
          c.in_ok-line.ensures world is c.args.look (line-stored c.in_ok-line.field-0 w.in-Line.line w.in-Line.is)
      | in-Stored+in_ok-line-in-Stored w ↦
          unbroken-stored g.D.Disk mine new c.args.session c.args.key.now c.in_ok-line.field-0 c.requires.sound left
          c.in_ok-line.ensures world is c.args.look (w.in_ok-line-in-Stored.ensures.verifies told)
    ]

pub returns-in-Own-clause-only_reads : goal.returns-in-Own-clause-only_reads
returns-in-Own-clause-only_reads g c = OnlyReads-none g.D.Disk c.args.self.now.vault.disk

pub returns-in_err-line-in-Stored-clause-only_reads : goal.returns-in_err-line-in-Stored-clause-only_reads
returns-in_err-line-in-Stored-clause-only_reads g c = c.in_err-line-in-Stored.ensures.only_reads

pub returns-clause-only_reads : goal.returns-clause-only_reads
returns-clause-only_reads g c =
    let mine = c.args.self.now in
    elim c.match-branch-2.branch [
      | in-Line w ↦ subst (λ (later : World _). OnlyReads g.D.Disk mine.vault.disk later.vault.disk) (sym w.self-is) (OnlyReads-none g.D.Disk mine.vault.disk)
      | in-Stored+in_ok-line-in-Stored w ↦
          subst (λ (later : World _). OnlyReads g.D.Disk mine.vault.disk later.vault.disk) (sym w.self-is) w.in_ok-line-in-Stored.ensures.only_reads
    ]

pub returns-in_err-line-in-Stored-clause-named : goal.returns-in_err-line-in-Stored-clause-named
returns-in_err-line-in-Stored-clause-named g c =
    let p = err_from_is_err_and c.from_residual-in_err-line-in-Stored.result c.from_residual-in_err-line-in-Stored.ensures.1 in
    let shown = c.in_err-line-in-Stored.ensures in
    rw (p.1, p.2)
    (shown-named c.args.look c.args.session c.args.key.now (get c.args.self.now.vault.memory.relation.states c.args.key.now) c.in_err-line-in-Stored.field-0.0 shown.get shown.damaged)
