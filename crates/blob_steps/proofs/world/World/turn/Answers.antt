use Rattle.std.proofs.Common.{Err, List, ℕ, refl, ◌∙◌, ap, ◌++◌, None}
use Rattle.std.proofs.lemmas.Result.{err_from_is_err_and}
use Rattle.blob_script.specs.Answers.{model_line}
use Rattle.blob_script.specs.Contents.{content_bytes}
use Rattle.blob_script.specs.Words.{model_action}
use Rattle.blob_script.specs.declared.action.Action.{Action}
use Rattle.store_model.specs.Answer as answer
use Rattle.store_model.specs.Answer.{answer_text}
use Rattle.store_model.specs.Play.{action_play, transact}
use Rattle.store_model.specs.Turn as turn
use Rattle.blob_script.specs.declared.answer.AnswerLine.{AnswerLine}
use Rattle.blob_steps.specs.Steps.{TakesTurn}
use Rattle.blob_steps.specs.declared.world.Played.TheVariants.{Answered}
use Rattle.blob_steps.proofs.Answering.{Stepped-err, ok-is, only-same, turn-failed, turn-plays, turn-stepped}
use Rattle.blob_steps.proofs.Breaking.{follows-turn}
use Rattle.blob_steps.proofs.world.World.turn.Goals.{in-Begin, in-Commit+in_ok-line-in-Commit, in-Abort, in-Put+in_ok-line-in-Put+in-Hex-1, in-Put+in_ok-line-in-Put+in-Made-1, in-Del+in_ok-line-in-Del}
use Rattle.blob_steps.proofs.world.World.turn.Goals as goal

pub returns-in_err-look-in-Get-clause-stepped : goal.returns-in_err-look-in-Get-clause-stepped
returns-in_err-look-in-Get-clause-stepped g c =
    let p = err_from_is_err_and c.from_residual-in_err-look-in-Get.result c.from_residual-in_err-look-in-Get.ensures.1 in
    Stepped-err g.D.Disk c.args.self.now c.look.new.self c.look.result c.from_residual-in_err-look-in-Get.result c.in_err-look-in-Get.field-0.0
    c.in_err-look-in-Get.was (p.1 ∙ ap Err p.2) c.look.ensures.stepped

pub returns-in-Get-clause-play : goal.returns-in-Get-clause-play
returns-in-Get-clause-play g c = λ world is.
    (transact world c.args.session (turn.Get c.in-Get.key), ap (λ (a : Action). action_play world c.args.session (model_action a)) c.in-Get.is, c.in_ok-look-in-Get.ensures.came world is)

pub returns-in_err-look-in-Stat-clause-stepped : goal.returns-in_err-look-in-Stat-clause-stepped
returns-in_err-look-in-Stat-clause-stepped g c =
    let p = err_from_is_err_and c.from_residual-in_err-look-in-Stat.result c.from_residual-in_err-look-in-Stat.ensures.1 in
    Stepped-err g.D.Disk c.args.self.now c.look-in-Stat.new.self c.look-in-Stat.result c.from_residual-in_err-look-in-Stat.result c.in_err-look-in-Stat.field-0.0
    c.in_err-look-in-Stat.was (p.1 ∙ ap Err p.2) c.look-in-Stat.ensures.stepped

pub returns-in-Stat-clause-play : goal.returns-in-Stat-clause-play
returns-in-Stat-clause-play g c = λ world is.
    (transact world c.args.session (turn.Stat c.in-Stat.key), ap (λ (a : Action). action_play world c.args.session (model_action a)) c.in-Stat.is, c.in_ok-look-in-Stat.ensures.came world is)

pub returns-clause-play : goal.returns-clause-play
returns-clause-play g c = λ world is.
    let mine = c.args.self.now in
    let text = c.in_ok-answer.ensures ∙ ap (λ (front : List ℕ). front ++ answer_text (answer.Session c.args.session (model_line c.match-action.line) None)) c.requires.none in
    elim c.match-action.branch [
      | in-Begin w ↦
          turn-plays g.D.Disk mine w.begin-line.new.self c.match-action.self c.args.session turn.Begin (model_action c.args.action) w.begin-line.result c.match-action.line c.answer.new.text world is
          w.begin-line.ensures w.self-is w.line-is (ap (λ (a : Action). model_action a) w.in-Begin.is) refl text
      | in-Commit+in_ok-line-in-Commit w ↦
          turn-plays g.D.Disk mine w.commit.new.self c.match-action.self c.args.session turn.Commit (model_action c.args.action) w.in_ok-line-in-Commit.line c.match-action.line c.answer.new.text world is
          (ok-is (λ (l : AnswerLine). TakesTurn mine w.commit.new.self c.args.session turn.Commit (model_line l)) w.commit.result w.in_ok-line-in-Commit.line w.in_ok-line-in-Commit.was w.commit.ensures.turn) w.self-is w.line-is (ap (λ (a : Action). model_action a) w.in-Commit.is) refl text
      | in-Abort w ↦
          turn-plays g.D.Disk mine w.abort-line.new.self c.match-action.self c.args.session turn.Abort (model_action c.args.action) w.abort-line.result c.match-action.line c.answer.new.text world is
          w.abort-line.ensures w.self-is w.line-is (ap (λ (a : Action). model_action a) w.in-Abort.is) refl text
      | in-Put+in_ok-line-in-Put+in-Hex-1 w ↦
          turn-plays g.D.Disk mine w.put.new.self c.match-action.self c.args.session (turn.Put w.in-Put.key (content_bytes w.in-Put.content)) (model_action c.args.action) w.in_ok-line-in-Put.line c.match-action.line c.answer.new.text world is
          (ok-is (λ (l : AnswerLine). TakesTurn mine w.put.new.self c.args.session (turn.Put w.in-Put.key (content_bytes w.in-Put.content)) (model_line l)) w.put.result w.in_ok-line-in-Put.line w.in_ok-line-in-Put.was w.put.ensures.turn) w.self-is w.line-is (ap (λ (a : Action). model_action a) w.in-Put.is) refl text
      | in-Put+in_ok-line-in-Put+in-Made-1 w ↦
          turn-plays g.D.Disk mine w.put.new.self c.match-action.self c.args.session (turn.Put w.in-Put.key (content_bytes w.in-Put.content)) (model_action c.args.action) w.in_ok-line-in-Put.line c.match-action.line c.answer.new.text world is
          (ok-is (λ (l : AnswerLine). TakesTurn mine w.put.new.self c.args.session (turn.Put w.in-Put.key (content_bytes w.in-Put.content)) (model_line l)) w.put.result w.in_ok-line-in-Put.line w.in_ok-line-in-Put.was w.put.ensures.turn) w.self-is w.line-is (ap (λ (a : Action). model_action a) w.in-Put.is) refl text
      | in-Del+in_ok-line-in-Del w ↦
          turn-plays g.D.Disk mine w.del.new.self c.match-action.self c.args.session (turn.Delete w.in-Del.key) (model_action c.args.action) w.in_ok-line-in-Del.line c.match-action.line c.answer.new.text world is
          (ok-is (λ (l : AnswerLine). TakesTurn mine w.del.new.self c.args.session (turn.Delete w.in-Del.key) (model_line l)) w.del.result w.in_ok-line-in-Del.line w.in_ok-line-in-Del.was w.del.ensures.turn) w.self-is w.line-is (ap (λ (a : Action). model_action a) w.in-Del.is) refl text
    ]

pub returns-clause-stepped : goal.returns-clause-stepped
returns-clause-stepped g c =
    let mine = c.args.self.now in
    elim c.match-action.branch [
      | in-Begin w ↦
          turn-stepped g.D.Disk mine w.begin-line.new.self c.match-action.self c.args.session turn.Begin (model_line w.begin-line.result) Answered
          w.begin-line.ensures w.self-is
      | in-Commit+in_ok-line-in-Commit w ↦
          turn-stepped g.D.Disk mine w.commit.new.self c.match-action.self c.args.session turn.Commit (model_line w.in_ok-line-in-Commit.line) Answered
          (ok-is (λ (l : AnswerLine). TakesTurn mine w.commit.new.self c.args.session turn.Commit (model_line l)) w.commit.result w.in_ok-line-in-Commit.line w.in_ok-line-in-Commit.was w.commit.ensures.turn) w.self-is
      | in-Abort w ↦
          turn-stepped g.D.Disk mine w.abort-line.new.self c.match-action.self c.args.session turn.Abort (model_line w.abort-line.result) Answered
          w.abort-line.ensures w.self-is
      | in-Put+in_ok-line-in-Put+in-Hex-1 w ↦
          turn-stepped g.D.Disk mine w.put.new.self c.match-action.self c.args.session (turn.Put w.in-Put.key (content_bytes w.in-Put.content)) (model_line w.in_ok-line-in-Put.line) Answered
          (ok-is (λ (l : AnswerLine). TakesTurn mine w.put.new.self c.args.session (turn.Put w.in-Put.key (content_bytes w.in-Put.content)) (model_line l)) w.put.result w.in_ok-line-in-Put.line w.in_ok-line-in-Put.was w.put.ensures.turn) w.self-is
      | in-Put+in_ok-line-in-Put+in-Made-1 w ↦
          turn-stepped g.D.Disk mine w.put.new.self c.match-action.self c.args.session (turn.Put w.in-Put.key (content_bytes w.in-Put.content)) (model_line w.in_ok-line-in-Put.line) Answered
          (ok-is (λ (l : AnswerLine). TakesTurn mine w.put.new.self c.args.session (turn.Put w.in-Put.key (content_bytes w.in-Put.content)) (model_line l)) w.put.result w.in_ok-line-in-Put.line w.in_ok-line-in-Put.was w.put.ensures.turn) w.self-is
      | in-Del+in_ok-line-in-Del w ↦
          turn-stepped g.D.Disk mine w.del.new.self c.match-action.self c.args.session (turn.Delete w.in-Del.key) (model_line w.in_ok-line-in-Del.line) Answered
          (ok-is (λ (l : AnswerLine). TakesTurn mine w.del.new.self c.args.session (turn.Delete w.in-Del.key) (model_line l)) w.del.result w.in_ok-line-in-Del.line w.in_ok-line-in-Del.was w.del.ensures.turn) w.self-is
    ]

pub returns-in-Get-clause-always : goal.returns-in-Get-clause-always
returns-in-Get-clause-always g c = λ layout world.
    (transact world c.args.session (turn.Get c.in-Get.key), ap (λ (a : Action). action_play world c.args.session (model_action a)) c.in-Get.is)

pub returns-in-Stat-clause-always : goal.returns-in-Stat-clause-always
returns-in-Stat-clause-always g c = λ layout world.
    (transact world c.args.session (turn.Stat c.in-Stat.key), ap (λ (a : Action). action_play world c.args.session (model_action a)) c.in-Stat.is)

pub returns-in_err-answer-clause-stepped : goal.returns-in_err-answer-clause-stepped
returns-in_err-answer-clause-stepped g c =
    let mine = c.args.self.now in
    let p = err_from_is_err_and c.from_residual-in_err-answer.result c.from_residual-in_err-answer.ensures.1 in
    elim c.match-action.branch [
      | in-Begin w ↦
          turn-failed g.D.Disk mine w.begin-line.new.self c.match-action.self c.args.session turn.Begin (model_line w.begin-line.result) c.from_residual-in_err-answer.result
          w.begin-line.ensures w.self-is (p.1 ∙ ap Err p.2)
      | in-Commit+in_ok-line-in-Commit w ↦
          turn-failed g.D.Disk mine w.commit.new.self c.match-action.self c.args.session turn.Commit (model_line w.in_ok-line-in-Commit.line) c.from_residual-in_err-answer.result
          (ok-is (λ (l : AnswerLine). TakesTurn mine w.commit.new.self c.args.session turn.Commit (model_line l)) w.commit.result w.in_ok-line-in-Commit.line w.in_ok-line-in-Commit.was w.commit.ensures.turn) w.self-is (p.1 ∙ ap Err p.2)
      | in-Abort w ↦
          turn-failed g.D.Disk mine w.abort-line.new.self c.match-action.self c.args.session turn.Abort (model_line w.abort-line.result) c.from_residual-in_err-answer.result
          w.abort-line.ensures w.self-is (p.1 ∙ ap Err p.2)
      | in-Put+in_ok-line-in-Put+in-Hex-1 w ↦
          turn-failed g.D.Disk mine w.put.new.self c.match-action.self c.args.session (turn.Put w.in-Put.key (content_bytes w.in-Put.content)) (model_line w.in_ok-line-in-Put.line) c.from_residual-in_err-answer.result
          (ok-is (λ (l : AnswerLine). TakesTurn mine w.put.new.self c.args.session (turn.Put w.in-Put.key (content_bytes w.in-Put.content)) (model_line l)) w.put.result w.in_ok-line-in-Put.line w.in_ok-line-in-Put.was w.put.ensures.turn) w.self-is (p.1 ∙ ap Err p.2)
      | in-Put+in_ok-line-in-Put+in-Made-1 w ↦
          turn-failed g.D.Disk mine w.put.new.self c.match-action.self c.args.session (turn.Put w.in-Put.key (content_bytes w.in-Put.content)) (model_line w.in_ok-line-in-Put.line) c.from_residual-in_err-answer.result
          (ok-is (λ (l : AnswerLine). TakesTurn mine w.put.new.self c.args.session (turn.Put w.in-Put.key (content_bytes w.in-Put.content)) (model_line l)) w.put.result w.in_ok-line-in-Put.line w.in_ok-line-in-Put.was w.put.ensures.turn) w.self-is (p.1 ∙ ap Err p.2)
      | in-Del+in_ok-line-in-Del w ↦
          turn-failed g.D.Disk mine w.del.new.self c.match-action.self c.args.session (turn.Delete w.in-Del.key) (model_line w.in_ok-line-in-Del.line) c.from_residual-in_err-answer.result
          (ok-is (λ (l : AnswerLine). TakesTurn mine w.del.new.self c.args.session (turn.Delete w.in-Del.key) (model_line l)) w.del.result w.in_ok-line-in-Del.line w.in_ok-line-in-Del.was w.del.ensures.turn) w.self-is (p.1 ∙ ap Err p.2)
    ]

pub returns-clause-always : goal.returns-clause-always
returns-clause-always g c = λ layout world.
    elim c.match-action.branch [
      | in-Begin w ↦ (transact world c.args.session turn.Begin, ap (λ (a : Action). action_play world c.args.session (model_action a)) w.in-Begin.is)
      | in-Commit+in_ok-line-in-Commit w ↦ (transact world c.args.session turn.Commit, ap (λ (a : Action). action_play world c.args.session (model_action a)) w.in-Commit.is)
      | in-Abort w ↦ (transact world c.args.session turn.Abort, ap (λ (a : Action). action_play world c.args.session (model_action a)) w.in-Abort.is)
      | in-Put+in_ok-line-in-Put+in-Hex-1 w ↦ (transact world c.args.session (turn.Put w.in-Put.key (content_bytes w.in-Put.content)), ap (λ (a : Action). action_play world c.args.session (model_action a)) w.in-Put.is)
      | in-Put+in_ok-line-in-Put+in-Made-1 w ↦ (transact world c.args.session (turn.Put w.in-Put.key (content_bytes w.in-Put.content)), ap (λ (a : Action). action_play world c.args.session (model_action a)) w.in-Put.is)
      | in-Del+in_ok-line-in-Del w ↦ (transact world c.args.session (turn.Delete w.in-Del.key), ap (λ (a : Action). action_play world c.args.session (model_action a)) w.in-Del.is)
    ]

pub returns-clause-follows : goal.returns-clause-follows
returns-clause-follows g c = λ world is.
    let mine = c.args.self.now in
    elim c.match-action.branch [
      | in-Begin w ↦ (
        transact world c.args.session turn.Begin,
        ap (λ (a : Action). action_play world c.args.session (model_action a)) w.in-Begin.is,
        λ none. follows-turn g.D.Disk mine w.begin-line.new.self c.match-action.self c.args.session turn.Begin world is w.begin-line.ensures w.self-is,
      )
      | in-Commit+in_ok-line-in-Commit w ↦ (
        transact world c.args.session turn.Commit,
        ap (λ (a : Action). action_play world c.args.session (model_action a)) w.in-Commit.is,
        λ none. follows-turn g.D.Disk mine w.commit.new.self c.match-action.self c.args.session turn.Commit world is (ok-is (λ (l : AnswerLine). TakesTurn mine w.commit.new.self c.args.session turn.Commit (model_line l)) w.commit.result w.in_ok-line-in-Commit.line w.in_ok-line-in-Commit.was w.commit.ensures.turn) w.self-is,
      )
      | in-Abort w ↦ (
        transact world c.args.session turn.Abort,
        ap (λ (a : Action). action_play world c.args.session (model_action a)) w.in-Abort.is,
        λ none. follows-turn g.D.Disk mine w.abort-line.new.self c.match-action.self c.args.session turn.Abort world is w.abort-line.ensures w.self-is,
      )
      | in-Put+in_ok-line-in-Put+in-Hex-1 w ↦ (
        transact world c.args.session (turn.Put w.in-Put.key (content_bytes w.in-Put.content)),
        ap (λ (a : Action). action_play world c.args.session (model_action a)) w.in-Put.is,
        λ none. follows-turn g.D.Disk mine w.put.new.self c.match-action.self c.args.session (turn.Put w.in-Put.key (content_bytes w.in-Put.content)) world is (ok-is (λ (l : AnswerLine). TakesTurn mine w.put.new.self c.args.session (turn.Put w.in-Put.key (content_bytes w.in-Put.content)) (model_line l)) w.put.result w.in_ok-line-in-Put.line w.in_ok-line-in-Put.was w.put.ensures.turn) w.self-is,
      )
      | in-Put+in_ok-line-in-Put+in-Made-1 w ↦ (
        transact world c.args.session (turn.Put w.in-Put.key (content_bytes w.in-Put.content)),
        ap (λ (a : Action). action_play world c.args.session (model_action a)) w.in-Put.is,
        λ none. follows-turn g.D.Disk mine w.put.new.self c.match-action.self c.args.session (turn.Put w.in-Put.key (content_bytes w.in-Put.content)) world is (ok-is (λ (l : AnswerLine). TakesTurn mine w.put.new.self c.args.session (turn.Put w.in-Put.key (content_bytes w.in-Put.content)) (model_line l)) w.put.result w.in_ok-line-in-Put.line w.in_ok-line-in-Put.was w.put.ensures.turn) w.self-is,
      )
      | in-Del+in_ok-line-in-Del w ↦ (
        transact world c.args.session (turn.Delete w.in-Del.key),
        ap (λ (a : Action). action_play world c.args.session (model_action a)) w.in-Del.is,
        λ none. follows-turn g.D.Disk mine w.del.new.self c.match-action.self c.args.session (turn.Delete w.in-Del.key) world is (ok-is (λ (l : AnswerLine). TakesTurn mine w.del.new.self c.args.session (turn.Delete w.in-Del.key) (model_line l)) w.del.result w.in_ok-line-in-Del.line w.in_ok-line-in-Del.was w.del.ensures.turn) w.self-is,
      )
    ]

pub returns-in-Get-clause-follows : goal.returns-in-Get-clause-follows
returns-in-Get-clause-follows g c = λ world is. (
  transact world c.args.session (turn.Get c.in-Get.key),
  ap (λ (a : Action). action_play world c.args.session (model_action a)) c.in-Get.is,
  λ none. c.in_ok-look-in-Get.ensures.follows world is,
)

pub returns-in_err-look-in-Get-clause-breaks : goal.returns-in_err-look-in-Get-clause-breaks
returns-in_err-look-in-Get-clause-breaks g c = λ told world is.
    let p = err_from_is_err_and c.from_residual-in_err-look-in-Get.result c.from_residual-in_err-look-in-Get.ensures.1 in
    rw (p.1, p.2, c.in-Get.is) (c.in_err-look-in-Get.ensures.breaks told world is)

pub returns-in-Stat-clause-follows : goal.returns-in-Stat-clause-follows
returns-in-Stat-clause-follows g c = λ world is. (
  transact world c.args.session (turn.Stat c.in-Stat.key),
  ap (λ (a : Action). action_play world c.args.session (model_action a)) c.in-Stat.is,
  λ none. c.in_ok-look-in-Stat.ensures.follows world is,
)

pub returns-in_err-look-in-Stat-clause-breaks : goal.returns-in_err-look-in-Stat-clause-breaks
returns-in_err-look-in-Stat-clause-breaks g c = λ told world is.
    let p = err_from_is_err_and c.from_residual-in_err-look-in-Stat.result c.from_residual-in_err-look-in-Stat.ensures.1 in
    rw (p.1, p.2, c.in-Stat.is) (c.in_err-look-in-Stat.ensures.breaks told world is)

pub returns-in-Get-clause-breaks : goal.returns-in-Get-clause-breaks
returns-in-Get-clause-breaks g c = λ told world is.
    rw c.in-Get.is (c.in_ok-look-in-Get.ensures.breaks told world is)

pub returns-clause-only_reads : goal.returns-clause-only_reads
returns-clause-only_reads g c =
    let mine = c.args.self.now in
    elim c.match-action.branch [
      | in-Begin w ↦ only-same g.D.Disk mine w.begin-line.new.self c.match-action.self w.begin-line.ensures.vault w.self-is
      | in-Commit+in_ok-line-in-Commit w ↦ only-same g.D.Disk mine w.commit.new.self c.match-action.self w.commit.ensures.vault w.self-is
      | in-Abort w ↦ only-same g.D.Disk mine w.abort-line.new.self c.match-action.self w.abort-line.ensures.vault w.self-is
      | in-Put+in_ok-line-in-Put+in-Hex-1 w ↦ only-same g.D.Disk mine w.put.new.self c.match-action.self w.put.ensures.vault w.self-is
      | in-Put+in_ok-line-in-Put+in-Made-1 w ↦ only-same g.D.Disk mine w.put.new.self c.match-action.self w.put.ensures.vault w.self-is
      | in-Del+in_ok-line-in-Del w ↦ only-same g.D.Disk mine w.del.new.self c.match-action.self w.del.ensures.vault w.self-is
    ]

pub returns-in_err-answer-clause-only_reads : goal.returns-in_err-answer-clause-only_reads
returns-in_err-answer-clause-only_reads g c =
    let mine = c.args.self.now in
    elim c.match-action.branch [
      | in-Begin w ↦ only-same g.D.Disk mine w.begin-line.new.self c.match-action.self w.begin-line.ensures.vault w.self-is
      | in-Commit+in_ok-line-in-Commit w ↦ only-same g.D.Disk mine w.commit.new.self c.match-action.self w.commit.ensures.vault w.self-is
      | in-Abort w ↦ only-same g.D.Disk mine w.abort-line.new.self c.match-action.self w.abort-line.ensures.vault w.self-is
      | in-Put+in_ok-line-in-Put+in-Hex-1 w ↦ only-same g.D.Disk mine w.put.new.self c.match-action.self w.put.ensures.vault w.self-is
      | in-Put+in_ok-line-in-Put+in-Made-1 w ↦ only-same g.D.Disk mine w.put.new.self c.match-action.self w.put.ensures.vault w.self-is
      | in-Del+in_ok-line-in-Del w ↦ only-same g.D.Disk mine w.del.new.self c.match-action.self w.del.ensures.vault w.self-is
    ]

pub returns-in_err-look-in-Get-clause-named : goal.returns-in_err-look-in-Get-clause-named
returns-in_err-look-in-Get-clause-named g c =
    let p = err_from_is_err_and c.from_residual-in_err-look-in-Get.result c.from_residual-in_err-look-in-Get.ensures.1 in
    rw (p.1, p.2, c.in-Get.is) c.in_err-look-in-Get.ensures.named
