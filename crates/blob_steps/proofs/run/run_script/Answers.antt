use Rattle.std.proofs.Common.{sym, ap, ◌∙◌, subst}
use Rattle.vault.specs.declared.vault.Vault.{Vault}
use Rattle.blob_script.specs.declared.status.Status.{Status}
use Rattle.blob_steps.specs.Runs.{Ended, EndedSo}
use Rattle.blob_steps.specs.Breaks.{ComingTo, EndsAtBreak}
use Rattle.blob_steps.specs.Going.{StartsOn}
use Rattle.blob_steps.proofs.Breaking.{coming-over}
use Rattle.blob_steps.specs.Steps.{HaveBegun}
use Rattle.blob_steps.proofs.Surviving.{RunSurvives-begin}
use Rattle.blob_steps.proofs.OnTheWay.{Ended-no_memory, ended-status, starts-over}
use Rattle.blob_steps.proofs.run.run_script.Goals as goal

pub returns-in_default-clause-ended : goal.returns-in_default-clause-ended
returns-in_default-clause-ended g c = λ start cost since stands gate held leaves.
    let vault = c.args.vault in
    let left = g.S.Source.left c.args.source.now in
    rw c.close.ensures.disk
    (Ended-no_memory g.D.Disk vault.memory.layout start cost cost since (g.K.Sink.frugal c.args.sink.now) left (g.K.Sink.taken c.args.sink.now) vault.disk vault.disk
    (RunSurvives-begin g.D.Disk vault.memory.layout start left since vault.disk leaves))

pub returns-clause-ended : goal.returns-clause-ended
returns-clause-ended g c = λ start cost since stands gate held leaves.
    let vault = c.args.vault in
    let world = c.over-world.result in
    let same = c.over-world.ensures.vault in
    let starts = subst (λ w. StartsOn g.D.Disk start cost since w) (sym c.over-run.ensures.world)
    (starts-over g.D.Disk world vault start cost since same (c.over-world.ensures.stands start stands) gate held leaves) in
    let at = ap (λ w. w.vault) c.over-run.ensures.world ∙ same in
    let old = g.K.Sink.taken c.args.sink.now in
    let new = g.K.Sink.taken c.answer_all.new.sink in
    let ended = ended-status (λ (how : Status). Ended g.D.Disk c.over-run.result.world.vault.memory.layout start cost cost since (g.K.Sink.frugal c.args.sink.now) (g.S.Source.left c.args.source.now)
    old new c.over-run.result.world.vault.disk c.answer_all.new.self.world.vault.disk how)
    c.answer_all.result c.ended_status-status.result c.ended_status-status.ensures (c.answer_all.ensures.ended start cost since starts) in
    rw c.close-2.ensures.disk
    (subst (λ (v : Vault _). Ended g.D.Disk v.memory.layout start cost cost since (g.K.Sink.frugal c.args.sink.now) (g.S.Source.left c.args.source.now)
    old new v.disk c.answer_all.new.self.world.vault.disk c.ended_status-status.result) at ended)

pub returns-clause-so : goal.returns-clause-so
returns-clause-so g c =
    ended-status (λ (how : Status). EndedSo (g.S.Source.left c.args.source.now) (g.K.Sink.taken c.args.sink.now) (g.K.Sink.taken c.answer_all.new.sink) how)
    c.answer_all.result c.ended_status-status.result c.ended_status-status.ensures c.answer_all.ensures.so

pub answer_all-requires-clause-begun : goal.answer_all-requires-clause-begun
answer_all-requires-clause-begun g c = subst (λ w. HaveBegun 0 w) (sym c.over-run.ensures.world) c.over-world.ensures.begun

pub returns-clause-breaks : goal.returns-clause-breaks
returns-clause-breaks g c = λ told image start script one known pages left_is comes.
    let vault = c.args.vault in
    let same = c.over-world.ensures.vault in
    let left = g.S.Source.left c.args.source.now in
    let coming = coming-over g.D.Disk c.over-world.result vault image start script one left same (c.over-world.ensures.known start known) pages left_is comes in
    let layout = vault.memory.layout in
    let states = vault.memory.relation.states in
    ended-status (EndsAtBreak one) c.answer_all.result c.ended_status-status.result c.ended_status-status.ensures
    (c.answer_all.ensures.breaks told layout image states one
    (subst (λ w. ComingTo g.D.Disk layout image states one 1 left w) (sym c.over-run.ensures.world) coming))
