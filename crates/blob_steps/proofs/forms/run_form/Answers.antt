use Rattle.std.proofs.Common.{refl, rules}
use Rattle.store_model.specs.Cost.{no_cost}
use Rattle.blob_steps.proofs.forms.run_form.Goals.{in-Format, in-Show}
use Rattle.blob_steps.proofs.forms.run_form.Goals as goal

pub returns-in-Steps-clause-did : goal.returns-in-Steps-clause-did
returns-in-Steps-clause-did g c = rw c.in-Steps.is (c.steps.ensures.did no_cost)

pub returns-clause-did : goal.returns-clause-did
returns-clause-did g c = elim c.match-form.branch [
  | in-Format w ↦ search rules
  | in-Show w ↦
      rw (w.in-Show.is, w.sink-is, w.disk-is, w.status-is)
      (refl, record { showed = w.run_show-status.ensures.showed; costs = w.run_show-status.ensures.costs; wrote = w.run_show-status.ensures.wrote; survives = w.run_show-status.ensures.survives })
]
