use Rattle.vault.proofs.vault.Vault.turn.Goals as goal

pub returns-clause-costs : goal.returns-clause-costs
returns-clause-costs g c = rw (← c.self.view_is) c.turn.ensures.costs

pub returns-clause-survives : goal.returns-clause-survives
returns-clause-survives g c = rw (← c.self.view_is) c.turn.ensures.survives
