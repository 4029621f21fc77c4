use Rattle.vault.proofs.vault.Vault.lead.Goals as goal

pub returns-clause-led : goal.returns-clause-led
returns-clause-led g c = rw (← c.self.view_is) c.lead.ensures.led

pub returns-clause-rests : goal.returns-clause-rests
returns-clause-rests g c = rw (← c.self.view_is) c.lead.ensures.rests

pub returns-clause-survives : goal.returns-clause-survives
returns-clause-survives g c = rw (← c.self.view_is) c.lead.ensures.survives
