use Rattle.vault.proofs.vault.Vault.verify.Goals as goal

pub returns-clause-damaged : goal.returns-clause-damaged
returns-clause-damaged g c = rw (← c.self.view_is) c.verify.ensures.damaged

pub returns-clause-led : goal.returns-clause-led
returns-clause-led g c = rw (← c.self.view_is) c.verify.ensures.led

pub returns-clause-damage : goal.returns-clause-damage
returns-clause-damage g c = rw (← c.self.view_is) c.verify.ensures.damage

pub returns-clause-whole : goal.returns-clause-whole
returns-clause-whole g c = rw (← c.self.view_is) c.verify.ensures.whole
