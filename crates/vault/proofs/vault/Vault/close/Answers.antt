use Rattle.vault.proofs.vault.Vault.close.Goals as goal

pub returns-clause-reads : goal.returns-clause-reads
returns-clause-reads g c = rw (← c.self.view_is) c.close.ensures.reads
