use Rattle.vault.proofs.vault.Vault.gather.Goals as goal

pub returns-clause-bytes : goal.returns-clause-bytes
returns-clause-bytes g c = rw (← c.self.view_is) c.gather.ensures.bytes
