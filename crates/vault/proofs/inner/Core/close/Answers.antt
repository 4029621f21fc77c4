use Rattle.vault.proofs.Readings.{ReadsAs-vault}
use Rattle.vault.proofs.inner.Core.close.Goals as goal

pub returns-clause-reads : goal.returns-clause-reads
returns-clause-reads g c tells yet store stands held =
    let rest = c.requires.rest tells yet in
    (ReadsAs-vault g.D.Disk c.args.self.disk c.args.self.memory store rest stands held, rest.settled)
