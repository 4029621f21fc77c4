use Rattle.std.proofs.Common.{◌≡◌, Some, refl, sym, ap, ◌∙◌}
use Rattle.std.specs.FinMap.{get}
use Rattle.std.specs.Option.{option_copied}
use Rattle.vault.proofs.Images.{HasImages-read}
use Rattle.vault.proofs.Readings.{IsVault-read, held-blocks}
use Rattle.vault.proofs.inner.Core.gather.Goals as goal

pub gather-requires-clause-within : goal.gather-requires-clause-within
gather-requires-clause-within g c =
    let there : get c.args.self.now.memory.relation.states c.args.key.now ≡ Some c.in-Some-get.state.now = sym c.get.ensures ∙ ap option_copied c.in-Some-get.is in
    held-blocks c.args.self.now.memory c.args.key.now c.in-Some-get.state.now c.requires.held there

pub returns-in_err-gather-clause-keeps : goal.returns-in_err-gather-clause-keeps
returns-in_err-gather-clause-keeps g c =
    IsVault-read g.D.Disk c.args.self.now.disk c.gather.new.disk c.args.self.now.memory c.args.self.now.shut c.gather.ensures.only_reads c.requires

pub returns-clause-keeps : goal.returns-clause-keeps
returns-clause-keeps g c =
    IsVault-read g.D.Disk c.args.self.now.disk c.gather.new.disk c.args.self.now.memory c.args.self.now.shut c.gather.ensures.only_reads c.requires

pub returns-in_err-gather-clause-images : goal.returns-in_err-gather-clause-images
returns-in_err-gather-clause-images g c tells since images =
    HasImages-read g.D.Disk c.args.self.now
    (record { disk = c.gather.new.disk; memory = c.args.self.now.memory; shut = c.args.self.now.shut; keeping = c.args.self.now.keeping }) since tells
    c.gather.ensures.only_reads refl refl refl images

pub returns-clause-images : goal.returns-clause-images
returns-clause-images g c tells since images =
    HasImages-read g.D.Disk c.args.self.now
    (record { disk = c.gather.new.disk; memory = c.args.self.now.memory; shut = c.args.self.now.shut; keeping = c.args.self.now.keeping }) since tells
    c.gather.ensures.only_reads refl refl refl images
