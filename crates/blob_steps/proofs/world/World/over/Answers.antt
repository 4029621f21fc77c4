use Rattle.std.proofs.Common.{arith}
use Rattle.blob_steps.proofs.Queues.{IsWorld-new, WorldIs-new}
use Rattle.blob_steps.specs.Known.{StoreKnown}
use Rattle.blob_steps.specs.declared.world.World.{World}
use Rattle.vault.specs.Leads.{StoreStands}
use Rattle.blob_steps.proofs.world.World.over.Goals as goal

pub returns-clause-sound : goal.returns-clause-sound
returns-clause-sound g c =
    let mine : World _ = record { vault = c.args.vault; sessions = c.args.sessions; queue = c.new.result } in
    IsWorld-new mine c.requires.open c.requires.count c.requires.new c.new.ensures

pub returns-clause-begun : goal.returns-clause-begun
returns-clause-begun g c = λ number one is. omega (arith, (c.requires.new number one is).0)

pub returns-clause-stands : goal.returns-clause-stands
returns-clause-stands g c = λ store stands.
    let mine : World _ = record { vault = c.args.vault; sessions = c.args.sessions; queue = c.new.result } in
    WorldIs-new StoreStands mine store c.requires.new c.new.ensures stands

pub returns-clause-known : goal.returns-clause-known
returns-clause-known g c = λ store known.
    let mine : World _ = record { vault = c.args.vault; sessions = c.args.sessions; queue = c.new.result } in
    WorldIs-new StoreKnown mine store c.requires.new c.new.ensures known
