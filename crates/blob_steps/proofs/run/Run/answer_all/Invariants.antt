use Rattle.std.proofs.Common.{◌≡◌, ℕ, ◌≤◌, IsTrue}
use Rattle.std.specs.FinMap.{FinMap}
use Rattle.std.specs.Io.KnownBytes.{prepend_known}
use Rattle.disk_model.specs.declared.disk.Disk as disk_trait
use Rattle.io_ends.specs.declared.traits.Source as source_trait
use Rattle.io_ends.specs.declared.traits.Sink as sink_trait
use Rattle.store_model.specs.Cost.{Cost}
use Rattle.store_model.specs.Disk.{Image}
use Rattle.store_model.specs.Key.{key_order}
use Rattle.store_model.specs.Layout.{Layout}
use Rattle.store_model.specs.Report.{Damage}
use Rattle.store_model.specs.State.{State}
use Rattle.store_model.specs.Store.{Store}
use Rattle.blob_steps.specs.Breaks.{ComingTo}
use Rattle.blob_steps.specs.Going.{Going, GoingSo, StartsOn}
use Rattle.blob_steps.specs.Runs.{KeepsEnds}
use Rattle.blob_steps.specs.Steps.{HaveBegun, IsWorld}
use Rattle.blob_steps.specs.declared.world.World.{World}
use Rattle.blob_steps.proofs.run.Run.answer_all.Given as goal

-- what holds whatever the disk and the source tell
pub record RunKept {S K D : Type 0} (source : source_trait.Ghosts S) (sink : sink_trait.Ghosts K) (disk : disk_trait.Ghosts D) (first mine : World D) (number : ℕ)
    (source_old : S) (sink_old : K) (source_new : S) (sink_new : K) : Type 0 where
  pub sound : IsWorld mine
  pub layout_is : mine.vault.memory.layout ≡ first.vault.memory.layout
  pub begun : HaveBegun number mine
  pub few : number ≤ 1000001
  pub keeps : KeepsEnds source sink disk source_old sink_old first.vault.disk source_new sink_new mine.vault.disk

abbrev pub invariant-loop-number : goal.invariant-loop-number
invariant-loop-number g l =
    let source = g.S.Source in
    let sink = g.K.Sink in
    let left = prepend_known l.self.reader (source.left l.source) in
    ((start : Store) (cost : Cost) (since : ℕ) → StartsOn g.D.Disk start cost since l.fn.self.world
    → Going g.D.Disk start cost cost since l.self.world l.number (source.left l.fn.source) left (sink.taken l.fn.sink) (sink.taken l.sink) l.fn.self.world.vault.disk)
    × GoingSo l.number (source.left l.fn.source) left (sink.taken l.fn.sink) (sink.taken l.sink)
    × (IsTrue g.D.Disk.tells → (layout : Layout) (image : Image) (states : FinMap key_order State) (one : Damage)
    → ComingTo g.D.Disk layout image states one 1 (source.left l.fn.source) l.fn.self.world
    → ComingTo g.D.Disk layout image states one l.number left l.self.world)
    × RunKept source sink g.D.Disk l.fn.self.world l.self.world l.number l.fn.source l.fn.sink l.source l.sink
