use Rattle.std.proofs.Common.{arith}
use Rattle.std.specs.Prelude.{zip}
use Rattle.std.specs.FinMap.{entries}
use Rattle.store_model.specs.Layout.{data_pages}
use Rattle.vault.specs.Pours.{pours_of}
use Rattle.vault.proofs.Pourings.{OnlyWrites-next, Pouring-all, Pouring-next, Pouring-none, apart-next, length-zip-right, slice_get-zip, within-next, written-below, written-told, written_pours}
use Rattle.vault.proofs.pouring.pour_entry.Goals as goal

pub poured-init : goal.poured-init
poured-init g c = Pouring-none g.D.Disk c.args.layout (pours_of (c.args.request.now, c.args.entry.now)) c.args.disk.now

pub nth-requires : goal.nth-requires
nth-requires g c = written-below c.args.request.now c.args.entry.now c.poured.i c.requires.written (omega (arith, c.poured-test.true, c.len-i-end.ensures.len))

pub pour_write-requires-clause-told : goal.pour_write-requires-clause-told
pour_write-requires-clause-told g c =
    written-told c.args.request.now c.args.entry.now c.poured.i c.nth.result.0.now c.nth.result.1.now c.get.result.now c.requires.written c.nth.ensures c.get.ensures

pub pour_write-requires-clause-within : goal.pour_write-requires-clause-within
pour_write-requires-clause-within g c =
    within-next g.D.Disk c.args.layout (λ w. written_pours w) (zip (entries c.args.request.now.writes) c.args.entry.now.writes) c.poured.i ((c.nth.result.0.now, c.nth.result.1.now), c.get.result.now) (slice_get-zip (entries c.args.request.now.writes) c.args.entry.now.writes c.poured.i (c.nth.result.0.now, c.nth.result.1.now) c.get.result.now c.nth.ensures c.get.ensures) c.args.disk.now (data_pages c.args.layout) c.requires.within

pub pour_write-requires-clause-apart : goal.pour_write-requires-clause-apart
pour_write-requires-clause-apart g c =
    apart-next g.D.Disk c.args.layout (λ w. written_pours w) (zip (entries c.args.request.now.writes) c.args.entry.now.writes) c.poured.i ((c.nth.result.0.now, c.nth.result.1.now), c.get.result.now) (slice_get-zip (entries c.args.request.now.writes) c.args.entry.now.writes c.poured.i (c.nth.result.0.now, c.nth.result.1.now) c.get.result.now c.nth.ensures c.get.ensures) c.args.disk.now c.requires.apart

pub returns-in_err-pour_write-clause-wrote : goal.returns-in_err-pour_write-clause-wrote
returns-in_err-pour_write-clause-wrote g c =
    OnlyWrites-next g.D.Disk c.args.layout (λ w. written_pours w) (zip (entries c.args.request.now.writes) c.args.entry.now.writes) c.poured.i ((c.nth.result.0.now, c.nth.result.1.now), c.get.result.now) (slice_get-zip (entries c.args.request.now.writes) c.args.entry.now.writes c.poured.i (c.nth.result.0.now, c.nth.result.1.now) c.get.result.now c.nth.ensures c.get.ensures) c.args.disk.now c.poured.disk c.pour_write.new.disk
    c.poured.invariant.wrote c.pour_write.ensures.wrote

pub poured-preserved : goal.poured-preserved
poured-preserved g c =
    Pouring-next g.D.Disk c.args.layout (λ w. written_pours w) (zip (entries c.args.request.now.writes) c.args.entry.now.writes) c.poured.i ((c.nth.result.0.now, c.nth.result.1.now), c.get.result.now) (slice_get-zip (entries c.args.request.now.writes) c.args.entry.now.writes c.poured.i (c.nth.result.0.now, c.nth.result.1.now) c.get.result.now c.nth.ensures c.get.ensures) c.args.disk.now c.poured.disk c.pour_write.new.disk
    c.requires.apart c.poured.invariant
    (record { poured = c.in_ok-pour_write.ensures.poured; wrote = c.pour_write.ensures.wrote; took = c.in_ok-pour_write.ensures.writes })

pub returns-clause-poured : goal.returns-clause-poured
returns-clause-poured g c = λ told.
    (Pouring-all g.D.Disk c.args.layout (λ w. written_pours w) (zip (entries c.args.request.now.writes) c.args.entry.now.writes) c.poured.i c.args.disk.now c.poured.disk
    (omega (arith, c.poured-test.false, c.len-i-end.ensures.len, length-zip-right (entries c.args.request.now.writes) c.args.entry.now.writes)) c.poured.invariant).poured told

pub returns-clause-writes : goal.returns-clause-writes
returns-clause-writes g c = λ told.
    (Pouring-all g.D.Disk c.args.layout (λ w. written_pours w) (zip (entries c.args.request.now.writes) c.args.entry.now.writes) c.poured.i c.args.disk.now c.poured.disk
    (omega (arith, c.poured-test.false, c.len-i-end.ensures.len, length-zip-right (entries c.args.request.now.writes) c.args.entry.now.writes)) c.poured.invariant).took told
