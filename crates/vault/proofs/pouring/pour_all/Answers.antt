use Rattle.std.proofs.Common.{arith}
use Rattle.std.specs.Prelude.{zip}
use Rattle.store_model.specs.Layout.{data_pages}
use Rattle.vault.specs.Pours.{AreWrittenBy, pours_of, requests_at}
use Rattle.vault.proofs.Pourings.{OnlyWrites-next, Pouring-all, Pouring-next, apart-next, length-zip-right, request-at, slice_get-zip, within-next, zip-at}
use Rattle.vault.proofs.pouring.pour_all.Goals as goal

pub pour_entry-requires-clause-written : goal.pour_entry-requires-clause-written
pour_entry-requires-clause-written g c =
    zip-at AreWrittenBy (requests_at c.args.queue.now c.args.members.now) c.args.entries.now c.poured.i c.get-request.result.now c.get-in-poured.result.now
    c.requires.places.written (request-at c.args.queue.now c.args.members.now c.poured.i c.get.result.now c.get-request.result.now c.requires.places.there c.get.ensures c.get-request.ensures) c.get-in-poured.ensures

pub pour_entry-requires-clause-within : goal.pour_entry-requires-clause-within
pour_entry-requires-clause-within g c =
    within-next g.D.Disk c.args.layout pours_of (zip (requests_at c.args.queue.now c.args.members.now) c.args.entries.now) c.poured.i (c.get-request.result.now, c.get-in-poured.result.now) (slice_get-zip (requests_at c.args.queue.now c.args.members.now) c.args.entries.now c.poured.i c.get-request.result.now c.get-in-poured.result.now (request-at c.args.queue.now c.args.members.now c.poured.i c.get.result.now c.get-request.result.now c.requires.places.there c.get.ensures c.get-request.ensures) c.get-in-poured.ensures) c.args.disk.now (data_pages c.args.layout) c.requires.within

pub pour_entry-requires-clause-apart : goal.pour_entry-requires-clause-apart
pour_entry-requires-clause-apart g c =
    apart-next g.D.Disk c.args.layout pours_of (zip (requests_at c.args.queue.now c.args.members.now) c.args.entries.now) c.poured.i (c.get-request.result.now, c.get-in-poured.result.now) (slice_get-zip (requests_at c.args.queue.now c.args.members.now) c.args.entries.now c.poured.i c.get-request.result.now c.get-in-poured.result.now (request-at c.args.queue.now c.args.members.now c.poured.i c.get.result.now c.get-request.result.now c.requires.places.there c.get.ensures c.get-request.ensures) c.get-in-poured.ensures) c.args.disk.now c.requires.apart

pub returns-in_err-pour_entry-clause-wrote : goal.returns-in_err-pour_entry-clause-wrote
returns-in_err-pour_entry-clause-wrote g c =
    OnlyWrites-next g.D.Disk c.args.layout pours_of (zip (requests_at c.args.queue.now c.args.members.now) c.args.entries.now) c.poured.i (c.get-request.result.now, c.get-in-poured.result.now) (slice_get-zip (requests_at c.args.queue.now c.args.members.now) c.args.entries.now c.poured.i c.get-request.result.now c.get-in-poured.result.now (request-at c.args.queue.now c.args.members.now c.poured.i c.get.result.now c.get-request.result.now c.requires.places.there c.get.ensures c.get-request.ensures) c.get-in-poured.ensures) c.args.disk.now c.poured.disk c.pour_entry.new.disk
    c.poured.invariant.wrote c.pour_entry.ensures.wrote

pub poured-preserved : goal.poured-preserved
poured-preserved g c =
    Pouring-next g.D.Disk c.args.layout pours_of (zip (requests_at c.args.queue.now c.args.members.now) c.args.entries.now) c.poured.i (c.get-request.result.now, c.get-in-poured.result.now) (slice_get-zip (requests_at c.args.queue.now c.args.members.now) c.args.entries.now c.poured.i c.get-request.result.now c.get-in-poured.result.now (request-at c.args.queue.now c.args.members.now c.poured.i c.get.result.now c.get-request.result.now c.requires.places.there c.get.ensures c.get-request.ensures) c.get-in-poured.ensures) c.args.disk.now c.poured.disk c.pour_entry.new.disk
    c.requires.apart c.poured.invariant
    (record { poured = c.in_ok-pour_entry.ensures.poured; wrote = c.pour_entry.ensures.wrote; took = c.in_ok-pour_entry.ensures.writes })

pub returns-clause-poured : goal.returns-clause-poured
returns-clause-poured g c = λ told.
    (Pouring-all g.D.Disk c.args.layout pours_of (zip (requests_at c.args.queue.now c.args.members.now) c.args.entries.now) c.poured.i c.args.disk.now c.poured.disk
    (omega (arith, c.poured-test.false, c.len-i-end.ensures, length-zip-right (requests_at c.args.queue.now c.args.members.now) c.args.entries.now)) c.poured.invariant).poured told

pub returns-clause-writes : goal.returns-clause-writes
returns-clause-writes g c = λ told.
    (Pouring-all g.D.Disk c.args.layout pours_of (zip (requests_at c.args.queue.now c.args.members.now) c.args.entries.now) c.poured.i c.args.disk.now c.poured.disk
    (omega (arith, c.poured-test.false, c.len-i-end.ensures, length-zip-right (requests_at c.args.queue.now c.args.members.now) c.args.entries.now)) c.poured.invariant).took told
