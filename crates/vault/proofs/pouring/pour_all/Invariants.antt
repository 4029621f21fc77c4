use Rattle.std.proofs.Common.{take}
use Rattle.std.specs.Prelude.{zip}
use Rattle.vault.specs.Pours.{pours_of_all, requests_at}
use Rattle.vault.proofs.Pourings.{Pouring}
use Rattle.vault.proofs.pouring.pour_all.Given as goal

abbrev pub invariant-poured : goal.invariant-poured
invariant-poured g l =
    Pouring g.D.Disk l.layout (pours_of_all (zip (requests_at l.queue l.members) l.entries)) (pours_of_all (take l.i (zip (requests_at l.queue l.members) l.entries))) l.fn.disk l.disk
