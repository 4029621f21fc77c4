use Rattle.std.proofs.Common.{◌≡◌, ℕ, ◌+◌, ◌≤◌, ◌-◌, List, length, take, zip, rules, refl, sym, ◌∙◌, ap, subst, arith}
use Rattle.std.specs.List.{sum_by}
use Rattle.std.specs.FinMap.{FinMap}
use Rattle.frame_codec.specs.Values.{model_entries}
use Rattle.meta_log.specs.Logs.{Parts}
use Rattle.relation.specs.Changes.{with_entries}
use Rattle.relation.specs.Parts.{Parts as RelationParts, encoded_by}
use Rattle.store_model.specs.Disk.{Took}
use Rattle.store_model.specs.Frame as model
use Rattle.store_model.specs.Frame.{body_bytes, body_spelling}
use Rattle.store_model.specs.Key.{key_order}
use Rattle.store_model.specs.Layout.{Layout, data_pages, total_pages}
use Rattle.store_model.specs.Log.{body_pages}
use Rattle.store_model.specs.Reading.{GoesOn}
use Rattle.store_model.specs.State.{State}
use Rattle.vault.specs.Pours.{Pour, pour_pages, pours_of_all, requests_at}
use Rattle.vault.specs.Vaults.{InWindows, IsVault, found_of, turn_pages, turn_syncs}
use Rattle.vault.specs.declared.done.Done.{Done}
use Rattle.vault.specs.declared.keeping.Keeping.{Keeping}
use Rattle.vault.specs.declared.memory.Memory.{Memory}
use Rattle.vault.proofs.Behind.{IsAtRest-made, IsHalf-behind, IsHeld-behind}
use Rattle.vault.proofs.Bodies.{body-most, length-body}
use Rattle.vault.proofs.Images.{HasImages-added, HasImages-lost}
use Rattle.vault.proofs.Keepings.{take-front}
use Rattle.vault.proofs.Sames.{IsAtRest-found, IsVault-reserved, InWindows-none, InWindows-same, InWindows-size}
use Rattle.vault.proofs.inner.Core.commit.Goals as goal

pub returns-in_err-body-clause-windows : goal.returns-in_err-body-clause-windows
returns-in_err-body-clause-windows g c =
    let told : List model.Entry = model_entries c.args.entries in
    let most = body-most (data_pages c.args.self.now.memory.layout) (body_spelling told) told c.requires.frame.spells in
    InWindows-none g.D.Disk c.args.self.now.memory (body_spelling told) (pours_of_all (zip (requests_at c.args.queue.now c.args.members.now) c.args.entries))
    c.args.self.now.disk (let e : body_pages (length (body_spelling told)) ≤ 510 = omega (arith, most) in e)

pub returns-in_err-reserve-clause-windows : goal.returns-in_err-reserve-clause-windows
returns-in_err-reserve-clause-windows g c =
    let told : List model.Entry = model_entries c.args.entries in
    let most = body-most (data_pages c.args.self.now.memory.layout) (body_spelling told) told c.requires.frame.spells in
    InWindows-none g.D.Disk c.args.self.now.memory (body_spelling told) (pours_of_all (zip (requests_at c.args.queue.now c.args.members.now) c.args.entries))
    c.args.self.now.disk (let e : body_pages (length (body_spelling told)) ≤ 510 = omega (arith, most) in e)

pub returns-in_err-reserve-clause-keeps : goal.returns-in_err-reserve-clause-keeps
returns-in_err-reserve-clause-keeps g c =
    let same : c.reserve.new.self ≡ c.args.self.now.memory.relation = c.in_err-reserve.ensures.err in
    subst (λ (r : RelationParts). IsVault g.D.Disk c.args.self.now.disk
    (record { layout = c.args.self.now.memory.layout; relation = r; space = c.args.self.now.memory.space; log = c.args.self.now.memory.log; last = c.args.self.now.memory.last })
    c.args.self.now.shut) (sym same) c.requires.vault

pub make-requires-clause-last : goal.make-requires-clause-last
make-requires-clause-last g c =
    let half = IsHalf-behind (found_of c.args.self.now.memory) (body_spelling (model_entries c.args.entries)) c.args.entries c.requires.vault.held.half c.requires.frame in
    omega (arith, half.most, c.write.ensures.same.last)

pub returns-in-Err-clause-windows : goal.returns-in-Err-clause-windows
returns-in-Err-clause-windows g c =
    let old = c.args.self.now.memory in
    let mid : Memory = record { layout = old.layout; relation = c.reserve.new.self; space = old.space; log = old.log; last = old.last } in
    let told : List model.Entry = model_entries c.args.entries in
    let pours : List Pour = pours_of_all (zip (requests_at c.args.queue.now c.args.members.now) c.args.entries) in
    let bytes_are : c.as_slice.result.now ≡ body_spelling told = c.as_slice.ensures ∙ c.in_ok-body.ensures in
    let found : found_of mid ≡ found_of old = λ i. record { layout = old.layout; last = old.last; states = c.in_ok-reserve.ensures.states i } in
    subst (λ disk. InWindows g.D.Disk old (body_spelling told) pours c.args.self.now.disk disk) (sym c.shut_for.ensures.disk)
    (InWindows-same g.D.Disk (body_spelling told) pours c.args.self.now.disk c.write.new.disk mid old refl refl found
    (subst (λ (bytes : List ℕ). InWindows g.D.Disk mid bytes pours c.args.self.now.disk c.write.new.disk) bytes_are c.write.ensures.windows))

pub returns-clause-windows : goal.returns-clause-windows
returns-clause-windows g c =
    let old = c.args.self.now.memory in
    let mid : Memory = record { layout = old.layout; relation = c.reserve.new.self; space = old.space; log = old.log; last = old.last } in
    let told : List model.Entry = model_entries c.args.entries in
    let pours : List Pour = pours_of_all (zip (requests_at c.args.queue.now c.args.members.now) c.args.entries) in
    let bytes_are : c.as_slice.result.now ≡ body_spelling told = c.as_slice.ensures ∙ c.in_ok-body.ensures in
    let found : found_of mid ≡ found_of old = λ i. record { layout = old.layout; last = old.last; states = c.in_ok-reserve.ensures.states i } in
    InWindows-same g.D.Disk (body_spelling told) pours c.args.self.now.disk c.write.new.disk mid old refl refl found
    (subst (λ (bytes : List ℕ). InWindows g.D.Disk mid bytes pours c.args.self.now.disk c.write.new.disk) bytes_are c.write.ensures.windows)

pub returns-clause-keeps : goal.returns-clause-keeps
returns-clause-keeps g c =
    let disk = g.D.Disk in
    let old = c.args.self.now.memory in
    let mid : Memory = record { layout = old.layout; relation = c.reserve.new.self; space = old.space; log = old.log; last = old.last } in
    let wrote : Memory = c.write.new.self in
    let now : Memory = c.make.new.self in
    let es = c.args.entries in
    let told : List model.Entry = model_entries es in
    let pours : List Pour = pours_of_all (zip (requests_at c.args.queue.now c.args.members.now) es) in
    let new = c.write.new.disk in
    let same = c.write.ensures.same in
    let made = c.make.ensures in
    let found : found_of old ≡ found_of mid = λ i. record { layout = old.layout; last = old.last; states = sym c.in_ok-reserve.ensures.states i } in
    let layout : now.layout ≡ old.layout = made.layout ∙ same.layout in
    let states : now.relation.states ≡ with_entries old.relation.states es =
    made.states ∙ ap (λ (m : FinMap key_order State). with_entries m es) (ap (λ (r : RelationParts). r.states) same.relation ∙ c.in_ok-reserve.ensures.states) in
    let last : now.last ≡ old.last + length es = omega (arith, made.last, same.last) in
    let size : disk.size new ≡ disk.size c.args.self.now.disk = InWindows-size disk c.as_slice.result.now pours c.args.self.now.disk new mid c.write.ensures.windows in
    record {
      held = IsHeld-behind old now (body_spelling told) es c.requires.vault.held c.requires.frame layout states last
          (ap (λ (l : Parts). l.layout) made.log ∙ c.write.ensures.held.log ∙ same.layout ∙ sym c.requires.vault.held.log) (made.space ∙ same.space ∙ c.requires.none);
      fits = omega (arith, c.requires.vault.fits, size, ap (λ (l : Layout). total_pages l) layout);
      none = λ yet. ap (λ (l : Parts). l.next) made.log ∙ c.in-Ok.ensures.none ∙ sym (ap (λ (l : Parts). l.gate) made.log);
      rest = λ tells yet.
          IsAtRest-made (disk.size new) (disk.story new) wrote now es
          (c.in-Ok.ensures.committed tells
          (IsAtRest-found (disk.size c.args.self.now.disk) (disk.story c.args.self.now.disk) old mid found refl (c.requires.vault.rest tells c.requires.open)))
          made.layout made.states made.last made.log (subst (λ (n : ℕ). GoesOn n told) (sym same.last) c.requires.frame.goes_on) c.requires.frame.spells.frame.numbers;
    }

pub returns-clause-calls : goal.returns-clause-calls
returns-clause-calls g c tells =
    let disk = g.D.Disk in
    let old = c.args.self.now.memory in
    let told : List model.Entry = model_entries c.args.entries in
    let pours : List Pour = pours_of_all (zip (requests_at c.args.queue.now c.args.members.now) c.args.entries) in
    let long : length c.as_slice.result.now ≡ body_bytes told = ap (λ (bytes : List ℕ). length bytes) (c.as_slice.ensures ∙ c.in_ok-body.ensures) ∙ length-body told in
    let bytes_are : encoded_by c.reserve.new.self.states ≡ encoded_by old.relation.states = ap (λ (m : FinMap key_order State). encoded_by m) c.in_ok-reserve.ensures.states in
    subst (λ (n : ℕ). Took 0
    (turn_pages (511 - old.log.gate) (body_pages n + 1) (encoded_by old.relation.states) + body_pages n + 1 + (sum_by pour_pages pours + 1))
    (turn_syncs (511 - old.log.gate) (body_pages n + 1) + 2) (disk.calls c.args.self.now.disk) (disk.calls c.write.new.disk)) long
    (subst (λ (m : ℕ). Took 0
    (turn_pages (511 - old.log.gate) (body_pages (length c.as_slice.result.now) + 1) m + body_pages (length c.as_slice.result.now) + 1 + (sum_by pour_pages pours + 1))
    (turn_syncs (511 - old.log.gate) (body_pages (length c.as_slice.result.now) + 1) + 2) (disk.calls c.args.self.now.disk) (disk.calls c.write.new.disk)) bytes_are
    (c.in-Ok.ensures.calls tells))

pub returns-in_err-gain-clause-windows : goal.returns-in_err-gain-clause-windows
returns-in_err-gain-clause-windows g c =
    let told : List model.Entry = model_entries c.args.entries in
    let most = body-most (data_pages c.args.self.now.memory.layout) (body_spelling told) told c.requires.frame.spells in
    InWindows-none g.D.Disk c.args.self.now.memory (body_spelling told) (pours_of_all (zip (requests_at c.args.queue.now c.args.members.now) c.args.entries))
    c.args.self.now.disk (let e : body_pages (length (body_spelling told)) ≤ 510 = omega (arith, most) in e)

pub returns-in_err-gain-clause-keeps : goal.returns-in_err-gain-clause-keeps
returns-in_err-gain-clause-keeps g c =
    IsVault-reserved g.D.Disk c.args.self.now.disk c.args.self.now.memory c.reserve.new.self c.args.self.now.shut c.in_ok-reserve.ensures.states c.requires.vault

pub returns-in-Err-clause-images : goal.returns-in-Err-clause-images
returns-in-Err-clause-images g c tells since images failed =
    let old = c.args.self.now in
    let same = c.write.ensures.same in
    let found : found_of c.write.new.self ≡ found_of old.memory =
    λ i. record {
      layout = same.layout i;
      last = same.last i;
      states = (ap (λ (r : RelationParts). r.states) same.relation ∙ c.in_ok-reserve.ensures.states) i;
    } in
    HasImages-lost g.D.Disk old c.shut_for.new.self since c.args.queue.now c.args.members.now c.args.entries tells
    (subst (IsVault g.D.Disk old.disk old.memory) c.requires.open c.requires.vault) c.requires.open c.requires.frame (returns-in-Err-clause-windows g c) images
    (ap (λ (m : Memory). found_of m) c.shut_for.ensures.memory ∙ found)
    (ap (λ (k : Keeping). k.opened) c.shut_for.ensures.keeping ∙ c.lose.ensures.opened ∙ c.gain.ensures.opened)
    (ap (λ (k : Keeping). k.history) c.shut_for.ensures.keeping ∙ c.lose.ensures.history ∙ ap (λ (n : ℕ). take n c.gain.new.self.history) c.len-done.ensures
    ∙ ap (λ (all : List Done). take (length old.keeping.history) all) c.in_ok-gain.ensures.history ∙ take-front old.keeping.history _)
    (ap (λ (k : Keeping). k.groups) c.shut_for.ensures.keeping ∙ c.lose.ensures.groups ∙ ap (λ (n : ℕ). take n c.gain.new.self.groups) c.len-groups.ensures
    ∙ ap (λ (all : List ℕ). take (length old.keeping.groups) all) c.in_ok-gain.ensures.groups ∙ take-front old.keeping.groups _)
    (ap (λ (k : Keeping). k.failed) c.shut_for.ensures.keeping ∙ c.lose.ensures.failed ∙ c.in_ok-body.ensures)
    (λ yet. absurd (cc (sym c.shut_for.ensures.shut ∙ yet)))

pub returns-clause-images : goal.returns-clause-images
returns-clause-images g c tells since images told =
    let old = c.args.self.now in
    let same = c.write.ensures.same in
    let made = c.make.ensures in
    let es = c.args.entries in
    let states : c.make.new.self.relation.states ≡ with_entries old.memory.relation.states es =
    made.states ∙ ap (λ (m : FinMap key_order State). with_entries m es) (ap (λ (r : RelationParts). r.states) same.relation ∙ c.in_ok-reserve.ensures.states) in
    let last : c.make.new.self.last ≡ old.memory.last + length es = omega (arith, made.last, same.last) in
    HasImages-added g.D.Disk old (record { disk = c.write.new.disk; memory = c.make.new.self; shut = old.shut; keeping = c.gain.new.self }) since c.args.queue.now
    c.args.members.now es tells (subst (IsVault g.D.Disk old.disk old.memory) c.requires.open c.requires.vault) c.requires.open c.requires.frame (returns-clause-windows g c)
    images (subst (IsVault g.D.Disk c.write.new.disk c.make.new.self) c.requires.open (returns-clause-keeps g c)) c.requires.places (made.layout ∙ same.layout) states last
    c.gain.ensures.opened c.in_ok-gain.ensures.history (search rules) c.gain.ensures.failed told.0 told.1
