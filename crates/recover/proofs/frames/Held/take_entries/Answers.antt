use Rattle.std.proofs.Common.{◌≡◌, ℕ, ◌∙◌, List, [], ap, subst, sym, arith}
use Rattle.std.proofs.lemmas.Bool.Decides.{nat_tests}
use Rattle.std.proofs.lemmas.List.{nil_from_length}
use Rattle.extent_io.proofs.Stills.{Reads-then}
use Rattle.frame_codec.specs.Values.{model_entries, model_entry}
use Rattle.frame_codec.specs.declared.entry.Entry.{Entry}
use Rattle.store_model.specs.Disk.{Image}
use Rattle.store_model.specs.Layout.{Layout, data_pages}
use Rattle.recover.specs.Frames.{AreStored, DroppedBy, IsMade, IsUpTo}
use Rattle.recover.proofs.Droppings.{Telling, Telling-all, Telling-entry, by-none}
use Rattle.recover.proofs.Takings.{Taking-all, Taking-next, upto-first}
use Rattle.recover.proofs.frames.Held.take_entries.Goals as goal

pub take_entry-requires-clause-writes : goal.take_entry-requires-clause-writes
take_entry-requires-clause-writes g c =
    let same = c.taken.invariant in
    subst (λ (l : Layout). IsUpTo (data_pages l) c.taken.self.last (model_entry c.remove_first-entry.result)) (sym same.1)
    (subst (λ (n : ℕ). IsUpTo (data_pages c.args.self.now.layout) n (model_entry c.remove_first-entry.result)) (sym same.2)
    (upto-first (data_pages c.args.self.now.layout) c.args.self.now.last c.taken.entries c.remove_first-entry.new.self c.remove_first-entry.result c.remove_first-entry.ensures same.0.upto))

pub take_entry-requires-clause-stored : goal.take_entry-requires-clause-stored
take_entry-requires-clause-stored g c =
    let same = c.taken.invariant in
    subst (λ (l : Layout). AreStored (data_pages l) c.taken.self.last c.taken.self.relation.states) (sym same.1)
    (subst (λ (n : ℕ). AreStored (data_pages c.args.self.now.layout) n c.taken.self.relation.states) (sym same.2) same.0.stored)

pub taken-preserved : goal.taken-preserved
taken-preserved g c =
    let disk = g.D.Disk in
    let same = c.taken.invariant in
    let done = c.in_ok-take_entry.ensures in (
      Taking-next disk c.args.self.now.layout c.args.self.now.last c.args.is_last c.args.self.now.relation.states c.taken.self.relation.states c.take_entry.new.self.relation.states
          c.args.entries c.taken.entries c.remove_first-entry.new.self c.remove_first-entry.result c.args.disk.now c.taken.disk c.take_entry.new.disk same.0 c.remove_first-entry.ensures
          (λ tells. subst (λ (l : Layout). IsMade (disk.story c.taken.disk).reads l c.args.is_last c.remove_first-entry.result c.taken.self.relation.states c.take_entry.new.self.relation.states) same.1 (done.made tells))
          (subst (λ (l : Layout). AreStored (data_pages l) c.args.self.now.last c.take_entry.new.self.relation.states) same.1
          (subst (λ (n : ℕ). AreStored (data_pages c.taken.self.layout) n c.take_entry.new.self.relation.states) same.2 done.stored))
          done.bytes done.only,
      done.layout ∙ same.1,
      done.last ∙ same.2,
      λ tells.
          Telling-entry c.args.is_last (disk.story c.args.disk.now).reads (disk.story c.taken.disk).reads c.args.self.now.layout c.taken.self.layout c.args.self.now.dropped c.taken.self.dropped
          c.take_entry.new.self.dropped (model_entries c.args.entries) (model_entries c.taken.entries) (model_entries c.remove_first-entry.new.self) (model_entry c.remove_first-entry.result)
          (ap model_entries c.remove_first-entry.ensures) (same.0.reads.stayed tells).reads same.1 (same.3 tells) (done.dropped tells),
      λ tells. Reads-then (disk.calls c.args.disk.now) (disk.calls c.taken.disk) (disk.calls c.take_entry.new.disk) (same.4 tells) (done.still tells),
    )

pub returns-clause-kept : goal.returns-clause-kept
returns-clause-kept g c tells =
    Taking-all g.D.Disk c.args.self.now.layout c.args.self.now.last c.args.is_last c.args.self.now.relation.states c.taken.self.relation.states c.args.entries c.taken.entries
    c.args.disk.now c.taken.disk c.taken.invariant.0 (nil_from_length c.taken.entries (grind (arith, nat_tests, c.is_empty.ensures, c.taken-test.false))) tells

pub returns-clause-dropped : goal.returns-clause-dropped
returns-clause-dropped g c tells =
    let image : Image = (g.D.Disk.story c.args.disk.now).reads in
    let none : c.taken.entries ≡ [] = nil_from_length c.taken.entries (grind (arith, nat_tests, c.is_empty.ensures, c.taken-test.false)) in
    Telling-all (DroppedBy c.args.is_last image c.args.self.now.layout) c.args.self.now.dropped c.taken.self.dropped (model_entries c.args.entries)
    (subst (λ (es : List Entry). Telling (DroppedBy c.args.is_last image c.args.self.now.layout) c.args.self.now.dropped c.taken.self.dropped (model_entries c.args.entries) (model_entries es)) none
    (c.taken.invariant.3 tells))
    (by-none c.args.is_last image c.args.self.now.layout)
