use Rattle.std.proofs.Common.{List, ◌∙◌, sym, ap}
use Rattle.std.specs.Prelude.{fold}
use Rattle.disk_model.specs.declared.call.Call.{Call}
use Rattle.disk_model.specs.Calls.{image_of, image_after, settled}
use Rattle.store_model.specs.Disk.{Image}
use Rattle.disk_model.proofs.Replays.{reads-calls}
use Rattle.disk_model.proofs.memory.MemDisk.page_now.Goals as goal

pub returns-in-Some : goal.returns-in-Some
returns-in-Some c =
    let start = image_of c.args.self.now.start.items in
    sym (c.in-Some.ensures start)
    ∙ ap (λ (calls : List Call). fold image_after start calls c.args.page) c.deref.ensures.value
    ∙ ap (λ (image : Image). image c.args.page) (sym (reads-calls (settled start) c.args.self.now.calls.items))

pub returns-in-None : goal.returns-in-None
returns-in-None c =
    let start = image_of c.args.self.now.start.items in
    c.first_page.ensures ∙ sym (c.in-None.ensures start)
    ∙ ap (λ (calls : List Call). fold image_after start calls c.args.page) c.deref.ensures.value
    ∙ ap (λ (image : Image). image c.args.page) (sym (reads-calls (settled start) c.args.self.now.calls.items))
