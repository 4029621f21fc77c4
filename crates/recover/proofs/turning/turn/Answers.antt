use Rattle.std.proofs.Common.{◌≡◌, ℕ, ◌/◌, inl, arith, sym, ap, ◌∙◌, subst}
use Rattle.std.specs.FinMap.{entries}
use Rattle.check_point.specs.Halves.{Stand}
use Rattle.check_point.specs.Writers.{IsOfHalf, Parts}
use Rattle.disk_model.specs.Disks.{OnlyWrites}
use Rattle.disk_model.proofs.DiskLaws.{OnlyReads-none, OnlyWrites-more, OnlyWrites-wider}
use Rattle.store_model.specs.Disk.{page_bytes}
use Rattle.store_model.specs.Half.{IsHalf, tuples_spelling}
use Rattle.store_model.specs.Images.{Within}
use Rattle.store_model.specs.Layout.{Layout, states_page}
use Rattle.recover.specs.Turns.{IsTurnPage}
use Rattle.recover.proofs.Puttings.{length-spelled}
use Rattle.recover.proofs.Survivals.{InTurn-behind}
use Rattle.recover.proofs.turning.turn.Goals as goal

pub put_all-requires-clause-room : goal.put_all-requires-clause-room
put_all-requires-clause-room g c =
    omega (arith, length-spelled (entries c.args.relation.now.states), c.requires.states.room, ap (λ (parts : Parts). parts.layout.room) c.start-writer.ensures.parts)

pub returns-in_err-put_all-clause-wrote : goal.returns-in_err-put_all-clause-wrote
returns-in_err-put_all-clause-wrote g c =
    let disk = g.D.Disk in
    let mine : OnlyWrites disk (Within (states_page c.args.layout c.args.half) c.args.layout.room) c.args.disk.now c.put_all.new.disk =
    subst (λ (parts : Parts). OnlyWrites disk (Within (states_page parts.layout parts.half) parts.layout.room) c.args.disk.now c.put_all.new.disk)
    c.start-writer.ensures.parts c.put_all.ensures.wrote in
    OnlyWrites-wider disk (Within (states_page c.args.layout c.args.half) c.args.layout.room) (IsTurnPage c.args.layout c.args.half) c.args.disk.now c.put_all.new.disk
    (λ p inside. inl (inl inside)) mine

pub returns-clause-wrote : goal.returns-clause-wrote
returns-clause-wrote g c =
    let disk = g.D.Disk in
    let pages = IsTurnPage c.args.layout c.args.half in
    let mine : OnlyWrites disk (Within (states_page c.args.layout c.args.half) c.args.layout.room) c.args.disk.now c.put_all.new.disk =
    subst (λ (parts : Parts). OnlyWrites disk (Within (states_page parts.layout parts.half) parts.layout.room) c.args.disk.now c.put_all.new.disk)
    c.start-writer.ensures.parts c.put_all.ensures.wrote in
    let layout = c.in_ok-put_all.ensures.layout ∙ ap (λ (parts : Parts). parts.layout) c.start-writer.ensures.parts in
    let half = c.in_ok-put_all.ensures.half ∙ ap (λ (parts : Parts). parts.half) c.start-writer.ensures.parts in
    OnlyWrites-more disk pages pages c.args.disk.now c.put_all.new.disk c.turn_to.new.disk (λ p here. here)
    (OnlyWrites-wider disk (Within (states_page c.args.layout c.args.half) c.args.layout.room) pages c.args.disk.now c.put_all.new.disk (λ p inside. inl (inl inside)) mine)
    (subst (λ l. OnlyWrites disk (IsTurnPage l c.args.half) c.put_all.new.disk c.turn_to.new.disk) layout
    (subst (λ n. OnlyWrites disk (IsTurnPage c.put_all.new.writer.layout n) c.put_all.new.disk c.turn_to.new.disk) half c.turn_to.ensures.wrote))

pub returns-in_err-put_all-clause-windows : goal.returns-in_err-put_all-clause-windows
returns-in_err-put_all-clause-windows g c =
    let disk = g.D.Disk in
    let mine : OnlyWrites disk (Within (states_page c.args.layout c.args.half) c.args.layout.room) c.args.disk.now c.put_all.new.disk =
    subst (λ (parts : Parts). OnlyWrites disk (Within (states_page parts.layout parts.half) parts.layout.room) c.args.disk.now c.put_all.new.disk)
    c.start-writer.ensures.parts c.put_all.ensures.wrote in
    record {
      mid = c.put_all.new.disk;
      first = OnlyWrites-wider disk (Within (states_page c.args.layout c.args.half) c.args.layout.room) (IsOfHalf c.args.layout c.args.half) c.args.disk.now c.put_all.new.disk
          (λ p inside. inl inside) mine;
      second = inl (OnlyReads-none disk c.put_all.new.disk);
    }

pub returns-clause-windows : goal.returns-clause-windows
returns-clause-windows g c =
    let disk = g.D.Disk in
    let mine : OnlyWrites disk (Within (states_page c.args.layout c.args.half) c.args.layout.room) c.args.disk.now c.put_all.new.disk =
    subst (λ (parts : Parts). OnlyWrites disk (Within (states_page parts.layout parts.half) parts.layout.room) c.args.disk.now c.put_all.new.disk)
    c.start-writer.ensures.parts c.put_all.ensures.wrote in
    let states = c.args.relation.now.states in
    let writer : Parts = c.put_all.new.writer in
    let layout : writer.layout ≡ c.args.layout = c.in_ok-put_all.ensures.layout ∙ ap (λ (parts : Parts). parts.layout) c.start-writer.ensures.parts in
    let half : writer.half ≡ c.args.half = c.in_ok-put_all.ensures.half ∙ ap (λ (parts : Parts). parts.half) c.start-writer.ensures.parts in
    let last : writer.last ≡ c.args.last = c.in_ok-put_all.ensures.last ∙ ap (λ (parts : Parts). parts.last) c.start-writer.ensures.parts in
    let sound : IsHalf writer.layout writer.last states =
    subst (λ (l : Layout). IsHalf l writer.last states) (sym layout) (subst (λ (n : ℕ). IsHalf c.args.layout n states) (sym last) c.requires.states) in
    InTurn-behind disk c.args.layout writer.layout c.args.half writer.half c.args.last writer.last states c.args.disk.now c.put_all.new.disk c.turn_to.new.disk layout half last mine
    (c.turn_to.ensures.windows states sound c.in_ok-put_all.ensures.taken (λ tells.
    subst (λ (l : Layout). Stand (states_page l writer.half) (writer.taken / page_bytes) (tuples_spelling states) (disk.story c.put_all.new.disk).reads)
    (sym c.in_ok-put_all.ensures.layout)
    (subst (λ (n : ℕ). Stand (states_page c.start-writer.result.layout n) (writer.taken / page_bytes) (tuples_spelling states) (disk.story c.put_all.new.disk).reads)
    (sym c.in_ok-put_all.ensures.half) (c.in_ok-put_all.ensures.reads tells))))
