use Rattle.std.proofs.Common.{sym, ◌∙◌, ap, arith}
use Rattle.store_model.specs.Key.{key_order}
use Rattle.blob_base.proofs.KeyLists.{AllBefore-next, IsAt-tied, WouldStand-greater, WouldStand-last, element}
use Rattle.blob_base.proofs.key_list.search.Goals as goal

pub searched-init : goal.searched-init
searched-init g c = λ k one less is. absurd (omega (arith, less))

pub returns-in-Equal : goal.returns-in-Equal
returns-in-Equal g c =
    IsAt-tied c.args.entries.now c.args.key.now c.searched.at c.index-entries-at.result
    (element c.args.entries.now c.searched.at c.index-entries-at.result c.index-entries-at.result c.searched-test.true c.index-entries-at.is)
    (ap (λ e. key_order e.0 c.args.key.now) c.index-entries-at.is ∙ sym c.cmp.ensures ∙ c.in-Equal.is)

pub returns-in-Greater : goal.returns-in-Greater
returns-in-Greater g c =
    WouldStand-greater c.args.entries.now c.args.key.now c.searched.at c.index-entries-at.result c.requires
    (element c.args.entries.now c.searched.at c.index-entries-at.result c.index-entries-at.result c.searched-test.true c.index-entries-at.is)
    (ap (λ e. key_order e.0 c.args.key.now) c.index-entries-at.is ∙ sym c.cmp.ensures ∙ c.in-Greater.is) c.searched.invariant

pub searched-preserved : goal.searched-preserved
searched-preserved g c =
    AllBefore-next c.args.entries.now c.args.key.now c.searched.at c.index-entries-at.result
    (element c.args.entries.now c.searched.at c.index-entries-at.result c.index-entries-at.result c.searched-test.true c.index-entries-at.is)
    (ap (λ e. key_order e.0 c.args.key.now) c.index-entries-at.is ∙ sym c.cmp.ensures ∙ c.in-Less.is) c.searched.invariant

pub returns : goal.returns
returns g c = WouldStand-last c.args.entries.now c.args.key.now c.searched.at (omega (arith, c.searched-test.false)) c.searched.auto.at-end c.searched.invariant
