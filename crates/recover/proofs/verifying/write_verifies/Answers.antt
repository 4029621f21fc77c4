use Rattle.std.proofs.Common.{ℕ, Ok, subst, sym, ap, ◌∙◌}
use Rattle.frame_codec.specs.Values.{model_write}
use Rattle.frame_codec.specs.declared.entry.Write.{Write}
use Rattle.store_model.specs.Disk.{Image}
use Rattle.store_model.specs.Frame as model
use Rattle.store_model.specs.Frame.{IsWrite}
use Rattle.store_model.specs.Holds.{place_of}
use Rattle.store_model.specs.Layout.{data_page, data_pages}
use Rattle.store_model.specs.Reading.{DoesWriteVerify}
use Rattle.store_model.specs.Space.{AreBlocks, blocks_of}
use Rattle.store_model.specs.State.{State}
use Rattle.store_model.specs.Verify.{Verifies}
use Rattle.store_model.proofs.TupleBlockLaws.{IsTuple-blocks}
use Rattle.recover.proofs.Verifyings.{FailsFirst-none}
use Rattle.recover.proofs.verifying.write_verifies.Goals as goal

pub verify-requires-clause-within : goal.verify-requires-clause-within
verify-requires-clause-within g c =
    let pages : ℕ = data_pages c.args.layout in
    let here : IsWrite pages c.requires.write.0 (model.Set c.in-Set.key c.in-Set.state.value) =
    subst (λ (w : Write). IsWrite pages c.requires.write.0 (model_write w)) c.in-Set.is c.requires.write.1 in
    subst (λ (s : State). AreBlocks pages (blocks_of (place_of s))) (sym c.deref.ensures) (IsTuple-blocks pages c.in-Set.key c.in-Set.state.value here.0)

pub returns-in-Damaged-clause-fails : goal.returns-in-Damaged-clause-fails
returns-in-Damaged-clause-fails g c tells isnt does =
    let image : Image = (g.D.Disk.story c.args.disk.now).reads in
    let stored : Verifies image (data_page c.args.layout) c.in-Set.state.value =
    subst (λ (w : Write). DoesWriteVerify image c.args.layout (model_write w)) c.in-Set.is does in
    FailsFirst-none image (data_page c.args.layout) c.deref.result.now c.in-Damaged.link c.in-Damaged.want c.in-Damaged.got
    (c.verify.ensures.damaged tells c.in-Damaged.link c.in-Damaged.want c.in-Damaged.got (c.in_ok-verify-in-Set.was ∙ ap Ok c.in-Damaged.is))
    (subst (λ (s : State). Verifies image (data_page c.args.layout) s) (sym c.deref.ensures) stored)

pub returns-in-Whole-clause-verifies : goal.returns-in-Whole-clause-verifies
returns-in-Whole-clause-verifies g c tells is_true =
    let image : Image = (g.D.Disk.story c.args.disk.now).reads in
    let found : Verifies image (data_page c.args.layout) c.deref.result.now = c.verify.ensures.whole tells (c.in_ok-verify-in-Set.was ∙ ap Ok c.in-Whole.is) in
    subst (λ (w : Write). DoesWriteVerify image c.args.layout (model_write w)) (sym c.in-Set.is)
    (subst (λ (s : State). Verifies image (data_page c.args.layout) s) c.deref.ensures found)
