use Rattle.std.proofs.Common.{◌∙◌, [], ◌∷◌, ap, sym}
use Rattle.store_model.specs.Layout.{data_pages}
use Rattle.store_model.specs.State.{State}
use Rattle.vault.specs.Pours.{pours_by}
use Rattle.vault.proofs.Pourings.{pour-within, pour-wrote}
use Rattle.vault.proofs.pouring.pour_write.Goals as goal

pub pour-requires-clause-within : goal.pour-requires-clause-within
pour-requires-clause-within g c =
    pour-within (data_pages c.args.layout) (pours_by c.args.change.now c.args.write.now) c.deref.result.now c.in-Put-Set.drafted
    ((λ i. pours_by (c.in-Put-Set.is-0 i) (c.in-Put-Set.is-1 i)) ∙ ap (λ (s : State). (s, c.in-Put-Set.drafted) ∷ []) (sym c.deref.ensures)) c.requires.within

pub returns-in_err-pour-clause-wrote : goal.returns-in_err-pour-clause-wrote
returns-in_err-pour-clause-wrote g c =
    pour-wrote g.D.Disk c.args.layout (pours_by c.args.change.now c.args.write.now) c.deref.result.now c.in-Put-Set.drafted c.args.disk.now c.pour.new.disk
    ((λ i. pours_by (c.in-Put-Set.is-0 i) (c.in-Put-Set.is-1 i)) ∙ ap (λ (s : State). (s, c.in-Put-Set.drafted) ∷ []) (sym c.deref.ensures)) c.pour.ensures.wrote

pub returns-in_ok-pour-clause-wrote : goal.returns-in_ok-pour-clause-wrote
returns-in_ok-pour-clause-wrote g c =
    pour-wrote g.D.Disk c.args.layout (pours_by c.args.change.now c.args.write.now) c.deref.result.now c.in-Put-Set.drafted c.args.disk.now c.pour.new.disk
    ((λ i. pours_by (c.in-Put-Set.is-0 i) (c.in-Put-Set.is-1 i)) ∙ ap (λ (s : State). (s, c.in-Put-Set.drafted) ∷ []) (sym c.deref.ensures)) c.pour.ensures.wrote
