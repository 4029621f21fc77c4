use Rattle.std.proofs.Common.{◌≡◌, Ok, Some, refl, sym, ap, ◌∙◌, subst}
use Rattle.std.specs.FinMap.{get}
use Rattle.std.specs.Option.{option_copied}
use Rattle.extent_io.specs.declared.verdict.Verdict.TheVariants.{Damaged, Whole}
use Rattle.store_model.specs.Layout.{data_page}
use Rattle.store_model.specs.State.{State}
use Rattle.store_model.specs.Verify.{FailsFirst, IsDamage, LeadsTo, Verifies, computed}
use Rattle.vault.proofs.Images.{HasImages-read}
use Rattle.vault.proofs.Readings.{IsVault-read, held-blocks}
use Rattle.vault.proofs.inner.Core.verify.Goals as goal

pub verify-requires-clause-within : goal.verify-requires-clause-within
verify-requires-clause-within g c =
    let there : get c.args.self.now.memory.relation.states c.args.key.now ≡ Some c.in-Some-get.state.now = sym c.get.ensures ∙ ap option_copied c.in-Some-get.is in
    held-blocks c.args.self.now.memory c.args.key.now c.in-Some-get.state.now c.requires.vault.held there

pub returns-in_err-verify-clause-keeps : goal.returns-in_err-verify-clause-keeps
returns-in_err-verify-clause-keeps g c =
    IsVault-read g.D.Disk c.args.self.now.disk c.verify.new.disk c.args.self.now.memory c.args.self.now.shut c.verify.ensures.only_reads c.requires.vault

pub returns-clause-keeps : goal.returns-clause-keeps
returns-clause-keeps g c =
    IsVault-read g.D.Disk c.args.self.now.disk c.verify.new.disk c.args.self.now.memory c.args.self.now.shut c.verify.ensures.only_reads c.requires.vault

pub returns-clause-damaged : goal.returns-clause-damaged
returns-clause-damaged g c tells state link want got there is =
    let here : Some state ≡ Some c.in-Some-get.state.now = sym there ∙ sym c.get.ensures ∙ ap option_copied c.in-Some-get.is in
    let same : state ≡ c.in-Some-get.state.now = cc here in
    let value : c.in_ok-verify.field-0 ≡ Damaged link want got = cc is in
    subst (λ (s : State). FailsFirst (computed (g.D.Disk.story c.args.self.now.disk).reads (data_page c.args.self.now.memory.layout) s) s link want got) (sym same)
    (c.verify.ensures.damaged tells link want got (c.in_ok-verify.was ∙ ap Ok value))

pub returns-clause-led : goal.returns-clause-led
returns-clause-led g c state there is =
    let here : Some state ≡ Some c.in-Some-get.state.now = sym there ∙ sym c.get.ensures ∙ ap option_copied c.in-Some-get.is in
    let same : state ≡ c.in-Some-get.state.now = cc here in
    let value : c.in_ok-verify.field-0 ≡ Whole = cc is in
    let led = c.verify.ensures.led (c.in_ok-verify.was ∙ ap Ok value) in
    (led.0, subst (LeadsTo led.0) (sym same) led.1)

pub returns-clause-damage : goal.returns-clause-damage
returns-clause-damage g c state link want got there is =
    let here : Some state ≡ Some c.in-Some-get.state.now = sym there ∙ sym c.get.ensures ∙ ap option_copied c.in-Some-get.is in
    let same : state ≡ c.in-Some-get.state.now = cc here in
    let value : c.in_ok-verify.field-0 ≡ Damaged link want got = cc is in
    subst (λ (s : State). IsDamage s link want got) (sym same) (c.verify.ensures.damage link want got (c.in_ok-verify.was ∙ ap Ok value))

pub returns-clause-whole : goal.returns-clause-whole
returns-clause-whole g c tells state there is =
    let here : Some state ≡ Some c.in-Some-get.state.now = sym there ∙ sym c.get.ensures ∙ ap option_copied c.in-Some-get.is in
    let same : state ≡ c.in-Some-get.state.now = cc here in
    let value : c.in_ok-verify.field-0 ≡ Whole = cc is in
    subst (λ (s : State). Verifies (g.D.Disk.story c.args.self.now.disk).reads (data_page c.args.self.now.memory.layout) s) (sym same)
    (c.verify.ensures.whole tells (c.in_ok-verify.was ∙ ap Ok value))

pub returns-in_err-verify-clause-images : goal.returns-in_err-verify-clause-images
returns-in_err-verify-clause-images g c tells since images =
    HasImages-read g.D.Disk c.args.self.now
    (record { disk = c.verify.new.disk; memory = c.args.self.now.memory; shut = c.args.self.now.shut; keeping = c.args.self.now.keeping }) since tells
    c.verify.ensures.only_reads refl refl refl images

pub returns-clause-images : goal.returns-clause-images
returns-clause-images g c tells since images =
    HasImages-read g.D.Disk c.args.self.now
    (record { disk = c.verify.new.disk; memory = c.args.self.now.memory; shut = c.args.self.now.shut; keeping = c.args.self.now.keeping }) since tells
    c.verify.ensures.only_reads refl refl refl images
