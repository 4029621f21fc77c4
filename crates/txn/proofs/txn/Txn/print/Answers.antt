use Rattle.std.proofs.Common.{◌≡◌, true, false, length, Some, None, sym, ◌∙◌, ap}
use Rattle.store_model.specs.Hash.{sha256}
use Rattle.txn.specs.Txns.{print_by}
use Rattle.txn.specs.declared.change.Change.TheVariants.{Put, Append, Del}
use Rattle.txn.proofs.Transactions.{under-change}
use Rattle.txn.proofs.txn.Txn.print.Goals as goal

pub unreachable-requires : goal.unreachable-requires
unreachable-requires c =
    let wrong : true ≡ false = c.self.invariant.appends c.args.key.now (Append c.in-Some-Append.field-0-0) (sym c.in-Some-Append.ensures ∙ ap Some c.in-Some-Append.field-0-is) in
    absurd (cc wrong)

pub returns-in-Some-Put : goal.returns-in-Some-Put
returns-in-Some-Put c =
    let size : c.size.result ≡ length c.in-Some-Put.drafted = c.size.ensures ∙ c.draft-draft.ensures.draft.size in
    let digest : c.digest.result.now.bytes ≡ sha256 c.in-Some-Put.drafted = c.digest.ensures ∙ c.draft-draft.ensures.draft.digest in
    let both : Some (c.size.result, c.digest.result.now.bytes) ≡ Some (length c.in-Some-Put.drafted, sha256 c.in-Some-Put.drafted) = λ i. Some (size i, digest i) in
    both ∙ sym (under-change print_by c.args.key.now (Some (Put c.in-Some-Put.drafted)) c.self.view_is (sym c.in-Some-Put.ensures ∙ ap Some c.in-Some-Put.field-0-is))

pub returns-in-Some-Del : goal.returns-in-Some-Del
returns-in-Some-Del c = sym (under-change print_by c.args.key.now (Some Del) c.self.view_is (sym c.in-Some-Del.ensures ∙ ap Some c.in-Some-Del.field-0-is))

pub returns-in-None : goal.returns-in-None
returns-in-None c = sym (under-change print_by c.args.key.now None c.self.view_is (sym c.in-None.ensures))
