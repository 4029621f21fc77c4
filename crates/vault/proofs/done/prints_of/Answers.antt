use Rattle.std.proofs.Common.{ℕ, List, [], ◌∷◌, ◌++◌, Option, map, take, ap, ◌∙◌, arith}
use Rattle.std.proofs.lemmas.List.{take_all}
use Rattle.blob_state.specs.declared.values.Print.{Print}
use Rattle.frame_codec.specs.declared.entry.Write.{Write}
use Rattle.vault.specs.Keeps.{print_of}
use Rattle.vault.proofs.Keepings.{map-more}
use Rattle.vault.proofs.done.prints_of.Goals as goal

pub told-preserved : goal.told-preserved
told-preserved c =
    let writes : List Write = c.args.writes.now in
    c.in_ok-push.ensures.ok ∙ ap (λ (xs : List (List ℕ × Option Print)). xs ++ c.print_of.result ∷ []) c.told.invariant
    ∙ ap (λ (p : List ℕ × Option Print). map print_of (take c.told.i writes) ++ p ∷ []) c.print_of.ensures ∙ map-more print_of writes c.told.i c.get.result.now c.get.ensures

pub returns : goal.returns
returns c =
    let writes : List Write = c.args.writes.now in
    c.told.invariant ∙ ap (λ (ws : List Write). map print_of ws) (take_all c.told.i writes (omega (arith, c.told-test.false, c.told.auto.i-end, c.len-i-end.ensures.len)))
