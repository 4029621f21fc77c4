use Rattle.std.proofs.Common.{◌+◌, ◌*◌, ◌/◌, ◌%◌, ℕ, ◌∙◌, rules, arith}
use Rattle.std.proofs.lemmas.Iterator.{YieldsList-from_map, YieldsList-from_range, items_from_collect}
use Rattle.blob_script.proofs.content.make.Goals as goal

pub returns : goal.returns
returns c =
    c.from_vec.ensures ∙ rw c.in_ok-bytes.was at (items_from_collect c.collect.result c.collect.ensures.ran
    (YieldsList-from_map _ (λ (i : ℕ). (c.args.first + 7 * i + i / 256) % 256) (YieldsList-from_range 0 c.args.len c.args.len c.map.ensures.source (omega arith)) c.map.ensures.closure (λ x r q k. search rules)))
