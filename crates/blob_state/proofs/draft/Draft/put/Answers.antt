-- The parts of a draft, each of its content.
use Rattle.std.proofs.Common.{◌≡◌, ℕ, ◌-◌, ◌*◌, ◌/◌, List, ◌++◌, length, take, drop, refl, ap, ◌∙◌, arith, length-drop}
use Rattle.std.proofs.lemmas.List.{length-take-le, take-append-drop, take_all}
use Rattle.store_model.specs.Disk.{page_bytes}
use Rattle.store_model.specs.Hash.{sha256}
use Rattle.blob_state.proofs.draft.Draft.put.Goals as goal

pub returns-clause-draft : goal.returns-clause-draft
returns-clause-draft c =
    let content : List ℕ = c.args.content.now in
    let all : ℕ = page_bytes * (length content / page_bytes) in
    let first : List ℕ = take all content in
    let len : length first ≡ 64 * c.hash_extents-chain.result.count =
    length-take-le all content (omega arith) ∙ c.hash_extents-chain.ensures.blocks in
    let full : ℕ = length content / 4096 * 4096 in
    let same : full ≡ all = omega arith in
    let rest : take (length content - full) (drop full content) ≡ drop full content =
    take_all (length content - full) (drop full content) (omega (arith, length-drop full content)) in
    let whole : first ++ take (length content - full) (drop full content) ≡ content =
    ap (λ (xs : List ℕ). first ++ xs) rest ∙ ap (λ (n : ℕ). first ++ drop n content) same ∙ take-append-drop all content in
    let digest : c.finish.result.bytes ≡ sha256 content = c.finish.ensures.whole first len c.hash_extents-chain.ensures.led ∙ ap sha256 whole in
    record { size = refl; digest = digest; prefix = c.prefix.ensures; marks = c.hash_extents-chain.ensures.told }
