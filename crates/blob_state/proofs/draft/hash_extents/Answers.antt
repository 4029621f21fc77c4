-- One more extent hashed.
use Rattle.std.proofs.Common.{rules, slice_index, ◌<◌, ◌^◌, ◌≡◌, ℕ, ◌+◌, ◌*◌, ◌%◌, List, [], ◌∷◌, ◌++◌, length, take, ap, ◌∙◌, arith}
use Rattle.std.proofs.lemmas.List.{length-take-le, map-append}
use Rattle.store_model.specs.Disk.{page_bytes}
use Rattle.store_model.specs.Hash.{initial_state}
use Rattle.store_model.specs.Shape.{UsesExtent, pages_used}
use Rattle.store_model.specs.State.{IsMark}
use Rattle.store_model.proofs.ShapeLaws.{UsesExtent-HasShape}
use Rattle.store_model.proofs.StateLaws.{Hashed-fits, Hashed-next, Hashed-none}
use Rattle.sha_resume.specs.declared.values.Mark.{Mark}
use Rattle.blob_state.specs.Values.{words_of}
use Rattle.blob_state.proofs.draft.hash_extents.Goals as goal

pub hashed-init : goal.hashed-init
hashed-init c = rw (c.new-chain.ensures.mark, c.new-chain.ensures.count, c.requires.none) (Hashed-none c.args.content.now)

pub hashed-preserved : goal.hashed-preserved
hashed-preserved c =
    let content : List ℕ = c.args.content.now in
    let start : ℕ = c.hashed.start in
    let end : ℕ = start + c.used.result * 4096 in
    let next : List ℕ = c.blocks-in-hashed.new.self.mark in
    let before : List Mark = c.hashed.marks.items in
    let uses : UsesExtent (length content) c.hashed.i = UsesExtent-HasShape (length content) c.hashed.i _ c.requires.extents c.hashed-test.true in
    let to : end ≡ start + pages_used (length content) c.hashed.i * page_bytes = ap (λ (n : ℕ). start + n * 4096) c.used.ensures in
    let fits = Hashed-fits content c.hashed.i start c.hashed.chain.mark c.hashed.chain.count (words_of before) c.hashed.invariant uses in
    let whole : length (take start content) % 64 ≡ 0 =
    omega (arith, length-take-le start content (omega (arith, fits)), c.hashed.invariant.blocks) in
    let led = c.blocks-in-hashed.ensures.longer initial_state (take start content) whole c.hashed.invariant.led in
    let eight : length c.mark.result.words ≡ 8 = search rules in
    let words : (k : ℕ) → slice_index c.mark.result.words k < 2 ^ 32 = search rules in
    let sound : IsMark next = rw (← c.mark.ensures) (record { eight = eight; words = words }) in
    let items : words_of c.push.new.self.items ≡ words_of before ++ next ∷ [] =
    ap words_of c.push.ensures.items ∙ map-append (λ (mark : Mark). mark.words) before (c.mark.result ∷ [])
    ∙ ap (λ (words : List ℕ). words_of before ++ words ∷ []) c.mark.ensures in
    rw items (Hashed-next content c.hashed.i start end c.hashed.chain.mark next c.hashed.chain.count c.blocks-in-hashed.new.self.count (words_of before)
    c.hashed.invariant uses to (omega (arith, c.blocks-in-hashed.ensures.count)) led sound)
