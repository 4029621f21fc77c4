use Rattle.std.proofs.Common.{◌≡◌, ◌+◌, ◌≤◌, length, drop, take, arith, ◌∙◌, ap, length-append}
use Rattle.std.proofs.lemmas.List.{length-take}
use Rattle.io_ends.proofs.Pieces.{drop-given, drop-all}
use Rattle.std.proofs.Math.ListN.{length-drop}
use Rattle.io_ends.proofs.memory.MemSourceSource.read.Goals as goal

pub returns-clause-bytes : goal.returns-clause-bytes
returns-clause-bytes c =
    let source = c.args.self.now in
    let n = c.min-count.result in
    let back : c.split_at.result.1.now ≡ drop source.given source.bytes = c.split_at.ensures.back ∙ ap (drop source.given) c.as_slice.ensures in
    let left : length c.split_at.result.1.now ≡ length (drop source.given source.bytes) = ap length back in
    let within : n ≤ length (drop source.given source.bytes) = omega (arith, c.min.ensures, c.min-count.ensures) in
    let copied : c.copy_from_slice.new.self ≡ take n (drop source.given source.bytes) = c.copy_from_slice.ensures.after ∙ ap (take n) back in (
      rw copied (drop-given source.bytes (drop n c.args.into.now) source.given n within),
      λ none room. drop-all (source.given + n) source.bytes
          (omega (
            arith,
            c.min.ensures,
            c.min-count.ensures,
            source.some,
            source.within,
            length-drop source.given source.bytes,
            length-append c.copy_from_slice.new.self (drop n c.args.into.now),
            c.copy_from_slice.ensures.len,
            length-take n c.args.into.now,
            length-drop n c.args.into.now,
          )),
    )
