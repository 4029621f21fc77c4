use Rattle.std.proofs.Common.{ℕ, List, ◌++◌, length, drop, replicate, ap, ◌∙◌}
use Rattle.std.proofs.lemmas.List.{drop-replicate}
use Rattle.store_model.specs.Disk.{page_bytes}
use Rattle.disk_model.proofs.page.filled.Goals as goal

pub returns : goal.returns
returns c =
    ap (λ (front : List ℕ). front ++ drop (length c.args.bytes.now) (replicate page_bytes 0)) c.copy_from_slice.ensures.after
    ∙ ap (λ (zeros : List ℕ). c.args.bytes.now ++ zeros) (drop-replicate (length c.args.bytes.now) page_bytes 0)
