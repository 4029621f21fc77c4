-- A state of no bytes keeps the rules.
use Rattle.std.proofs.Common.{rules, ◌≡◌, List, [], replicate, None, refl, subst, sym, arith}
use Rattle.store_model.specs.State.{Extent, IsState}
use Rattle.store_model.proofs.StateLaws.{AreMarks-none, IsPrefix-prefix_of}
use Rattle.blob_state.specs.Values.{extents_of}
use Rattle.relation.proofs.relation.blank.Goals as goal

no_bytes : IsState (record { size = 0; born = 1; digest = replicate 32 0; prefix = replicate 32 0; extents = []; tail = None })
no_bytes =
    record {
      size = omega arith;
      born = record { least = omega arith; most = omega arith };
      digest = refl;
      prefix = IsPrefix-prefix_of [];
      extents = record { full = refl; tail = refl; held = omega arith; least = λ n less. absurd (omega arith) };
      heads = λ i less. absurd (omega arith);
      marks = AreMarks-none;
      tail = search rules;
    }

pub from_parts-requires : goal.from_parts-requires
from_parts-requires c =
    let none : extents_of c.new.result.items ≡ [] = search rules in
    subst (λ (extents : List Extent). IsState (record { size = 0; born = 1; digest = replicate 32 0; prefix = replicate 32 0; extents = extents; tail = None })) (sym none) no_bytes
