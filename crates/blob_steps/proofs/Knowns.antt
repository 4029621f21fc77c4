-- Each store that a disk reads as is known.
use Rattle.std.proofs.Common.{◌≡◌, ℕ, List, Option, Some, None, refl, sym, subst}
use Rattle.std.proofs.Math.ListN.{replicate}
use Rattle.std.proofs.lemmas.List.{length-replicate}
use Rattle.std.specs.Prelude.{option_map}
use Rattle.std.specs.FinMap.{get}
use Rattle.store_model.specs.Holds.{place_of}
use Rattle.store_model.specs.Maps.{map_values}
use Rattle.store_model.specs.Reading.{Found}
use Rattle.store_model.specs.State.{IsState, State}
use Rattle.store_model.specs.Store.{Object, Store}
use Rattle.store_model.proofs.MapLaws.{get-map_values}
use Rattle.blob_steps.specs.Known.{BothKnown, FoundKnown}

-- an object that a state is one of, whose content is zeros
abbrev zeros_of : State → Object
zeros_of state = record { content = replicate state.size 0; number = state.born; place = place_of state }

both-zeros : (state : Option State) → ((one : State) → state ≡ Some one → IsState one) → BothKnown state (option_map zeros_of state)
both-zeros None sound = tt
both-zeros (Some state) sound = record { sound = sound state refl; number = refl; place = refl; size = sym (length-replicate state.size 0) }

pub known-store : (found : Found) → ((key : List ℕ) (state : State) → get found.states key ≡ Some state → IsState state) → (start : Store) × FoundKnown found start
known-store found sound = (
  record { objects = map_values zeros_of found.states; last = found.last },
  record {
    objects = λ key.
        subst (BothKnown (get found.states key)) (sym (get-map_values zeros_of found.states key)) (both-zeros (get found.states key) (λ one is. sound key one is));
    last = refl;
  },
)
