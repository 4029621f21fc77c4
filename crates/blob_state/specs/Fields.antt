-- What the fields of a state and of a draft stand for.
use Rattle.store_model.specs.State.{State, Draft}
use Rattle.blob_state.specs.Values.{extents_of, words_of}
use Rattle.blob_state.specs.declared.state.BlobState.TheInside.{Inside as StateFields}
use Rattle.blob_state.specs.declared.draft.Draft.TheInside.{Inside as DraftFields}

abbrev pub state_of : StateFields → State
state_of s =
    record {
      size = s.size;
      born = s.born;
      digest = s.digest.bytes;
      prefix = s.prefix;
      extents = extents_of s.extents.items;
      tail = s.tail;
    }

abbrev pub draft_of : DraftFields → Draft
draft_of d = record { size = d.size; digest = d.digest.bytes; prefix = d.prefix; marks = words_of d.marks.items }
