-- What the values of this crate, their marks and the parts of states and drafts stand for.
use Rattle.std.specs.Prelude.{ℕ, List, map}
use Rattle.sha_resume.specs.declared.values.Mark.{Mark}
use Rattle.store_model.specs.State.{Draft, Extent, State}
use Rattle.blob_state.specs.declared.values.DraftParts.{DraftParts}
use Rattle.blob_state.specs.declared.values.Extent.{Extent as Kept}
use Rattle.blob_state.specs.declared.values.StateParts.{StateParts}

-- an extent, with its mark as words
abbrev pub extent_of : Kept → Extent
extent_of extent = record { head = extent.head; mark = extent.mark.words }

abbrev pub extents_of : List Kept → List Extent
extents_of extents = map extent_of extents

-- marks as words
abbrev pub words_of : List Mark → List (List ℕ)
words_of marks = map (λ mark. mark.words) marks

-- the state that parts are of
abbrev pub state_by : StateParts → State
state_by parts =
    record {
      size = parts.size;
      born = parts.born;
      digest = parts.digest.bytes;
      prefix = parts.prefix;
      extents = extents_of parts.extents.items;
      tail = parts.tail;
    }

-- the draft that parts are of
abbrev pub draft_by : DraftParts → Draft
draft_by parts =
    record {
      size = parts.size;
      digest = parts.digest.bytes;
      prefix = parts.prefix;
      marks = words_of parts.marks.items;
    }
