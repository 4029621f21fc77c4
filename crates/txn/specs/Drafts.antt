-- Drafts of contents.
use Rattle.std.specs.Prelude.{ℕ, List}
use Rattle.store_model.specs.State.{Draft, IsDraft, IsDraftOf}

-- a draft of a content that isn't too long
pub record IsDraftFor (content : List ℕ) (draft : Draft) : Type 0 where
  pub sound : IsDraft draft
  pub of : IsDraftOf draft content
