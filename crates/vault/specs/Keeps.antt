-- What a vault keeps of its opening and of what it has done.
use Rattle.std.specs.Prelude.{ℕ, ◌≡◌, ◌++◌, List, [], ◌∷◌, map, zip, Option, Some, None}
use Rattle.std.specs.List.{AllZip}
use Rattle.std.specs.FinMap.{FinMap}
use Rattle.blob_state.specs.declared.values.Print.{Print}
use Rattle.disk_model.specs.declared.disk.Disk.{Ghosts}
use Rattle.frame_codec.specs.Values.{model_entries, model_entry}
use Rattle.frame_codec.specs.declared.entry.Entry.{Entry}
use Rattle.frame_codec.specs.declared.entry.Write.{Write}
use Rattle.frame_codec.specs.declared.entry.Write.TheVariants as write
use Rattle.group_plan.specs.Plans.{IsEntryOf}
use Rattle.store_model.specs.Frame.{body_spelling, entry_spelling}
use Rattle.store_model.specs.Group.{Commit}
use Rattle.store_model.specs.Half.{tuples_spelling}
use Rattle.store_model.specs.Keeps.{Kept, KeepsImages}
use Rattle.store_model.specs.Key.{key_order}
use Rattle.store_model.specs.State.{State}
use Rattle.txn.specs.declared.request.Request.{Request}
use Rattle.vault.specs.Vaults.{found_of}
use Rattle.vault.specs.declared.done.Done.{Done}
use Rattle.vault.specs.declared.inner.Core.{Core}
use Rattle.vault.specs.declared.keeping.Keeping.{Keeping}

-- what is kept, in the words of the definitions
abbrev pub kept_of : Keeping → Kept
kept_of keeping = record {
  states = keeping.opened.states;
  last = keeping.opened.last;
  groups = keeping.groups;
  failed = keeping.failed;
  forms = map (λ done. done.form) keeping.history;
}

-- What a vault keeps, and what memory has, tells what crashes of its disk left since a time, and what they may leave now. A vault that
-- isn't shut has lost no group.
pub record HasImages {D : Type 0} (g : Ghosts D) (vault : Core D) (since : ℕ) : Type 0 where
  pub keeps : KeepsImages (g.size vault.disk) (g.story vault.disk) (found_of vault.memory) (kept_of vault.keeping) since
  pub none : vault.shut ≡ None → vault.keeping.failed ≡ []

-- the size and the digest of the content that a write sets, by its key, or none where the key goes
abbrev pub print_of : Write → List ℕ × Option Print
print_of (write.Set key state) = (key, Some (record { size = state.value.size; digest = record { bytes = state.value.digest } }))
print_of (write.Del key) = (key, None)

-- what is kept of a committed request and its entry
abbrev pub done_of : Request × Entry → Done
done_of one = record {
  number = one.1.number;
  session = one.1.session;
  nth = one.1.nth;
  reads = one.0.reads;
  prints = map print_of one.1.writes;
  form = entry_spelling (model_entry one.1);
}

-- Nothing was done yet: the states are those that the store was opened with, and so is the last number.
pub record IsBegun (states : FinMap key_order State) (last : ℕ) (keeping : Keeping) : Type 0 where
  pub states_are : keeping.opened.states ≡ tuples_spelling states
  pub last_is : keeping.opened.last ≡ last
  pub groups : keeping.groups ≡ []
  pub failed : keeping.failed ≡ []
  pub history : keeping.history ≡ []

-- A group is done of these committed requests, and the last number is this one: what is kept of each is added, with its own entry, and
-- the group's last number is.
pub record HasGained (ones : List (Request × Commit)) (last : ℕ) (old new : Keeping) : Type 0 where
  pub entries : List Entry
  pub are : AllZip IsEntryOf ones entries
  pub history : new.history ≡ old.history ++ map done_of (zip (map (λ one. one.0) ones) entries)
  pub groups : new.groups ≡ old.groups ++ last ∷ []
  pub opened : new.opened ≡ old.opened
  pub failed : new.failed ≡ old.failed

-- a group without a committed request adds nothing
abbrev pub HasKept : List (Request × Commit) → ℕ → Keeping → Keeping → Type 0
HasKept [] last old new = new ≡ old
HasKept (one ∷ ones) last old new = HasGained (one ∷ ones) last old new

-- The lead of these committed requests has failed: their body is kept, and all else is as before.
pub record HasFailed (ones : List (Request × Commit)) (old new : Keeping) : Type 0 where
  pub entries : List Entry
  pub are : AllZip IsEntryOf ones entries
  pub failed : new.failed ≡ body_spelling (model_entries entries)
  pub history : new.history ≡ old.history
  pub groups : new.groups ≡ old.groups
  pub opened : new.opened ≡ old.opened
