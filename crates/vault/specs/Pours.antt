-- What is poured and made for the entries of a group, in the words of the definitions.
use Rattle.std.specs.Prelude.{ℕ, ◌≡◌, ◌<◌, ◌≤◌, ◌⊎◌, List, [], ◌∷◌, length, map, take, zip, fold, slice_get, Some}
use Rattle.std.specs.List.{All, AllZip, filter_map, flat_map}
use Rattle.std.specs.FinMap.{FinMap, entries, get}
use Rattle.frame_codec.specs.declared.entry.Entry.{Entry}
use Rattle.frame_codec.specs.declared.entry.Write.{Write}
use Rattle.frame_codec.specs.declared.entry.Write.TheVariants as write
use Rattle.group_plan.specs.Plans.{IsEntryOf}
use Rattle.store_model.specs.Disk.{Image}
use Rattle.store_model.specs.Group.{Commit}
use Rattle.store_model.specs.Holds.{IsPoured, ObjectStands, pages_from, place_of}
use Rattle.store_model.specs.Key.{key_order}
use Rattle.store_model.specs.Layout.{Layout, data_page}
use Rattle.store_model.specs.Log.{at_log}
use Rattle.store_model.specs.Placing.{new_place}
use Rattle.store_model.specs.Space.{Block, blocks_of}
use Rattle.store_model.specs.State.{IsState, State, Tells}
use Rattle.store_model.specs.Store as model
use Rattle.store_model.specs.Transaction.{apply}
use Rattle.relation.specs.Changes.{bytes_limit, with_entries}
use Rattle.relation.specs.Parts.{encoded_by}
use Rattle.txn.specs.Requests.{transaction_of}
use Rattle.txn.specs.Txns.{NoAppends}
use Rattle.txn.specs.declared.change.Change.{Change}
use Rattle.txn.specs.declared.change.Change.TheVariants as change
use Rattle.txn.specs.declared.request.Request.{Request}

-- each state keeps the rules of states
abbrev pub AreStates : FinMap key_order State → Type 0
AreStates states = (key : List ℕ) (state : State) → get states key ≡ Some state → IsState state

-- no request of a queue appends, since none does yet
abbrev pub AreWhole : List Request → Type 0
AreWhole queue = All (λ request. NoAppends request.writes) queue

-- the store after one committed request
abbrev pub made_one : model.Store → Request × Commit → model.Store
made_one store one = apply store one.1.number (entries (transaction_of one.0).changes) (map new_place one.1.placed)

-- the store after committed requests, in order
abbrev pub made_by : model.Store → List (Request × Commit) → model.Store
made_by store commits = fold made_one store commits

-- a content that is poured, with the state that has its place
abbrev pub Pour : Type 0
Pour = State × List ℕ

-- what is poured for a change and the write that an entry has of it
abbrev pub pours_by : Change → Write → List Pour
pours_by (change.Put content) (write.Set key state) = (state.value, content) ∷ []
pours_by (change.Put content) (write.Del key) = []
pours_by (change.Append extension) one = []
pours_by change.Del one = []

-- each pour has the state of its content
abbrev pub AreTold : List Pour → Type 0
AreTold [] = Unit {0}
AreTold (pour ∷ pours) = Tells pour.0 pour.1 × AreTold pours

-- what is poured for an entry of a request
abbrev pub pours_of : Request × Entry → List Pour
pours_of one = flat_map (λ (w : (List ℕ × Change) × Write). pours_by w.0.1 w.1) (zip (entries one.0.writes) one.1.writes)

-- an entry is that of a request
abbrev pub AreWrittenBy : Request → Entry → Type 0
AreWrittenBy request entry = (commit : Commit) × IsEntryOf (request, commit) entry

-- what is poured for entries, each with its request
abbrev pub pours_of_all : List (Request × Entry) → List Pour
pours_of_all ones = flat_map pours_of ones

-- the requests at these places of a queue
abbrev pub requests_at : List Request → List ℕ → List Request
requests_at queue places = filter_map (slice_get queue) places

-- Each entry is that of the request at its place in the queue.
pub record AreAt (queue : List Request) (entries : List Entry) (places : List ℕ) : Type 0 where
  pub count : length places ≡ length entries
  pub there : All (λ place. place < length queue) places
  pub written : AllZip AreWrittenBy (requests_at queue places) entries

-- the states take few bytes before each of these entries
abbrev pub HasRoom : FinMap key_order State → List Entry → Type 0
HasRoom states entries = (i : ℕ) → i < length entries → encoded_by (with_entries states (take i entries)) ≤ bytes_limit

-- the blocks that are poured to
abbrev pub pour_blocks : List Pour → List Block
pour_blocks pours = flat_map (λ pour. blocks_of (place_of pour.0)) pours

-- how many pages a content has that is poured
abbrev pub pour_pages : Pour → ℕ
pour_pages pour = pages_from (length pour.1) 0

-- page p of a disk is one that a content is poured to
abbrev pub IsPourPage : Layout → List Pour → ℕ → Type 0
IsPourPage layout [] p = ⊥
IsPourPage layout (pour ∷ pours) p = IsPoured layout pour.0 0 p ⊎ IsPourPage layout pours p

-- a page that is written in the second window of a commit: one that a content is poured to, or the gate
abbrev pub IsSecondPage : Layout → List Pour → ℕ → ℕ → ℕ → Type 0
IsSecondPage layout pours half gate p = IsPourPage layout pours p ⊎ (p ≡ at_log half gate)

-- a content stands where it was poured, with zeros behind it on its tail page
abbrev pub Poured : Image → Layout → Pour → Type 0
Poured image layout pour = ObjectStands image (data_page layout) (record { content = pour.1; number = pour.0.born; place = place_of pour.0 })
