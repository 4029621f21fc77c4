-- A group is judged over the program's store as over the store that it is at.
use Rattle.std.proofs.Common.{◌≡◌, ℕ, suc, false, List, [], ◌∷◌, map, Option, Some, None, refl, ◌∙◌, ap}
use Rattle.std.proofs.Math.Path.{fun_ext}
use Rattle.std.specs.Prelude.{option_map, slice_get}
use Rattle.std.specs.FinMap.{FinMap, entries, entries_sorted, get, get-entries}
use Rattle.group_plan.specs.Plans.{holding_of as state_holding, holdings_by}
use Rattle.store_model.specs.Key.{key_order}
use Rattle.store_model.specs.Layout.{data_pages}
use Rattle.store_model.specs.Placing.{Need}
use Rattle.store_model.specs.State.{State}
use Rattle.store_model.specs.Store as model
use Rattle.store_model.specs.Store.{Object, content_at}
use Rattle.store_model.specs.Transaction.{Change as ModelChange}
use Rattle.store_model.specs.World.{holding_of, holdings, ledger_of, need_of, needs_of, states_bytes}
use Rattle.store_model.proofs.MapLaws.{entries-map_values}
use Rattle.store_model.proofs.SortedLaws.{find-at}
use Rattle.txn.specs.Requests.{asked_of, model_change, transaction_of}
use Rattle.txn.specs.Requests as txn
use Rattle.txn.specs.Txns.{NoAppends, is_append}
use Rattle.txn.specs.declared.change.Change.{Change}
use Rattle.txn.specs.declared.change.Change.TheVariants as change
use Rattle.txn.specs.declared.request.Request.{Request}
use Rattle.vault.specs.Leads.{ledger_in}
use Rattle.vault.specs.declared.memory.Memory.{Memory}
use Rattle.blob_steps.specs.Known.{AllKnown, BothKnown, StoreKnown}
use Rattle.vault.proofs.Ledgers.{BothPlaced, SamePlaces, bytes-placed, owned-placed}

-- what a state says of its object besides the content
holding-alike : (state : Option State) (object : Option Object) → BothKnown state object → option_map state_holding state ≡ option_map holding_of object
holding-alike None None stands = refl
holding-alike (Some state) (Some object) stands = λ i. Some (record { size = stands.size i; number = stands.number i; place = stands.place i })
holding-alike None (Some object) stands = absurd stands
holding-alike (Some state) None stands = absurd stands

-- what the states say of each key's object
pub holdings-alike : (states : FinMap key_order State) (objects : FinMap key_order Object) → AllKnown states objects → holdings_by states ≡ holdings objects
holdings-alike states objects same = fun_ext (λ key. holding-alike (get states key) (get objects key) (same key))

-- a state has its object's place
BothPlaced-known : (state : Option State) (object : Option Object) → BothKnown state object → BothPlaced state object
BothPlaced-known None None known = tt
BothPlaced-known (Some state) (Some object) known = record { sound = known.sound; place = known.place }
BothPlaced-known None (Some object) known = known
BothPlaced-known (Some state) None known = known

places-known : (states : FinMap key_order State) (objects : FinMap key_order Object) → AllKnown states objects → SamePlaces states objects
places-known states objects known key = BothPlaced-known (get states key) (get objects key) (known key)

-- what a group is judged by
pub ledger-stands : (mine : Memory) (store : model.Store) → StoreKnown mine store → ledger_in mine ≡ ledger_of mine.layout store
ledger-stands mine store stands = λ i. record {
  held = holdings-alike mine.relation.states store.objects stands.objects i;
  last = stands.last i;
  owned = owned-placed mine.relation.states store.objects (places-known mine.relation.states store.objects stands.objects) i;
  bytes = bytes-placed mine.relation.states store.objects (places-known mine.relation.states store.objects stands.objects) i;
  room = states_bytes mine.layout;
  pages = data_pages mine.layout;
}

-- what a change needs that isn't an append
need-alike : (stored : Option (List ℕ)) (one : Change) → is_append one ≡ false → need_of stored (model_change one) ≡ txn.need_of one
need-alike stored (change.Put content) whole = refl
need-alike stored (change.Append extension) whole = absurd (cc whole)
need-alike stored change.Del whole = refl

needs-alike : (store : model.Store) (es : List (List ℕ × Change)) → ((j : ℕ) (one : List ℕ × Change) → slice_get es j ≡ Some one → is_append one.1 ≡ false)
    → map {A = List ℕ × ModelChange} {B = List ℕ × Need} (λ one. (one.0, need_of (content_at store one.0) one.1)) (map {A = List ℕ × Change} (λ e. (e.0, model_change e.1)) es) ≡ map {A = List ℕ × Change} {B = List ℕ × Need} (λ one. (one.0, txn.need_of one.1)) es
needs-alike store [] whole = refl
needs-alike store (e ∷ es) whole = λ i.
    (e.0, need-alike (content_at store e.0) e.1 (whole 0 e refl) i) ∷ needs-alike store es (λ j one is. whole (suc j) one is) i

-- what a request needs is what its transaction does
pub asked-stands : (store : model.Store) (request : Request) → NoAppends request.writes → needs_of store (transaction_of request) ≡ (asked_of request).needs
asked-stands store request whole =
    ap (map {A = List ℕ × ModelChange} {B = List ℕ × Need} (λ one. (one.0, need_of (content_at store one.0) one.1))) (entries-map_values model_change request.writes)
    ∙ needs-alike store (entries request.writes) (λ j one is.
    whole one.0 one.1 (get-entries request.writes one.0 ∙ find-at (entries request.writes) j one.0 one (entries_sorted request.writes) is refl))
