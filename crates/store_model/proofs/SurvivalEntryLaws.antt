-- The entries of a group's frame and its transactions: which are kept is the same for both, and so is what they make of a store.
use Rattle.std.proofs.Common.{◌≡◌, ℕ, Bool, true, false, cond, List, [], ◌∷◌, map, Option, Some, None, inl, inr, refl, sym, ap, ◌∙◌, subst, arith}
use Rattle.std.specs.Prelude.{Contains, fold}
use Rattle.std.specs.List.{All, AllZip}
use Rattle.std.specs.FinMap.{FinMap, get, get-insert, get-remove}
use Rattle.std.specs.Ordering.{eq_by_cmp}
use Rattle.std.proofs.lemmas.List.Elements.{All-cons, All-head, All-nil, All-tail}
use Rattle.store_model.specs.Disk.{HasPages, Image}
use Rattle.store_model.specs.Frame.{Del, Entry, Set, Write}
use Rattle.store_model.specs.Group.{Commit}
use Rattle.store_model.specs.Key.{key_order}
use Rattle.store_model.specs.Layout.{Layout, data_page}
use Rattle.store_model.specs.Placing.{Placed}
use Rattle.store_model.specs.Reading.{AreKept, DoesWriteVerify, Found, Opened, Reads, with_entries, with_entry, with_write}
use Rattle.store_model.specs.Standing.{AllHeld, BothStand, SameObjects, StandsFor}
use Rattle.store_model.specs.State.{State}
use Rattle.store_model.specs.Store.{Object, Store}
use Rattle.store_model.specs.Survival.{AreKeptCommits, BothTold, DoesCommitVerify, DoesObjectVerify, Group, IsByChance, IsUnder, ReadsAsPart, with_changes, with_commits, with_placed}
use Rattle.store_model.specs.Verify.{Verifies}
use Rattle.store_model.proofs.SetLaws.{among-cases}
use Rattle.store_model.proofs.SortedLaws.{keys_total}
use Rattle.store_model.proofs.SurvivalHeldLaws.{told-kept, told-standing}
use Rattle.store_model.proofs.SurvivalKeptLaws.{kept-verify}
use Rattle.store_model.proofs.SurvivalLaws.{BothTold-free}
use Rattle.store_model.proofs.SurvivalPartLaws.{commits-other, commits-set, get-with_object, under-decided}
use Rattle.store_model.proofs.SurvivalStateLaws.{StandsFor-one}

-- A write sets the state of the object that is there after a group, or removes the key where none is.
abbrev pub IsWriteOf : Store → Placed → Write → Type 0
IsWriteOf after placed (Set key state) = (key ≡ placed.key) × ((object : Object) × (get after.objects placed.key ≡ Some object) × StandsFor state object)
IsWriteOf after placed (Del key) = (key ≡ placed.key) × (get after.objects placed.key ≡ None)

-- an entry writes what a transaction changes
abbrev pub IsWrittenBy : Store → Commit → Entry → Type 0
IsWrittenBy after commit entry = AllZip (IsWriteOf after) commit.placed entry.writes

-- each of some does
abbrev pub AreWrittenBy : Store → List Commit → List Entry → Type 0
AreWrittenBy after commits entries = AllZip (IsWrittenBy after) commits entries

module _ (image : Image) (layout : Layout) (after : Store) where
  -- the state that a placed change's key then has verifies
  abbrev DoesPlacedVerify : Placed → Type 0
  DoesPlacedVerify one = DoesObjectVerify image (data_page layout) (get after.objects one.key)

  write-verifies : (one : Placed) (write : Write) → IsWriteOf after one write → DoesWriteVerify image layout write → DoesPlacedVerify one
  write-verifies one (Set key state) is verifies =
      subst (λ (o : Option Object). DoesObjectVerify image (data_page layout) o) (sym is.1.1) (state, is.1.2, verifies)
  write-verifies one (Del key) is verifies = subst (λ (o : Option Object). DoesObjectVerify image (data_page layout) o) (sym is.1) tt

  placed-verifies : (one : Placed) (write : Write) → IsWriteOf after one write → DoesPlacedVerify one → DoesWriteVerify image layout write
  placed-verifies one (Set key state) is verifies =
      let there : DoesObjectVerify image (data_page layout) (Some is.1.0) =
      subst (λ (o : Option Object). DoesObjectVerify image (data_page layout) o) is.1.1 verifies in
      subst (λ (s : State). Verifies image (data_page layout) s) (StandsFor-one is.1.0 there.0 state there.1 is.1.2) there.2
  placed-verifies one (Del key) is verifies = tt

  writes-verify : (placed : List Placed) (writes : List Write) → AllZip (IsWriteOf after) placed writes → All (DoesWriteVerify image layout) writes
      → All DoesPlacedVerify placed
  writes-verify [] [] are all = All-nil DoesPlacedVerify
  writes-verify [] (write ∷ writes) are all = absurd are
  writes-verify (one ∷ placed) [] are all = absurd are
  writes-verify (one ∷ placed) (write ∷ writes) are all =
      All-cons DoesPlacedVerify one placed (write-verifies one write are.0 (All-head (DoesWriteVerify image layout) write writes all))
      (writes-verify placed writes are.1 (All-tail (DoesWriteVerify image layout) write writes all))

  placed-verify : (placed : List Placed) (writes : List Write) → AllZip (IsWriteOf after) placed writes → All DoesPlacedVerify placed
      → All (DoesWriteVerify image layout) writes
  placed-verify [] [] are all = All-nil (DoesWriteVerify image layout)
  placed-verify [] (write ∷ writes) are all = absurd are
  placed-verify (one ∷ placed) [] are all = absurd are
  placed-verify (one ∷ placed) (write ∷ writes) are all =
      All-cons (DoesWriteVerify image layout) write writes (placed-verifies one write are.0 (All-head DoesPlacedVerify one placed all))
      (placed-verify placed writes are.1 (All-tail DoesPlacedVerify one placed all))

  -- Which entries are kept tells which transactions are.
  pub kept-written : (commits : List Commit) (entries rest : List Entry) → AreWrittenBy after commits entries → AreKept image layout entries rest
      → (kept : List Commit) × AreKeptCommits image layout after commits kept × AreWrittenBy after kept rest
  kept-written [] [] rest are kept = ([], refl, subst (λ (es : List Entry). AreWrittenBy after [] es) (sym kept) tt)
  kept-written [] (entry ∷ entries) rest are kept = absurd are
  kept-written (commit ∷ commits) [] rest are kept = absurd are
  kept-written (commit ∷ commits) (entry ∷ entries) rest are kept =
      elim kept [
        | inl verifies ↦ (
            let behind = kept-written commits entries verifies.1.0 are.1 verifies.1.2 in (
              commit ∷ behind.0,
              inl (writes-verify commit.placed entry.writes are.0 verifies.0, (behind.0, refl, behind.1)),
              subst (λ (es : List Entry). AreWrittenBy after (commit ∷ behind.0) es) (sym verifies.1.1) (are.0, behind.2),
            ))
        | inr fails ↦ (
            let behind = kept-written commits entries rest are.1 fails.1 in
            (behind.0, inr ((λ all. fails.0 (placed-verify commit.placed entry.writes are.0 all)), behind.1), behind.2))
      ]

  -- a key that a transaction changes has an object whose state verifies, if all of them do
  changed-verifies : (placed : List Placed) (key : List ℕ) → All DoesPlacedVerify placed → Contains (map (λ one. one.key) placed) key
      → DoesObjectVerify image (data_page layout) (get after.objects key)
  changed-verifies [] key all among = absurd (omega (arith, among.1))
  changed-verifies (one ∷ placed) key all among =
      elim (among-cases one.key (map (λ (p : Placed). p.key) placed) key among) [
        | inl here ↦ subst (λ (k : List ℕ). DoesObjectVerify image (data_page layout) (get after.objects k)) here (All-head DoesPlacedVerify one placed all)
        | inr behind ↦ changed-verifies placed key (All-tail DoesPlacedVerify one placed all) behind
      ]

-- what stands under a key after a write and after its change
both-written : (b : Bool) (state other : Option State) (object last : Option Object) → BothStand state object → BothStand other last
    → BothStand (cond b state other) (cond b object last)
both-written true state other object last here behind = here
both-written false state other object last here behind = behind

write-written : (after : Store) (states : FinMap key_order State) (objects : FinMap key_order Object) (one : Placed) (write : Write) → IsWriteOf after one write
    → SameObjects states objects → SameObjects (with_write states write) (with_placed after.objects objects one)
write-written after states objects one (Set k state) is same key =
    let b : Bool = eq_by_cmp key_order key k in
    let here : BothStand (Some state) (get after.objects one.key) = subst (λ (o : Option Object). BothStand (Some state) o) (sym is.1.1) is.1.2 in
    subst (λ (s : Option State). BothStand s (get (with_placed after.objects objects one) key)) (sym (get-insert keys_total states k state key))
    (subst (λ (o : Option Object). BothStand (cond b (Some state) (get states key)) o)
    (ap (λ (n : List ℕ). cond (eq_by_cmp key_order key n) (get after.objects one.key) (get objects key)) is.0 ∙ sym (get-with_object objects one.key (get after.objects one.key) key))
    (both-written b (Some state) (get states key) (get after.objects one.key) (get objects key) here (same key)))
write-written after states objects one (Del k) is same key =
    let b : Bool = eq_by_cmp key_order key k in
    let here : BothStand None (get after.objects one.key) = subst (λ (o : Option Object). BothStand None o) (sym is.1) tt in
    subst (λ (s : Option State). BothStand s (get (with_placed after.objects objects one) key)) (sym (get-remove keys_total states k key))
    (subst (λ (o : Option Object). BothStand (cond b None (get states key)) o)
    (ap (λ (n : List ℕ). cond (eq_by_cmp key_order key n) (get after.objects one.key) (get objects key)) is.0 ∙ sym (get-with_object objects one.key (get after.objects one.key) key))
    (both-written b None (get states key) (get after.objects one.key) (get objects key) here (same key)))

writes-written : (after : Store) (states : FinMap key_order State) (objects : FinMap key_order Object) (placed : List Placed) (writes : List Write)
    → AllZip (IsWriteOf after) placed writes → SameObjects states objects
    → SameObjects (fold with_write states writes) (fold (with_placed after.objects) objects placed)
writes-written after states objects [] [] are same = same
writes-written after states objects [] (write ∷ writes) are same = absurd are
writes-written after states objects (one ∷ placed) [] are same = absurd are
writes-written after states objects (one ∷ placed) (write ∷ writes) are same =
    writes-written after (with_write states write) (with_placed after.objects objects one) placed writes are.1
    (write-written after states objects one write are.0 same)

-- The states where entries changed them stand for the objects where the transactions did.
pub entries-written : (after : Store) (states : FinMap key_order State) (objects : FinMap key_order Object) (commits : List Commit) (entries : List Entry)
    → AreWrittenBy after commits entries → SameObjects states objects
    → SameObjects (with_entries states entries) (with_commits objects after.objects commits)
entries-written after states objects [] [] are same = same
entries-written after states objects [] (entry ∷ entries) are same = absurd are
entries-written after states objects (commit ∷ commits) [] are same = absurd are
entries-written after states objects (commit ∷ commits) (entry ∷ entries) are same =
    entries-written after (with_entry states entry) (with_changes after.objects objects commit) commits entries are.1
    (writes-written after states objects commit.placed entry.writes are.0 same)

-- So what is told under each key is right.
told-written : (image : Image) (layout : Layout) (before after : Store) (kept : List Commit) (key : List ℕ) (state : Option State) → HasPages image
    → ((commit : Commit) → Contains kept commit → DoesCommitVerify image layout after commit) → AllHeld image layout before.objects
    → BothStand state (get (with_commits before.objects after.objects kept) key)
    → BothTold (IsByChance image layout after kept key) image (data_page layout) state (get (with_commits before.objects after.objects kept) key)
told-written image layout before after kept key state pages verify stand both =
    elim (under-decided kept key) [
      | inl under ↦ (
          let is = commits-set before.objects after.objects kept key under in
          let verifies = changed-verifies image layout after under.0.placed key (verify under.0 under.1) under.2 in
          subst (λ (o : Option Object). BothTold (IsByChance image layout after kept key) image (data_page layout) state o) (sym is)
          (under-told state (get after.objects key) refl under verifies (subst (λ (o : Option Object). BothStand state o) is both)))
      | inr none ↦ (
          let is = commits-other before.objects after.objects kept key none in
          subst (λ (o : Option Object). BothTold (IsByChance image layout after kept key) image (data_page layout) state o) (sym is)
          (other-told state (get before.objects key) refl (subst (λ (o : Option Object). BothStand state o) is both)))
    ] where
      under-told : (state : Option State) (object : Option Object) → get after.objects key ≡ object → IsUnder kept key → DoesObjectVerify image (data_page layout) object
          → BothStand state object → BothTold (IsByChance image layout after kept key) image (data_page layout) state object
      under-told None None is under verifies both = tt
      under-told None (Some object) is under verifies both = absurd both
      under-told (Some state) None is under verifies both = absurd both
      under-told (Some state) (Some object) is under verifies both =
          told-kept image layout after kept key state object pages under is both
          (subst (λ (s : State). Verifies image (data_page layout) s) (StandsFor-one object verifies.0 state verifies.1 both) verifies.2)

      other-told : (state : Option State) (object : Option Object) → get before.objects key ≡ object → BothStand state object
          → BothTold (IsByChance image layout after kept key) image (data_page layout) state object
      other-told None None is both = tt
      other-told None (Some object) is both = absurd both
      other-told (Some state) None is both = absurd both
      other-told (Some state) (Some object) is both =
          BothTold-free ⊥ (IsByChance image layout after kept key) image (data_page layout) (Some state) (Some object) (λ none. absurd none)
          (told-standing image (data_page layout) state object both (stand key object is))

-- A disk reads as a part of a group whose entries stand in its last frame, if the objects before the group stand on it.
pub ReadsAsPart-written : (pages : ℕ) (image : Image) (layout : Layout) (before : Store) (group : Group) (found : Found) (states : FinMap key_order State)
    (entries rest : List Entry) → HasPages image → Reads pages image (Opened found) → found.layout ≡ layout → found.last ≡ group.after.last
    → SameObjects states before.objects → AllHeld image layout before.objects → AreWrittenBy group.after group.commits entries
    → AreKept image layout entries rest → found.states ≡ with_entries states rest → ReadsAsPart pages image layout before group
ReadsAsPart-written pages image layout before group found states entries rest whole reads layout_is last_is same stand are kept states_are =
    let part = kept-written image layout group.after group.commits entries rest are kept in
    let objects : FinMap key_order Object = with_commits before.objects group.after.objects part.0 in
    let both : SameObjects found.states objects =
    subst (λ (m : FinMap key_order State). SameObjects m objects) (sym states_are) (entries-written group.after states before.objects part.0 rest part.2 same) in
    record {
      kept = part.0;
      are_kept = part.1;
      reads = record {
        found = found;
        reads = reads;
        layout_is = layout_is;
        last_is = last_is;
        told = λ key. told-written image layout before group.after part.0 key (get found.states key) whole
            (λ commit among. kept-verify image layout group.after group.commits part.0 commit part.1 among) stand (both key);
      };
    }
