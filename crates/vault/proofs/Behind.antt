-- The store in memory behind the entries of a frame.
use Rattle.std.proofs.Common.{◌≡◌, ℕ, ◌+◌, ◌≤◌, List, [], ◌∷◌, length, None, refl, sym, ◌∙◌, ap, subst, arith}
use Rattle.std.specs.Prelude.{IfSome}
use Rattle.std.specs.List.{All}
use Rattle.std.specs.List.Sorted.{IsPermutation}
use Rattle.std.specs.FinMap.{FinMap, entries}
use Rattle.std.proofs.lemmas.List.{length-map}
use Rattle.std.proofs.lemmas.List.Elements.{All-head, All-tail}
use Rattle.frame_codec.specs.Values.{model_entries, model_entry}
use Rattle.frame_codec.specs.declared.entry.Entry.{Entry}
use Rattle.meta_log.specs.Logs.{Parts}
use Rattle.recover.specs.Frames.{AreStored, IsUpTo}
use Rattle.recover.proofs.Bodies.{entries-upto, sound-behind, stored-half}
use Rattle.recover.proofs.Puttings.{length-spelled}
use Rattle.recover.proofs.Storing.{stored-writes}
use Rattle.recover.proofs.Takings.{same-writes}
use Rattle.relation.specs.Changes.{with_entries, with_entry}
use Rattle.relation.specs.Parts.{encoded_by, owned_by}
use Rattle.store_model.specs.Frame as model
use Rattle.store_model.specs.Frame.{DoNumbersGoOn}
use Rattle.store_model.specs.Half.{IsHalf, tuples_spelling}
use Rattle.store_model.specs.Images.{Story}
use Rattle.store_model.specs.Key.{key_order}
use Rattle.store_model.specs.Layout.{Layout, data_pages}
use Rattle.store_model.specs.Reading as reading
use Rattle.store_model.specs.Reading.{Found, GoesOn, blocks_of_states, last_number, with_frame}
use Rattle.store_model.specs.Space.{Apart}
use Rattle.store_model.specs.State.{State}
use Rattle.store_model.specs.World.{states_bytes}
use Rattle.store_model.proofs.NumberLaws.{numbers-behind}
use Rattle.store_model.proofs.WindowBlockLaws.{HasPlaces-behind, IsPartOf-all}
use Rattle.vault.specs.Vaults.{IsAtGate, IsAtRest, IsCommitted, IsHeld, IsNextFrame, found_of}
use Rattle.vault.specs.declared.memory.Memory.{Memory}

-- Entries are made in memory as the definitions make them.
pub same-entries : (states : FinMap key_order State) (es : List Entry) → with_entries states es ≡ reading.with_entries states (model_entries es)
same-entries states [] = refl
same-entries states (e ∷ es) =
    same-entries (with_entry states e) es ∙ ap (λ (m : FinMap key_order State). reading.with_entries m (model_entries es)) (same-writes states e.writes)

-- The numbers of entries that go on are counted on from the last one.
pub last-counted : (last : ℕ) (told : List model.Entry) → GoesOn last told → DoNumbersGoOn told → last_number last told ≡ last + length told
last-counted last [] goes on = absurd goes
last-counted last (e ∷ []) goes on = omega (arith, goes)
last-counted last (e ∷ next ∷ told) goes on =
    omega (arith, goes, last-counted e.number (next ∷ told) (on 0 e next refl refl) (numbers-behind e (next ∷ told) on))

-- Each state is stored behind entries that set stored ones.
stored-entries : (pages last : ℕ) (states : FinMap key_order State) (es : List Entry) → All (IsUpTo pages last) (model_entries es) → AreStored pages last states
    → AreStored pages last (with_entries states es)
stored-entries pages last states [] upto stored = stored
stored-entries pages last states (e ∷ es) upto stored =
    let one = All-head (IsUpTo pages last) (model_entry e) (model_entries es) upto in
    stored-entries pages last (with_entry states e) es (All-tail (IsUpTo pages last) (model_entry e) (model_entries es) upto)
    (stored-writes pages last e.number states e.writes one.number one.writes stored)

-- A half may have the states behind a frame.
pub IsHalf-behind : (found : Found) (bytes : List ℕ) (es : List Entry) → IsHalf found.layout found.last found.states → IsNextFrame found bytes (model_entries es)
    → IsHalf found.layout (found.last + length es) (with_entries found.states es)
IsHalf-behind found bytes es half frame =
    let told : List model.Entry = model_entries es in
    let pages : ℕ = data_pages found.layout in
    let end : ℕ = found.last + length es in
    let after : FinMap key_order State = with_entries found.states es in
    let end_is : end ≡ last_number found.last told = omega (arith, last-counted found.last told frame.goes_on frame.spells.frame.numbers, length-map es model_entry) in
    let room : encoded_by after ≤ states_bytes found.layout =
    omega (arith, length-spelled (entries after), ap (λ (m : FinMap key_order State). length (tuples_spelling m)) (same-entries found.states es), frame.room told (IsPartOf-all told)) in
    sound-behind found.layout found.last end found.states after told bytes half frame.spells end_is
    (stored-entries pages end found.states es (entries-upto pages found.last end told bytes end_is frame.spells)
    (stored-half found.layout found.last end found.states half (omega arith)))
    room

-- Memory in which the entries were made is as it has to be.
pub IsHeld-behind : (old now : Memory) (bytes : List ℕ) (es : List Entry) → IsHeld old → IsNextFrame (found_of old) bytes (model_entries es) → now.layout ≡ old.layout
    → now.relation.states ≡ with_entries old.relation.states es → now.last ≡ old.last + length es → now.log.layout ≡ old.log.layout → now.space ≡ None → IsHeld now
IsHeld-behind old now bytes es held frame layout states last log none =
    let told : List model.Entry = model_entries es in
    let half : IsHalf old.layout (old.last + length es) (with_entries old.relation.states es) = IsHalf-behind (found_of old) bytes es held.half frame in
    record {
      half =
          subst (λ (l : Layout). IsHalf l now.last now.relation.states) (sym layout)
          (subst (λ (n : ℕ). IsHalf old.layout n now.relation.states) (sym last)
          (subst (λ (m : FinMap key_order State). IsHalf old.layout (old.last + length es) m) (sym states) half));
      apart =
          subst (λ (m : FinMap key_order State). Apart (blocks_of_states m)) (sym (states ∙ same-entries old.relation.states es))
          (HasPlaces-behind old.layout old.relation.states told told frame.places (IsPartOf-all told));
      log = log ∙ held.log ∙ sym layout;
      owned = subst (λ space_now. IfSome space_now (λ space. IsPermutation space.owned (owned_by now.relation.states))) (sym none) tt;
      pages = subst (λ space_now. IfSome space_now (λ space. space.pages ≡ data_pages now.layout)) (sym none) tt;
    }

-- A disk on which entries were committed is at rest with memory in which they were made.
pub IsAtRest-made : (pages : ℕ) (story : Story) (old now : Memory) (es : List Entry) → IsCommitted pages story old (model_entries es) → now.layout ≡ old.layout
    → now.relation.states ≡ with_entries old.relation.states es → now.last ≡ old.last + length es → now.log ≡ old.log → GoesOn old.last (model_entries es)
    → DoNumbersGoOn (model_entries es) → IsAtRest pages story now
IsAtRest-made pages story old now es committed layout states last log goes on =
    let told : List model.Entry = model_entries es in
    let last_is : now.last ≡ last_number old.last told = omega (arith, last, last-counted old.last told goes on, length-map es model_entry) in
    let states_are = states ∙ same-entries old.relation.states es in
    let found : found_of now ≡ with_frame (found_of old) told told = λ i. record { layout = layout i; last = last_is i; states = states_are i } in
    record {
      at =
          subst (λ (f : Found). IsAtGate pages story.reads f now.log.half now.log.gate) (sym found)
          (subst (λ (l : Parts). IsAtGate pages story.reads (with_frame (found_of old) told told) l.half l.gate) (sym log) committed.at);
      settled = committed.settled;
    }
