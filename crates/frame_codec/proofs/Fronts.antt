-- What stands before the writes of an entry.
use Rattle.std.proofs.Common.{◌≡◌, ℕ, List, [], ◌∷◌, ◌++◌, length, map, sym, ap, ◌∙◌, append_assoc, w64}
use Rattle.std.proofs.lemmas.List.{length-map}
use Rattle.std.specs.Int.{to_be_bytes}
use Rattle.std.specs.List.{flat_map}
use Rattle.store_model.specs.Frame.{entry_spelling, write_spelling}
use Rattle.frame_codec.specs.declared.entry.Entry.{Entry}
use Rattle.frame_codec.specs.Values.{model_entry, model_write}

-- bytes, and behind them the numbers of an entry and how many writes it has
abbrev pub with_front : List ℕ → Entry → List ℕ
with_front out entry = (((out ++ to_be_bytes w64 entry.number) ++ entry.session ∷ []) ++ to_be_bytes w64 entry.nth) ++ length entry.writes ∷ []

-- the writes behind the front are the entry
pub front-entry : (out : List ℕ) (entry : Entry)
    → with_front out entry ++ flat_map write_spelling (map model_write entry.writes) ≡ out ++ entry_spelling (model_entry entry)
front-entry out entry =
    let writes : List ℕ = flat_map write_spelling (map model_write entry.writes) in
    let number : List ℕ = to_be_bytes w64 entry.number in
    let nth : List ℕ = to_be_bytes w64 entry.nth in
    append_assoc ((((out ++ number) ++ entry.session ∷ []) ++ nth)) (length entry.writes ∷ []) writes
    ∙ append_assoc ((out ++ number) ++ entry.session ∷ []) nth (length entry.writes ∷ writes)
    ∙ append_assoc (out ++ number) (entry.session ∷ []) (nth ++ length entry.writes ∷ writes)
    ∙ append_assoc out number (entry.session ∷ (nth ++ length entry.writes ∷ writes))
    ∙ ap (λ (n : ℕ). out ++ (number ++ entry.session ∷ (nth ++ n ∷ writes))) (sym (length-map entry.writes model_write))
