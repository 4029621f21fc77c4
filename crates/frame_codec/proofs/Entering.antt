-- Entries one behind the other in a body: one more of them, the first that is refused, and bytes behind all.
use Rattle.std.proofs.Common.{◌≡◌, ℕ, ◌+◌, ◌<◌, ◌≤◌, ◌^◌, inr, List, [], ◌∷◌, ◌++◌, length, take, drop, refl, sym, ap, ◌∙◌, arith, length-append, length-drop}
use Rattle.std.specs.Prelude.{slice_index}
use Rattle.std.specs.Int.{w64, from_be_bytes}
use Rattle.store_model.specs.BodyRefusals.{HasMoreBytes, IsBadBody, IsBadEntry, IsRefusedEntry, entry_fields, front_fields, told_entries, told_number, told_writes}
use Rattle.store_model.specs.Field.{AreGood}
use Rattle.store_model.specs.Frame as model
use Rattle.store_model.proofs.EntryReadLaws.{AreFirstEntries-next, IsEntry-told, front-stands}
use Rattle.store_model.proofs.FieldLaws.{AreBytes}
use Rattle.frame_codec.specs.Reading.{DoEntriesEnd, DoWritesEnd, IsEntryRead}
use Rattle.frame_codec.proofs.Rows.{spelled-next, stand-next, within-next}

-- an entry that was read
pub IsEntryRead-told : (pages : ℕ) (before : List model.Entry) (bytes : List ℕ) (one : model.Entry) (long : ℕ) → AreBytes bytes
    → AreGood bytes (entry_fields before) → one.number ≡ told_number bytes → one.session ≡ slice_index bytes 8
    → one.nth ≡ from_be_bytes w64 (take 8 (drop 9 bytes)) → one.nth < 2 ^ 64 → length one.writes ≡ told_writes bytes
    → DoWritesEnd pages before one.number bytes one.writes long → IsEntryRead pages before bytes one long
IsEntryRead-told pages before bytes one long range good number session nth low count end =
    let told = IsEntry-told pages before bytes one good number session nth low count end.are in
    let stands : bytes ≡ model.entry_spelling one ++ drop long bytes =
    front-stands bytes (drop long bytes) one range (omega (arith, good.1.1.1.0.whole)) number session nth count end.stand in
    record {
      is_entry = told.0;
      may = told.1;
      apart = end.are.apart;
      stands = stands;
      long_is = omega (arith, ap length stands, length-append (model.entry_spelling one) (drop long bytes), length-drop long bytes, end.within);
    }

-- no entries
pub DoEntriesEnd-none : (pages : ℕ) (bytes : List ℕ) → 13 ≤ length bytes → DoEntriesEnd pages bytes [] 13
DoEntriesEnd-none pages bytes within =
    record {
      are = record {
        each = λ i d below. absurd (omega (arith, below));
        numbers = λ i one other is next. absurd (cc is);
        apart = λ i j one other key less is next mine theirs. absurd (cc is);
      };
      stand = refl;
      at_is = refl;
      within = within;
    }

-- one more entry
pub DoEntriesEnd-next : (pages : ℕ) (bytes rest : List ℕ) (entries : List model.Entry) (one : model.Entry) (at long : ℕ) → DoEntriesEnd pages bytes entries at
    → rest ≡ drop at bytes → IsEntryRead pages entries rest one long → DoEntriesEnd pages bytes (entries ++ one ∷ []) (at + long)
DoEntriesEnd-next pages bytes rest entries one at long end rest_is read =
    let next : drop at bytes ≡ model.entry_spelling one ++ drop long (drop at bytes) = rw rest_is at read.stands in
    let front : List ℕ = model.entries_spelling entries in
    let spelled : front ++ model.entry_spelling one ≡ model.entries_spelling (entries ++ one ∷ []) = spelled-next model.entry_spelling entries one in
    record {
      are = AreFirstEntries-next pages entries one end.are read.is_entry read.may read.apart;
      stand = stand-next bytes front (model.entry_spelling one) 13 at long end.stand next ∙ ap (λ (text : List ℕ). text ++ drop (at + long) bytes) spelled;
      at_is = omega (arith, end.at_is, read.long_is, length-append front (model.entry_spelling one), ap length spelled);
      within = within-next bytes (model.entry_spelling one) at long end.within next read.long_is;
    }

-- an entry that is refused behind these
pub IsRefusedEntry-at : (pages : ℕ) (bytes rest : List ℕ) (entries : List model.Entry) (at place : ℕ) → DoEntriesEnd pages bytes entries at
    → length entries < told_entries bytes → rest ≡ drop at bytes → IsBadEntry pages entries rest place → IsRefusedEntry pages bytes (at + place)
IsRefusedEntry-at pages bytes rest entries at place end few rest_is bad =
    record {
      entries = entries;
      are = end.are;
      rest = rest;
      stored_is = end.stand ∙ ap (λ (xs : List ℕ). model.entries_spelling entries ++ xs) (sym rest_is);
      few = few;
      place = place;
      bad = bad;
      at_is = ap (λ (n : ℕ). n + place) end.at_is;
    }

-- bytes behind all entries
pub IsBadBody-more : (pages : ℕ) (bytes : List ℕ) (entries : List model.Entry) (end : ℕ) → AreGood bytes (front_fields bytes) → DoEntriesEnd pages bytes entries end
    → length entries ≡ told_entries bytes → end < length bytes → IsBadBody pages bytes end
IsBadBody-more pages bytes entries end good ends all less =
    let more : HasMoreBytes pages bytes end =
    record {
      entries = entries;
      are = ends.are;
      rest = drop end bytes;
      stored_is = ends.stand;
      all = all;
      more = omega (arith, less, length-drop end bytes);
      at_is = ends.at_is;
    } in
    inr (good, inr more)
