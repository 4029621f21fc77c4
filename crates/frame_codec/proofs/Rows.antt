-- Writes one behind the other, and entries: one more of them, and the first that is refused.
use Rattle.std.proofs.Common.{◌≡◌, ℕ, ◌+◌, ◌<◌, ◌≤◌, List, [], ◌∷◌, ◌++◌, length, drop, refl, sym, ap, ◌∙◌, arith, length-append, length-drop, append_assoc}
use Rattle.std.specs.List.{flat_map}
use Rattle.std.proofs.lemmas.Grind.{flat_map-append}
use Rattle.std.proofs.lemmas.List.{append-nil, drop-drop}
use Rattle.store_model.specs.BodyRefusals.{IsBadWrite, IsRefusedWrite, told_number, told_writes, write_rules}
use Rattle.store_model.specs.Frame as model
use Rattle.store_model.proofs.FollowLaws.{AreFirstWrites-next}
use Rattle.frame_codec.specs.Reading.{DoWritesEnd, IsWriteRead}

-- one text more stands behind those that stand there
pub stand-next : (bytes front text : List ℕ) (from at long : ℕ) → drop from bytes ≡ front ++ drop at bytes → drop at bytes ≡ text ++ drop long (drop at bytes)
    → drop from bytes ≡ (front ++ text) ++ drop (at + long) bytes
stand-next bytes front text from at long so_far next =
    so_far ∙ ap (λ (rest : List ℕ). front ++ rest) next ∙ sym (append_assoc front text (drop long (drop at bytes)))
    ∙ ap (λ (rest : List ℕ). (front ++ text) ++ rest) (drop-drop long at bytes)

pub within-next : (bytes text : List ℕ) (at long : ℕ) → at ≤ length bytes → drop at bytes ≡ text ++ drop long (drop at bytes) → long ≡ length text
    → at + long ≤ length bytes
within-next bytes text at long within next long_is =
    omega (arith, within, long_is, ap length next, length-append text (drop long (drop at bytes)), length-drop at bytes)

-- the spelling of one more
pub spelled-next : {X : Type 0} (h : X → List ℕ) (xs : List X) (x : X) → flat_map h xs ++ h x ≡ flat_map h (xs ++ x ∷ [])
spelled-next h xs x = ap (λ (bytes : List ℕ). flat_map h xs ++ bytes) (sym (append-nil (h x))) ∙ sym (flat_map-append h xs (x ∷ []))

-- no writes
pub DoWritesEnd-none : (pages : ℕ) (before : List model.Entry) (number : ℕ) (bytes : List ℕ) → 18 ≤ length bytes → DoWritesEnd pages before number bytes [] 18
DoWritesEnd-none pages before number bytes within =
    record {
      are = record {
        each = λ i d below. absurd (omega (arith, below));
        rise = λ i one other is next. absurd (cc is);
        apart = λ i d below. absurd (omega (arith, below));
      };
      stand = refl;
      at_is = refl;
      within = within;
    }

-- one more write
pub DoWritesEnd-next : (pages : ℕ) (before : List model.Entry) (number : ℕ) (bytes rest : List ℕ) (writes : List model.Write) (one : model.Write) (at long : ℕ)
    → DoWritesEnd pages before number bytes writes at → rest ≡ drop at bytes → IsWriteRead pages number before writes rest one long
    → DoWritesEnd pages before number bytes (writes ++ one ∷ []) (at + long)
DoWritesEnd-next pages before number bytes rest writes one at long end rest_is read =
    let next : drop at bytes ≡ model.write_spelling one ++ drop long (drop at bytes) = rw rest_is at read.stands in
    let front : List ℕ = flat_map model.write_spelling writes in
    let spelled : front ++ model.write_spelling one ≡ flat_map model.write_spelling (writes ++ one ∷ []) = spelled-next model.write_spelling writes one in
    record {
      are = AreFirstWrites-next pages before number writes one end.are read.write read.may;
      stand = stand-next bytes front (model.write_spelling one) 18 at long end.stand next ∙ ap (λ (text : List ℕ). text ++ drop (at + long) bytes) spelled;
      at_is = omega (arith, end.at_is, read.long_is, length-append front (model.write_spelling one), ap length spelled);
      within = within-next bytes (model.write_spelling one) at long end.within next read.long_is;
    }

-- a write that is refused behind these
pub IsRefusedWrite-at : (pages : ℕ) (before : List model.Entry) (number : ℕ) (bytes rest : List ℕ) (writes : List model.Write) (at place : ℕ)
    → DoWritesEnd pages before number bytes writes at → number ≡ told_number bytes → length writes < told_writes bytes → rest ≡ drop at bytes
    → IsBadWrite (write_rules before writes number) pages rest place → IsRefusedWrite pages before bytes (at + place)
IsRefusedWrite-at pages before number bytes rest writes at place end told few rest_is bad =
    record {
      writes = writes;
      are = rw told at end.are;
      rest = rest;
      stored_is = end.stand ∙ ap (λ (xs : List ℕ). flat_map model.write_spelling writes ++ xs) (sym rest_is);
      few = few;
      place = place;
      bad = rw told at bad;
      at_is = ap (λ (n : ℕ). n + place) end.at_is;
    }
