-- Laws of numbers that are bytes: parts of them, one list behind another, those of pages, and the numbers that they tell.
use Rattle.std.proofs.Common.{ℕ, zero, suc, ◌+◌, ◌-◌, ◌^◌, ◌<◌, inl, inr, List, [], ◌++◌, length, take, drop, refl, sym, subst, arith}
use Rattle.std.specs.Int.{w32, w64, from_be_bytes}
use Rattle.std.proofs.lemmas.Bool.{cases_lt}
use Rattle.std.proofs.lemmas.List.{drop_at, get_or-append_right, get_or-drop, get_or-take, get_or_append_left, get_or_past, length-take}
use Rattle.store_model.specs.Disk.{HasPages, Image, area_of}
use Rattle.store_model.proofs.AreaLaws.{area-first}
use Rattle.store_model.proofs.FieldLaws.{AreBytes}

-- no bytes
pub AreBytes-none : AreBytes []
AreBytes-none i = omega arith

-- what is behind an offset, and what is before one
pub AreBytes-drop : (stored : List ℕ) (at : ℕ) → AreBytes stored → AreBytes (drop at stored)
AreBytes-drop stored at bytes i = rw (get_or-drop at stored i 0) (bytes (at + i))

pub AreBytes-take : (stored : List ℕ) (n : ℕ) → AreBytes stored → AreBytes (take n stored)
AreBytes-take stored n bytes i =
    elim (cases_lt i n) [
      | inl below ↦ rw (get_or-take n stored i 0 below) (bytes i)
      | inr past ↦ rw (get_or_past (take n stored) i 0 (omega (arith, length-take n stored, past))) (omega arith)
    ]

-- one list behind another
pub AreBytes-append : (one other : List ℕ) → AreBytes one → AreBytes other → AreBytes (one ++ other)
AreBytes-append one other first second i =
    elim (cases_lt i (length one)) [
      | inl below ↦ rw (get_or_append_left one other 0 i below) (first i)
      | inr past ↦ rw (get_or-append_right one other (length one) i 0 refl past) (second (i - length one))
    ]

-- pages one behind the other
pub AreBytes-area : (image : Image) (first n : ℕ) → HasPages image → AreBytes (area_of image first n)
AreBytes-area image first zero pages = AreBytes-none
AreBytes-area image first (suc n) pages =
    subst AreBytes (sym (area-first image first n))
    (AreBytes-append (image first) (area_of image (first + 1) n) (pages first).each (AreBytes-area image (first + 1) n pages))

-- a number of four bytes, and one of eight
pub four-low : (bytes : List ℕ) → AreBytes bytes → from_be_bytes w32 bytes < 2 ^ 32
four-low bytes are = omega (arith, are 0, are 1, are 2, are 3)

pub eight-low : (bytes : List ℕ) → AreBytes bytes → from_be_bytes w64 bytes < 2 ^ 64
eight-low bytes are = omega (arith, are 0, are 1, are 2, are 3, are 4, are 5, are 6, are 7)

-- what is behind some bytes
pub AreBytes-behind : (one other : List ℕ) → AreBytes (one ++ other) → AreBytes other
AreBytes-behind one other bytes = subst AreBytes (drop_at one other (length one) refl) (AreBytes-drop (one ++ other) (length one) bytes)
