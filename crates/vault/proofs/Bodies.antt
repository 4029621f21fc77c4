-- How long the body of a frame is: at least its front, and so few bytes that a log without bodies has room for its pages.
use Rattle.std.proofs.Common.{◌≡◌, ℕ, ◌*◌, ◌≤◌, codes, ap, List, [], ◌∷◌, ◌++◌, length, Option, Some, None, arith, length-append}
use Rattle.std.specs.Prelude.{nat_le, IsTrue}
use Rattle.std.specs.List.{All, flat_map}
use Rattle.std.specs.Int.{w32, w64, to_be_bytes}
use Rattle.std.proofs.lemmas.Bool.{and_parts, leb-true}
use Rattle.std.proofs.lemmas.List.Elements.{All-head, All-tail}
use Rattle.store_model.specs.Disk.{page_bytes}
use Rattle.store_model.specs.Frame.{Del, Entry, IsEntry, IsWrite, Set, Spells, Write, body_bytes, body_spelling, entries_spelling, entry_spelling, write_spelling}
use Rattle.store_model.specs.Key.{is_key}
use Rattle.store_model.specs.State.{State}
use Rattle.store_model.specs.Tuple.{IsTuple, spelling, tail_spelling}
use Rattle.store_model.proofs.KeyFieldLaws.{is_key-length}
use Rattle.store_model.proofs.ShapeLaws.{extents-HasShape, held_by-all}
use Rattle.store_model.proofs.StateLaws.{length-spelling}

tail-most : (tail : Option ℕ) → length (tail_spelling tail) ≤ 4
tail-most None = omega arith
tail-most (Some page) = omega arith

key-most : (key : List ℕ) → IsTrue (is_key key) → length key ≤ 64
key-most key named = leb-true (length key) 64 (and_parts (nat_le 3 (length key)) (nat_le (length key) 64) (is_key-length key named)).1

-- a tuple has at most 4717 bytes
tuple-most : (pages : ℕ) (key : List ℕ) (state : State) → IsTuple pages key state → length (spelling key state) ≤ 4717
tuple-most pages key state is =
    let few : length state.extents ≤ 127 = extents-HasShape state.size 127 _ is.stands.extents (omega (arith, held_by-all, is.stands.size)) in
    omega (arith, length-spelling key state is.stands.digest is.stands.prefix.bytes is.stands.marks, few, key-most key is.named, tail-most state.tail)

write-most : (pages number : ℕ) (one : Write) → IsWrite pages number one → length (write_spelling one) ≤ 4718
write-most pages number (Set key state) is = omega (arith, tuple-most pages key state is.0)
write-most pages number (Del key) is = omega (arith, key-most key is)

writes-most : (pages number : ℕ) (writes : List Write) → All (IsWrite pages number) writes → length (flat_map write_spelling writes) ≤ 4718 * length writes
writes-most pages number [] are = omega arith
writes-most pages number (one ∷ writes) are =
    omega (
      arith,
      length-append (write_spelling one) (flat_map write_spelling writes),
      write-most pages number one (All-head (IsWrite pages number) one writes are),
      writes-most pages number writes (All-tail (IsWrite pages number) one writes are),
    )

entry-most : (pages : ℕ) (one : Entry) → IsEntry pages one → length (entry_spelling one) ≤ 75506
entry-most pages one is =
    let number : List ℕ = to_be_bytes w64 one.number in
    let nth : List ℕ = to_be_bytes w64 one.nth in
    let writes : List ℕ = length one.writes ∷ flat_map write_spelling one.writes in
    omega (arith, length-append number (one.session ∷ (nth ++ writes)), length-append nth writes, writes-most pages one.number one.writes is.writes, is.few)

entries-most : (pages : ℕ) (entries : List Entry) → All (IsEntry pages) entries → length (entries_spelling entries) ≤ 75506 * length entries
entries-most pages [] are = omega arith
entries-most pages (one ∷ entries) are =
    omega (
      arith,
      length-append (entry_spelling one) (entries_spelling entries),
      entry-most pages one (All-head (IsEntry pages) one entries are),
      entries-most pages entries (All-tail (IsEntry pages) one entries are),
    )

-- how many bytes a body's spelling has
pub length-body : (entries : List Entry) → length (body_spelling entries) ≡ body_bytes entries
length-body entries =
    let count : List ℕ = to_be_bytes w32 (body_bytes entries) in
    let rest : List ℕ = length entries ∷ entries_spelling entries in
    omega (arith, length-append (codes "BLOBFRM1") (count ++ rest), length-append count rest)

pub body-least : (pages : ℕ) (bytes : List ℕ) (entries : List Entry) → Spells pages bytes entries → 13 ≤ length bytes
body-least pages bytes entries spells = omega (arith, ap length spells.bytes_are, length-body entries)

pub body-most : (pages : ℕ) (bytes : List ℕ) (entries : List Entry) → Spells pages bytes entries → length bytes ≤ 510 * page_bytes
body-most pages bytes entries spells =
    omega (arith, ap length spells.bytes_are, length-body entries, entries-most pages entries spells.frame.each, spells.frame.few)
