-- Laws of bodies: bytes are the body of one list of entries at most.
use Rattle.std.proofs.Common.{◌≡◌, ℕ, ◌^◌, ◌≤◌, List, [], ◌∷◌, ◌++◌, length, drop, get_or, refl, sym, ap, ◌∙◌, arith, codes}
use Rattle.std.specs.Int.{w32, w64, to_be_bytes}
use Rattle.std.specs.List.{All, flat_map}
use Rattle.std.proofs.lemmas.List.{append_assoc, append-nil}
use Rattle.std.proofs.lemmas.List.Elements.{All-head, All-tail}
use Rattle.store_model.specs.Frame.{Del, Entry, IsEntry, IsWrite, Set, Spells, Write, body_bytes, body_spelling, entries_spelling, entry_spelling, write_spelling}
use Rattle.store_model.specs.State.{State}
use Rattle.store_model.specs.Tuple.{key_spelling, spelling}
use Rattle.store_model.proofs.TupleLaws.{eight-same, key-same, spelling-unique, split-same}

-- the first of two lists
pub first-same : (a b : ℕ) (x y : List ℕ) → a ∷ x ≡ b ∷ y → (a ≡ b) × (x ≡ y)
first-same a b x y same = (ap (λ (bytes : List ℕ). get_or bytes 0 0) same, ap (drop 1) same)

-- one write
pub write-same : (pages m n : ℕ) (a b : Write) (x y : List ℕ) → pages ≤ 2 ^ 32 → IsWrite pages m a → IsWrite pages n b
    → write_spelling a ++ x ≡ write_spelling b ++ y → (a ≡ b) × (x ≡ y)
write-same pages m n (Set k s) (Set l t) x y most one other same =
    let tuple = spelling-unique pages k l s t x y most one.0 other.0 (first-same 1 1 (spelling k s ++ x) (spelling l t ++ y) same).1 in
    (ap (λ (key : List ℕ). Set key s) tuple.0 ∙ ap (λ (state : State). Set l state) tuple.1, tuple.2)
write-same pages m n (Set k s) (Del l) x y most one other same =
    absurd (omega (arith, (first-same 1 2 (spelling k s ++ x) (key_spelling l ++ y) same).0))
write-same pages m n (Del k) (Set l t) x y most one other same =
    absurd (omega (arith, (first-same 2 1 (key_spelling k ++ x) (spelling l t ++ y) same).0))
write-same pages m n (Del k) (Del l) x y most one other same =
    let keys = key-same k l x y (first-same 2 2 (key_spelling k ++ x) (key_spelling l ++ y) same).1 in
    (ap Del keys.0, keys.1)

-- as many writes
pub writes-same : (pages m n : ℕ) (a b : List Write) (x y : List ℕ) → pages ≤ 2 ^ 32 → length a ≡ length b → All (IsWrite pages m) a → All (IsWrite pages n) b
    → flat_map write_spelling a ++ x ≡ flat_map write_spelling b ++ y → (a ≡ b) × (x ≡ y)
writes-same pages m n [] [] x y most len one other same = (refl, same)
writes-same pages m n [] (w ∷ b) x y most len one other same = absurd (omega (arith, len))
writes-same pages m n (v ∷ a) [] x y most len one other same = absurd (omega (arith, len))
writes-same pages m n (v ∷ a) (w ∷ b) x y most len one other same =
    let moved : write_spelling v ++ (flat_map write_spelling a ++ x) ≡ write_spelling w ++ (flat_map write_spelling b ++ y) =
    sym (append_assoc (write_spelling v) (flat_map write_spelling a) x) ∙ same ∙ append_assoc (write_spelling w) (flat_map write_spelling b) y in
    let first = write-same pages m n v w (flat_map write_spelling a ++ x) (flat_map write_spelling b ++ y) most
    (All-head (IsWrite pages m) v a one) (All-head (IsWrite pages n) w b other) moved in
    let rest = writes-same pages m n a b x y most (omega (arith, len)) (All-tail (IsWrite pages m) v a one) (All-tail (IsWrite pages n) w b other) first.1 in
    (ap (λ (z : Write). z ∷ a) first.0 ∙ ap (λ (zs : List Write). w ∷ zs) rest.0, rest.1)

-- an entry, from its parts
abbrev entry : ℕ → ℕ → ℕ → List Write → Entry
entry number session nth writes = record { number = number; session = session; nth = nth; writes = writes }

-- an entry is its parts
entry-is : (a b : Entry) → a.number ≡ b.number → a.session ≡ b.session → a.nth ≡ b.nth → a.writes ≡ b.writes → a ≡ b
entry-is a b number session nth writes =
    ap (λ (n : ℕ). entry n a.session a.nth a.writes) number
    ∙ ap (λ (n : ℕ). entry b.number n a.nth a.writes) session
    ∙ ap (λ (n : ℕ). entry b.number b.session n a.writes) nth
    ∙ ap (λ (ws : List Write). entry b.number b.session b.nth ws) writes

-- the parts of an entry, one behind the other
abbrev pub parts : Entry → List ℕ → List ℕ
parts a x = to_be_bytes w64 a.number ++ a.session ∷ (to_be_bytes w64 a.nth ++ length a.writes ∷ (flat_map write_spelling a.writes ++ x))

pub entry-moved : (a : Entry) (x : List ℕ) → entry_spelling a ++ x ≡ parts a x
entry-moved a x =
    let number : List ℕ = to_be_bytes w64 a.number in
    let nth : List ℕ = to_be_bytes w64 a.nth in
    let writes : List ℕ = length a.writes ∷ flat_map write_spelling a.writes in
    append_assoc number (a.session ∷ (nth ++ writes)) x ∙ ap (λ (bytes : List ℕ). number ++ a.session ∷ bytes) (append_assoc nth writes x)

-- one entry
pub entry-same : (pages : ℕ) (a b : Entry) (x y : List ℕ) → pages ≤ 2 ^ 32 → IsEntry pages a → IsEntry pages b
    → entry_spelling a ++ x ≡ entry_spelling b ++ y → (a ≡ b) × (x ≡ y)
entry-same pages a b x y most one other same =
    let moved : parts a x ≡ parts b y = sym (entry-moved a x) ∙ same ∙ entry-moved b y in
    let number = split-same (to_be_bytes w64 a.number) (to_be_bytes w64 b.number) _ _ refl moved in
    let session = first-same a.session b.session _ _ number.1 in
    let nth = split-same (to_be_bytes w64 a.nth) (to_be_bytes w64 b.nth) _ _ refl session.1 in
    let count = first-same (length a.writes) (length b.writes) _ _ nth.1 in
    let writes = writes-same pages a.number b.number a.writes b.writes x y most count.0 one.writes other.writes count.1 in
    let number_is : a.number ≡ b.number = eight-same a.number b.number (omega (arith, one.number.most)) (omega (arith, other.number.most)) number.0 in
    (entry-is a b number_is session.0 (eight-same a.nth b.nth one.counted other.counted nth.0) writes.0, writes.1)

-- as many entries
pub entries-same : (pages : ℕ) (a b : List Entry) (x y : List ℕ) → pages ≤ 2 ^ 32 → length a ≡ length b → All (IsEntry pages) a → All (IsEntry pages) b
    → entries_spelling a ++ x ≡ entries_spelling b ++ y → (a ≡ b) × (x ≡ y)
entries-same pages [] [] x y most len one other same = (refl, same)
entries-same pages [] (f ∷ b) x y most len one other same = absurd (omega (arith, len))
entries-same pages (e ∷ a) [] x y most len one other same = absurd (omega (arith, len))
entries-same pages (e ∷ a) (f ∷ b) x y most len one other same =
    let moved : entry_spelling e ++ (entries_spelling a ++ x) ≡ entry_spelling f ++ (entries_spelling b ++ y) =
    sym (append_assoc (entry_spelling e) (entries_spelling a) x) ∙ same ∙ append_assoc (entry_spelling f) (entries_spelling b) y in
    let first = entry-same pages e f (entries_spelling a ++ x) (entries_spelling b ++ y) most
    (All-head (IsEntry pages) e a one) (All-head (IsEntry pages) f b other) moved in
    let rest = entries-same pages a b x y most (omega (arith, len)) (All-tail (IsEntry pages) e a one) (All-tail (IsEntry pages) f b other) first.1 in
    (ap (λ (g : Entry). g ∷ a) first.0 ∙ ap (λ (es : List Entry). f ∷ es) rest.0, rest.1)

-- Bytes are the body of one list of entries at most, where pages have numbers of four bytes.
pub Spells-one : (pages : ℕ) (bytes : List ℕ) (one other : List Entry) → pages ≤ 2 ^ 32 → Spells pages bytes one → Spells pages bytes other → one ≡ other
Spells-one pages bytes one other most mine theirs =
    let same : body_spelling one ≡ body_spelling other = sym mine.bytes_are ∙ theirs.bytes_are in
    let text = split-same (codes "BLOBFRM1") (codes "BLOBFRM1") _ _ refl same in
    let long = split-same (to_be_bytes w32 (body_bytes one)) (to_be_bytes w32 (body_bytes other)) _ _ refl text.1 in
    let count = first-same (length one) (length other) (entries_spelling one) (entries_spelling other) long.1 in
    let nothing : entries_spelling one ++ [] ≡ entries_spelling other ++ [] =
    append-nil (entries_spelling one) ∙ count.1 ∙ sym (append-nil (entries_spelling other)) in
    (entries-same pages one other [] [] most count.0 mine.frame.each theirs.frame.each nothing).0
