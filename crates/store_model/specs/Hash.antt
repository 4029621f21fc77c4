-- SHA-256 (FIPS 180-4) as a function on lists of bytes. A word is a number below 2 ^ 32, a state is a
-- list of eight words, a block is a list of 64 bytes, and section numbers are the standard's.
use Rattle.std.specs.Prelude.{◌≡◌, ℕ, zero, suc, ◌+◌, ◌-◌, ◌*◌, ◌/◌, ◌%◌, List, [], ◌∷◌, ◌++◌, length, take, drop, replicate, fold}
use Rattle.std.specs.Int.{w32, w64, to_be_bytes}
use Rattle.std.specs.List.{flat_map}
use Rattle.store_model.specs.BlockFunction.{compress}

-- the initial state (5.3.3)
abbrev pub initial_state : List ℕ
initial_state =
    0x6A09E667 ∷ 0xBB67AE85 ∷ 0x3C6EF372 ∷ 0xA54FF53A ∷
    0x510E527F ∷ 0x9B05688C ∷ 0x1F83D9AB ∷ 0x5BE0CD19 ∷ []

-- what follows a message of n bytes (5.1.1): the bit 1, the fewest zero bits after which the length,
-- in bits and as 64 bits with the high byte first, ends a block. The standard's messages are shorter
-- than 2 ^ 64 bits
unfoldable pub padding : ℕ → List ℕ
padding n = 0x80 ∷ replicate ((119 - n % 64) % 64) 0 ++ to_be_bytes w64 (8 * n)

-- the first n blocks of a list of bytes (5.2.1)
unfoldable pub blocks : ℕ → List ℕ → List (List ℕ)
blocks zero bytes = []
blocks (suc n) bytes = take 64 bytes ∷ blocks n (drop 64 bytes)

-- the state that the whole blocks of a list of bytes lead to from a state h (6.2.2)
unfoldable pub state_after : List ℕ → List ℕ → List ℕ
state_after h bytes = fold compress h (blocks (length bytes / 64) bytes)

-- the whole blocks of `bytes` lead from the state h to the state h2
abbrev pub Leads : List ℕ → List ℕ → List ℕ → Type 0
Leads h bytes h2 = state_after h bytes ≡ h2

-- a state as 32 bytes, each word high byte first (6.2.2, at its end)
unfoldable pub bytes_of_state : List ℕ → List ℕ
bytes_of_state h = flat_map (to_be_bytes w32) h

-- the digest of a message: its whole padded text, from the initial state (6.2)
unfoldable pub sha256 : List ℕ → List ℕ
sha256 message = bytes_of_state (state_after initial_state (message ++ padding (length message)))

-- the digest that `rest`, as the end of a message of 64 * n + length rest bytes, gives from the
-- state h
unfoldable pub close : List ℕ → ℕ → List ℕ → List ℕ
close h n rest = bytes_of_state (state_after h (rest ++ padding (64 * n + length rest)))
