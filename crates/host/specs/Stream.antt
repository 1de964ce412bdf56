-- The random bytes of a guest, which a seed and the guest's place on the line determine.
use Rattle.std.specs.Prelude.{◌≡◌, ℕ, zero, suc, ◌+◌, ◌-◌, ◌*◌, ◌/◌, ◌%◌, ◌^◌, ◌≤◌, List, [], ◌++◌, length, take, drop, slice_index}
use Rattle.std.specs.Int.{w32, to_le_bytes}
use Rattle.sha2.specs.Sha256.{sha256}

-- the digest of a counter, 32 bytes
unfoldable pub digest_of : (seed : List ℕ) (guest counter : ℕ) → List ℕ
digest_of seed guest counter = sha256 (seed ++ to_le_bytes w32 guest ++ to_le_bytes w32 counter)

-- the digests of the first counters, one behind the other; behind 2 ^ 32 - 1 the counter is 0 again
unfoldable pub digests : (seed : List ℕ) (guest count : ℕ) → List ℕ
digests seed guest zero = []
digests seed guest (suc count) = digests seed guest count ++ digest_of seed guest (count % 2 ^ 32)

-- the bytes are so many of those that the digests make, from a place on
pub record AreNext (seed : List ℕ) (guest place count : ℕ) (bytes : List ℕ) : Type 0 where
  pub counted : length bytes ≡ count
  pub next : (n : ℕ) → place + count ≤ 32 * n → bytes ≡ take count (drop place (digests seed guest n))

-- the byte at a place: that of the digest in which it lies
abbrev pub byte_at : (seed : List ℕ) (guest place : ℕ) → ℕ
byte_at seed guest place = slice_index (digest_of seed guest (place / 32 % 2 ^ 32)) (place % 32)

-- the bytes that a guest is opened with: the first half of the digest of 2 ^ 32 - 1
abbrev pub opening_bytes : (seed : List ℕ) (guest : ℕ) → List ℕ
opening_bytes seed guest = take 16 (digest_of seed guest (2 ^ 32 - 1))
