-- How a buffer is filled from a stream, byte by byte.
use Rattle.std.proofs.Common.{◌≡◌, ℕ, zero, suc, ◌+◌, ◌-◌, ◌*◌, ◌/◌, ◌%◌, ◌^◌, ◌<◌, ◌≤◌, List, ◌∙◌, sym, inl, inr, length, take, drop, refl, arith, length-append, length-drop}
use Rattle.std.proofs.lemmas.Bool.{cases_lt}
use Rattle.std.proofs.lemmas.Grind.{same_number_lists}
use Rattle.std.proofs.lemmas.List.{get_or_append_left, get_or-append_right, get_or-take, get_or-drop, length-take-le}
use Rattle.std.specs.Prelude.{slice_index}
use Rattle.sha2.proofs.Facts256.{length-sha256}
use Rattle.host.specs.Stream.{AreNext, byte_at, digest_of, digests}

-- behind the stream's end a place has the same counter as from its start on
counter-wraps : (n : ℕ) → (n % 2 ^ 37) / 32 % 2 ^ 32 ≡ n / 32 % 2 ^ 32
counter-wraps n = omega arith

-- and the same byte of the digest
place-wraps : (n : ℕ) → (n % 2 ^ 37) % 32 ≡ n % 32
place-wraps n = omega arith

pub byte_at-wraps : (seed : List ℕ) (guest n : ℕ) → byte_at seed guest (n % 2 ^ 37) ≡ byte_at seed guest n
byte_at-wraps seed guest n = rw (counter-wraps n, place-wraps n) refl

-- one place further
pub next-wraps : (n i : ℕ) → ((n + i) % 2 ^ 37 + 1) % 2 ^ 37 ≡ (n + (i + 1)) % 2 ^ 37
next-wraps n i = omega arith

length-digest_of : (seed : List ℕ) (guest counter : ℕ) → length (digest_of seed guest counter) ≡ 32
unfolding digest_of
length-digest_of seed guest counter = length-sha256 _

length-digests : (seed : List ℕ) (guest n : ℕ) → length (digests seed guest n) ≡ 32 * n
unfolding digests
length-digests seed guest zero = refl
length-digests seed guest (suc n) =
    let both = length-append (digests seed guest n) (digest_of seed guest (n % 2 ^ 32)) in
    let first = length-digests seed guest n in
    let last = length-digest_of seed guest (n % 2 ^ 32) in
    omega (arith, both, first, last)

-- a place in the last of some digests
byte_at-last : (seed : List ℕ) (guest n i : ℕ) → 32 * n ≤ i → i < 32 * (n + 1) →
    slice_index (digest_of seed guest (n % 2 ^ 32)) (i - 32 * n) ≡ byte_at seed guest i
byte_at-last seed guest n i low high =
    let counter : i / 32 ≡ n = omega arith in
    let place : i % 32 ≡ i - 32 * n = omega arith in
    rw (counter, place) refl

-- the byte of the digests at a place
digests-byte_at : (seed : List ℕ) (guest n i : ℕ) → i < 32 * n →
    slice_index (digests seed guest n) i ≡ byte_at seed guest i
unfolding digests
digests-byte_at seed guest zero i below = absurd (omega arith)
digests-byte_at seed guest (suc n) i below =
    let first = digests seed guest n in
    let last = digest_of seed guest (n % 2 ^ 32) in
    let whole = length-digests seed guest n in
    elim (cases_lt i (32 * n)) [
      | inl early ↦ get_or_append_left first last 0 i (omega (arith, whole)) ∙ digests-byte_at seed guest n i early
      | inr late ↦ get_or-append_right first last (32 * n) i 0 whole late ∙ byte_at-last seed guest n i late (omega arith)
    ]

-- a buffer whose bytes are those at the places from one on
pub are_next : (seed : List ℕ) (guest place count : ℕ) (bytes : List ℕ) → length bytes ≡ count →
    ((i : ℕ) → i < count → slice_index bytes i ≡ byte_at seed guest (place + i)) →
    AreNext seed guest place count bytes
are_next seed guest place count bytes counted at = record {
  counted = counted;
  next = λ n fits.
      let whole = length-digests seed guest n in
      let rest = length-drop place (digests seed guest n) in
      let long = length-take-le count (drop place (digests seed guest n)) (omega (arith, whole, rest)) in
      same_number_lists bytes (take count (drop place (digests seed guest n))) (counted ∙ sym long) (λ i below.
      let inside : i < count = omega (arith, counted) in
      at i inside ∙ sym (
      get_or-take count (drop place (digests seed guest n)) i 0 inside
      ∙ get_or-drop place (digests seed guest n) i 0
      ∙ digests-byte_at seed guest n (place + i) (omega (arith, inside, fits))));
}
