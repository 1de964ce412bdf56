-- What keeps the rules of a memory.
use Rattle.std.proofs.Common.{◌≡◌, ℕ, zero, suc, ◌+◌, ◌-◌, ◌*◌, ◌/◌, ◌^◌, ◌<◌, ◌≤◌, Bool, true, false, if◌then◌else◌, nat_lt, List, [], ◌∷◌, length, Option, Some, None, is_some, All, slice_index, refl, sym, ◌∙◌, ap, arith}
use Rattle.std.specs.Prelude.{IsTrue}
use Rattle.std.specs.Int.{w8, w16, w32, from_le_bytes, bytes_low_first, byte_at}
use Rattle.std.specs.List.{AllByRecursion}
use Rattle.std.proofs.lemmas.Bool.Decides.{nat_tests}
use Rattle.std.proofs.lemmas.List.{get_or_past}
use Rattle.std.proofs.lemmas.List.Elements.{All-nil, All-cons}
use Rattle.page_permissions.specs.declared.page.Permissions.{Permissions}
use Rattle.rrv_model.specs.declared.record.Written.{Written}
use Rattle.rrv_model.specs.Memory.{Memory, Cell, stored, mapped, unmapped, protected, is_within, with_byte, with_permissions, is_mapped, page_count, page_bytes, byte_or_zero, bytes_at, AlikeCells, FitsCell, IsPaged, IsMemory}
use Rattle.rrv_model.specs.Calls.{write_all}
use Rattle.rrv_model.proofs.PageCounts.{pages_fewer, pages_same, is_some-if, is_mapped-stored}

-- ---- how many pages are mapped

is_some-with_permissions : (p : Permissions) (c : Option Cell) → is_some (with_permissions p c) ≡ is_some c
is_some-with_permissions p None = refl
is_some-with_permissions p (Some c) = refl

is_mapped-protected : (a count : ℕ) (permissions : Permissions) (m : Memory) (p : ℕ) →
    is_mapped (protected a count permissions m) p ≡ is_mapped m p
is_mapped-protected a count permissions m p =
    let x = p * page_bytes in
    is_some-if (is_within a count x) (with_permissions permissions (m x)) (m x) (is_some-with_permissions permissions (m x))

some_left : (t : Bool) (c : Option Cell) → is_some (if t then None else c) ≡ true → is_some c ≡ true
some_left true c h = cc
some_left false c h = h

page_count-stored : (a : ℕ) (bytes : List ℕ) (m : Memory) → page_count (stored a bytes m) ≡ page_count m
page_count-stored a bytes m = pages_same (2 ^ 20) (stored a bytes m) m (λ p below. is_mapped-stored a bytes m p)

page_count-protected : (a count : ℕ) (permissions : Permissions) (m : Memory) → page_count (protected a count permissions m) ≡ page_count m
page_count-protected a count permissions m =
    pages_same (2 ^ 20) (protected a count permissions m) m (λ p below. is_mapped-protected a count permissions m p)

page_count-unmapped : (a count : ℕ) (m : Memory) → page_count (unmapped a count m) ≤ page_count m
page_count-unmapped a count m =
    pages_fewer (2 ^ 20) (unmapped a count m) m (λ p below h. some_left (is_within a count (p * page_bytes)) (m (p * page_bytes)) h)

-- ---- bytes

abbrev pub AreBytes : List ℕ → Type 0
AreBytes bytes = (i : ℕ) → slice_index bytes i < 256

-- also past the end
pub each_below : (n : ℕ) (xs : List ℕ) → 0 < n → All (λ x. x < n) xs → (i : ℕ) → slice_index xs i < n
each_below n xs some all i = by_place (nat_lt i (length xs)) refl where
  by_place : (t : Bool) → nat_lt i (length xs) ≡ t → slice_index xs i < n
  by_place true e = let below : i < length xs = grind (arith, nat_tests) in all i 0 below
  by_place false e = let past : length xs ≤ i = grind (arith, nat_tests) in rw get_or_past some

pub are_bytes : (bytes : List ℕ) → All (λ b. b < 256) bytes → AreBytes bytes
are_bytes bytes all = each_below 256 bytes (omega arith) all

byte_at-small : (i n : ℕ) → byte_at i n < 256
byte_at-small zero n = omega arith
byte_at-small (suc i) n = omega arith

pub all-low_first : (count i n : ℕ) → All (λ b. b < 256) (bytes_low_first i count n)
all-low_first zero i n = All-nil (λ b. b < 256)
all-low_first (suc count) i n =
    All-cons (λ b. b < 256) (byte_at i n) (bytes_low_first (suc i) count n) (byte_at-small i n) (all-low_first count (suc i) n)

-- ---- cells

abbrev pub Paged : Memory → Type 0
Paged m = (a b : ℕ) → a / page_bytes ≡ b / page_bytes → AlikeCells (m a) (m b)

abbrev pub Fits : Memory → Type 0
Fits m = (x : ℕ) → FitsCell (m x)

alike_stores : (t u : Bool) (b e : ℕ) (c d : Option Cell) → AlikeCells c d →
    AlikeCells (if t then with_byte b c else c) (if u then with_byte e d else d)
alike_stores true true b e None None h = tt
alike_stores true true b e (Some c) (Some d) h = h
alike_stores true false b e None None h = tt
alike_stores true false b e (Some c) (Some d) h = h
alike_stores false true b e None None h = tt
alike_stores false true b e (Some c) (Some d) h = h
alike_stores false false b e c d h = h
alike_stores t u b e None (Some d) h = absurd h
alike_stores t u b e (Some c) None h = absurd h

pub paged-stored : (a : ℕ) (bytes : List ℕ) (m : Memory) → Paged m → Paged (stored a bytes m)
paged-stored a bytes m h x y same =
    alike_stores (is_within a (length bytes) x) (is_within a (length bytes) y) (slice_index bytes (x - a)) (slice_index bytes (y - a)) (m x)
    (m y) (h x y same)

none_store : (t : Bool) (b : ℕ) (c : Option Cell) → c ≡ None → (if t then with_byte b c else c) ≡ None
none_store true b c e = ap (with_byte b) e
none_store false b c e = e

pub none-stored : (a : ℕ) (bytes : List ℕ) (m : Memory) (x : ℕ) → m x ≡ None → stored a bytes m x ≡ None
none-stored a bytes m x e = none_store (is_within a (length bytes) x) (slice_index bytes (x - a)) (m x) e

fits_store : (t : Bool) (b : ℕ) (c : Option Cell) → b < 256 → FitsCell c → FitsCell (if t then with_byte b c else c)
fits_store true b None low h = tt
fits_store true b (Some c) low h = (low, h.1)
fits_store false b c low h = h

pub fits-stored : (a : ℕ) (bytes : List ℕ) (m : Memory) → AreBytes bytes → Fits m → Fits (stored a bytes m)
fits-stored a bytes m small h x = fits_store (is_within a (length bytes) x) (slice_index bytes (x - a)) (m x) (small (x - a)) (h x)

paged_keeps-stored : (a : ℕ) (bytes : List ℕ) (m : Memory) → AreBytes bytes → IsPaged m → IsPaged (stored a bytes m)
paged_keeps-stored a bytes m small h = record {
  paged = paged-stored a bytes m h.paged;
  low = λ x l. none-stored a bytes m x (h.low x l);
  high = λ x l. none-stored a bytes m x (h.high x l);
  cells = fits-stored a bytes m small h.cells;
}

-- ---- whole pages that are changed alike

abbrev on_pages : (Option Cell → Option Cell) → ℕ → ℕ → Memory → Memory
on_pages change first count m x = if is_within (first * page_bytes) (count * page_bytes) x then change (m x) else m x

same_side : (first count x y : ℕ) → x / page_bytes ≡ y / page_bytes →
    is_within (first * page_bytes) (count * page_bytes) x ≡ is_within (first * page_bytes) (count * page_bytes) y
same_side first count x y same = grind (arith, nat_tests)

alike_if : (t u : Bool) (change : Option Cell → Option Cell) (c d : Option Cell) → t ≡ u →
    (AlikeCells c d → AlikeCells (change c) (change d)) →
    AlikeCells c d → AlikeCells (if t then change c else c) (if u then change d else d)
alike_if true true change c d e f h = f h
alike_if false false change c d e f h = h
alike_if true false change c d e f h = cc
alike_if false true change c d e f h = cc

fits_if : (t : Bool) (c d : Option Cell) → FitsCell c → FitsCell d → FitsCell (if t then c else d)
fits_if true c d h g = h
fits_if false c d h g = g

none_if : (t : Bool) (c d : Option Cell) → t ≡ false → d ≡ None → (if t then c else d) ≡ None
none_if true c d e none = cc
none_if false c d e none = none

none_both : (t : Bool) (c d : Option Cell) → c ≡ None → d ≡ None → (if t then c else d) ≡ None
none_both true c d e none = e
none_both false c d e none = none

-- the change keeps cells alike, and their rules
pub record KeepsCells (change : Option Cell → Option Cell) : Type 0 where
  pub alike : (c d : Option Cell) → AlikeCells c d → AlikeCells (change c) (change d)
  pub fits : (c : Option Cell) → FitsCell c → FitsCell (change c)

-- a change that adds no byte
keeps_none : (change : Option Cell → Option Cell) (first count : ℕ) (m : Memory) → KeepsCells change → change None ≡ None → IsPaged m →
    IsPaged (on_pages change first count m)
keeps_none change first count m keeps none h = record {
  paged = λ x y same. alike_if (is_within (first * page_bytes) (count * page_bytes) x)
      (is_within (first * page_bytes) (count * page_bytes) y) change (m x) (m y)
      (same_side first count x y same) (keeps.alike (m x) (m y)) (h.paged x y same);
  low = λ x l. none_both (is_within (first * page_bytes) (count * page_bytes) x) (change (m x)) (m x) (ap change (h.low x l) ∙ none)
      (h.low x l);
  high = λ x l. none_both (is_within (first * page_bytes) (count * page_bytes) x) (change (m x)) (m x) (ap change (h.high x l) ∙ none)
      (h.high x l);
  cells = λ x. fits_if (is_within (first * page_bytes) (count * page_bytes) x) (change (m x)) (m x) (keeps.fits (m x) (h.cells x))
      (h.cells x);
}

below_pages : (first count x : ℕ) → 1 ≤ first → x < 0x1000 → is_within (first * page_bytes) (count * page_bytes) x ≡ false
below_pages first count x some low = grind (arith, nat_tests)

above_pages : (first count x : ℕ) → first + count ≤ 0x80000 → 0x80000000 ≤ x → is_within (first * page_bytes) (count * page_bytes) x ≡ false
above_pages first count x most high = grind (arith, nat_tests)

-- a change of pages from 0x1000 up to 0x7FFFFFFF
keeps_within : (change : Option Cell → Option Cell) (first count : ℕ) (m : Memory) → KeepsCells change → 1 ≤ first →
    first + count ≤ 0x80000 → IsPaged m → IsPaged (on_pages change first count m)
keeps_within change first count m keeps some most h = record {
  paged = λ x y same. alike_if (is_within (first * page_bytes) (count * page_bytes) x)
      (is_within (first * page_bytes) (count * page_bytes) y) change (m x) (m y)
      (same_side first count x y same) (keeps.alike (m x) (m y)) (h.paged x y same);
  low = λ x l. none_if (is_within (first * page_bytes) (count * page_bytes) x) (change (m x)) (m x) (below_pages first count x some l)
      (h.low x l);
  high = λ x l. none_if (is_within (first * page_bytes) (count * page_bytes) x) (change (m x)) (m x) (above_pages first count x most l)
      (h.high x l);
  cells = λ x. fits_if (is_within (first * page_bytes) (count * page_bytes) x) (change (m x)) (m x) (keeps.fits (m x) (h.cells x))
      (h.cells x);
}

clear_keeps : (p : Permissions) → (IsTrue p.write → IsTrue p.read) → KeepsCells (λ c. Some (record { byte = 0; permissions = p }))
clear_keeps p readable = record { alike = λ c d h. refl; fits = λ c h. (omega arith, readable) }

gone_keeps : KeepsCells (λ c. None)
gone_keeps = record { alike = λ c d h. tt; fits = λ c h. tt }

alike_permissions : (p : Permissions) (c d : Option Cell) → AlikeCells c d → AlikeCells (with_permissions p c) (with_permissions p d)
alike_permissions p None None h = tt
alike_permissions p (Some c) (Some d) h = refl
alike_permissions p None (Some d) h = absurd h
alike_permissions p (Some c) None h = absurd h

fits_permissions : (p : Permissions) → (IsTrue p.write → IsTrue p.read) → (c : Option Cell) → FitsCell c → FitsCell (with_permissions p c)
fits_permissions p readable None h = tt
fits_permissions p readable (Some c) h = (h.0, readable)

-- ---- memories

pub memory-stored : (a : ℕ) (bytes : List ℕ) (m : Memory) → AreBytes bytes → IsMemory m → IsMemory (stored a bytes m)
memory-stored a bytes m small h = record {
  pages = paged_keeps-stored a bytes m small h.pages;
  limit = omega (arith, page_count-stored a bytes m, h.limit);
}

pub memory-mapped : (first count : ℕ) (p : Permissions) (m : Memory) → (IsTrue p.write → IsTrue p.read) → 1 ≤ first →
    first + count ≤ 0x80000 →
    page_count (mapped (first * page_bytes) (count * page_bytes) p m) ≤ 16_384 → IsMemory m →
    IsMemory (mapped (first * page_bytes) (count * page_bytes) p m)
memory-mapped first count p m readable some most few h = record {
  pages = keeps_within (λ c. Some (record { byte = 0; permissions = p })) first count m (clear_keeps p readable) some most h.pages;
  limit = few;
}

pub memory-unmapped : (first count : ℕ) (m : Memory) → IsMemory m → IsMemory (unmapped (first * page_bytes) (count * page_bytes) m)
memory-unmapped first count m h = record {
  pages = keeps_none (λ c. None) first count m gone_keeps refl h.pages;
  limit = omega (arith, page_count-unmapped (first * page_bytes) (count * page_bytes) m, h.limit);
}

pub memory-protected : (first count : ℕ) (p : Permissions) (m : Memory) → (IsTrue p.write → IsTrue p.read) → IsMemory m →
    IsMemory (protected (first * page_bytes) (count * page_bytes) p m)
memory-protected first count p m readable h = record {
  pages = keeps_none (with_permissions p) first count m (record { alike = alike_permissions p; fits = fits_permissions p readable }) refl
      h.pages;
  limit = omega (arith, page_count-protected (first * page_bytes) (count * page_bytes) p m, h.limit);
}

-- bytes are written in all ranges
abbrev pub AreWritten : List Written → Type 0
AreWritten written = AllByRecursion (λ w. All (λ b. b < 256) w.bytes) written

pub memory-write_all : (written : List Written) (m : Memory) → AreWritten written → IsMemory m → IsMemory (write_all written m)
unfolding write_all
memory-write_all [] m small h = h
memory-write_all (w ∷ written) m small h =
    memory-write_all written (stored w.address w.bytes m) small.1 (memory-stored w.address w.bytes m (are_bytes w.bytes small.0) h)

-- ---- what is read

small_cell : (c : Option Cell) → FitsCell c → byte_or_zero c < 256
small_cell None h = omega arith
small_cell (Some c) h = h.0

pub length_bytes_at : (m : Memory) (a count : ℕ) → length (bytes_at m a count) ≡ count
unfolding bytes_at
length_bytes_at m a zero = refl
length_bytes_at m a (suc count) = ap (λ n. suc n) (length_bytes_at m (a + 1) count)

pub get_bytes_at : (m : Memory) (a count k : ℕ) → k < count → slice_index (bytes_at m a count) k ≡ byte_or_zero (m (a + k))
unfolding bytes_at
get_bytes_at m a zero k l = absurd (omega arith)
get_bytes_at m a (suc count) zero l = let here : a + 0 ≡ a = omega arith in ap (λ x. byte_or_zero (m x)) (sym here)
get_bytes_at m a (suc count) (suc k) l =
    let place : a + 1 + k ≡ a + suc k = omega arith in
    get_bytes_at m (a + 1) count k (omega arith) ∙ ap (λ x. byte_or_zero (m x)) place

-- the bytes of a memory
pub all-bytes_at : (m : Memory) (count a : ℕ) → Fits m → All (λ b. b < 256) (bytes_at m a count)
unfolding bytes_at
all-bytes_at m zero a h = All-nil (λ b. b < 256)
all-bytes_at m (suc count) a h =
    All-cons (λ b. b < 256) (byte_or_zero (m a)) (bytes_at m (a + 1) count) (small_cell (m a) (h a)) (all-bytes_at m count (a + 1) h)

pub one_byte : (bytes : List ℕ) → AreBytes bytes → from_le_bytes w8 bytes < 2 ^ 8
one_byte bytes small = let a = small 0 in omega arith

two_bytes : (a b : ℕ) → a < 256 → b < 256 → a + b * 256 ^ 1 < 2 ^ 16
two_bytes a b h g = omega arith

pub half_word : (bytes : List ℕ) → AreBytes bytes → from_le_bytes w16 bytes < 2 ^ 16
half_word bytes small = two_bytes (slice_index bytes 0) (slice_index bytes 1) (small 0) (small 1)

four_bytes : (a b c d : ℕ) → a < 256 → b < 256 → c < 256 → d < 256 → ((a + b * 256 ^ 1) + c * 256 ^ 2) + d * 256 ^ 3 < 2 ^ 32
four_bytes a b c d h g f e = omega arith

pub word-small : (bytes : List ℕ) → AreBytes bytes → from_le_bytes w32 bytes < 2 ^ 32
word-small bytes small =
    four_bytes (slice_index bytes 0) (slice_index bytes 1) (slice_index bytes 2) (slice_index bytes 3) (small 0) (small 1) (small 2)
    (small 3)
