-- Pages of a checkpoint that say all bytes of a page.
use Rattle.std.proofs.Common.{◌≡◌, inl, inr, ℕ, zero, suc, ◌+◌, ◌-◌, ◌*◌, ◌/◌, ◌%◌, ◌^◌, ◌<◌, ◌≤◌, true, cond, ◌==◌, count_ones, List, [], ◌∷◌, ◌++◌, length, Option, Some, None, refl, sym, ◌∙◌, ap, arith}
use Rattle.std.specs.Prelude.{slice_get}
use Rattle.std.specs.Int.{bit_at}
use Rattle.std.specs.List.{AllByRecursion}
use Rattle.std.proofs.lemmas.Bool.{cases_lt}
use Rattle.std.proofs.lemmas.Bool.Decides.{eqb_tells}
use Rattle.std.proofs.lemmas.Nat.{mod-mul-add}
use Rattle.std.proofs.lemmas.Nat.Bits.{bit_at_ones}
use Rattle.page_permissions.specs.declared.page.Permissions.{Permissions}
use Rattle.rrv_model.specs.declared.record.Line.{Line}
use Rattle.rrv_model.specs.declared.record.PagePart.{PagePart}
use Rattle.rrv_model.specs.Memory.{Memory, Cell, byte_or_zero, bytes_at, page_bytes, AlikeCells, IsPaged}
use Rattle.rrv_model.specs.LineMask.{line_byte}
use Rattle.rrv_model.specs.Checkpoint.{entry_of, patched_byte, mapped_as, patched_cell, patched, IsPagePart}
use Rattle.rrv_model.specs.RecordText.{HasLineText, HasPageText}
use Rattle.rrv_model.proofs.MemoryRules.{Fits, all-bytes_at, get_bytes_at, length_bytes_at}
use lib.Count.{ones-ones}
use lib.Pow.{ones_split, pow_pos}

-- ---- lines

-- count lines from a
lines_at : Memory → ℕ → ℕ → List Line
lines_at m a zero = []
lines_at m a (suc count) = record { bytes = bytes_at m a 64 } ∷ lines_at m (a + 64) count

length_lines_at : (m : Memory) (a count : ℕ) → length (lines_at m a count) ≡ count
unfolding lines_at
length_lines_at m a zero = refl
length_lines_at m a (suc count) = ap (λ n. suc n) (length_lines_at m (a + 64) count)

each_line : (m : Memory) (a count : ℕ) → Fits m → AllByRecursion HasLineText (lines_at m a count)
unfolding lines_at
each_line m a zero fits = tt
each_line m a (suc count) fits = ((length_bytes_at m a 64, all-bytes_at m 64 a fits), each_line m (a + 64) count fits)

line_at_place : (m : Memory) (count a i : ℕ) → i < count →
    slice_get (lines_at m a count) i ≡ Some (record { bytes = bytes_at m (a + 64 * i) 64 })
unfolding lines_at
line_at_place m zero a i below = absurd (omega arith)
line_at_place m (suc count) a zero below =
    let same : a ≡ a + 64 * 0 = omega arith in ap (λ x. let l : Line = record { bytes = bytes_at m x 64 } in Some l) same
line_at_place m (suc count) a (suc i) below =
    let same : a + 64 + 64 * i ≡ a + 64 * suc i = omega arith in
    line_at_place m count (a + 64) i (omega arith) ∙ ap (λ x. let l : Line = record { bytes = bytes_at m x 64 } in Some l) same

-- ---- masks

ones_below : (k i : ℕ) → i ≤ k → (2 ^ k - 1) % 2 ^ i ≡ 2 ^ i - 1
ones_below k i below =
    let whole : (k - i) + i ≡ k = omega arith in
    let some : 0 < 2 ^ i = pow_pos i in
    let low : 2 ^ i - 1 < 2 ^ i = omega (arith, some) in
    ap (λ n. (2 ^ n - 1) % 2 ^ i) (sym whole) ∙ ap (λ n. n % 2 ^ i) (ones_split (k - i) i)
    ∙ mod-mul-add (2 ^ (k - i) - 1) (2 ^ i) (2 ^ i - 1) low

lines_before : (i : ℕ) → i < 64 → count_ones ((2 ^ 64 - 1) % 2 ^ i) ≡ i
lines_before i below = ap count_ones (ones_below 64 i (omega arith)) ∙ ones-ones i

-- ---- the page's entry

permissions_at : Option Cell → Option Permissions
permissions_at None = None
permissions_at (Some c) = Some c.permissions

mask_at : Option Cell → ℕ
mask_at None = 0
mask_at (Some c) = 2 ^ 64 - 1

all_lines : Option Cell → Memory → ℕ → List Line
all_lines None m a = []
all_lines (Some c) m a = lines_at m a 64

-- all of page n
entry_by : Option Cell → Memory → ℕ → PagePart
entry_by o m n = record { number = n; permissions = permissions_at o; mask = mask_at o; lines = all_lines o m (n * page_bytes) }

pub entry : Memory → ℕ → PagePart
entry m n = entry_by (m (n * page_bytes)) m n

pub number_of_entry : (m : Memory) (n : ℕ) → (entry m n).number ≡ n
unfolding entry entry_by
number_of_entry m n = refl

as_many : (o : Option Cell) (m : Memory) (a : ℕ) → length (all_lines o m a) ≡ count_ones (mask_at o)
unfolding all_lines mask_at
as_many None m a = sym (ones-ones 0)
as_many (Some c) m a = length_lines_at m a 64 ∙ sym (ones-ones 64)

no_mask : (o : Option Cell) → permissions_at o ≡ None → mask_at o ≡ 0
unfolding permissions_at mask_at
no_mask None e = refl
no_mask (Some c) e = absurd cc

mask_fits : (o : Option Cell) → mask_at o < 2 ^ 64
unfolding mask_at
mask_fits None = omega arith
mask_fits (Some c) = omega arith

lines_have : (o : Option Cell) (m : Memory) (a : ℕ) → Fits m → AllByRecursion HasLineText (all_lines o m a)
unfolding all_lines
lines_have None m a fits = tt
lines_have (Some c) m a fits = each_line m a 64 fits

pub has_page_text : (m : Memory) (n : ℕ) → n < 0x80000 → Fits m → HasPageText (entry m n)
unfolding entry entry_by
has_page_text m n low fits =
    let o = m (n * page_bytes) in
    record {
      number = low;
      mask = mask_fits o;
      unmapped = no_mask o;
      lines = as_many o m (n * page_bytes);
      each = lines_have o m (n * page_bytes) fits;
    }

pub is_page_part : (m : Memory) (n : ℕ) → IsPagePart (entry m n)
unfolding entry entry_by
is_page_part m n = let o = m (n * page_bytes) in record { lines = as_many o m (n * page_bytes); unmapped = no_mask o }

-- ---- what the entry says

none_alike : (c : Option Cell) → AlikeCells None c → None ≡ c
none_alike None h = refl
none_alike (Some c) h = absurd h

all_set : (i : ℕ) → i < 64 → (bit_at (2 ^ 64 - 1) i == 1) ≡ true
all_set i below = let e = bit_at_ones 64 i below in rw e refl

line_byte_of : (c : Cell) (m : Memory) (n i k : ℕ) → i < 64 → k < 64 →
    line_byte (entry_by (Some c) m n).mask (entry_by (Some c) m n).lines i k ≡ byte_or_zero (m (n * page_bytes + 64 * i + k))
unfolding entry_by all_lines mask_at
line_byte_of c m n i k low below =
    let lines = lines_before i low in
    let line = line_at_place m 64 (n * page_bytes) i low in
    rw (lines, line) (get_bytes_at m (n * page_bytes + 64 * i) 64 k below)

byte_of_entry : (c : Cell) (m : Memory) (n k : ℕ) (old : Option Cell) → k < 4096 →
    patched_byte (entry_by (Some c) m n) old k ≡ byte_or_zero (m (n * page_bytes + k))
unfolding entry_by mask_at
byte_of_entry c m n k old low =
    let set = all_set (k / 64) (omega arith) in
    let same : n * page_bytes + 64 * (k / 64) + k % 64 ≡ n * page_bytes + k = omega arith in
    ap (λ b. cond b (line_byte (entry_by (Some c) m n).mask (entry_by (Some c) m n).lines (k / 64) (k % 64)) (byte_or_zero old)) set
    ∙ line_byte_of c m n (k / 64) (k % 64) (omega arith) (omega arith) ∙ ap (λ x. byte_or_zero (m x)) same

some_alike : (c : Cell) (d : Option Cell) → AlikeCells (Some c) d →
    (let e : Cell = record { byte = byte_or_zero d; permissions = c.permissions } in Some e) ≡ d
some_alike c None h = absurd h
some_alike c (Some d) h = λ i. Some (record { byte = d.byte; permissions = h i })

cell_by : (o : Option Cell) (m : Memory) (n a : ℕ) (old : Option Cell) → a / page_bytes ≡ n → AlikeCells o (m a) →
    patched_cell (Some (entry_by o m n)) old a ≡ m a
unfolding entry_by permissions_at
cell_by None m n a old at alike = none_alike (m a) alike
cell_by (Some c) m n a old at alike =
    let place : n * page_bytes + a % page_bytes ≡ a = omega (arith, at) in
    let byte : patched_byte (entry_by (Some c) m n) old (a % page_bytes) ≡ byte_or_zero (m a) =
    byte_of_entry c m n (a % page_bytes) old (omega arith) ∙ ap (λ x. byte_or_zero (m x)) place in
    ap (mapped_as (Some c.permissions)) byte ∙ some_alike c (m a) alike

-- whatever the base had
pub cell_of_entry : (m : Memory) (a : ℕ) (old : Option Cell) → IsPaged m → patched_cell (Some (entry m (a / page_bytes))) old a ≡ m a
unfolding entry
cell_of_entry m a old h =
    let start : a / page_bytes * page_bytes / page_bytes ≡ a / page_bytes = omega arith in
    cell_by (m (a / page_bytes * page_bytes)) m (a / page_bytes) a old refl (h.paged (a / page_bytes * page_bytes) a start)

-- ---- pages in a row

-- count pages from the first
unfoldable pub entries_from : Memory → ℕ → ℕ → List PagePart
entries_from m first zero = []
entries_from m first (suc count) = entry m first ∷ entries_from m (suc first) count

pub length-entries_from : (m : Memory) (count first : ℕ) → length (entries_from m first count) ≡ count
unfolding entries_from
length-entries_from m zero first = refl
length-entries_from m (suc count) first = ap (λ n. suc n) (length-entries_from m count (suc first))

pub entries_append : (m : Memory) (a b first : ℕ) → entries_from m first (a + b) ≡ entries_from m first a ++ entries_from m (first + a) b
unfolding entries_from
entries_append m zero b first = let same : first ≡ first + 0 = omega arith in let none : 0 + b ≡ b =
    omega arith in rw none (ap (λ n. entries_from m n b) same)
entries_append m (suc a) b first =
    let more : suc a + b ≡ suc (a + b) = omega arith in
    let next : suc first + a ≡ first + suc a = omega arith in
    ap (entries_from m first) more
    ∙ ap (λ (ps : List PagePart). entry m first ∷ ps)
    (entries_append m a b (suc first) ∙ ap (λ n. entries_from m (suc first) a ++ entries_from m n b) next)

pub entry_among : (m : Memory) (count first q : ℕ) → first ≤ q → q < first + count →
    entry_of q (entries_from m first count) ≡ Some (entry m q)
unfolding entry_of entries_from entry entry_by
entry_among m zero first q from to = absurd (omega arith)
entry_among m (suc count) first q from to = elim (eqb_tells first q) [
  | inl w ↦ rw (number_of_entry m first, w.0) (ap (λ n. Some (entry m n)) w.1)
  | inr w ↦ rw (number_of_entry m first, w.0) (entry_among m count (suc first) q (omega (arith, w.1)) (omega arith))
]

pub entry_beyond : (m : Memory) (count first q : ℕ) → first + count ≤ q → entry_of q (entries_from m first count) ≡ None
unfolding entry_of entries_from
entry_beyond m zero first q past = refl
entry_beyond m (suc count) first q past = elim (eqb_tells first q) [
  | inl w ↦ absurd (omega (arith, w.1))
  | inr w ↦ rw (number_of_entry m first, w.0) (entry_beyond m count (suc first) q (omega arith))
]

-- the base with all pages as they are in m
pub patched_whole : (m base : Memory) (count : ℕ) → IsPaged m → ((a : ℕ) → count ≤ a / page_bytes → m a ≡ None) →
    ((a : ℕ) → count ≤ a / page_bytes → base a ≡ None) →
    patched (entries_from m 0 count) base ≡ m
patched_whole m base count h high base_high = λ i a. at a i where
  at : (a : ℕ) → patched_cell (entry_of (a / page_bytes) (entries_from m 0 count)) (base a) a ≡ m a
  at a = elim (cases_lt (a / page_bytes) count) [
    | inl w ↦ ap (λ (o : Option PagePart). patched_cell o (base a) a)
        (entry_among m count 0 (a / page_bytes) (omega arith) (omega (arith, w))) ∙ cell_of_entry m a (base a) h
    | inr w ↦ ap (λ (o : Option PagePart). patched_cell o (base a) a) (entry_beyond m count 0 (a / page_bytes) (omega (arith, w)))
        ∙ base_high a w ∙ sym (high a w)
  ]
