-- A mask that gets a bit for each line, and the lines before one.
use Rattle.std.proofs.Common.{◌≡◌, ◌≢◌, ◌↔◌, ℕ, zero, suc, ◌+◌, ◌*◌, ◌/◌, ◌%◌, ◌^◌, ◌<◌, ◌≤◌, ◌==◌, true, false, cond, count_ones, bit_or, List, Some, length, get_or, mod-lt, inl, inr, refl, sym, ap, ◌∙◌, subst, arith, w64}
use Rattle.std.specs.Int.{bit_at}
use Rattle.std.proofs.Math.Nat.{mod-eq_of_lt}
use Rattle.std.proofs.lemmas.Bool.{cases_lt}
use Rattle.std.proofs.lemmas.Nat.{mod-pow-add, pow_pos}
use Rattle.std.proofs.lemmas.Nat.Bits.{bit_at-lt, bit_at_set_other, bit_at_set_same}
use Rattle.std.proofs.lemmas.Option.{slice_get-get_or}
use Rattle.std.specs.Prelude.{slice_get, slice_index}
use lib.Count.{ones-ones, ones_cat}
use Rattle.rrv_model.specs.LineMask.{DifferInLine, line_byte, merged_byte}
use Rattle.rrv_model.specs.declared.record.Line.{Line}
use Rattle.lane_pages.specs.Lines.{Differ}

-- ---- which lines differ

-- the bits below a line say which lines differ, and those from it on are not set
abbrev pub IsMaskBelow : (ℕ → ℕ) → (ℕ → ℕ) → ℕ → ℕ → Type 0
IsMaskBelow a b line mask =
    ((i : ℕ) → i < line → (bit_at mask i ≡ 1) ↔ DifferInLine a b i) × ((i : ℕ) → line ≤ i → bit_at mask i ≡ 0)

below_or_at : (i line : ℕ) → (P : ℕ → Type 0) → i < line + 1 → (i < line → P i) → P line → P i
below_or_at i line P low before here = elim (cases_lt i line) [
  | inl l ↦ before l
  | inr g ↦ let same : line ≡ i = omega (arith, low, g) in subst P same here
]

pub with_bit : (a b : ℕ → ℕ) (line mask : ℕ) → line < 64 → IsMaskBelow a b line mask → DifferInLine a b line →
    IsMaskBelow a b (line + 1) (bit_or mask (1 * 2 ^ line % 2 ^ 64))
with_bit a b line mask low h apart =
    let other = bit_at_set_other w64 mask line low in
    let more = bit_or mask (1 * 2 ^ line % 2 ^ 64) in (
      λ i below. below_or_at i line (λ i. (bit_at more i ≡ 1) ↔ DifferInLine a b i) below
          (λ l. subst (λ n. (n ≡ 1) ↔ DifferInLine a b i) (sym (other i (λ e. absurd (omega (arith, e, l))))) (h.0 i l))
          (λ _. apart, λ _. bit_at_set_same w64 mask line low),
      λ i above. other i (λ e. absurd (omega (arith, e, above))) ∙ h.1 i (omega (arith, above)),
    )

pub without_bit : (a b : ℕ → ℕ) (line mask : ℕ) → IsMaskBelow a b line mask → (DifferInLine a b line → ⊥) → IsMaskBelow a b (line + 1) mask
without_bit a b line mask h alike = (
  λ i below. below_or_at i line (λ i. (bit_at mask i ≡ 1) ↔ DifferInLine a b i) below (λ l. h.0 i l)
      (λ e. absurd (omega (arith, e, h.1 line (omega arith))), λ d. absurd (alike d)),
  λ i above. h.1 i (omega (arith, above)),
)

-- so of two lines that were read from the pages
abbrev IsLineAt : (ℕ → ℕ) → ℕ → List ℕ → Type 0
IsLineAt a line bytes = (k : ℕ) → k < 64 → slice_index bytes k ≡ a (64 * line + k)

pub differ_in_line : (a b : ℕ → ℕ) (line : ℕ) (xs ys : List ℕ) → IsLineAt a line xs → IsLineAt b line ys →
    Differ xs ys ↔ DifferInLine a b line
differ_in_line a b line xs ys ours theirs = (
  λ d. (d.0, d.1, λ e. d.2 (ours d.0 d.1 ∙ e ∙ sym (theirs d.0 d.1))),
  λ d. (d.0, d.1, λ e. d.2 (sym (ours d.0 d.1) ∙ e ∙ theirs d.0 d.1)),
)

-- ---- the lines before one

ones_of_bit : (b : ℕ) → b < 2 → count_ones b ≡ b
ones_of_bit b low = elim (cases_lt b 1) [
  | inl l ↦ let none : 0 ≡ b = omega (arith, l) in subst (λ n. count_ones n ≡ n) none (ones-ones 0)
  | inr g ↦ let one : 1 ≡ b = omega (arith, low, g) in subst (λ n. count_ones n ≡ n) one (ones-ones 1)
]

pub ones_more : (mask i : ℕ) → count_ones (mask % 2 ^ (i + 1)) ≡ bit_at mask i + count_ones (mask % 2 ^ i)
ones_more mask i =
    let swap : i + 1 ≡ 1 + i = omega arith in
    let some : mask % 2 ^ i < 2 ^ i = mod-lt mask (pow_pos i) in
    ap (λ n. count_ones (mask % 2 ^ n)) swap ∙ ap count_ones (mod-pow-add mask 1 i) ∙ ones_cat i (bit_at mask i) (mask % 2 ^ i) some
    ∙ ap (λ n. n + count_ones (mask % 2 ^ i)) (ones_of_bit (bit_at mask i) (bit_at-lt mask i))

-- more lines lie before a later one
pub ones_before : (mask i j : ℕ) → i < j → bit_at mask i ≡ 1 → count_ones (mask % 2 ^ i) < count_ones (mask % 2 ^ j)
ones_before mask i zero low set = absurd (omega arith)
ones_before mask i (suc j) low set =
    let more : count_ones (mask % 2 ^ suc j) ≡ bit_at mask j + count_ones (mask % 2 ^ j) =
    (let next : suc j ≡ j + 1 = omega arith in ap (λ n. count_ones (mask % 2 ^ n)) next ∙ ones_more mask j) in
    elim (cases_lt i j) [
      | inl l ↦ omega (arith, more, ones_before mask i j l set)
      | inr g ↦
          let same : i ≡ j = omega (arith, low, g) in
          let here : bit_at mask j ≡ 1 = subst (λ n. bit_at mask n ≡ 1) same set in
          let ones : count_ones (mask % 2 ^ i) ≡ count_ones (mask % 2 ^ j) = ap (λ n. count_ones (mask % 2 ^ n)) same in
          omega (arith, more, here, ones)
    ]

-- of a mask of 64 bits
pub all_ones : (mask : ℕ) → mask < 2 ^ 64 → count_ones (mask % 2 ^ 64) ≡ count_ones mask
all_ones mask fits = ap count_ones (mod-eq_of_lt fits)

-- there is a line for a bit that is set
pub line_has : (mask i : ℕ) → mask < 2 ^ 64 → i < 64 → bit_at mask i ≡ 1 → count_ones (mask % 2 ^ i) < count_ones mask
line_has mask i fits low set = omega (arith, ones_before mask i 64 low set, all_ones mask fits)

-- ---- lines that are replaced

pub line_byte_is : (mask : ℕ) (lines : List Line) (i k next : ℕ) (other : Line) → next ≡ count_ones (mask % 2 ^ i) → next < length lines →
    slice_index (get_or lines next other).bytes k ≡ line_byte mask lines i k
line_byte_is mask lines i k next other is low =
    let e : slice_get lines (count_ones (mask % 2 ^ i)) ≡ Some (get_or lines next other) =
    ap (slice_get lines) (sym is) ∙ slice_get-get_or lines next other low in
    rw e refl

pub merged_set : (mask : ℕ) (lines : List Line) (old k : ℕ) → bit_at mask (k / 64) ≡ 1 →
    merged_byte mask lines old k ≡ line_byte mask lines (k / 64) (k % 64)
merged_set mask lines old k set =
    let test : (bit_at mask (k / 64) == 1) ≡ true = (let e : bit_at mask (k / 64) ≡ 1 = set in rw e refl) in
    ap (λ b. cond b (line_byte mask lines (k / 64) (k % 64)) old) test

pub merged_clear : (mask : ℕ) (lines : List Line) (old k : ℕ) → bit_at mask (k / 64) ≡ 0 → merged_byte mask lines old k ≡ old
merged_clear mask lines old k clear =
    let test : (bit_at mask (k / 64) == 1) ≡ false = (let e : bit_at mask (k / 64) ≡ 0 = clear in rw e refl) in
    ap (λ b. cond b (line_byte mask lines (k / 64) (k % 64)) old) test

-- the lines below this one are merged, and the others are as they were
pub record IsMergedBelow (old : ℕ → ℕ) (mask : ℕ) (lines : List Line) (line : ℕ) (new : ℕ → ℕ) (next : ℕ) : Type 0 where
  pub count : next ≡ count_ones (mask % 2 ^ line)
  pub done : (k : ℕ) → k < 64 * line → new k ≡ merged_byte mask lines (old k) k
  pub rest : (k : ℕ) → 64 * line ≤ k → new k ≡ old k

pub merge_line : (old new more : ℕ → ℕ) (mask : ℕ) (lines : List Line) (line next : ℕ) (other : Line) →
    IsMergedBelow old mask lines line new next → bit_at mask line ≡ 1 →
    next < length lines →
    ((k : ℕ) → k < 64 * line → more k ≡ new k) → ((k : ℕ) → k < 64 → more (64 * line + k) ≡ slice_index (get_or lines next other).bytes k) →
    ((k : ℕ) → 64 * line + 64 ≤ k → more k ≡ new k) →
    IsMergedBelow old mask lines (line + 1) more (next + 1)
merge_line old new more mask lines line next other h set low before within after = record {
  count = omega (arith, ones_more mask line, set, h.count);
  done = λ k below. elim (cases_lt k (64 * line)) [
    | inl l ↦ before k l ∙ h.done k l
    | inr g ↦
        let place : 64 * line + k % 64 ≡ k = omega (arith, below, g) in
        let its : line ≡ k / 64 = omega (arith, below, g) in
        let within_line : k % 64 < 64 = omega arith in
        ap more (sym place) ∙ within (k % 64) within_line ∙ line_byte_is mask lines line (k % 64) next other h.count low
        ∙ ap (λ i. line_byte mask lines i (k % 64)) its ∙ sym (merged_set mask lines (old k) k (ap (bit_at mask) (sym its) ∙ set))
  ];
  rest = λ k above. after k (omega (arith, above)) ∙ h.rest k (omega (arith, above));
}

pub leave_line : (old new : ℕ → ℕ) (mask : ℕ) (lines : List Line) (line next : ℕ) → IsMergedBelow old mask lines line new next →
    bit_at mask line ≢ 1 →
    IsMergedBelow old mask lines (line + 1) new next
leave_line old new mask lines line next h clear =
    let none : bit_at mask line ≡ 0 = zero_or_one (bit_at mask line) (bit_at-lt mask line) clear in
    record {
      count = omega (arith, ones_more mask line, none, h.count);
      done = λ k below. elim (cases_lt k (64 * line)) [
        | inl l ↦ h.done k l
        | inr g ↦
            let its : line ≡ k / 64 = omega (arith, below, g) in
            h.rest k g ∙ sym (merged_clear mask lines (old k) k (ap (bit_at mask) (sym its) ∙ none))
      ];
      rest = λ k above. h.rest k (omega (arith, above));
    }
  where
    zero_or_one : (b : ℕ) → b < 2 → b ≢ 1 → b ≡ 0
    zero_or_one b low not = elim (cases_lt b 1) [
      | inl l ↦ omega (arith, l)
      | inr g ↦ let one : b ≡ 1 = omega (arith, low, g) in absurd (not one)
    ]
