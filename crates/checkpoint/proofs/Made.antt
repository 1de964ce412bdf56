-- Pages as they changed: their masks, their lines, and what they say.
use Rattle.std.proofs.Common.{◌≡◌, ◌∙◌, inl, inr, ℕ, zero, suc, ◌+◌, ◌*◌, ◌/◌, ◌%◌, ◌^◌, ◌<◌, ◌≤◌, false, count_ones, get_or, List, [], ◌∷◌, ◌++◌, length, length-append, Option, Some, None, IsSomeAnd, is_some, ap, refl, sym, subst, arith}
use Rattle.std.specs.Prelude.{slice_index}
use Rattle.std.proofs.lemmas.Bool.{cases_lt, false≢true}
use Rattle.std.proofs.lemmas.Bool.Decides.{eqb_tells}
use Rattle.std.proofs.lemmas.Nat.Bits.{bit_at-lt}
use Rattle.std.specs.Int.{bit_at}
use Rattle.std.specs.List.{AllByRecursion}
use Rattle.rrv_model.specs.declared.record.Line.{Line}
use Rattle.rrv_model.specs.declared.record.PagePart.{PagePart}
use Rattle.rrv_model.specs.Checkpoint.{mapped_as, patched_byte}
use Rattle.rrv_model.specs.LineMask.{DifferInLine, IsLineMask, line_byte, merged_byte}
use Rattle.rrv_model.specs.Memory.{Memory, Cell, IsMemory, byte_or_zero, is_mapped, page_bytes}
use Rattle.rrv_model.specs.RecordText.{HasLineText}
use Rattle.outcomes.proofs.Lists.{AllByRecursion-push}
use Rattle.guest_pages.specs.Snapshots.{DifferOn, IsNextPage, IsPageOf}
use Rattle.guest_pages.specs.Space.{SpaceValue, memory_of, snapshots_of}
use Rattle.guest_pages.specs.declared.page.PageView.{PageView}
use Rattle.lane_pages.proofs.Masks.{all_ones, line_byte_is, merged_clear, merged_set, ones_before, ones_more}
use Rattle.std.proofs.Math.Nat.{mod-one}
use lib.Count.{ones-ones}
use Rattle.checkpoint.specs.Made.{AreLinesOf, IsLineOf, IsMade, IsMaskBy, bytes_of, memory_or_none, page_byte, permissions_by}

-- ---- what is read of a space, and of its snapshot

kept_is : (o : Option Memory) (P : Memory → Type 0) → IsSomeAnd o P → P (memory_or_none o)
kept_is None P h = absurd h
kept_is (Some m) P h = h

pub page_here : (s space : SpaceValue) (n : ℕ) (o p : Option PageView) → s ≡ space → o ≡ p → IsPageOf (memory_of s) n o →
    IsPageOf (memory_of space) n p
page_here s space n o p same is h = subst (λ (t : SpaceValue). IsPageOf (memory_of t) n p) same (subst (IsPageOf (memory_of s) n) is h)

-- what holds of the memory that is kept under a token
pub of_kept : (s space : SpaceValue) (token : ℕ) (P : Memory → Type 0) → s ≡ space → IsSomeAnd (snapshots_of s token) P →
    P (memory_or_none (snapshots_of space token))
of_kept s space token P same h =
    kept_is (snapshots_of space token) P (subst (λ (t : SpaceValue). IsSomeAnd (snapshots_of t token) P) same h)

-- ---- lines of a mask

at_front : (xs : List Line) (x : Line) (n : ℕ) → n < length xs → get_or (xs ++ x ∷ []) n x ≡ get_or xs n x
at_front [] x n low = absurd (omega arith)
at_front (y ∷ xs) x zero low = refl
at_front (y ∷ xs) x (suc n) low = at_front xs x n (omega (arith, low))

at_end : (xs : List Line) (x : Line) → get_or (xs ++ x ∷ []) (length xs) x ≡ x
at_end [] x = refl
at_end (y ∷ xs) x = at_end xs x

-- the lines of the bits below this one
pub record AreLinesBelow (bytes : List ℕ) (mask line : ℕ) (lines : List Line) : Type 0 where
  pub count : length lines ≡ count_ones (mask % 2 ^ line)
  pub each : (i k : ℕ) → i < line → k < 64 → bit_at mask i ≡ 1 → line_byte mask lines i k ≡ slice_index bytes (64 * i + k)
  pub texts : AllByRecursion HasLineText lines

pub no_lines : (bytes : List ℕ) (mask : ℕ) (lines : List Line) → lines ≡ [] → AreLinesBelow bytes mask 0 lines
no_lines bytes mask lines none = record {
  count = ap (λ (ls : List Line). length ls) none ∙ sym (ap count_ones (mod-one mask) ∙ ones-ones 0);
  each = λ i k low below set. absurd (omega (arith, low));
  texts = subst (AllByRecursion HasLineText) (sym none) tt;
}

pub line_more : (bytes : List ℕ) (mask line : ℕ) (lines : List Line) (l : Line) → AreLinesBelow bytes mask line lines →
    bit_at mask line ≡ 1 → IsLineOf bytes line l → HasLineText l →
    AreLinesBelow bytes mask (line + 1) (lines ++ l ∷ [])
line_more bytes mask line lines l h set is text =
    let long = length-append lines (l ∷ []) in
    record {
      count = omega (arith, ones_more mask line, h.count, set, long);
      each = λ i k low below bit. elim (cases_lt i line) [
        | inl before ↦
            let n = count_ones (mask % 2 ^ i) in
            let within : n < length lines = omega (arith, ones_before mask i line before bit, h.count) in
            let within_all : n < length (lines ++ l ∷ []) = omega (arith, within, long) in
            sym (line_byte_is mask (lines ++ l ∷ []) i k n l refl within_all)
            ∙ ap (λ (x : Line). slice_index x.bytes k) (at_front lines l n within)
            ∙ line_byte_is mask lines i k n l refl within ∙ h.each i k before below bit
        | inr after ↦
            let same : line ≡ i = omega (arith, low, after) in
            let within_all : length lines < length (lines ++ l ∷ []) = omega (arith, long) in
            let here : length lines ≡ count_ones (mask % 2 ^ i) = h.count ∙ ap (λ n. count_ones (mask % 2 ^ n)) same in
            sym (line_byte_is mask (lines ++ l ∷ []) i k (length lines) l here within_all)
            ∙ ap (λ (x : Line). slice_index x.bytes k) (at_end lines l)
            ∙ is k below ∙ ap (λ n. slice_index bytes (64 * n + k)) same
      ];
      texts = AllByRecursion-push HasLineText lines l h.texts text;
    }

pub line_skipped : (bytes : List ℕ) (mask line : ℕ) (lines : List Line) → AreLinesBelow bytes mask line lines → (bit_at mask line ≡ 1 → ⊥) →
    AreLinesBelow bytes mask (line + 1) lines
line_skipped bytes mask line lines h clear = record {
  count = elim (cases_lt (bit_at mask line) 1) [
    | inl l ↦ omega (arith, ones_more mask line, h.count, l)
    | inr g ↦ let set : bit_at mask line ≡ 1 = omega (arith, g, bit_at-lt mask line) in absurd (clear set)
  ];
  each = λ i k low below bit. elim (cases_lt i line) [
    | inl before ↦ h.each i k before below bit
    | inr after ↦ let same : i ≡ line = omega (arith, low, after) in absurd (clear (ap (bit_at mask) (sym same) ∙ bit))
  ];
  texts = h.texts;
}

pub all_lines : (bytes : List ℕ) (mask : ℕ) (lines : List Line) → mask < 2 ^ 64 → AreLinesBelow bytes mask 64 lines →
    AreLinesOf bytes mask lines
all_lines bytes mask lines fits h = record { count = h.count ∙ all_ones mask fits; each = h.each }

-- ---- a mask by other bytes that are the same

pub mask_by : (a b c d : ℕ → ℕ) (mask : ℕ) → ((k : ℕ) → k < 4096 → c k ≡ a k) → ((k : ℕ) → k < 4096 → d k ≡ b k) → IsLineMask a b mask →
    IsLineMask c d mask
mask_by a b c d mask first second is = record {
  bits = is.bits;
  set = λ i low. (
    λ e. let found = (is.set i low).0 e in (
      found.0,
      found.1,
      λ same. found.2
          (sym (first (64 * i + found.0) (omega (arith, low, found.1))) ∙ same
          ∙ second (64 * i + found.0) (omega (arith, low, found.1))),
    ),
    λ found. (is.set i low).1 (
      found.0,
      found.1,
      λ same. found.2
          (first (64 * i + found.0) (omega (arith, low, found.1)) ∙ same
          ∙ sym (second (64 * i + found.0) (omega (arith, low, found.1)))),
    ),
  );
}

-- where no bit is set for its line, a byte is the same
same_where_clear : (a b : ℕ → ℕ) (mask k : ℕ) → IsLineMask a b mask → k < 4096 → bit_at mask (k / 64) ≡ 0 → b k ≡ a k
same_where_clear a b mask k is low clear = elim (eqb_tells (b k) (a k)) [
  | inl w ↦ w.1
  | inr w ↦
      let place : 64 * (k / 64) + k % 64 ≡ k = omega arith in
      let differ : DifferInLine a b (k / 64) = (k % 64, omega arith, λ same. w.1 (ap b (sym place) ∙ sym same ∙ ap a place)) in
      let set : bit_at mask (k / 64) ≡ 1 = (is.set (k / 64) (omega (arith, low))).1 differ in
      absurd (omega (arith, clear, set))
]

-- so the lines, put onto the base's bytes, give the page's
merged_is : (bytes : List ℕ) (b : ℕ → ℕ) (mask : ℕ) (lines : List Line) (k : ℕ) → IsLineMask (slice_index bytes) b mask →
    AreLinesOf bytes mask lines → k < 4096 →
    merged_byte mask lines (b k) k ≡ slice_index bytes k
merged_is bytes b mask lines k is are low = elim (cases_lt (bit_at mask (k / 64)) 1) [
  | inl l ↦
      let clear : bit_at mask (k / 64) ≡ 0 = omega (arith, l) in
      merged_clear mask lines (b k) k clear ∙ same_where_clear (slice_index bytes) b mask k is low clear
  | inr g ↦
      let set : bit_at mask (k / 64) ≡ 1 = omega (arith, g, bit_at-lt mask (k / 64)) in
      let place : 64 * (k / 64) + k % 64 ≡ k = omega arith in
      merged_set mask lines (b k) k set ∙ are.each (k / 64) (k % 64) (omega (arith, low)) (omega arith) set ∙ ap (slice_index bytes) place
]

-- ---- a page

old_byte : (before : Memory) (n k : ℕ) (old : Option PageView) → IsPageOf before n old → k < 4096 → page_byte before n k ≡ bytes_of old k
old_byte before n k None page low = ap byte_or_zero (page k low)
old_byte before n k (Some v) page low = ap byte_or_zero (page k low)

first_cell : (m : Memory) (n : ℕ) → m (n * page_bytes) ≡ m (n * page_bytes + 0)
first_cell m n = let start : n * page_bytes ≡ n * page_bytes + 0 = omega arith in ap m start

pub made_mapped : (before m : Memory) (n : ℕ) (v : PageView) (old : Option PageView) (mask : ℕ) (lines : List Line) → n < 0x80000 →
    IsPageOf m n (Some v) → IsPageOf before n old →
    IsLineMask (slice_index v.bytes.now) (bytes_of old) mask → AreLinesOf v.bytes.now mask lines → AllByRecursion HasLineText lines →
    IsMade before m (record { number = n; permissions = Some v.permissions; mask = mask; lines = lines })
made_mapped before m n v old mask lines low page was is are texts =
    let p : PagePart = record { number = n; permissions = Some v.permissions; mask = mask; lines = lines } in
    let bytes = v.bytes.now in
    let c : Cell = record { byte = slice_index bytes 0; permissions = v.permissions } in
    let first : m (n * page_bytes) ≡ Some c = first_cell m n ∙ page 0 (omega arith) in
    let here : IsLineMask (page_byte m n) (page_byte before n) mask =
    mask_by (slice_index bytes) (bytes_of old) (page_byte m n) (page_byte before n) mask (λ k small. ap byte_or_zero (page k small))
    (λ k small. old_byte before n k old was small) is in
    let against : IsLineMask (slice_index bytes) (page_byte before n) mask =
    mask_by (slice_index bytes) (bytes_of old) (slice_index bytes) (page_byte before n) mask (λ k small. refl)
    (λ k small. old_byte before n k old was small) is in
    record {
      text = record { number = low; mask = is.bits; unmapped = λ none. absurd cc; lines = are.count; each = texts };
      change = record {
        permissions = sym (ap permissions_by first);
        mask = subst (λ o. IsMaskBy o before m p) (sym first) here;
      };
      says = λ a at.
          let place : n * 4096 + a % 4096 ≡ a = omega (arith, at) in
          let byte : patched_byte p (before a) (a % 4096) ≡ slice_index bytes (a % 4096) =
          ap (λ x. merged_byte mask lines (byte_or_zero (before x)) (a % 4096)) (sym place)
          ∙ merged_is bytes (page_byte before n) mask lines (a % 4096) against are (omega arith) in
          ap (mapped_as (Some v.permissions)) byte ∙ sym (page (a % 4096) (omega arith)) ∙ ap m place;
    }

pub made_unmapped : (before m : Memory) (n : ℕ) (lines : List Line) → n < 0x80000 → IsPageOf m n None → lines ≡ [] →
    IsMade before m (record { number = n; permissions = None; mask = 0; lines = lines })
made_unmapped before m n lines low page none =
    let p : PagePart = record { number = n; permissions = None; mask = 0; lines = lines } in
    let first : m (n * page_bytes) ≡ None = first_cell m n ∙ page 0 (omega arith) in
    record {
      text = record {
        number = low;
        mask = omega arith;
        unmapped = λ e. refl;
        lines = ap (λ (ls : List Line). length ls) none ∙ sym (ones-ones 0);
        each = subst (AllByRecursion HasLineText) (sym none) tt;
      };
      change = record { permissions = sym (ap permissions_by first); mask = subst (λ o. IsMaskBy o before m p) (sym first) refl };
      says = λ a at. let place : n * 4096 + a % 4096 ≡ a = omega (arith, at) in sym (page (a % 4096) (omega arith)) ∙ ap m place;
    }

-- ---- a page that differs is one that a guest may have

none_from : (before : Memory) (next : Option ℕ) (n : ℕ) → IsNextPage before 0x80000 next → 0x80000 ≤ n → is_mapped before n ≡ false
none_from before None n h high = h n high
none_from before (Some q) n h high = absurd (omega (arith, h.0, h.1))

no_cell : (before : Memory) (n k : ℕ) (old : Option PageView) → IsPageOf before n old → is_mapped before n ≡ false → k < 4096 →
    before (n * page_bytes + k) ≡ None
no_cell before n k None page out low = page k low
no_cell before n k (Some v) page out low = absurd (false≢true (sym out ∙ ap is_some (first_cell before n ∙ page 0 (omega arith))))

pub low_page : (before m : Memory) (n : ℕ) (old : Option PageView) (next : Option ℕ) → IsMemory m → IsPageOf before n old →
    IsNextPage before 0x80000 next → DifferOn n before m → n < 0x80000
low_page before m n old next is page is_next differ = elim (cases_lt n 0x80000) [
  | inl l ↦ l
  | inr g ↦
      let a = differ.0 in
      let place : n * 4096 + a % 4096 ≡ a = omega (arith, differ.1) in
      let was : before a ≡ None =
      ap before (sym place) ∙ no_cell before n (a % 4096) old page (none_from before next n is_next g) (omega arith) in
      absurd (differ.2 (was ∙ sym (is.pages.high a (omega (arith, g, differ.1)))))
]
