-- What a file has that no test refuses.
use Rattle.std.proofs.Common.{◌≡◌, ℕ, ◌+◌, ◌%◌, ◌<◌, ◌≤◌, Bool, true, false, not, ◌||◌, ◌&&◌, ◌==◌, if◌then◌else◌, List, [], ◌∷◌, length, Option, Some, None, slice_index, arith, refl, sym, ◌∙◌}
use Rattle.std.specs.Prelude.{nat_lt}
use Rattle.std.specs.List.{list_any}
use Rattle.std.proofs.lemmas.Bool.{or_parts}
use Rattle.std.proofs.lemmas.Bool.Decides.{nat_tests}
use Rattle.rrv_model.specs.Elf.{Header, headers, loads, load_end, touches, touched_below, passes_file, crosses_sizes, leaves_range, any_share, refusal, elf_class, elf_data, elf_type, elf_machine, elf_flags, bad_table, is_interp, is_empty_load, IsLoad}
use Rattle.rrv_model.proofs.ImageParts.{AreLoads, IsAccepted}

-- ---- the tests of the loads

is_in_file : (file : List ℕ) (h : Header) → passes_file file h ≡ false → 0 < h.file_len → h.offset + h.file_len ≤ length file
is_in_file file h test some = grind (arith, nat_tests)

has_sizes : (h : Header) → crosses_sizes h ≡ false → h.file_len ≤ h.memory_len
has_sizes h test = grind (arith, nat_tests)

is_high : (h : Header) → leaves_range h ≡ false → 0 < h.memory_len → 0x1000 ≤ h.address
is_high h test some = grind (arith, nat_tests)

is_low : (h : Header) → leaves_range h ≡ false → 0 < h.memory_len → load_end h ≤ 0x70000000
is_low h test some = grind (arith, nat_tests)

are_loads : (file : List ℕ) (hs : List Header) → list_any (passes_file file) hs ≡ false → list_any crosses_sizes hs ≡ false →
    list_any leaves_range hs ≡ false → AreLoads file hs
are_loads file [] passes crosses leaves = tt
are_loads file (h ∷ hs) passes crosses leaves =
    let passes_here = (or_parts (passes_file file h) (list_any (passes_file file) hs) passes).0 in
    let crosses_here = (or_parts (crosses_sizes h) (list_any crosses_sizes hs) crosses).0 in
    let leaves_here = (or_parts (leaves_range h) (list_any leaves_range hs) leaves).0 in
    let load : IsLoad file h = record {
      in_file = is_in_file file h passes_here;
      sizes = has_sizes h crosses_here;
      low = is_high h leaves_here;
      high = is_low h leaves_here;
    } in (
      load,
      are_loads file hs
          ((or_parts (passes_file file h) (list_any (passes_file file) hs) passes).1)
          ((or_parts (crosses_sizes h) (list_any crosses_sizes hs) crosses).1)
          ((or_parts (leaves_range h) (list_any leaves_range hs) leaves).1),
    )

-- a page that a load touches
touched_low : (file : List ℕ) (h : Header) (p : ℕ) → IsLoad file h → touches p h ≡ true → (1 ≤ p) × (p < 0x70000)
touched_low file h p good t =
    let some : 0 < h.memory_len = grind (arith, nat_tests) in
    let low = good.low some in
    let high = good.high some in
    (grind (arith, nat_tests), grind (arith, nat_tests))

one_of {ℓ} : {A : Type ℓ} (a b : Bool) → (a || b) ≡ true → (a ≡ true → A) → (b ≡ true → A) → A
one_of true b e f g = f refl
one_of false b e f g = g e

pub touched_within : (file : List ℕ) (hs : List Header) (p : ℕ) → AreLoads file hs → list_any (touches p) hs ≡ true → (1 ≤ p) ×
    (p < 0x70000)
touched_within file [] p good t = cc
touched_within file (h ∷ hs) p good t =
    one_of (touches p h) (list_any (touches p) hs) t (touched_low file h p good.0) (touched_within file hs p good.1)

untouched_of : (b : Bool) → (b ≡ true → ⊥) → b ≡ false
untouched_of true h = absurd (h refl)
untouched_of false h = refl

-- a page outside is not touched
pub untouched : (file : List ℕ) (hs : List Header) (p : ℕ) → AreLoads file hs → (1 ≤ p → p < 0x70000 → ⊥) → list_any (touches p) hs ≡ false
untouched file hs p good outside = untouched_of (list_any (touches p) hs) (λ t. let w = touched_within file hs p good t in outside w.0 w.1)

-- ---- the chain of refusals

at_most : (limit n : ℕ) → nat_lt limit n ≡ false → n ≤ limit
at_most limit n test = grind (arith, nat_tests)

at_least : (limit n : ℕ) → nat_lt n limit ≡ false → limit ≤ n
at_least limit n test = grind (arith, nat_tests)

is_true : (b : Bool) → not b ≡ false → b ≡ true
is_true true e = refl
is_true false e = cc

-- the number of the first test that is true
abbrev first_true : List Bool → ℕ → Option ℕ
first_true [] n = None
first_true (t ∷ ts) n = if t then Some n else first_true ts (n + 1)

abbrev AllFalse : List Bool → Type 0
AllFalse [] = Unit {0}
AllFalse (t ∷ ts) = (t ≡ false) × AllFalse ts

none_true : (ts : List Bool) (n : ℕ) → first_true ts n ≡ None → AllFalse ts
none_true [] n none = tt
none_true (true ∷ ts) n none = cc
none_true (false ∷ ts) n none = (refl, none_true ts (n + 1) none)

-- the tests in the order of the refusals
abbrev refusal_tests : List ℕ → List Bool
refusal_tests file =
    nat_lt (length file) 52
    ∷ not (slice_index file 0 == 0x7F && (slice_index file 1 == 0x45 && (slice_index file 2 == 0x4C && slice_index file 3 == 0x46)))
    ∷ not (elf_class file == 1)
    ∷ not (elf_data file == 1)
    ∷ not (elf_type file == 2)
    ∷ not (elf_machine file == 243)
    ∷ (elf_flags file % 2 == 1)
    ∷ bad_table file
    ∷ list_any is_interp (headers file)
    ∷ list_any (passes_file file) (loads file)
    ∷ list_any crosses_sizes (loads file)
    ∷ list_any leaves_range (loads file)
    ∷ any_share (loads file)
    ∷ (nat_lt 2_097_152 (length file) || nat_lt 16_128 (touched_below 0x70000 (loads file)))
    ∷ not (list_any (λ h. not (is_empty_load h)) (loads file))
    ∷ []

by_tests : (file : List ℕ) → refusal file ≡ first_true (refusal_tests file) 1
unfolding refusal
by_tests file = refl

pub is_accepted : (file : List ℕ) → refusal file ≡ None → IsAccepted file
is_accepted file none =
    let all : AllFalse (refusal_tests file) = none_true (refusal_tests file) 1 (sym (by_tests file) ∙ none) in
    let from10 = all.1.1.1.1.1.1.1.1.1 in
    let limits = from10.1.1.1.1.0 in
    record {
      long = at_least 52 (length file) all.0;
      short = at_most 2_097_152 (length file)
          ((or_parts (nat_lt 2_097_152 (length file)) (nat_lt 16_128 (touched_below 0x70000 (loads file))) limits).0);
      good = are_loads file (loads file) from10.0 from10.1.0 from10.1.1.0;
      pages = at_most 16_128 (touched_below 0x70000 (loads file))
          ((or_parts (nat_lt 2_097_152 (length file)) (nat_lt 16_128 (touched_below 0x70000 (loads file))) limits).1);
      fills = is_true (list_any (λ h. not (is_empty_load h)) (loads file)) from10.1.1.1.1.1.0;
    }
