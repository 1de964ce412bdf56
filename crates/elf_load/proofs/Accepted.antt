-- What holds of the PT_LOADs of an accepted file, for those who load it.
use Rattle.std.proofs.Common.{◌≡◌, ℕ, zero, suc, ◌+◌, ◌%◌, ◌<◌, ◌≤◌, Bool, true, false, if◌then◌else◌, List, [], ◌∷◌, length, get_or, Option, Some, None, arith, refl, ap, ◌∙◌}
use Rattle.std.specs.Prelude.{not, ◌||◌, ◌==◌, nat_lt}
use Rattle.std.specs.List.{list_any}
use Rattle.std.proofs.lemmas.Bool.Decides.{nat_tests}
use Rattle.std.proofs.lemmas.Bool.{or_parts}
use Rattle.rrv_model.specs.Elf.{Header, refusal, headers, loads, is_interp, elf_class, elf_data, elf_type, elf_machine, elf_flags, bad_table, passes_file, crosses_sizes, leaves_range, share, any_share, touched_below, is_empty_load}
use Rattle.elf_load.specs.Refusals.{has_magic}
use Rattle.elf_load.proofs.Headers.{none_at}

-- the tests of the PT_LOADs, all passed
pub record Accepted (file : List ℕ) : Type 0 where
  pub within_file : list_any (passes_file file) (loads file) ≡ false
  pub sizes : list_any crosses_sizes (loads file) ≡ false
  pub in_range : list_any leaves_range (loads file) ≡ false
  pub apart : any_share (loads file) ≡ false
  pub within_limits : (nat_lt 2_097_152 (length file) || nat_lt 16_128 (touched_below 0x70000 (loads file))) ≡ false
  pub some_memory : list_any (λ h. not (is_empty_load h)) (loads file) ≡ true

-- a test that refuses nothing is false, and the others decide
passed : (b : Bool) (n : ℕ) (rest : Option ℕ) → (if b then Some n else rest) ≡ None → (b ≡ false) × (rest ≡ None)
passed true n rest none = let impossible : ⊥ = cc in absurd impossible
passed false n rest none = (refl, none)

not_false : (b : Bool) → not b ≡ false → b ≡ true
not_false true e = refl
not_false false e = let impossible : ⊥ = cc in absurd impossible

pub accepted : (file : List ℕ) → refusal file ≡ None → Accepted file
unfolding refusal
accepted file none =
    let short = passed (nat_lt (length file) 52) 1 _ none in
    let magic = passed (not (has_magic file)) 2 _ short.1 in
    let class = passed (not (elf_class file == 1)) 3 _ magic.1 in
    let order = passed (not (elf_data file == 1)) 4 _ class.1 in
    let kind = passed (not (elf_type file == 2)) 5 _ order.1 in
    let machine = passed (not (elf_machine file == 243)) 6 _ kind.1 in
    let compressed = passed (elf_flags file % 2 == 1) 7 _ machine.1 in
    let table = passed (bad_table file) 8 _ compressed.1 in
    let interp = passed (list_any is_interp (headers file)) 9 _ table.1 in
    let outside = passed (list_any (passes_file file) (loads file)) 10 _ interp.1 in
    let sizes = passed (list_any crosses_sizes (loads file)) 11 _ outside.1 in
    let range = passed (list_any leaves_range (loads file)) 12 _ sizes.1 in
    let overlap = passed (any_share (loads file)) 13 _ range.1 in
    let limits = passed (nat_lt 2_097_152 (length file) || nat_lt 16_128 (touched_below 0x70000 (loads file))) 14 _ overlap.1 in
    let memory = passed (not (list_any (λ h. not (is_empty_load h)) (loads file))) 15 _ limits.1 in
    record {
      within_file = outside.0;
      sizes = sizes.0;
      in_range = range.0;
      apart = overlap.0;
      within_limits = limits.0;
      some_memory = not_false (list_any (λ h. not (is_empty_load h)) (loads file)) memory.0;
    }

pub file_limit : (file : List ℕ) → Accepted file → length file ≤ 2_097_152
file_limit file a = at_most (length file) 2_097_152 _ a.within_limits where
  at_most : (n limit : ℕ) (b : Bool) → (nat_lt limit n || b) ≡ false → n ≤ limit
  at_most n limit b e = grind (arith, nat_tests)

pub page_limit : (file : List ℕ) → Accepted file → touched_below 0x70000 (loads file) ≤ 16_128
page_limit file a = at_most (touched_below 0x70000 (loads file)) 16_128 _ a.within_limits where
  at_most : (n limit : ℕ) (b : Bool) → (b || nat_lt limit n) ≡ false → n ≤ limit
  at_most n limit true e = let impossible : ⊥ = cc in absurd impossible
  at_most n limit false e = grind (arith, nat_tests)

-- a PT_LOAD of an accepted file
pub record IsGoodLoad (file : List ℕ) (h : Header) : Type 0 where
  pub within_file : 0 < h.file_len → h.offset + h.file_len ≤ length file
  pub sizes : h.file_len ≤ h.memory_len
  pub low : 0 < h.memory_len → 0x1000 ≤ h.address
  pub high : 0 < h.memory_len → h.address + h.memory_len ≤ 0x70000000

pub good_load : (file : List ℕ) (k : ℕ) (h : Header) → Accepted file → k < length (loads file) → h ≡ get_or (loads file) k h →
    IsGoodLoad file h
good_load file k h a low is =
    let file_test = none_at (passes_file file) (loads file) k h low is a.within_file in
    let size_test = none_at crosses_sizes (loads file) k h low is a.sizes in
    let range_test = none_at leaves_range (loads file) k h low is a.in_range in
    record {
      within_file = λ some. grind (arith, nat_tests);
      sizes = grind (arith, nat_tests);
      low = λ some. grind (arith, nat_tests);
      high = λ some. grind (arith, nat_tests);
    }

-- two PT_LOADs at different indexes share no byte
pub apart_at : (hs : List Header) (i j : ℕ) (g h : Header) → any_share hs ≡ false → i < j → j < length hs →
    g ≡ get_or hs i g → h ≡ get_or hs j h → share g h ≡ false
unfolding any_share
apart_at [] i j g h apart before low g_is h_is = absurd (omega arith)
apart_at (x ∷ xs) i zero g h apart before low g_is h_is = absurd (omega arith)
apart_at (x ∷ xs) zero (suc j) g h apart before low g_is h_is =
    let others = or_parts (list_any (share x) xs) (any_share xs) apart in
    ap (λ (f : Header). share f h) g_is ∙ none_at (share x) xs j h (omega arith) h_is others.0
apart_at (x ∷ xs) (suc i) (suc j) g h apart before low g_is h_is =
    let others = or_parts (list_any (share x) xs) (any_share xs) apart in
    apart_at xs i j g h others.1 (omega arith) (omega arith) g_is h_is
