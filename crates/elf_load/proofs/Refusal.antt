-- The lowest refusal of a file, from those of its parts.
use Rattle.std.proofs.Common.{◌≡◌, ℕ, zero, suc, ◌+◌, ◌%◌, Bool, true, false, cond, if◌then◌else◌, List, [], ◌∷◌, length, Option, Some, None, ◌<◌, ◌≤◌, arith, refl, ap, sym, ◌∙◌}
use Rattle.std.specs.Prelude.{not, ◌||◌, ◌==◌, nat_lt}
use Rattle.std.specs.List.{list_any}
use Rattle.std.specs.Option.{option_or}
use Rattle.std.proofs.lemmas.Bool.Decides.{nat_tests}
use Rattle.elf_load.proofs.SharedBytes.{empty_shares_none}
use Rattle.std.proofs.lemmas.Bool.{or_parts}
use Rattle.elf_load.proofs.Pages.{empty_touches}
use Rattle.rrv_model.specs.Elf.{Header, refusal, headers, loads, is_interp, elf_class, elf_data, elf_type, elf_machine, elf_flags, bad_table, passes_file, crosses_sizes, leaves_range, any_share, touches, touched_below}
use Rattle.elf_load.specs.Refusals.{has_magic, has_memory, header_refusal, load_refusal, limit_refusal, IsPastRefusal}

-- a test more before two parts
first : (b : Bool) (n : ℕ) (whole part rest : Option ℕ) → whole ≡ option_or part rest →
    (if b then Some n else whole) ≡ option_or (if b then Some n else part) rest
first true n whole part rest is = refl
first false n whole part rest is = is

-- 10 to 12, and then 13 to 15
behind_interp : List ℕ → Option ℕ
behind_interp file = option_or (load_refusal file) (limit_refusal file)

behind_header : List ℕ → Option ℕ
behind_header file = if list_any is_interp (headers file) then Some 9 else behind_interp file

refusal-parts : (file : List ℕ) → refusal file ≡ option_or (header_refusal file) (behind_header file)
unfolding refusal header_refusal load_refusal limit_refusal behind_header behind_interp
refusal-parts file =
    first (nat_lt (length file) 52) 1 _ _ _
    (first (not (has_magic file)) 2 _ _ _
    (first (not (elf_class file == 1)) 3 _ _ _
    (first (not (elf_data file == 1)) 4 _ _ _
    (first (not (elf_type file == 2)) 5 _ _ _
    (first (not (elf_machine file == 243)) 6 _ _ _
    (first (elf_flags file % 2 == 1) 7 _ _ _
    (first (bad_table file) 8 _ _ _
    (ap (λ (o : Option ℕ). if list_any is_interp (headers file) then Some 9 else o)
    (first (list_any (passes_file file) (loads file)) 10 _ _ _
    (first (list_any crosses_sizes (loads file)) 11 _ _ _
    (first (list_any leaves_range (loads file)) 12 _ _ _ refl)))))))))))

pub refused_by_header : (file : List ℕ) (n : ℕ) → header_refusal file ≡ Some n → refusal file ≡ Some n
refused_by_header file n header = refusal-parts file ∙ ap (λ (o : Option ℕ). option_or o (behind_header file)) header

past_header : (file : List ℕ) → header_refusal file ≡ None → refusal file ≡ behind_header file
past_header file header = refusal-parts file ∙ ap (λ (o : Option ℕ). option_or o (behind_header file)) header

pub refused_by_interp : (file : List ℕ) → header_refusal file ≡ None → list_any is_interp (headers file) ≡ true → refusal file ≡ Some 9
unfolding behind_header
refused_by_interp file header interp =
    past_header file header ∙ ap (λ (b : Bool). if b then Some 9 else behind_interp file) interp

past_interp : (file : List ℕ) → header_refusal file ≡ None → list_any is_interp (headers file) ≡ false → refusal file ≡ behind_interp file
unfolding behind_header
past_interp file header interp =
    past_header file header ∙ ap (λ (b : Bool). if b then Some 9 else behind_interp file) interp

pub refused_by_loads : (file : List ℕ) (n : ℕ) → header_refusal file ≡ None → list_any is_interp (headers file) ≡ false →
    load_refusal file ≡ Some n → refusal file ≡ Some n
unfolding behind_interp
refused_by_loads file n header interp load =
    past_interp file header interp ∙ ap (λ (o : Option ℕ). option_or o (limit_refusal file)) load

-- what decides behind the loads is the limits
pub past_loads : (file : List ℕ) → header_refusal file ≡ None → list_any is_interp (headers file) ≡ false →
    load_refusal file ≡ None → refusal file ≡ limit_refusal file
unfolding behind_interp
past_loads file header interp load =
    past_interp file header interp ∙ ap (λ (o : Option ℕ). option_or o (limit_refusal file)) load

-- what is tested behind each PT_LOAD by itself has numbers from 13 on
high_test : (b : Bool) (m : ℕ) (rest : Option ℕ) → 13 ≤ m → ((n : ℕ) → rest ≡ Some n → 13 ≤ n) →
    (n : ℕ) → (if b then Some m else rest) ≡ Some n → 13 ≤ n
high_test true m rest high below n e = let same : m ≡ n = cc in omega arith
high_test false m rest high below n e = below n e

high_none : (n : ℕ) → None ≡ Some n → 13 ≤ n
high_none n e = let impossible : ⊥ = cc in absurd impossible

high_limit : (file : List ℕ) (n : ℕ) → limit_refusal file ≡ Some n → 13 ≤ n
unfolding limit_refusal
high_limit file =
    high_test (any_share (loads file)) 13 _ (omega arith)
    (high_test (nat_lt 2_097_152 (length file) || nat_lt 16_128 (touched_below 0x70000 (loads file))) 14 _ (omega arith)
    (high_test (not (list_any has_memory (loads file))) 15 _ (omega arith) high_none))

-- a file that passes the tests of its headers and of each PT_LOAD by itself has none of the refusals 1 to 12
pub past_each : (file : List ℕ) → header_refusal file ≡ None → list_any is_interp (headers file) ≡ false → load_refusal file ≡ None →
    IsPastRefusal 12 file
past_each file header interp load n low e =
    let high = high_limit file n (sym (past_loads file header interp load) ∙ e) in
    let impossible : ⊥ = absurd (omega arith) in absurd impossible

-- ---- a file without memory

none_shares : (hs : List Header) → list_any has_memory hs ≡ false → any_share hs ≡ false
unfolding any_share
none_shares [] none = refl
none_shares (h ∷ hs) none =
    let parts = or_parts (has_memory h) (list_any has_memory hs) none in
    ap (λ (b : Bool). b || any_share hs) (empty_shares_none h hs parts.0) ∙ none_shares hs parts.1

none_touched : (hs : List Header) (page : ℕ) → list_any has_memory hs ≡ false → list_any (touches page) hs ≡ false
none_touched [] page none = refl
none_touched (h ∷ hs) page none =
    let parts = or_parts (has_memory h) (list_any has_memory hs) none in
    ap (λ (b : Bool). b || list_any (touches page) hs) (empty_touches h page parts.0) ∙ none_touched hs page parts.1

none_below : (hs : List Header) (n : ℕ) → list_any has_memory hs ≡ false → touched_below n hs ≡ 0
unfolding touched_below
none_below hs zero none = refl
none_below hs (suc n) none =
    let here : ◌≡◌ {A = ℕ} (cond (list_any (touches n) hs) 1 0) 0 = ap (λ (b : Bool). cond b 1 0) (none_touched hs n none) in
    let rest = none_below hs n none in
    let sum : touched_below n hs + cond (list_any (touches n) hs) 1 0 ≡ 0 = omega (arith, here, rest) in
    sum

-- its length alone decides
abbrev too_large_or_no_load : Bool → Option ℕ
too_large_or_no_load true = Some 14
too_large_or_no_load false = Some 15

by_length : (long : Bool) → ◌≡◌ {A = Option ℕ} (if long || false then Some 14 else Some 15) (too_large_or_no_load long)
by_length true = refl
by_length false = refl

by_parts : (shares long : Bool) (pages : ℕ) (some : Bool) → shares ≡ false → pages ≡ 0 → some ≡ false →
    ◌≡◌ {A = Option ℕ} (if shares then Some 13 else if long || nat_lt 16_128 pages then Some 14 else if not some then Some 15 else None)
    (too_large_or_no_load long)
by_parts shares long pages some apart untouched none = rw (apart, untouched, none) (by_length long)

limit_without_memory : (file : List ℕ) → list_any has_memory (loads file) ≡ false →
    limit_refusal file ≡ too_large_or_no_load (nat_lt 2_097_152 (length file))
unfolding limit_refusal
limit_without_memory file none =
    by_parts (any_share (loads file)) (nat_lt 2_097_152 (length file)) (touched_below 0x70000 (loads file))
    (list_any has_memory (loads file))
    (none_shares (loads file) none) (none_below (loads file) 0x70000 none) none

pub too_large_without_memory : (file : List ℕ) → list_any has_memory (loads file) ≡ false → 2_097_152 < length file →
    limit_refusal file ≡ Some 14
too_large_without_memory file none long =
    let above : nat_lt 2_097_152 (length file) ≡ true = grind (arith, nat_tests) in
    limit_without_memory file none ∙ ap too_large_or_no_load above

pub no_load_without_memory : (file : List ℕ) → list_any has_memory (loads file) ≡ false → length file ≤ 2_097_152 →
    limit_refusal file ≡ Some 15
no_load_without_memory file none short =
    let above : nat_lt 2_097_152 (length file) ≡ false = grind (arith, nat_tests) in
    limit_without_memory file none ∙ ap too_large_or_no_load above
