-- The program headers from some place on, and the PT_LOADs from some index on.
use Rattle.std.proofs.Common.{◌≡◌, ℕ, suc, ◌+◌, ◌-◌, ◌*◌, ◌<◌, ◌≤◌, Bool, true, false, cond, List, [], ◌∷◌, length, get_or, drop, arith, refl, ap, sym, ◌∙◌}
use Rattle.std.specs.List.{list_any}
use Rattle.std.proofs.lemmas.List.{at_drop_more, at_drop_all}
use Rattle.std.specs.Prelude.{fold, filter, ◌&&◌, ◌||◌}
use Rattle.std.proofs.lemmas.List.Folds.{list_any_at}
use Rattle.rrv_model.specs.Elf.{Header, header_at, headers_from, elf_phoff, is_load}
use Rattle.rrv_model.specs.Opening.{headers_address}
use Rattle.elf_load.specs.declared.header.LoadTest.{LoadTest}
use Rattle.elf_load.specs.Refusals.{holds_headers, higher_end, load_test}

-- the header at index i, and those behind it
pub headers_from-step : (file : List ℕ) (p n i : ℕ) → i < n →
    headers_from file (p + 32 * i) (n - i) ≡ header_at file (p + 32 * i) ∷ headers_from file (p + 32 * (i + 1)) (n - (i + 1))
unfolding headers_from
headers_from-step file p n i h =
    let one_less : n - i ≡ suc (n - (i + 1)) = omega arith in
    let next : p + 32 * i + 32 ≡ p + 32 * (i + 1) = omega arith in
    ap (headers_from file (p + 32 * i)) one_less ∙ ap (λ (q : ℕ). header_at file (p + 32 * i) ∷ headers_from file q (n - (i + 1))) next

-- behind the last there is none
pub headers_from-end : (file : List ℕ) (p n i : ℕ) → n ≤ i → headers_from file p (n - i) ≡ []
unfolding headers_from
headers_from-end file p n i h =
    let none : n - i ≡ 0 = omega arith in
    ap (headers_from file p) none

-- where no header passes a test, one at an index doesn't
pub none_at : (p : Header → Bool) (hs : List Header) (i : ℕ) (h : Header) → i < length hs → h ≡ get_or hs i h → list_any p hs ≡ false →
    p h ≡ false
none_at p hs i h low is none = by_answer (p h) refl where
  by_answer : (b : Bool) → p h ≡ b → b ≡ false
  by_answer true passes =
      let some = list_any_at p hs i h low (ap p (sym is) ∙ passes) in
      cc
  by_answer false fails = refl

-- the highest end over the headers from index i on
pub higher_end-step : (hs : List Header) (i end : ℕ) (h : Header) → i < length hs → h ≡ get_or hs i h →
    fold higher_end end (drop i hs) ≡ fold higher_end (higher_end end h) (drop (i + 1) hs)
higher_end-step hs i end h low is =
    at_drop_more (fold higher_end end) hs i h low ∙ ap (λ (g : Header). fold higher_end (higher_end end g) (drop (i + 1) hs)) (sym is)

pub higher_end-end : (hs : List Header) (i end : ℕ) → length hs ≤ i → fold higher_end end (drop i hs) ≡ end
higher_end-end hs i end high = at_drop_all (fold higher_end end) hs i high

-- the headers' address from index i on
pub headers_address-step : (file : List ℕ) (hs : List Header) (i : ℕ) (h : Header) → i < length hs → h ≡ get_or hs i h →
    headers_address file (drop i hs)
    ≡ cond (holds_headers file h) (h.address + (elf_phoff file - h.offset)) (headers_address file (drop (i + 1) hs))
unfolding headers_address
headers_address-step file hs i h low is =
    at_drop_more (headers_address file) hs i h low
    ∙ ap (λ (g : Header). cond (holds_headers file g) (g.address + (elf_phoff file - g.offset)) (headers_address file (drop (i + 1) hs)))
    (sym is)

pub headers_address-end : (file : List ℕ) (hs : List Header) (i : ℕ) → length hs ≤ i → headers_address file (drop i hs) ≡ 0
unfolding headers_address
headers_address-end file hs i high = at_drop_all (headers_address file) hs i high

-- ---- the PT_LOADs from one header on

any_load-first : (p : Header → Bool) (h : Header) (hs : List Header) →
    list_any p (filter is_load (h ∷ hs)) ≡ ((is_load h && p h) || list_any p (filter is_load hs))
any_load-first p h hs = by_kind (is_load h) where
  by_kind : (b : Bool) → list_any p (cond b (h ∷ filter is_load hs) (filter is_load hs)) ≡ ((b && p h) || list_any p (filter is_load hs))
  by_kind true = refl
  by_kind false = refl

-- some PT_LOAD from index i on passes the test: that header, or one behind it
pub any_load-step : (test : LoadTest) (file : List ℕ) (place n i : ℕ) → i < n →
    list_any (load_test test file) (filter is_load (headers_from file (place + 32 * i) (n - i)))
    ≡ ((is_load (header_at file (place + 32 * i)) && load_test test file (header_at file (place + 32 * i)))
    || list_any (load_test test file) (filter is_load (headers_from file (place + 32 * (i + 1)) (n - (i + 1)))))
any_load-step test file place n i h =
    ap (λ (hs : List Header). list_any (load_test test file) (filter is_load hs)) (headers_from-step file place n i h)
    ∙ any_load-first (load_test test file) (header_at file (place + 32 * i)) (headers_from file (place + 32 * (i + 1)) (n - (i + 1)))
