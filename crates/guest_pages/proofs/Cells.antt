-- What the memory in pages has within one page.
use Rattle.std.proofs.Common.{length, slice_index, ◌≡◌, ℕ, zero, suc, ◌+◌, ◌*◌, ◌/◌, ◌%◌, ◌<◌, ◌≤◌, List, [], Option, Some, None, is_some, Bool, true, false, refl, ap, ◌∙◌, sym, arith, inl, inr, subst, ◌-◌, max}
use Rattle.std.proofs.lemmas.Grind.{same_number_lists}
use Rattle.std.proofs.Math.Bool.{and_self}
use Rattle.std.proofs.lemmas.Bool.{false≢true, cases_lt, and_parts}
use Rattle.std.specs.Option.{option_map}
use Rattle.rrv_model.specs.Memory.{Cell, Memory, all_cells, bytes_at, can_read, can_write, can_execute, byte_or_zero}
use Rattle.rrv_model.proofs.MemoryRules.{get_bytes_at, length_bytes_at}
use Rattle.page_tables.specs.Contents.{PageValue}
use Rattle.guest_pages.specs.Pages.{run}
use Rattle.guest_pages.specs.Space.{PageMap, page_at, memory_in, cell_in, page_passes, test_of}
use Rattle.guest_pages.specs.declared.page.Access.{Access}
use Rattle.guest_pages.specs.declared.page.Access.TheVariants as accesses

-- a cell of the page that an address lies in
pub cell_at : (pages : PageMap) (p : Option PageValue) (a k : ℕ) → page_at pages (a / 4096) ≡ p → a % 4096 + k < 4096 →
    memory_in pages (a + k) ≡ option_map (cell_in (a % 4096 + k)) p
unfolding memory_in
cell_at pages p a k found fits =
    let place : (a + k) / 4096 ≡ a / 4096 = omega arith in
    let offset : (a + k) % 4096 ≡ a % 4096 + k = omega arith in
    rw (place, offset, found) refl

-- a test that all of some cells answer alike
pub all_cells_alike : (test : Option Cell → Bool) (m : Memory) (b : Bool) (a count : ℕ) → ((k : ℕ) → k < suc count → test (m (a + k)) ≡ b) →
    all_cells test m a (suc count) ≡ b
unfolding all_cells
all_cells_alike test m b a zero h = h 0 (omega arith)
all_cells_alike test m b a (suc count) h =
    let before : all_cells test m a (suc count) ≡ b = all_cells_alike test m b a count (λ k l. h k (omega arith)) in
    let last : test (m (a + suc count)) ≡ b = h (suc count) (omega arith) in
    rw (before, last) (and_self b)

-- the bytes of a page
pub bytes_in_page : (pages : PageMap) (p : PageValue) (count a at n : ℕ) → page_at pages n ≡ Some p → a ≡ n * 4096 + at →
    at + count ≤ 4096 → bytes_at (memory_in pages) a count ≡ run count at p.bytes
unfolding bytes_at memory_in
bytes_in_page pages p zero a at n found e fits = refl
bytes_in_page pages p (suc count) a at n found e fits =
    let place : a / 4096 ≡ n = omega arith in
    let offset : a % 4096 ≡ at = omega arith in
    let rest : bytes_at (memory_in pages) (a + 1) count ≡ run count (at + 1) p.bytes =
    bytes_in_page pages p count (a + 1) (at + 1) n found (omega arith) (omega arith) in
    rw (rest, place, offset, found) refl

-- count bytes of a page, and none where there is no page
abbrev pub page_run : ℕ → ℕ → Option PageValue → List ℕ
page_run count at None = []
page_run count at (Some p) = run count at p.bytes

pub run_in_page : (pages : PageMap) (a count : ℕ) → is_some (page_at pages (a / 4096)) ≡ true → a % 4096 + count ≤ 4096 →
    bytes_at (memory_in pages) a count ≡ page_run count (a % 4096) (page_at pages (a / 4096))
run_in_page pages a count there fits = by_page (page_at pages (a / 4096)) refl there where
  by_page : (p : Option PageValue) → page_at pages (a / 4096) ≡ p → is_some p ≡ true →
      bytes_at (memory_in pages) a count ≡ page_run count (a % 4096) p
  by_page None e h = absurd (false≢true h)
  by_page (Some p) e h = bytes_in_page pages p count a (a % 4096) (a / 4096) e (omega arith) fits

-- ---- tests of the permissions of the page that an address lies in
pub passes_in_page : (test : Option Cell → Bool) → ((k : ℕ) (p : PageValue) → test (Some (cell_in k p)) ≡ test (Some (cell_in 0 p))) →
    (pages : PageMap) (a count : ℕ) → 0 < count → a % 4096 + count ≤ 4096 →
    all_cells test (memory_in pages) a count ≡ page_passes test (page_at pages (a / 4096))
passes_in_page test alike pages a zero some fits = absurd (omega arith)
passes_in_page test alike pages a (suc count) some fits =
    all_cells_alike test (memory_in pages) _ a count
    (λ k l. ap test (cell_at pages _ a k refl (omega arith)) ∙ by_page (a % 4096 + k) (page_at pages (a / 4096))) where
      by_page : (k : ℕ) (p : Option PageValue) → test (option_map (cell_in k) p) ≡ page_passes test p
      by_page k None = refl
      by_page k (Some p) = alike k p

pub reads_in_page : (pages : PageMap) (a count : ℕ) → 0 < count → a % 4096 + count ≤ 4096 →
    all_cells can_read (memory_in pages) a count ≡ page_passes can_read (page_at pages (a / 4096))
reads_in_page = passes_in_page can_read (λ k p. refl)

pub writes_in_page : (pages : PageMap) (a count : ℕ) → 0 < count → a % 4096 + count ≤ 4096 →
    all_cells can_write (memory_in pages) a count ≡ page_passes can_write (page_at pages (a / 4096))
writes_in_page = passes_in_page can_write (λ k p. refl)

pub executes_in_page : (pages : PageMap) (a count : ℕ) → 0 < count → a % 4096 + count ≤ 4096 →
    all_cells can_execute (memory_in pages) a count ≡ page_passes can_execute (page_at pages (a / 4096))
executes_in_page = passes_in_page can_execute (λ k p. refl)

pub is_in_page : (pages : PageMap) (a count : ℕ) → 0 < count → a % 4096 + count ≤ 4096 →
    all_cells is_some (memory_in pages) a count ≡ is_some (page_at pages (a / 4096))
is_in_page pages a count some fits = passes_in_page is_some (λ k p. refl) pages a count some fits ∙ by_page (page_at pages (a / 4096)) where
  by_page : (p : Option PageValue) → page_passes is_some p ≡ is_some p
  by_page None = refl
  by_page (Some p) = refl

-- ---- tests of a range

-- what all of some cells pass, each does
pub one_of_all : (test : Option Cell → Bool) (m : Memory) (a count k : ℕ) → all_cells test m a count ≡ true → k < count →
    test (m (a + k)) ≡ true
unfolding all_cells
one_of_all test m a zero k h l = absurd (omega arith)
one_of_all test m a (suc count) k h l = elim (cases_lt k count) [
  | inl w ↦ one_of_all test m a count k (and_parts _ _ h).0 w
  | inr w ↦ let same : k ≡ count = omega arith in subst (λ j. test (m (a + j)) ≡ true) (sym same) (and_parts _ _ h).1
]

-- where one cell fails, all do
-- only among some cells can one fail
pub some_cell : (test : Option Cell → Bool) (m : Memory) (a count : ℕ) → all_cells test m a count ≡ false → 1 ≤ count
unfolding all_cells
some_cell test m a zero fails = absurd (false≢true (sym fails))
some_cell test m a (suc count) fails = omega arith

pub one_fails : (test : Option Cell → Bool) (m : Memory) (a count k : ℕ) → k < count → test (m (a + k)) ≡ false →
    all_cells test m a count ≡ false
one_fails test m a count k l h = by_test (all_cells test m a count) refl where
  by_test : (b : Bool) → all_cells test m a count ≡ b → b ≡ false
  by_test true e = absurd (false≢true (sym h ∙ one_of_all test m a count k e l))
  by_test false e = refl

pub all_pass : (test : Option Cell → Bool) (m : Memory) (a count : ℕ) → ((k : ℕ) → k < count → test (m (a + k)) ≡ true) →
    all_cells test m a count ≡ true
unfolding all_cells
all_pass test m a zero h = refl
all_pass test m a (suc count) h = all_cells_alike test m true a count h

-- what isn't there passes no test that nothing passes
absent_fails : (test : Option Cell → Bool) → ((c : Option Cell) → test c ≡ true → is_some c ≡ true) → (m : Memory) (a count : ℕ) →
    all_cells is_some m a count ≡ false → all_cells test m a count ≡ false
absent_fails test is_there m a count h = by_test (all_cells test m a count) refl where
  by_test : (b : Bool) → all_cells test m a count ≡ b → b ≡ false
  by_test true e = absurd (false≢true (sym h ∙ all_pass is_some m a count (λ k l. is_there (m (a + k)) (one_of_all test m a count k e l))))
  by_test false e = refl

pub absent_forbids : (m : Memory) (a count : ℕ) → all_cells is_some m a count ≡ false → all_cells can_write m a count ≡ false
absent_forbids = absent_fails can_write is_there where
  is_there : (c : Option Cell) → can_write c ≡ true → is_some c ≡ true
  is_there None w = w
  is_there (Some c) w = refl

pub absent_unreadable : (m : Memory) (a count : ℕ) → all_cells is_some m a count ≡ false → all_cells can_read m a count ≡ false
absent_unreadable = absent_fails can_read is_there where
  is_there : (c : Option Cell) → can_read c ≡ true → is_some c ≡ true
  is_there None w = w
  is_there (Some c) w = refl

-- ---- the bytes of a range

-- a list of as many bytes, each of them the memory's
pub are_bytes_at : (m : Memory) (a count : ℕ) (bytes : List ℕ) → length bytes ≡ count →
    ((k : ℕ) → k < count → slice_index bytes k ≡ byte_or_zero (m (a + k))) → bytes ≡ bytes_at m a count
are_bytes_at m a count bytes len each =
    same_number_lists bytes (bytes_at m a count) (len ∙ sym (length_bytes_at m a count))
    (λ k l. each k (omega (arith, len)) ∙ sym (get_bytes_at m a count k (omega (arith, len))))

alike_access : (access : Access) (k : ℕ) (p : Option PageValue) → test_of access (option_map (cell_in k) p) ≡ page_passes (test_of access) p
alike_access accesses.Presence k None = refl
alike_access accesses.Presence k (Some p) = refl
alike_access accesses.Read k None = refl
alike_access accesses.Read k (Some p) = refl
alike_access accesses.Write k None = refl
alike_access accesses.Write k (Some p) = refl
alike_access accesses.Execute k None = refl
alike_access accesses.Execute k (Some p) = refl

pub passes_at : (access : Access) (pages : PageMap) (x : ℕ) →
    test_of access (memory_in pages x) ≡ page_passes (test_of access) (page_at pages (x / 4096))
unfolding memory_in
passes_at access pages x = alike_access access (x % 4096) (page_at pages (x / 4096))

-- the pages of a range, from the first to the last
pub pages_of_range : (access : Access) (pages : PageMap) (a count last : ℕ) (r : Bool) → 0 < count → last ≡ (a + count - 1) / 4096
    → (r ≡ true → (n : ℕ) → a / 4096 ≤ n → n ≤ last → page_passes (test_of access) (page_at pages n) ≡ true)
    → (r ≡ false → (n : ℕ) × (a / 4096 ≤ n) × (n ≤ last) × (page_passes (test_of access) (page_at pages n) ≡ false))
    → r ≡ all_cells (test_of access) (memory_in pages) a count
pages_of_range access pages a count last true some e all one =
    sym (all_pass (test_of access) (memory_in pages) a count
    (λ k l. passes_at access pages (a + k) ∙ all refl ((a + k) / 4096) (omega arith) (omega arith)))
pages_of_range access pages a count last false some e all one =
    let w = one refl in
    by_place w.0 w.1 w.2 w.3 where
      by_place : (n : ℕ) → a / 4096 ≤ n → n ≤ last → page_passes (test_of access) (page_at pages n) ≡ false →
          false ≡ all_cells (test_of access) (memory_in pages) a count
      by_place n low high fails =
          let k : ℕ = max a (n * 4096) - a in
          let place : (a + k) / 4096 ≡ n = omega arith in
          let within : k < count = omega arith in
          sym (one_fails (test_of access) (memory_in pages) a count k within
          (passes_at access pages (a + k) ∙ ap (λ j. page_passes (test_of access) (page_at pages j)) place ∙ fails))
