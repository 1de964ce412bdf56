-- A store within one page.
use Rattle.std.proofs.Common.{◌≡◌, ◌≢◌, ℕ, zero, suc, ◌+◌, ◌-◌, ◌*◌, ◌/◌, ◌%◌, ◌<◌, ◌≤◌, List, [], ◌∷◌, length, Option, Some, None, IfSome, Bool, true, false, refl, ap, ◌∙◌, sym, subst, arith, slice_index, slice_set, length-set, inl, inr, get_or-set_same, get_or-set_other, if◌then◌else◌, IsSome, is_some, ◌++◌, take, drop}
use Rattle.std.proofs.lemmas.List.{length-take-le}
use Rattle.std.proofs.Math.Seq.{take-add}
use Rattle.std.proofs.lemmas.Bool.{false≢true}
use Rattle.std.proofs.lemmas.Bool.Decides.{nat_tests, eqb_tells}
use Rattle.std.proofs.lemmas.Grind.{common_steps}
use Rattle.std.specs.Option.{option_map}
use Rattle.std.specs.List.{AllByRecursion}
use Rattle.rrv_model.specs.declared.limits.TheConstants.{MAX_PAGES}
use Rattle.rrv_model.specs.Memory.{Memory, Cell, stored, is_within, with_byte, page_count}
use Rattle.page_permissions.specs.declared.page.Permissions.{Permissions}
use Rattle.page_tables.specs.Contents.{PageValue, contents_of}
use Rattle.page_tables.specs.Changes.{written, with_bytes, IsWritten as IsWrittenInto}
use Rattle.guest_pages.specs.Pages.{IsWritten}
use Rattle.guest_pages.specs.Space.{SpaceValue, PageMap, page_at, memory_in, memory_of, snapshots_in, snapshots_of, cell_in, IsPage, AreEachPage, IsSpace, KeepsOwn}
use Rattle.guest_pages.proofs.Facts.{count_alike}

one_more : (bs : List ℕ) (bytes : List ℕ) (at k b : ℕ) → at + suc (length bs) ≤ length bytes →
    (if is_within (at + 1) (length bs) k then slice_index bs (k - (at + 1)) else slice_index (slice_set bytes at b) k)
    ≡ if is_within at (suc (length bs)) k then slice_index (b ∷ bs) (k - at) else slice_index bytes k
one_more bs bytes at k b fits = grind (arith, nat_tests, common_steps, get_or-set_same, get_or-set_other)

-- what written bytes read
pub get_written : (bs : List ℕ) (bytes : List ℕ) (at k : ℕ) → at + length bs ≤ length bytes →
    slice_index (written bytes at bs) k ≡ if is_within at (length bs) k then slice_index bs (k - at) else slice_index bytes k
get_written [] bytes at k fits = grind (arith, nat_tests)
get_written (b ∷ bs) bytes at k fits =
    let long : length (slice_set bytes at b) ≡ length bytes = length-set {A = ℕ} bytes at b in
    let rest : slice_index (written (slice_set bytes at b) (at + 1) bs) k
    ≡ if is_within (at + 1) (length bs) k then slice_index bs (k - (at + 1)) else slice_index (slice_set bytes at b) k =
    get_written bs (slice_set bytes at b) (at + 1) k (omega arith) in
    rest ∙ one_more bs bytes at k b fits

pub length_written : (bs : List ℕ) (bytes : List ℕ) (at : ℕ) → length (written bytes at bs) ≡ length bytes
length_written [] bytes at = refl
length_written (b ∷ bs) bytes at = length_written bs (slice_set bytes at b) (at + 1) ∙ length-set {A = ℕ} bytes at b

pub is_written : (bs : List ℕ) (bytes : List ℕ) (at : ℕ) → at + length bs ≤ length bytes → IsWritten bytes at bs (written bytes at bs)
is_written bs bytes at fits = record { len = length_written bs bytes at; each = λ k. get_written bs bytes at k fits }

abbrev cell : Permissions → ℕ → Option Cell
cell permissions b = Some (record { byte = b; permissions = permissions })

-- one cell of a page with bytes written into it
cell_written : (bytes bs : List ℕ) (permissions : Permissions) (at a k x : ℕ) → a + k ≡ x + at →
    cell permissions (if is_within at (length bs) k then slice_index bs (k - at) else slice_index bytes k)
    ≡ (if is_within a (length bs) x then with_byte (slice_index bs (x - a)) (cell permissions (slice_index bytes k)) else cell permissions
    (slice_index bytes k))
cell_written bytes bs permissions at a k x e =
    let same : is_within at (length bs) k ≡ is_within a (length bs) x = grind (arith, nat_tests) in
    let place : k - at ≡ x - a = omega arith in
    rw (same, place) (choice (is_within a (length bs) x)) where
      choice : (b : Bool) → cell permissions (if b then slice_index bs (x - a) else slice_index bytes k)
          ≡ (if b then with_byte (slice_index bs (x - a)) (cell permissions (slice_index bytes k)) else cell permissions
          (slice_index bytes k))
      choice true = refl
      choice false = refl

outside : (a count x n at : ℕ) → a ≡ n * 4096 + at → at + count ≤ 4096 → x / 4096 ≢ n → is_within a count x ≡ false
outside a count x n at e fits apart = grind (arith, nat_tests)

cell_stored : (pages after : PageMap) (n at a x : ℕ) (bs : List ℕ) → after n ≡ option_map (with_bytes at bs) (pages n)
    → ((q : ℕ) → q ≢ n → after q ≡ pages q)
    → a ≡ n * 4096 + at → at + length bs ≤ 4096 → IfSome (pages n) (λ p. length p.bytes ≡ 4096)
    → memory_in after x ≡ stored a bs (memory_in pages) x
unfolding memory_in
cell_stored pages after n at a x bs here others e fits long = elim (eqb_tells (x / 4096) n) [
  | inl w ↦ rw (w.1, here) (by_page (pages n) long w.1)
  | inr w ↦
      let apart : is_within a (length bs) x ≡ false = outside a (length bs) x n at e fits w.1 in
      rw apart (ap (option_map (cell_in (x % 4096))) (others (x / 4096) w.1))
] where
  none : (b : Bool) (k : ℕ) → None ≡ (if b then with_byte k None else None)
  none true k = refl
  none false k = refl

  by_page : (o : Option PageValue) → IfSome o (λ p. length p.bytes ≡ 4096) → x / 4096 ≡ n →
      option_map (cell_in (x % 4096)) (option_map (with_bytes at bs) o)
      ≡ (if is_within a (length bs) x then with_byte (slice_index bs (x - a)) (option_map (cell_in (x % 4096)) o) else option_map
      (cell_in (x % 4096)) o)
  by_page None l w = none (is_within a (length bs) x) (slice_index bs (x - a))
  by_page (Some p) l w =
      ap (λ (b : ℕ). let c : Cell = record { byte = b; permissions = p.permissions } in Some c)
      (get_written bs p.bytes at (x % 4096) (omega (arith, fits, l)))
      ∙ cell_written p.bytes bs p.permissions at a (x % 4096) x (omega (arith, w, e))

-- a store within a page
pub stored_in_page : (pages after : PageMap) (n at a : ℕ) (bs : List ℕ) → after n ≡ option_map (with_bytes at bs) (pages n)
    → ((q : ℕ) → q ≢ n → after q ≡ pages q)
    → a ≡ n * 4096 + at → at + length bs ≤ 4096 → AreEachPage pages
    → memory_in after ≡ stored a bs (memory_in pages)
stored_in_page pages after n at a bs here others e fits h =
    λ i x. cell_stored pages after n at a x bs here others e fits (full (pages n) (h n)) i where
      full : (o : Option PageValue) → IfSome o (IsPage n) → IfSome o (λ p. length p.bytes ≡ 4096)
      full None j = tt
      full (Some p) j = j.full

-- where a byte is there, its page is
pub page_there : (pages : PageMap) (a : ℕ) → IsSome (memory_in pages a) → page_at pages (a / 4096) ≡ None → ⊥
unfolding memory_in
page_there pages a h none = false≢true (subst (λ (p : Option PageValue). is_some (option_map (cell_in (a % 4096)) p) ≡ true) none h)

-- ---- one store after another

-- storing keeps which bytes are there
is_some_with : (b : ℕ) (c : Option Cell) → is_some (with_byte b c) ≡ is_some c
is_some_with b None = refl
is_some_with b (Some c) = refl

pub is_some_stored : (a : ℕ) (bs : List ℕ) (m : Memory) (x : ℕ) → is_some (stored a bs m x) ≡ is_some (m x)
is_some_stored a bs m x = by_test (is_within a (length bs) x) where
  by_test : (b : Bool) → is_some (if b then with_byte (slice_index bs (x - a)) (m x) else m x) ≡ is_some (m x)
  by_test true = is_some_with _ (m x)
  by_test false = refl

stored_after_at : (a : ℕ) (bs cs : List ℕ) (m : Memory) (x : ℕ) → stored (a + length bs) cs (stored a bs m) x ≡ stored a (bs ++ cs) m x
stored_after_at a bs cs m x = grind (arith, nat_tests, common_steps)

pub stored_after : (a b : ℕ) (bs cs : List ℕ) (m : Memory) → b ≡ a + length bs → stored b cs (stored a bs m) ≡ stored a (bs ++ cs) m
stored_after a b bs cs m e = ap (λ k. stored k cs (stored a bs m)) e ∙ (λ i x. stored_after_at a bs cs m x i)

-- a list of bytes stored up to a place, and the next of them
pub one_part : (a at n : ℕ) (bytes rest part : List ℕ) (m : Memory) → a ≤ at → at + length rest ≡ a + length bytes →
    rest ≡ drop (at - a) bytes → part ≡ take n rest → n ≤ length rest →
    stored at part (stored a (take (at - a) bytes) m) ≡ stored a (take (at + n - a) bytes) m
one_part a at n bytes rest part m begun len is_rest is_part fits =
    let place : at ≡ a + length (take (at - a) bytes) = omega (arith, length-take-le (at - a) bytes (omega arith)) in
    let more : at + n - a ≡ (at - a) + n = omega arith in
    let joined : take (at - a) bytes ++ part ≡ take (at + n - a) bytes =
    ap (λ (p : List ℕ). take (at - a) bytes ++ p) (is_part ∙ ap (take n) is_rest) ∙ sym (take-add (at - a) n bytes)
    ∙ ap (λ (k : ℕ). take k bytes) (sym more) in
    stored_after a at (take (at - a) bytes) part m place ∙ ap (λ (bs : List ℕ). stored a bs m) joined

pub stored_none : (a : ℕ) (m : Memory) → stored a [] m ≡ m
stored_none a m = λ i x. at x i where
  at : (x : ℕ) → stored a [] m x ≡ m x
  at x = grind (arith, nat_tests)

-- ---- the pages after a store

-- bytes are bytes, by their list
pub all_small : (bs : List ℕ) → AllByRecursion (λ b. b < 256) bs → (k : ℕ) → slice_index bs k < 256
all_small [] h k = omega arith
all_small (b ∷ bs) h zero = h.0
all_small (b ∷ bs) h (suc k) = all_small bs h.1 k

still_page : (n at : ℕ) (bs : List ℕ) (p : PageValue) → at + length bs ≤ 4096 → IsPage n p → ((k : ℕ) → slice_index bs k < 256) →
    IsPage n (with_bytes at bs p)
still_page n at bs p fits h small = record {
  low = h.low;
  high = h.high;
  full = length_written bs p.bytes at ∙ h.full;
  bytes = λ k. subst (λ x. x < 256) (sym (get_written bs p.bytes at k (omega (arith, fits, h.full))))
      (by_test (is_within at (length bs) k) k);
  readable = h.readable;
} where
  by_test : (b : Bool) (k : ℕ) → (if b then slice_index bs (k - at) else slice_index p.bytes k) < 256
  by_test true k = small (k - at)
  by_test false k = h.bytes k

pub stored_each : (pages after : PageMap) (n at : ℕ) (bs : List ℕ) → after n ≡ option_map (with_bytes at bs) (pages n)
    → ((q : ℕ) → q ≢ n → after q ≡ pages q) → at + length bs ≤ 4096 → ((k : ℕ) → slice_index bs k < 256) → AreEachPage pages →
    AreEachPage after
stored_each pages after n at bs here others fits small h q = elim (eqb_tells q n) [
  | inl w ↦ subst (λ k. IfSome (after k) (IsPage k)) (sym w.1)
      (subst (λ (o : Option PageValue). IfSome o (IsPage n)) (sym here) (by_page (pages n) (h n)))
  | inr w ↦ subst (λ (o : Option PageValue). IfSome o (IsPage q)) (sym (others q w.1)) (h q)
] where
  by_page : (o : Option PageValue) → IfSome o (IsPage n) → IfSome (option_map (with_bytes at bs) o) (IsPage n)
  by_page None j = tt
  by_page (Some p) j = still_page n at bs p fits j small

pub stored_there : (pages after : PageMap) (n at : ℕ) (bs : List ℕ) → after n ≡ option_map (with_bytes at bs) (pages n)
    → ((q : ℕ) → q ≢ n → after q ≡ pages q) → (q : ℕ) → is_some (after q) ≡ is_some (pages q)
stored_there pages after n at bs here others q = elim (eqb_tells q n) [
  | inl w ↦ ap (λ k. is_some (after k)) w.1 ∙ ap is_some here ∙ still (pages n) ∙ ap (λ k. is_some (pages k)) (sym w.1)
  | inr w ↦ ap is_some (others q w.1)
] where
  still : (o : Option PageValue) → is_some (option_map (with_bytes at bs) o) ≡ is_some o
  still None = refl
  still (Some p) = refl

-- ---- a space after a store within a page

-- the change to the tables is a store, and the space stays one
pub stored_space : (s t : SpaceValue) (mapped n at : ℕ) (bs : List ℕ) → IsSpace s mapped →
    IsWrittenInto n at bs (contents_of s) (contents_of t) → at + length bs ≤ 4096 → ((k : ℕ) → slice_index bs k < 256) → IsSpace t mapped
stored_space s t mapped n at bs h w fits small =
    let same : page_count (memory_of t) ≡ page_count (memory_of s) =
    count_alike (contents_of s).pages (contents_of t).pages
    (stored_there (contents_of s).pages (contents_of t).pages n at bs w.page w.rest.pages) in
    record {
      pages = record {
        each = stored_each (contents_of s).pages (contents_of t).pages n at bs w.page w.rest.pages fits small h.pages.each;
        limit = subst (λ k. k ≤ MAX_PAGES) (sym same) h.pages.limit;
      };
      kept = subst (λ (kept : ℕ → Option PageMap). (i : ℕ) → IfSome (kept i) AreEachPage) (sym w.rest.kept) h.kept;
      count = h.count ∙ sym same;
    }

pub stored_memory : (s t : SpaceValue) (n at a : ℕ) (bs : List ℕ) → AreEachPage (contents_of s).pages →
    IsWrittenInto n at bs (contents_of s) (contents_of t) → a ≡ n * 4096 + at → at + length bs ≤ 4096 →
    memory_of t ≡ stored a bs (memory_of s)
stored_memory s t n at a bs h w e fits = stored_in_page (contents_of s).pages (contents_of t).pages n at a bs w.page w.rest.pages e fits h

pub same_snapshots : (s t : SpaceValue) → (contents_of t).kept ≡ (contents_of s).kept → snapshots_of t ≡ snapshots_of s
same_snapshots s t e = ap snapshots_in e

pub written_keeps_own : (s t : SpaceValue) (n at : ℕ) (bs : List ℕ) → IsWrittenInto n at bs (contents_of s) (contents_of t) → KeepsOwn s t
written_keeps_own s t n at bs w q own = elim (eqb_tells q n) [
  | inl e ↦ subst (λ k. (contents_of t).counts k ≡ Some 1) (sym e.1) w.own
  | inr e ↦ w.rest.counts q e.1 ∙ own
]
