-- The runs of the pages below a number.
use Rattle.std.proofs.Common.{◌≡◌, ◌∙◌, ℕ, zero, suc, ◌+◌, ◌-◌, ◌*◌, ◌^◌, ◌<◌, ◌≤◌, ◌==◌, ◌&&◌, Bool, true, false, if◌then◌else◌, List, [], ◌∷◌, ◌++◌, reverse, length, Option, Some, None, is_some, All, IsTrue, ◌↔◌, slice_index, eq-eqb, eqb-true, nat_lt, ltb-true, ltb-false, refl, sym, ap, subst, arith}
use Rattle.std.specs.List.{AllByRecursion, list_all}
use Rattle.std.specs.Option.{option_map}
use Rattle.std.proofs.lemmas.Grind.{reverse_onto}
use Rattle.std.proofs.lemmas.Bool.{false≢true}
use Rattle.std.proofs.lemmas.List.Elements.{All-from_recursion}
use Rattle.std.proofs.lemmas.List.{length-reverse}
use Rattle.rrv_model.specs.declared.limits.TheConstants.{MAX_PAGES}
use Rattle.rrv_model.specs.Memory.{Memory, Cell, is_mapped, page_bytes, page_count, pages_below}
use Rattle.outcomes.proofs.Lists.{AllByRecursion-push, AllByRecursion-weaker}
use Rattle.rrv_model.specs.RecordText.{permissions_byte}
use Rattle.rrv_model.proofs.PageCounts.{pages_skip}
use Rattle.guest_pages.specs.declared.page.PageView.{PageView}
use Rattle.guest_pages.specs.Snapshots.{IsNextPage, IsPageOf}
use Rattle.core_file.specs.declared.runs.Run.{Run}
use Rattle.core_file.specs.Runs.{begun, continues, flags_at, flags_of, is_blank, longer, runs_below, runs_of, with_cell, with_page, AreAlike, Fits}
use Rattle.core_file.proofs.PageBytes.{page_is}

-- ---- blank pages

pub behind : (a b : Bool) → (a && b) ≡ true → b ≡ true
behind true b h = h
behind false b h = absurd (false≢true h)

zeros_in : (bytes : List ℕ) → list_all (λ b. b == 0) bytes ≡ true → (k : ℕ) → k < length bytes → slice_index bytes k ≡ 0
zeros_in [] all k low = absurd (omega (arith, low))
zeros_in (b ∷ bs) all zero low = by (b == 0) refl all where
  by : (t : Bool) → (b == 0) ≡ t → (t && list_all (λ (c : ℕ). c == 0) bs) ≡ true → b ≡ 0
  by true e h = eqb-true b 0 e
  by false e h = absurd (false≢true h)
zeros_in (b ∷ bs) all (suc k) low = zeros_in bs (behind (b == 0) _ all) k (omega (arith, low))

all_zeros : (bytes : List ℕ) → ((k : ℕ) → k < length bytes → slice_index bytes k ≡ 0) → list_all (λ b. b == 0) bytes ≡ true
all_zeros [] h = refl
all_zeros (b ∷ bs) h =
    let first : (b == 0) ≡ true = eq-eqb b 0 (h 0 (omega arith)) in
    rw first (all_zeros bs (λ k low. h (suc k) (omega (arith, low))))

pub blank_is : (bytes : List ℕ) (r : Bool) → (IsTrue r ↔ ((k : ℕ) → k < length bytes → slice_index bytes k ≡ 0)) →
    r ≡ list_all (λ b. b == 0) bytes
blank_is bytes true h = sym (all_zeros bytes (h.0 refl))
blank_is bytes false h = by (list_all (λ (b : ℕ). b == 0) bytes) refl where
  by : (t : Bool) → list_all (λ (b : ℕ). b == 0) bytes ≡ t → false ≡ t
  by true e = h.1 (zeros_in bytes e)
  by false e = refl

-- ---- sizes

-- a run of the pages below n, of which so many are mapped
pub record FitsBelow (n total : ℕ) (r : Run) : Type 0 where
  pub some : 1 ≤ r.pages
  pub filled : r.filled ≤ r.pages
  pub high : r.first + r.pages ≤ n
  pub few : r.before + r.pages ≤ total

wider : (n total more : ℕ) (rs : List Run) → AllByRecursion (FitsBelow n total) rs → AllByRecursion (FitsBelow (suc n) (total + more)) rs
wider n total more rs h = AllByRecursion-weaker (FitsBelow n total) (FitsBelow (suc n) (total + more)) rs
    (λ r f. record { some = f.some; filled = f.filled; high = omega (arith, f.high); few = omega (arith, f.few) }) h

begun_fits : (n flags before total : ℕ) (blank : Bool) → before ≤ total → FitsBelow (suc n) (total + 1) (begun n flags blank before)
begun_fits n flags before total true low = record { some = omega arith; filled = omega arith; high = omega arith; few = omega (arith, low) }
begun_fits n flags before total false low =
    record { some = omega arith; filled = omega arith; high = omega arith; few = omega (arith, low) }

longer_fits : (n total : ℕ) (blank : Bool) (r : Run) → FitsBelow n total r → FitsBelow (suc n) (total + 1) (longer blank r)
longer_fits n total true r f =
    record { some = omega arith; filled = omega (arith, f.filled); high = omega (arith, f.high); few = omega (arith, f.few) }
longer_fits n total false r f =
    record { some = omega arith; filled = omega arith; high = omega (arith, f.high); few = omega (arith, f.few) }

page_fits : (n flags total : ℕ) (blank : Bool) (rs : List Run) → AllByRecursion (FitsBelow n total) rs →
    AllByRecursion (FitsBelow (suc n) (total + 1)) (with_page n flags blank rs)
page_fits n flags total blank [] h = (begun_fits n flags 0 total blank (omega arith), tt)
page_fits n flags total blank (r ∷ rs) h = by (continues n flags r) where
  by : (b : Bool) →
      AllByRecursion (FitsBelow (suc n) (total + 1)) (if b then longer blank r ∷ rs else begun n flags blank (r.before + r.filled) ∷ r ∷ rs)
  by true = (longer_fits n total blank r h.0, wider n total 1 rs h.1)
  by false = (begun_fits n flags (r.before + r.filled) total blank (omega (arith, h.0.filled, h.0.few)), wider n total 1 (r ∷ rs) h)

cell_fits : (m : Memory) (n total : ℕ) (o : Option Cell) (rs : List Run) → AllByRecursion (FitsBelow n total) rs →
    AllByRecursion (FitsBelow (suc n) (total + (if is_some o then 1 else 0))) (with_cell m n o rs)
cell_fits m n total None rs h = wider n total 0 rs h
cell_fits m n total (Some c) rs h = page_fits n (flags_of c) total (is_blank m n) rs h

pub runs_fit : (n : ℕ) (m : Memory) → AllByRecursion (FitsBelow n (pages_below n m)) (runs_below n m)
unfolding runs_below pages_below
runs_fit zero m = tt
runs_fit (suc n) m = cell_fits m n (pages_below n m) (m (n * page_bytes)) (runs_below n m) (runs_fit n m)

-- ---- how many

page_count_more : (n flags : ℕ) (blank : Bool) (rs : List Run) → length (with_page n flags blank rs) ≤ length rs + 1
page_count_more n flags blank [] = omega arith
page_count_more n flags blank (r ∷ rs) = by (continues n flags r) where
  by : (b : Bool) → length (if b then longer blank r ∷ rs else begun n flags blank (r.before + r.filled) ∷ r ∷ rs) ≤ length (r ∷ rs) + 1
  by true = omega arith
  by false = omega arith

cell_count : (m : Memory) (n total : ℕ) (o : Option Cell) (rs : List Run) → length rs ≤ total →
    length (with_cell m n o rs) ≤ total + (if is_some o then 1 else 0)
cell_count m n total None rs few = omega (arith, few)
cell_count m n total (Some c) rs few = omega (arith, few, page_count_more n (flags_of c) (is_blank m n) rs)

runs_count : (n : ℕ) (m : Memory) → length (runs_below n m) ≤ pages_below n m
unfolding runs_below pages_below
runs_count zero m = omega arith
runs_count (suc n) m = cell_count m n (pages_below n m) (m (n * page_bytes)) (runs_below n m) (runs_count n m)

pages_rise : (n d : ℕ) (m : Memory) → pages_below n m ≤ pages_below (n + d) m
unfolding pages_below
pages_rise n zero m = let same : n + 0 ≡ n = omega arith in rw same (omega arith)
pages_rise n (suc d) m = let more : n + suc d ≡ suc (n + d) = omega arith in rw more (omega (arith, pages_rise n d m))

-- ---- of a guest's memory, by rising address

last_last : (rs : List Run) (r : Run) → reverse (r ∷ rs) ≡ reverse rs ++ r ∷ []
last_last rs r = reverse_onto rs r []

reversed : (P : Run → Type 0) (rs : List Run) → AllByRecursion P rs → AllByRecursion P (reverse rs)
reversed P [] h = tt
reversed P (r ∷ rs) h = subst (AllByRecursion P) (sym (last_last rs r)) (AllByRecursion-push P (reverse rs) r (reversed P rs h.1) h.0)

pub all_fit : (n : ℕ) (m : Memory) → n ≤ 2 ^ 20 → page_count m ≤ MAX_PAGES → All Fits (reverse (runs_below n m))
all_fit n m low few =
    let top : n + (2 ^ 20 - n) ≡ 2 ^ 20 = omega (arith, low) in
    let within : pages_below n m ≤ page_count m = subst (λ (k : ℕ). pages_below n m ≤ pages_below k m) top (pages_rise n (2 ^ 20 - n) m) in
    All-from_recursion Fits _ (reversed Fits (runs_below n m)
    (AllByRecursion-weaker (FitsBelow n (pages_below n m)) Fits (runs_below n m)
    (λ r f. record { some = f.some; filled = f.filled; high = omega (arith, f.high, low); few = omega (arith, f.few, within, few) })
    (runs_fit n m)))

pub few_runs : (m : Memory) → page_count m ≤ MAX_PAGES → length (runs_of m) ≤ MAX_PAGES
few_runs m few = omega (arith, length-reverse (runs_below (2 ^ 20) m), runs_count (2 ^ 20) m, few)

-- ---- page by page

pub runs_none : (m : Memory) → runs_below 0 m ≡ []
unfolding runs_below
runs_none m = refl

no_page : (m : Memory) (n : ℕ) (o : Option Cell) (rs : List Run) → is_some o ≡ false → with_cell m n o rs ≡ rs
no_page m n None rs e = refl
no_page m n (Some c) rs e = absurd (false≢true (sym e))

runs_skip : (m : Memory) (least d n : ℕ) → n ≡ least + d → ((q : ℕ) → least ≤ q → q < n → is_mapped m q ≡ false) →
    runs_below n m ≡ runs_below least m
unfolding runs_below
runs_skip m least d n =
    pages_skip (λ (k : ℕ). runs_below k m) m (λ q none. no_page m q (m (q * page_bytes)) (runs_below q m) none) least d n

cell_of_view : (m : Memory) (n : ℕ) (v : PageView) (rs : List Run) → length v.bytes.now ≡ page_bytes → IsPageOf m n (Some v) →
    with_cell m n (m (n * page_bytes)) rs ≡ with_page n (permissions_byte (Some v.permissions)) (list_all (λ b. b == 0) v.bytes.now) rs
cell_of_view m n v rs full is =
    let first : n * page_bytes ≡ n * page_bytes + 0 = omega arith in
    ap (λ (o : Option Cell). with_cell m n o rs) (ap m first ∙ is 0 (omega arith))
    ∙ ap (λ (bytes : List ℕ). with_page n (permissions_byte (Some v.permissions)) (list_all (λ b. b == 0) bytes) rs) (page_is m n v full is)

-- the next page behind those below one number, where none lies between
pub runs_next : (m : Memory) (least n : ℕ) (v : PageView) → IsNextPage m least (Some n) → length v.bytes.now ≡ page_bytes →
    IsPageOf m n (Some v) →
    runs_below (n + 1) m ≡ with_page n (permissions_byte (Some v.permissions)) (list_all (λ b. b == 0) v.bytes.now) (runs_below least m)
unfolding runs_below
runs_next m least n v next full is =
    let more : n + 1 ≡ suc n = omega arith in
    ap (λ (k : ℕ). runs_below k m) more
    ∙ ap (λ (rs : List Run). with_cell m n (m (n * page_bytes)) rs) (runs_skip m least (n - least) n (omega (arith, next.0)) next.3)
    ∙ cell_of_view m n v (runs_below least m) full is

-- no page comes from one number on
pub runs_end : (m : Memory) (least top : ℕ) → IsNextPage m least None → least ≤ top → runs_below top m ≡ runs_below least m
runs_end m least top next low = runs_skip m least (top - least) top (omega (arith, low)) (λ q from _. next q from)

-- ---- each page of a run

pub front : (a b : Bool) → (a && b) ≡ true → a ≡ true
front true b h = refl
front false b h = absurd (false≢true h)

pub flags_here : (m : Memory) (n : ℕ) (c : Cell) → m (n * page_bytes) ≡ Some c → flags_at m n ≡ Some (flags_of c)
flags_here m n c is = ap (λ (o : Option Cell). option_map flags_of o) is

pub begun_alike : (m : Memory) (n flags before : ℕ) (blank : Bool) → flags_at m n ≡ Some flags → AreAlike m (begun n flags blank before)
begun_alike m n flags before blank has k low = let here : n + k ≡ n = omega (arith, low) in ap (flags_at m) here ∙ has

pub longer_alike : (m : Memory) (n flags : ℕ) (blank : Bool) (r : Run) → flags_at m n ≡ Some flags → continues n flags r ≡ true →
    AreAlike m r → AreAlike m (longer blank r)
longer_alike m n flags blank r has next h k low = by (nat_lt k r.pages) refl where
  place : n ≡ r.first + r.pages
  place = eqb-true n (r.first + r.pages) (front (n == r.first + r.pages) (flags == r.flags) next)

  same : flags ≡ r.flags
  same = eqb-true flags r.flags (behind (n == r.first + r.pages) (flags == r.flags) next)

  by : (b : Bool) → nat_lt k r.pages ≡ b → flags_at m (r.first + k) ≡ Some r.flags
  by true e = h k (ltb-true k r.pages e)
  by false e =
      let high = ltb-false k r.pages e in
      let here : r.first + k ≡ n = omega (arith, place, high, low) in
      ap (flags_at m) here ∙ has ∙ ap (λ (f : ℕ). Some f) same

page_alike : (m : Memory) (n flags : ℕ) (blank : Bool) (rs : List Run) → flags_at m n ≡ Some flags → AllByRecursion (AreAlike m) rs →
    AllByRecursion (AreAlike m) (with_page n flags blank rs)
page_alike m n flags blank [] has h = (begun_alike m n flags 0 blank has, tt)
page_alike m n flags blank (r ∷ rs) has h = by (continues n flags r) refl where
  by : (b : Bool) → continues n flags r ≡ b →
      AllByRecursion (AreAlike m) (if b then longer blank r ∷ rs else begun n flags blank (r.before + r.filled) ∷ r ∷ rs)
  by true e = (longer_alike m n flags blank r has e h.0, h.1)
  by false e = (begun_alike m n flags (r.before + r.filled) blank has, h)

cell_alike : (m : Memory) (n : ℕ) (o : Option Cell) (rs : List Run) → m (n * page_bytes) ≡ o → AllByRecursion (AreAlike m) rs →
    AllByRecursion (AreAlike m) (with_cell m n o rs)
cell_alike m n None rs is h = h
cell_alike m n (Some c) rs is h = page_alike m n (flags_of c) (is_blank m n) rs (flags_here m n c is) h

runs_alike : (n : ℕ) (m : Memory) → AllByRecursion (AreAlike m) (runs_below n m)
unfolding runs_below
runs_alike zero m = tt
runs_alike (suc n) m = cell_alike m n (m (n * page_bytes)) (runs_below n m) refl (runs_alike n m)

pub all_alike : (m : Memory) → All (AreAlike m) (runs_of m)
all_alike m = All-from_recursion (AreAlike m) _ (reversed (AreAlike m) (runs_below (2 ^ 20) m) (runs_alike (2 ^ 20) m))
