-- Ranges of pages that are there, free, taken away or protected.
use Rattle.std.proofs.Common.{◌≡◌, ◌≢◌, ℕ, zero, suc, ◌+◌, ◌-◌, ◌*◌, ◌/◌, ◌%◌, ◌<◌, ◌≤◌, ◌^◌, nat_lt, Option, Some, None, IfSome, IfNone, not, is_some, is_none, Bool, true, false, refl, ap, ◌∙◌, sym, subst, arith, if◌then◌else◌, inl, inr, IsTrue}
use Rattle.std.proofs.Math.Bool.{and-false}
use Rattle.std.proofs.lemmas.Bool.{false≢true, cases_lt}
use Rattle.std.proofs.lemmas.Bool.Decides.{nat_tests, eqb_tells}
use Rattle.std.specs.Option.{option_map}
use Rattle.page_permissions.specs.declared.page.Permissions.{Permissions}
use Rattle.rrv_model.specs.Memory.{Memory, Cell, is_within, unmapped, protected, with_permissions, is_mapped, all_mapped, all_free, highest_free_up_to, page_count}
use Rattle.page_tables.specs.Contents.{PageValue}
use Rattle.page_tables.specs.Changes.{with_permissions as page_with}
use Rattle.guest_pages.specs.Space.{PageMap, page_at, memory_in, cell_in, IsPage, AreEachPage}
use Rattle.guest_pages.proofs.Facts.{is_mapped_in, pages_below_add}

-- ---- all of a range

pub all_mapped_more : (pages : PageMap) (first number : ℕ) → first ≤ number → is_some (page_at pages number) ≡ true →
    all_mapped (memory_in pages) first (number - first) ≡ true →
    all_mapped (memory_in pages) first (number + 1 - first) ≡ true
unfolding all_mapped
all_mapped_more pages first number begun there before =
    let next : number + 1 - first ≡ suc (number - first) = omega arith in
    let here : first + (number - first) ≡ number = omega arith in
    rw (next, here, is_mapped_in pages number, there, before) refl

pub one_absent : (pages : PageMap) (first count number : ℕ) → first ≤ number → number < first + count →
    is_some (page_at pages number) ≡ false → all_mapped (memory_in pages) first count ≡ false
unfolding all_mapped
one_absent pages first zero number begun low absent = absurd (omega arith)
one_absent pages first (suc count) number begun low absent = elim (eqb_tells number (first + count)) [
  | inl w ↦
      let here : is_mapped (memory_in pages) (first + count) ≡ false =
      is_mapped_in pages (first + count) ∙ subst (λ n. is_some (page_at pages n) ≡ false) w.1 absent in
      rw here refl
  | inr w ↦
      let rest : all_mapped (memory_in pages) first count ≡ false = one_absent pages first count number begun (omega (arith, w.1)) absent in
      rw rest (and-false (is_mapped (memory_in pages) (first + count)))
]

-- ---- a free range

none_of_some : (c : Option Cell) → is_some c ≡ false → is_none c ≡ true
none_of_some None h = refl
none_of_some (Some c) h = absurd (false≢true (sym h))

some_is_taken : (c : Option Cell) → is_some c ≡ true → is_none c ≡ false
some_is_taken None h = absurd (false≢true h)
some_is_taken (Some c) h = refl

pub free_range : (m : Memory) (first count : ℕ) → ((q : ℕ) → first ≤ q → q < first + count → is_mapped m q ≡ false) →
    all_free m first count ≡ true
unfolding all_free
free_range m first zero h = refl
free_range m first (suc count) h =
    let here : is_none (m ((first + count) * 4096)) ≡ true =
    none_of_some (m ((first + count) * 4096)) (h (first + count) (omega arith) (omega arith)) in
    let rest : all_free m first count ≡ true = free_range m first count (λ q from to. h q from (omega arith)) in
    rw (here, rest) refl

pub taken_range : (m : Memory) (first count q : ℕ) → first ≤ q → q < first + count → is_mapped m q ≡ true → all_free m first count ≡ false
unfolding all_free
taken_range m first zero q from to h = absurd (omega arith)
taken_range m first (suc count) q from to h = elim (eqb_tells q (first + count)) [
  | inl w ↦
      let here : is_none (m ((first + count) * 4096)) ≡ false =
      some_is_taken (m ((first + count) * 4096)) (subst (λ n. is_mapped m n ≡ true) w.1 h) in
      rw here refl
  | inr w ↦
      let rest : all_free m first count ≡ false = taken_range m first count q from (omega (arith, w.1)) h in
      rw rest (and-false (is_none (m ((first + count) * 4096))))
]

-- by the least page of a range that is there
pub free_by_first : (m : Memory) (first count : ℕ) (o : Option ℕ) (r : Bool) → is_some o ≡ not r
    → IfSome o (λ q. (first ≤ q) × (q < first + count) × (is_mapped m q ≡ true))
    → IfNone o ((q : ℕ) → first ≤ q → q < first + count → is_mapped m q ≡ false)
    → r ≡ all_free m first count
free_by_first m first count None true e some none = sym (free_range m first count none)
free_by_first m first count None false e some none = absurd (false≢true e)
free_by_first m first count (Some q) true e some none = absurd (false≢true (sym e))
free_by_first m first count (Some q) false e some none = sym (taken_range m first count q some.0 some.1 some.2)

-- no start from which the range holds page q is free
pub skip_taken : (m : Memory) (count q page down : ℕ) → is_mapped m q ≡ true → page ≤ q → q < page + count → q < down + count + 1 →
    down ≤ page → highest_free_up_to page m count ≡ highest_free_up_to down m count
unfolding highest_free_up_to
skip_taken m count q zero down h from to near below = let none : down ≡ 0 = omega arith in rw none refl
skip_taken m count q (suc page) down h from to near below = elim (eqb_tells (suc page) down) [
  | inl w ↦ subst (λ n. highest_free_up_to (suc page) m count ≡ highest_free_up_to n m count) w.1 refl
  | inr w ↦
      let taken : all_free m (suc page) count ≡ false = taken_range m (suc page) count q from to h in
      rw taken (elim (cases_lt q (page + count)) [
        | inl l ↦ skip_taken m count q page down h (omega arith) l near (omega (arith, w.1))
        | inr l ↦ let same : page ≡ down =
            omega (arith, w.1) in subst (λ n. highest_free_up_to page m count ≡ highest_free_up_to n m count) same refl
      ])
]

pub found_free : (m : Memory) (count page : ℕ) → 0 < page → all_free m page count ≡ true → highest_free_up_to page m count ≡ Some page
unfolding highest_free_up_to
found_free m count zero some free = absurd (omega arith)
found_free m count (suc page) some free = rw free refl

pub none_free : (m : Memory) (count : ℕ) → highest_free_up_to 0 m count ≡ None
unfolding highest_free_up_to
none_free m count = refl

-- ---- pages taken away

pub unmapped_in : (pages after : PageMap) (first count : ℕ) → ((q : ℕ) → first ≤ q → q < first + count → page_at after q ≡ None)
    → ((q : ℕ) → q < first → page_at after q ≡ page_at pages q) → ((q : ℕ) → first + count ≤ q → page_at after q ≡ page_at pages q)
    → memory_in after ≡ unmapped (first * 4096) (count * 4096) (memory_in pages)
unfolding memory_in
unmapped_in pages after first count removed below above = λ i x. at x i where
  at : (x : ℕ) → memory_in after x ≡ unmapped (first * 4096) (count * 4096) (memory_in pages) x
  at x = by_test (is_within (first * 4096) (count * 4096) x) refl where
    by_test : (b : Bool) → is_within (first * 4096) (count * 4096) x ≡ b → memory_in after x ≡ (if b then None else memory_in pages x)
    by_test true e = ap (option_map (cell_in (x % 4096))) (removed (x / 4096) (grind (arith, nat_tests)) (grind (arith, nat_tests)))
    by_test false e = ap (option_map (cell_in (x % 4096))) (elim (cases_lt (x / 4096) first) [
      | inl w ↦ below (x / 4096) w
      | inr w ↦ above (x / 4096) (grind (arith, nat_tests))
    ])

pub unmapped_each : (pages after : PageMap) (first count : ℕ) → AreEachPage pages →
    ((q : ℕ) → first ≤ q → q < first + count → page_at after q ≡ None)
    → ((q : ℕ) → q < first → page_at after q ≡ page_at pages q) → ((q : ℕ) → first + count ≤ q → page_at after q ≡ page_at pages q) →
    AreEachPage after
unmapped_each pages after first count h removed below above q = elim (cases_lt q first) [
  | inl w ↦ subst (λ (o : Option PageValue). IfSome o (IsPage q)) (sym (below q w)) (h q)
  | inr w ↦ elim (cases_lt q (first + count)) [
    | inl v ↦ subst (λ (o : Option PageValue). IfSome o (IsPage q)) (sym (removed q w v)) tt
    | inr v ↦ subst (λ (o : Option PageValue). IfSome o (IsPage q)) (sym (above q v)) (h q)
  ]
]

-- a page that is taken away is one less
pub count_removed : (pages after : PageMap) (n : ℕ) → AreEachPage pages → is_some (pages n) ≡ true → after n ≡ None →
    ((q : ℕ) → q ≢ n → after q ≡ pages q) →
    page_count (memory_in after) + 1 ≡ page_count (memory_in pages)
count_removed pages after n h there gone others =
    let absent : is_mapped (memory_in after) n ≡ false = is_mapped_in after n ∙ ap is_some gone in
    let was : is_mapped (memory_in pages) n ≡ true = is_mapped_in pages n ∙ there in
    let one : page_count (memory_in pages) ≡ page_count (memory_in after) + (if nat_lt n (2 ^ 20) then 1 else 0) =
    pages_below_add (memory_in after) (memory_in pages) n
    (λ q apart. is_mapped_in pages q ∙ ap is_some (sym (others q apart)) ∙ sym (is_mapped_in after q)) absent was (2 ^ 20) in
    let high : n < 0x80000 = low_number (pages n) (h n) there in
    let low : nat_lt n (2 ^ 20) ≡ true = grind (arith, nat_tests) in
    sym (one ∙ rw low refl) where
      low_number : (o : Option PageValue) → IfSome o (IsPage n) → is_some o ≡ true → n < 0x80000
      low_number None i e = absurd (false≢true e)
      low_number (Some p) i e = i.high

-- ---- pages protected

protected_cell : (permissions : Permissions) (p : Option PageValue) (k : ℕ) →
    option_map (cell_in k) (option_map (page_with permissions) p) ≡ with_permissions permissions (option_map (cell_in k) p)
protected_cell permissions None k = refl
protected_cell permissions (Some p) k = refl

pub protected_in : (pages after : PageMap) (permissions : Permissions) (first count : ℕ) →
    ((q : ℕ) → first ≤ q → q < first + count → page_at after q ≡ option_map (page_with permissions) (page_at pages q))
    → ((q : ℕ) → q < first → page_at after q ≡ page_at pages q) → ((q : ℕ) → first + count ≤ q → page_at after q ≡ page_at pages q)
    → memory_in after ≡ protected (first * 4096) (count * 4096) permissions (memory_in pages)
unfolding memory_in
protected_in pages after permissions first count inside below above = λ i x. at x i where
  at : (x : ℕ) → memory_in after x ≡ protected (first * 4096) (count * 4096) permissions (memory_in pages) x
  at x = by_test (is_within (first * 4096) (count * 4096) x) refl where
    by_test : (b : Bool) → is_within (first * 4096) (count * 4096) x ≡ b →
        memory_in after x ≡ (if b then with_permissions permissions (memory_in pages x) else memory_in pages x)
    by_test true e =
        ap (option_map (cell_in (x % 4096))) (inside (x / 4096) (grind (arith, nat_tests)) (grind (arith, nat_tests)))
        ∙ protected_cell permissions (page_at pages (x / 4096)) (x % 4096)
    by_test false e = ap (option_map (cell_in (x % 4096))) (elim (cases_lt (x / 4096) first) [
      | inl w ↦ below (x / 4096) w
      | inr w ↦ above (x / 4096) (grind (arith, nat_tests))
    ])

protected_is_page : (permissions : Permissions) (n : ℕ) (p : Option PageValue) → (IsTrue permissions.write → IsTrue permissions.read) →
    IfSome p (IsPage n) → IfSome (option_map (page_with permissions) p) (IsPage n)
protected_is_page permissions n None readable h = tt
protected_is_page permissions n (Some p) readable h =
    record { low = h.low; high = h.high; full = h.full; bytes = h.bytes; readable = readable }

pub protected_each : (pages after : PageMap) (permissions : Permissions) (first count : ℕ) → AreEachPage pages →
    (IsTrue permissions.write → IsTrue permissions.read)
    → ((q : ℕ) → first ≤ q → q < first + count → page_at after q ≡ option_map (page_with permissions) (page_at pages q))
    → ((q : ℕ) → q < first → page_at after q ≡ page_at pages q) → ((q : ℕ) → first + count ≤ q → page_at after q ≡ page_at pages q) →
    AreEachPage after
protected_each pages after permissions first count h readable inside below above q = elim (cases_lt q first) [
  | inl w ↦ subst (λ (o : Option PageValue). IfSome o (IsPage q)) (sym (below q w)) (h q)
  | inr w ↦ elim (cases_lt q (first + count)) [
    | inl v ↦ subst (λ (o : Option PageValue). IfSome o (IsPage q)) (sym (inside q w v))
        (protected_is_page permissions q (page_at pages q) readable (h q))
    | inr v ↦ subst (λ (o : Option PageValue). IfSome o (IsPage q)) (sym (above q v)) (h q)
  ]
]

pub protected_there : (pages after : PageMap) (permissions : Permissions) (first count : ℕ)
    → ((q : ℕ) → first ≤ q → q < first + count → page_at after q ≡ option_map (page_with permissions) (page_at pages q))
    → ((q : ℕ) → q < first → page_at after q ≡ page_at pages q) → ((q : ℕ) → first + count ≤ q → page_at after q ≡ page_at pages q)
    → (q : ℕ) → is_some (after q) ≡ is_some (pages q)
protected_there pages after permissions first count inside below above q = elim (cases_lt q first) [
  | inl w ↦ ap is_some (below q w)
  | inr w ↦ elim (cases_lt q (first + count)) [
    | inl v ↦ ap is_some (inside q w v) ∙ still (pages q)
    | inr v ↦ ap is_some (above q v)
  ]
] where
  still : (o : Option PageValue) → is_some (option_map (page_with permissions) o) ≡ is_some o
  still None = refl
  still (Some p) = refl
