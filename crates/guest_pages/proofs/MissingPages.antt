-- Which pages a mapping adds, and the pages after it.
use Rattle.std.proofs.Common.{◌≡◌, ◌≢◌, ℕ, zero, suc, ◌+◌, ◌-◌, ◌*◌, ◌/◌, ◌%◌, ◌<◌, ◌≤◌, List, [], ◌∷◌, ◌++◌, length, Option, Some, None, IfSome, is_some, Bool, true, false, refl, ap, ◌∙◌, sym, subst, arith, slice_index, if◌then◌else◌, inl, inr, IsTrue, ◌^◌, nat_lt, ◌||◌, length-append, add-zero, replicate}
use Rattle.std.proofs.Math.Bool.{or-true}
use Rattle.std.proofs.lemmas.Bool.{false≢true, cases_lt}
use Rattle.std.proofs.lemmas.Bool.Decides.{nat_tests, eqb_tells}
use Rattle.std.proofs.lemmas.List.{append-nil, length-replicate}
use Rattle.std.specs.Option.{option_map}
use Rattle.page_permissions.specs.declared.page.Permissions.{Permissions}
use Rattle.rrv_model.specs.Memory.{Memory, Cell, is_within, mapped, pages_below, page_count, is_mapped}
use Rattle.page_tables.specs.Contents.{PageValue}
use Rattle.page_tables.specs.Changes.{is_listed, with_permissions}
use Rattle.guest_pages.specs.Space.{PageMap, page_at, memory_in, cell_in, IsPage, AreEachPage}
use Rattle.guest_pages.specs.Mapping.{missing, clear_page, union, covered, covered_cell}
use Rattle.guest_pages.proofs.Facts.{is_mapped_in, pages_below_same, pages_below_add}

pub missing_more : (pages : PageMap) (first number : ℕ) → first ≤ number →
    missing pages first (number + 1 - first) ≡ missing pages first (number - first)
    ++ (if is_some (page_at pages number) then [] else number ∷ [])
unfolding missing
missing_more pages first number begun =
    let next : number + 1 - first ≡ suc (number - first) = omega arith in
    let here : first + (number - first) ≡ number = omega arith in
    ap (missing pages first) next
    ∙ ap (λ (n : ℕ). missing pages first (number - first) ++ (if is_some (page_at pages n) then [] else n ∷ [])) here

pub missing_there : (pages : PageMap) (first number : ℕ) → first ≤ number → is_some (page_at pages number) ≡ true →
    missing pages first (number + 1 - first) ≡ missing pages first (number - first)
missing_there pages first number begun there =
    missing_more pages first number begun ∙ rw there (append-nil (missing pages first (number - first)))

pub missing_absent : (pages : PageMap) (first number : ℕ) → first ≤ number → is_some (page_at pages number) ≡ false →
    missing pages first (number + 1 - first) ≡ missing pages first (number - first) ++ number ∷ []
missing_absent pages first number begun absent = missing_more pages first number begun ∙ rw absent refl

pub missing_none : (pages : PageMap) (first : ℕ) → missing pages first (first - first) ≡ []
unfolding missing
missing_none pages first = let none : first - first ≡ 0 = omega arith in rw none refl

-- where some are missing, one is
pub missing_some : (pages : PageMap) (first count : ℕ) → 1 ≤ length (missing pages first count) → (q : ℕ) × (first ≤ q) ×
    (q < first + count) × (pages q ≡ None)
unfolding missing
missing_some pages first zero some = absurd (omega arith)
missing_some pages first (suc count) some = by_last (pages (first + count)) refl (missing_some pages first count) some where
  by_last : (o : Option PageValue) → pages (first + count) ≡ o →
      (1 ≤ length (missing pages first count) → (q : ℕ) × (first ≤ q) × (q < first + count) × (pages q ≡ None)) →
      1 ≤ length (missing pages first count ++ (if is_some o then [] else (first + count) ∷ [])) → (q : ℕ) × (first ≤ q) ×
      (q < first + suc count) × (pages q ≡ None)
  by_last None e before more = (first + count, omega arith, omega arith, e)
  by_last (Some p) e before more =
      let w = before (omega (arith, more, length-append (missing pages first count) [])) in
      (w.0, w.1, omega (arith, w.2), w.3)

-- ---- how many pages are mapped after it

-- what is mapped after a mapping
pub is_mapped_after : (first count : ℕ) (permissions : Permissions) (m : Memory) (q : ℕ) →
    is_mapped (mapped (first * 4096) (count * 4096) permissions m) q ≡ (is_within first count q || is_mapped m q)
is_mapped_after first count permissions m q =
    let same : is_within (first * 4096) (count * 4096) (q * 4096) ≡ is_within first count q = grind (arith, nat_tests) in
    rw same (by_test (is_within first count q)) where
      by_test : (b : Bool) →
          is_some (if b then Some (record { byte = 0; permissions = permissions }) else m (q * 4096)) ≡ (b || is_some (m (q * 4096)))
      by_test true = refl
      by_test false = refl

within_same : (first count q : ℕ) → q ≢ first + count → is_within first (suc count) q ≡ is_within first count q
within_same first count q apart = grind (arith, nat_tests)

past_end : (first count : ℕ) → is_within first count (first + count) ≡ false
past_end first count = grind (arith, nat_tests)

at_end : (first count : ℕ) → is_within first (suc count) (first + count) ≡ true
at_end first count = grind (arith, nat_tests)

still : (m : Memory) (first count q : ℕ) → is_mapped m (first + count) ≡ true →
    (is_within first (suc count) q || is_mapped m q) ≡ (is_within first count q || is_mapped m q)
still m first count q there = elim (eqb_tells q (first + count)) [
  | inl w ↦ let now : is_mapped m q ≡ true =
      subst (λ k. is_mapped m k ≡ true) (sym w.1) there in
      rw now (or-true (is_within first (suc count) q) ∙ sym (or-true (is_within first count q)))
  | inr w ↦ rw (within_same first count q w.1) refl
]

pub count_mapped : (pages : PageMap) (permissions : Permissions) (limit first count : ℕ) → first + count ≤ limit →
    pages_below limit (mapped (first * 4096) (count * 4096) permissions (memory_in pages)) ≡ pages_below limit (memory_in pages)
    + length (missing pages first count)
unfolding missing
count_mapped pages permissions limit first zero fits =
    pages_below_same (memory_in pages) (mapped (first * 4096) (0 * 4096) permissions (memory_in pages))
    (λ q. is_mapped_after first 0 permissions (memory_in pages) q ∙ none_in q) limit ∙ sym (add-zero _) where
      none_in : (q : ℕ) → (is_within first 0 q || is_mapped (memory_in pages) q) ≡ is_mapped (memory_in pages) q
      none_in q = let none : is_within first 0 q ≡ false = grind (arith, nat_tests) in rw none refl
count_mapped pages permissions limit first (suc count) fits =
    let before : pages_below limit (mapped (first * 4096) (count * 4096) permissions (memory_in pages))
    ≡ pages_below limit (memory_in pages) + length (missing pages first count) =
    count_mapped pages permissions limit first count (omega arith) in
    by_last (is_some (page_at pages (first + count))) refl before where
      after : ℕ → Memory
      after n = mapped (first * 4096) (n * 4096) permissions (memory_in pages)

      by_last : (b : Bool) → is_some (page_at pages (first + count)) ≡ b →
          pages_below limit (after count) ≡ pages_below limit (memory_in pages) + length (missing pages first count) →
          pages_below limit (after (suc count)) ≡ pages_below limit (memory_in pages)
          + length (missing pages first count ++ (if b then [] else (first + count) ∷ []))
      by_last true e before =
          let same : (q : ℕ) → is_mapped (after (suc count)) q ≡ is_mapped (after count) q = λ q.
          is_mapped_after first (suc count) permissions (memory_in pages) q
          ∙ still (memory_in pages) first count q (is_mapped_in pages (first + count) ∙ e)
          ∙ sym (is_mapped_after first count permissions (memory_in pages) q) in
          pages_below_same (after count) (after (suc count)) same limit ∙ before
          ∙ ap (λ (xs : List ℕ). pages_below limit (memory_in pages) + length xs) (sym (append-nil (missing pages first count)))
      by_last false e before =
          let others : (q : ℕ) → q ≢ first + count → is_mapped (after (suc count)) q ≡ is_mapped (after count) q = λ q apart.
          is_mapped_after first (suc count) permissions (memory_in pages) q
          ∙ ap (λ b. b || is_mapped (memory_in pages) q) (within_same first count q apart)
          ∙ sym (is_mapped_after first count permissions (memory_in pages) q) in
          let absent : is_mapped (after count) (first + count) ≡ false =
          is_mapped_after first count permissions (memory_in pages) (first + count)
          ∙ ap (λ b. b || is_mapped (memory_in pages) (first + count)) (past_end first count) ∙ is_mapped_in pages (first + count)
          ∙ e in
          let there : is_mapped (after (suc count)) (first + count) ≡ true =
          is_mapped_after first (suc count) permissions (memory_in pages) (first + count)
          ∙ ap (λ b. b || is_mapped (memory_in pages) (first + count)) (at_end first count) in
          let low : first + count < limit = omega arith in
          let one : pages_below limit (after (suc count)) ≡ pages_below limit (after count)
          + (if nat_lt (first + count) limit then 1 else 0) =
          pages_below_add (after count) (after (suc count)) (first + count) others absent there limit in
          let longer : length (missing pages first count ++ (first + count) ∷ []) ≡ length (missing pages first count) + 1 =
          length-append (missing pages first count) ((first + count) ∷ []) in
          grind (arith, nat_tests)

-- the page count after a mapping
pub page_count_mapped : (pages : PageMap) (permissions : Permissions) (first count : ℕ) → first + count ≤ 0x80000 →
    page_count (mapped (first * 4096) (count * 4096) permissions (memory_in pages)) ≡ page_count (memory_in pages)
    + length (missing pages first count)
page_count_mapped pages permissions first count fits = count_mapped pages permissions (2 ^ 20) first count (omega arith)

-- ---- the pages after a mapping

pub zeros_at : (n k : ℕ) → slice_index (replicate n 0) k ≡ 0
zeros_at zero k = refl
zeros_at (suc n) zero = refl
zeros_at (suc n) (suc k) = zeros_at n k

clear_cell : (permissions : Permissions) (k : ℕ) → cell_in k (clear_page permissions) ≡ record { byte = 0; permissions = permissions }
clear_cell permissions k = ap (λ (b : ℕ). let c : Cell = record { byte = b; permissions = permissions } in c) (zeros_at 4096 k)

-- some pages are there with zeros, and the others as before: this is the mapping
pub mapped_in : (pages after : PageMap) (permissions : Permissions) (first count : ℕ)
    → ((q : ℕ) → first ≤ q → q < first + count → after q ≡ Some (clear_page permissions))
    → ((q : ℕ) → is_within first count q ≡ false → after q ≡ pages q)
    → memory_in after ≡ mapped (first * 4096) (count * 4096) permissions (memory_in pages)
unfolding memory_in
mapped_in pages after permissions first count inside outside = λ i x. at x i where
  at : (x : ℕ) → memory_in after x ≡ mapped (first * 4096) (count * 4096) permissions (memory_in pages) x
  at x =
      let same : is_within (first * 4096) (count * 4096) x ≡ is_within first count (x / 4096) = grind (arith, nat_tests) in
      rw same (by_test (is_within first count (x / 4096)) refl) where
        by_test : (b : Bool) → is_within first count (x / 4096) ≡ b →
            memory_in after x ≡ (if b then Some (record { byte = 0; permissions = permissions }) else memory_in pages x)
        by_test true e =
            ap (option_map (cell_in (x % 4096))) (inside (x / 4096) (grind (arith, nat_tests)) (grind (arith, nat_tests)))
            ∙ ap Some (clear_cell permissions (x % 4096))
        by_test false e = ap (option_map (cell_in (x % 4096))) (outside (x / 4096) e)

-- one page of zeros, where there was none
clear_is_page : (permissions : Permissions) (n : ℕ) → 1 ≤ n → n < 0x80000 → (IsTrue permissions.write → IsTrue permissions.read) →
    IsPage n (clear_page permissions)
clear_is_page permissions n low high readable = record {
  low = low;
  high = high;
  full = length-replicate {A = ℕ} 4096 0;
  bytes = λ k. omega (arith, zeros_at 4096 k);
  readable = readable;
}

pub mapped_each : (pages after : PageMap) (permissions : Permissions) (first count : ℕ) → AreEachPage pages → 1 ≤ first →
    first + count ≤ 0x80000 → (IsTrue permissions.write → IsTrue permissions.read)
    → ((q : ℕ) → first ≤ q → q < first + count → after q ≡ Some (clear_page permissions))
    → ((q : ℕ) → is_within first count q ≡ false → after q ≡ pages q)
    → AreEachPage after
mapped_each pages after permissions first count h low high readable inside outside q = by_test (is_within first count q) refl where
  by_test : (b : Bool) → is_within first count q ≡ b → IfSome (after q) (IsPage q)
  by_test true e =
      let from : first ≤ q = grind (arith, nat_tests) in
      let to : q < first + count = grind (arith, nat_tests) in
      subst (λ (o : Option PageValue). IfSome o (IsPage q)) (sym (inside q from to))
      (clear_is_page permissions q (omega (arith, from)) (omega (arith, to)) readable)
  by_test false e = subst (λ (o : Option PageValue). IfSome o (IsPage q)) (sym (outside q e)) (h q)

-- the pages of a range are cleared once they are the current table's own, and the others are as they were
pub others_after : (pages mid after : PageMap) (numbers : List ℕ) (first count : ℕ)
    → ((q : ℕ) → is_listed numbers q ≡ true → first ≤ q) → ((q : ℕ) → is_listed numbers q ≡ true → q < first + count)
    → ((q : ℕ) → is_listed numbers q ≡ false → mid q ≡ pages q)
    → ((q : ℕ) → q < first → after q ≡ mid q) → ((q : ℕ) → first + count ≤ q → after q ≡ mid q)
    → (q : ℕ) → is_within first count q ≡ false → after q ≡ pages q
others_after pages mid after numbers first count from to kept below above q outside = elim (cases_lt q first) [
  | inl w ↦ below q w ∙ kept q (not_listed (is_listed numbers q) refl)
  | inr w ↦ let past : first + count ≤ q = grind (arith, nat_tests) in above q past ∙ kept q (not_listed (is_listed numbers q) refl)
] where
  not_listed : (b : Bool) → is_listed numbers q ≡ b → is_listed numbers q ≡ false
  not_listed false e = e
  not_listed true e =
      let l : first ≤ q = from q e in
      let h : q < first + count = to q e in
      absurd (grind (arith, nat_tests))

-- ---- one page covered

-- a page that wasn't there is mapped
pub covered_absent : (pages : PageMap) (permissions : Permissions) (n : ℕ) → pages n ≡ None →
    covered n permissions (memory_in pages) ≡ mapped (n * 4096) (1 * 4096) permissions (memory_in pages)
unfolding memory_in
covered_absent pages permissions n absent = λ i x. at x i where
  at : (x : ℕ) → covered n permissions (memory_in pages) x ≡ mapped (n * 4096) (1 * 4096) permissions (memory_in pages) x
  at x = by_test (is_within (n * 4096) 4096 x) refl where
    by_test : (b : Bool) → is_within (n * 4096) 4096 x ≡ b →
        (if b then Some (covered_cell permissions (memory_in pages x)) else memory_in pages x)
        ≡ (if b then Some (record { byte = 0; permissions = permissions }) else memory_in pages x)
    by_test true e =
        let place : x / 4096 ≡ n = grind (arith, nat_tests) in
        let none : memory_in pages x ≡ None = rw (place, absent) refl in
        ap (λ (c : Option Cell). Some (covered_cell permissions c)) none
    by_test false e = refl

missing_one : (pages : PageMap) (n : ℕ) → pages n ≡ None → length (missing pages n 1) ≡ 1
unfolding missing
missing_one pages n absent = let place : n + 0 ≡ n = omega arith in rw (place, absent) refl

-- what it costs
pub page_count_covered : (pages : PageMap) (permissions : Permissions) (n : ℕ) → n < 0x80000 → pages n ≡ None →
    page_count (covered n permissions (memory_in pages)) ≡ page_count (memory_in pages) + 1
page_count_covered pages permissions n high absent =
    ap page_count (covered_absent pages permissions n absent) ∙ page_count_mapped pages permissions n 1 (omega arith)
    ∙ ap (λ k. page_count (memory_in pages) + k) (missing_one pages n absent)

only_one : (after : PageMap) (n q : ℕ) (p : PageValue) → after n ≡ Some p → n ≤ q → q < n + 1 → after q ≡ Some p
only_one after n q p here from to = let same : n ≡ q = omega arith in subst (λ k. after k ≡ Some p) same here

not_one : (n q : ℕ) → is_within n 1 q ≡ false → q ≢ n
not_one n q out e = absurd (grind (arith, nat_tests))

pub covered_each : (pages after : PageMap) (permissions : Permissions) (n : ℕ) → AreEachPage pages → 1 ≤ n → n < 0x80000 →
    (IsTrue permissions.write → IsTrue permissions.read)
    → after n ≡ Some (clear_page permissions) → ((q : ℕ) → q ≢ n → after q ≡ pages q) → AreEachPage after
covered_each pages after permissions n h low high readable here others =
    mapped_each pages after permissions n 1 h low (omega arith) readable
    (λ q from to. only_one after n q (clear_page permissions) here from to) (λ q out. others q (not_one n q out))

pub covered_added : (pages after : PageMap) (permissions : Permissions) (n : ℕ) → pages n ≡ None → after n ≡ Some (clear_page permissions) →
    ((q : ℕ) → q ≢ n → after q ≡ pages q)
    → memory_in after ≡ covered n permissions (memory_in pages)
covered_added pages after permissions n absent here others =
    mapped_in pages after permissions n 1 (λ q from to. only_one after n q (clear_page permissions) here from to)
    (λ q out. others q (not_one n q out)) ∙ sym (covered_absent pages permissions n absent)

-- a page that was there
pub covered_joined : (pages after : PageMap) (permissions joined : Permissions) (p : PageValue) (n : ℕ) →
    joined ≡ union p.permissions permissions → pages n ≡ Some p
    → after n ≡ option_map (with_permissions joined) (pages n) → ((q : ℕ) → q ≢ n → after q ≡ pages q) →
    memory_in after ≡ covered n permissions (memory_in pages)
unfolding memory_in
covered_joined pages after permissions joined p n is found here others = λ i x. at x i where
  at : (x : ℕ) → memory_in after x ≡ covered n permissions (memory_in pages) x
  at x = by_test (is_within (n * 4096) 4096 x) refl where
    by_test : (b : Bool) → is_within (n * 4096) 4096 x ≡ b →
        memory_in after x ≡ (if b then Some (covered_cell permissions (memory_in pages x)) else memory_in pages x)
    by_test true e =
        let place : x / 4096 ≡ n = grind (arith, nat_tests) in
        rw (place, here, found, is) refl
    by_test false e =
        let apart : x / 4096 ≢ n = λ f. absurd (grind (arith, nat_tests)) in
        ap (option_map (cell_in (x % 4096))) (others (x / 4096) apart)

either : (r w s v : Bool) → (IsTrue w → IsTrue r) → (IsTrue v → IsTrue s) → IsTrue (w || v) → IsTrue (r || s)
either true w s v f g t = refl
either false true s v f g t = absurd (false≢true (f refl))
either false false s v f g t = g t

pub joined_each : (pages after : PageMap) (permissions joined : Permissions) (p : PageValue) (n : ℕ) →
    joined ≡ union p.permissions permissions → AreEachPage pages
    → (IsTrue permissions.write → IsTrue permissions.read) → pages n ≡ Some p
    → after n ≡ option_map (with_permissions joined) (pages n) → ((q : ℕ) → q ≢ n → after q ≡ pages q) → AreEachPage after
joined_each pages after permissions joined p n is h readable found here others q = elim (eqb_tells q n) [
  | inl w ↦ subst (λ k. IfSome (after k) (IsPage k)) (sym w.1) (rw (here, found) at_it)
  | inr w ↦ subst (λ (o : Option PageValue). IfSome o (IsPage q)) (sym (others q w.1)) (h q)
] where
  was : IsPage n p
  was = subst (λ (o : Option PageValue). IfSome o (IsPage n)) found (h n)

  at_it : IsPage n (with_permissions joined p)
  at_it = record {
    low = was.low;
    high = was.high;
    full = was.full;
    bytes = was.bytes;
    readable = subst (λ (r : Permissions). IsTrue r.write → IsTrue r.read) (sym is)
        (either p.permissions.read p.permissions.write permissions.read permissions.write was.readable readable);
  }

pub joined_there : (pages after : PageMap) (joined : Permissions) (n : ℕ) → after n ≡ option_map (with_permissions joined) (pages n) →
    ((q : ℕ) → q ≢ n → after q ≡ pages q)
    → (q : ℕ) → is_some (after q) ≡ is_some (pages q)
joined_there pages after joined n here others q = elim (eqb_tells q n) [
  | inl w ↦ ap (λ k. is_some (after k)) w.1 ∙ ap is_some here ∙ still (pages n) ∙ ap (λ k. is_some (pages k)) (sym w.1)
  | inr w ↦ ap is_some (others q w.1)
] where
  still : (o : Option PageValue) → is_some (option_map (with_permissions joined) o) ≡ is_some o
  still None = refl
  still (Some p) = refl
