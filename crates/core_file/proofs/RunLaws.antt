-- The runs that the recursion finds are those of the memory.
use Rattle.std.proofs.Common.{◌≡◌, ◌≢◌, ◌∙◌, ℕ, zero, suc, ◌+◌, ◌-◌, ◌*◌, ◌^◌, ◌<◌, ◌≤◌, inl, inr, ◌==◌, Bool, true, false, if◌then◌else◌, List, [], ◌∷◌, Option, Some, None, option_map, is_some, refl, sym, ap, subst, nat_lt, eq-eqb, eqb-true, ltb-true, ltb-false, arith}
use Rattle.std.specs.List.{AllByRecursion}
use Rattle.std.proofs.lemmas.Bool.{false≢true}
use Rattle.std.proofs.lemmas.List.Sums.{sum_by-cons}
use Rattle.rrv_model.specs.Memory.{Memory, Cell, is_mapped, page_bytes, IsPaged}
use Rattle.core_file.specs.declared.runs.Run.{Run}
use Rattle.core_file.specs.Runs.{begun, continues, flags_at, flags_of, is_blank, longer, runs_below, with_cell, with_page, AreAlike, Fall, IsInOne, IsRun, RunsAreFound}
use Rattle.core_file.proofs.RunRules.{begun_alike, flags_here, front, longer_alike}

-- a run of the pages below n, which page n may go on
pub record IsRunBelow (m : Memory) (n : ℕ) (r : Run) : Type 0 where
  pub some : 1 ≤ r.pages
  pub alike : AreAlike m r
  pub below : (p : ℕ) → p + 1 ≡ r.first → flags_at m p ≢ Some r.flags
  pub above : r.first + r.pages < n → flags_at m (r.first + r.pages) ≢ Some r.flags
  pub high : r.first + r.pages ≤ n
  pub filled : r.filled ≤ r.pages
  pub last : (k : ℕ) → k + 1 ≡ r.filled → is_blank m (r.first + k) ≡ false
  pub blank : (k : ℕ) → r.filled ≤ k → k < r.pages → is_blank m (r.first + k) ≡ true

-- the runs of the pages below n
pub record AreRunsBelow (m : Memory) (n : ℕ) (rs : List Run) : Type 0 where
  pub each : AllByRecursion (IsRunBelow m n) rs
  pub every : (p : ℕ) → p < n → is_mapped m p ≡ true → IsInOne p rs
  pub fall : Fall rs

-- ---- flags

mapped_where : (m : Memory) (n flags : ℕ) → flags_at m n ≡ Some flags → is_mapped m n ≡ true
mapped_where m n flags has = by (m (n * page_bytes)) has where
  by : (o : Option Cell) → option_map flags_of o ≡ Some flags → is_some o ≡ true
  by None e = cc
  by (Some c) e = refl

same_flags : (o : Option ℕ) (a b : ℕ) → o ≡ Some a → o ≡ Some b → a ≡ b
same_flags o a b p q = cc

none_there : (o : Option ℕ) (a : ℕ) → o ≡ None → o ≡ Some a → ⊥
none_there o a p q = cc

goes_on : (n flags : ℕ) (r : Run) → n ≡ r.first + r.pages → flags ≡ r.flags → continues n flags r ≡ true
goes_on n flags r place same = rw (eq-eqb n (r.first + r.pages) place, eq-eqb flags r.flags same) refl

-- ---- one page more

-- page n has not the run's flags, where it lies next to the run
higher : (m : Memory) (n : ℕ) (r : Run) → (n ≡ r.first + r.pages → flags_at m n ≢ Some r.flags) → IsRunBelow m n r → IsRunBelow m (suc n) r
higher m n r other f = record {
  some = f.some;
  alike = f.alike;
  below = f.below;
  above = λ low. by (nat_lt (r.first + r.pages) n) refl low;
  high = omega (arith, f.high);
  filled = f.filled;
  last = f.last;
  blank = f.blank;
} where
  by : (b : Bool) → nat_lt (r.first + r.pages) n ≡ b → r.first + r.pages < suc n → flags_at m (r.first + r.pages) ≢ Some r.flags
  by true e low = f.above (ltb-true (r.first + r.pages) n e)
  by false e low =
      let not_low = ltb-false (r.first + r.pages) n e in
      let here : n ≡ r.first + r.pages = omega (arith, not_low, low) in
      λ has. other here (ap (flags_at m) here ∙ has)

-- page n is not mapped
higher_all : (m : Memory) (n : ℕ) (rs : List Run) → flags_at m n ≡ None → AllByRecursion (IsRunBelow m n) rs →
    AllByRecursion (IsRunBelow m (suc n)) rs
higher_all m n [] none h = tt
higher_all m n (r ∷ rs) none h =
    (higher m n r (λ here has. none_there (flags_at m n) r.flags none has) h.0, higher_all m n rs none h.1)

-- page n lies above another run, which lies above these
higher_rest : (m : Memory) (n first : ℕ) (rs : List Run) → first < n → AllByRecursion (λ s. s.first + s.pages ≤ first) rs →
    AllByRecursion (IsRunBelow m n) rs → AllByRecursion (IsRunBelow m (suc n)) rs
higher_rest m n first [] low under h = tt
higher_rest m n first (r ∷ rs) low under h =
    (higher m n r (λ here. absurd (omega (arith, here, under.0, low))) h.0, higher_rest m n first rs low under.1 h.1)

begun_below : (m : Memory) (n flags before : ℕ) (blank : Bool) → is_blank m n ≡ blank → flags_at m n ≡ Some flags →
    ((p : ℕ) → p + 1 ≡ n → flags_at m p ≢ Some flags) → IsRunBelow m (suc n) (begun n flags blank before)
begun_below m n flags before blank is has low = record {
  some = omega arith;
  alike = begun_alike m n flags before blank has;
  below = low;
  above = λ l. absurd (omega (arith, l));
  high = omega arith;
  filled = filled blank;
  last = last blank is;
  blank = behind blank is;
} where
  filled : (b : Bool) → (begun n flags b before).filled ≤ 1
  filled true = omega arith
  filled false = omega arith

  last : (b : Bool) → is_blank m n ≡ b → (k : ℕ) → k + 1 ≡ (begun n flags b before).filled → is_blank m (n + k) ≡ false
  last true is k e = absurd (omega (arith, e))
  last false is k e = let here : n + k ≡ n = omega (arith, e) in ap (is_blank m) here ∙ is

  behind : (b : Bool) → is_blank m n ≡ b → (k : ℕ) → (begun n flags b before).filled ≤ k → k < 1 → is_blank m (n + k) ≡ true
  behind true is k from to = let here : n + k ≡ n = omega (arith, to) in ap (is_blank m) here ∙ is
  behind false is k from to = absurd (omega (arith, from, to))

longer_below : (m : Memory) (n flags : ℕ) (blank : Bool) (r : Run) → is_blank m n ≡ blank → flags_at m n ≡ Some flags →
    continues n flags r ≡ true →
    IsRunBelow m n r → IsRunBelow m (suc n) (longer blank r)
longer_below m n flags blank r is has next f = record {
  some = omega arith;
  alike = longer_alike m n flags blank r has next f.alike;
  below = f.below;
  above = λ l. absurd (omega (arith, l, place));
  high = omega (arith, place);
  filled = filled blank;
  last = last blank is;
  blank = behind blank is;
} where
  place : n ≡ r.first + r.pages
  place = eqb-true n (r.first + r.pages) (front (n == r.first + r.pages) (flags == r.flags) next)

  filled : (b : Bool) → (longer b r).filled ≤ r.pages + 1
  filled true = omega (arith, f.filled)
  filled false = omega arith

  last : (b : Bool) → is_blank m n ≡ b → (k : ℕ) → k + 1 ≡ (longer b r).filled → is_blank m (r.first + k) ≡ false
  last true is k e = f.last k e
  last false is k e = let here : r.first + k ≡ n = omega (arith, e, place) in ap (is_blank m) here ∙ is

  among : (k : ℕ) (low : Bool) → nat_lt k r.pages ≡ low → is_blank m n ≡ true → r.filled ≤ k → k < r.pages + 1 →
      is_blank m (r.first + k) ≡ true
  among k true e is from to = f.blank k from (ltb-true k r.pages e)
  among k false e is from to =
      let not_low = ltb-false k r.pages e in
      let here : r.first + k ≡ n = omega (arith, not_low, to, place) in
      ap (is_blank m) here ∙ is

  behind : (b : Bool) → is_blank m n ≡ b → (k : ℕ) → (longer b r).filled ≤ k → k < r.pages + 1 → is_blank m (r.first + k) ≡ true
  behind true is k from to = among k (nat_lt k r.pages) refl is from to
  behind false is k from to = absurd (omega (arith, from, to))

-- ---- the runs with page n

-- a page in one of the runs lies below what they lie below
in_low : (p first : ℕ) (rs : List Run) → AllByRecursion (λ s. s.first + s.pages ≤ first) rs → IsInOne p rs → p < first
in_low p first [] under h = absurd h
in_low p first (r ∷ rs) under (inl h) = omega (arith, h.1, under.0)
in_low p first (r ∷ rs) under (inr h) = in_low p first rs under.1 h

all_low : (m : Memory) (n : ℕ) (rs : List Run) → AllByRecursion (IsRunBelow m n) rs → AllByRecursion (λ s. s.first + s.pages ≤ n) rs
all_low m n [] h = tt
all_low m n (r ∷ rs) h = (h.0.high, all_low m n rs h.1)

-- a page below n, or page n
each_page : (P : ℕ → Type 0) (n : ℕ) → ((p : ℕ) → p < n → P p) → P n → (p : ℕ) → p < suc n → P p
each_page P n before here p low = by (nat_lt p n) refl where
  by : (b : Bool) → nat_lt p n ≡ b → P p
  by true e = before p (ltb-true p n e)
  by false e = let not_low = ltb-false p n e in let same : n ≡ p = omega (arith, not_low, low) in subst P same here

first_page : (m : Memory) (n flags : ℕ) (blank : Bool) → is_blank m n ≡ blank → flags_at m n ≡ Some flags → AreRunsBelow m n [] →
    AreRunsBelow m (suc n) (begun n flags blank 0 ∷ [])
first_page m n flags blank is has h = record {
  each = (begun_below m n flags 0 blank is has (λ p e has'. h.every p (omega (arith, e)) (mapped_where m p flags has')), tt);
  every = each_page (λ p. is_mapped m p ≡ true → IsInOne p (begun n flags blank 0 ∷ [])) n
      (λ p low there. inr (h.every p low there)) (λ _. inl (omega arith, omega arith));
  fall = (tt, refl, tt);
}

next_page : (m : Memory) (n flags : ℕ) (blank : Bool) (r : Run) (rs : List Run) → is_blank m n ≡ blank → flags_at m n ≡ Some flags →
    continues n flags r ≡ true →
    AreRunsBelow m n (r ∷ rs) → AreRunsBelow m (suc n) (longer blank r ∷ rs)
next_page m n flags blank r rs is has next h = record {
  each = (
    longer_below m n flags blank r is has next h.each.0,
    higher_rest m n r.first rs (omega (arith, h.each.0.some, h.each.0.high)) h.fall.0 h.each.1,
  );
  every = each_page (λ p. is_mapped m p ≡ true → IsInOne p (longer blank r ∷ rs)) n (λ p low there. wider p (h.every p low there))
      (λ _. inl (omega (arith, place), omega (arith, place)));
  fall = h.fall;
} where
  place : n ≡ r.first + r.pages
  place = eqb-true n (r.first + r.pages) (front (n == r.first + r.pages) (flags == r.flags) next)

  wider : (p : ℕ) → IsInOne p (r ∷ rs) → IsInOne p (longer blank r ∷ rs)
  wider p (inl w) = inl (w.0, omega (arith, w.1))
  wider p (inr w) = inr w

new_page : (m : Memory) (n flags : ℕ) (blank : Bool) (r : Run) (rs : List Run) → is_blank m n ≡ blank → flags_at m n ≡ Some flags →
    continues n flags r ≡ false →
    AreRunsBelow m n (r ∷ rs) → AreRunsBelow m (suc n) (begun n flags blank (r.before + r.filled) ∷ r ∷ rs)
new_page m n flags blank r rs is has other h = record {
  each = (
    begun_below m n flags (r.before + r.filled) blank is has
        (λ p e has'. apart p e has' (h.every p (omega (arith, e)) (mapped_where m p flags has'))),
    (
      higher m n r (λ here has'. false≢true (sym other ∙ goes_on n flags r here (same_flags (flags_at m n) flags r.flags has has')))
          h.each.0,
      higher_rest m n r.first rs (omega (arith, h.each.0.some, h.each.0.high)) h.fall.0 h.each.1,
    ),
  );
  every = each_page (λ p. is_mapped m p ≡ true → IsInOne p (begun n flags blank (r.before + r.filled) ∷ r ∷ rs)) n
      (λ p low there. inr (h.every p low there)) (λ _. inl (omega arith, omega arith));
  fall = (all_low m n (r ∷ rs) h.each, omega (arith, sum_by-cons (λ (s : Run). s.filled) r rs, h.fall.1), h.fall);
} where
  apart : (p : ℕ) → p + 1 ≡ n → flags_at m p ≡ Some flags → IsInOne p (r ∷ rs) → ⊥
  apart p e has' (inl w) =
      let k : ℕ = p - r.first in
      let place : r.first + k ≡ p = omega (arith, w.0) in
      let theirs : flags_at m p ≡ Some r.flags = ap (flags_at m) (sym place) ∙ h.each.0.alike k (omega (arith, w.0, w.1)) in
      false≢true (sym other
      ∙ goes_on n flags r (omega (arith, e, w.1, h.each.0.high)) (same_flags (flags_at m p) flags r.flags has' theirs))
  apart p e has' (inr w) =
      let low = in_low p r.first rs h.fall.0 w in
      omega (arith, low, e, h.each.0.some, h.each.0.high)

page_runs : (m : Memory) (n flags : ℕ) (rs : List Run) → flags_at m n ≡ Some flags → AreRunsBelow m n rs →
    AreRunsBelow m (suc n) (with_page n flags (is_blank m n) rs)
page_runs m n flags [] has h = first_page m n flags (is_blank m n) refl has h
page_runs m n flags (r ∷ rs) has h = by (continues n flags r) refl where
  by : (b : Bool) → continues n flags r ≡ b →
      AreRunsBelow m (suc n) (if b then longer (is_blank m n) r ∷ rs else begun n flags (is_blank m n) (r.before + r.filled) ∷ r ∷ rs)
  by true e = next_page m n flags (is_blank m n) r rs refl has e h
  by false e = new_page m n flags (is_blank m n) r rs refl has e h

no_page : (m : Memory) (n : ℕ) (rs : List Run) → m (n * page_bytes) ≡ None → AreRunsBelow m n rs → AreRunsBelow m (suc n) rs
no_page m n rs none h = record {
  each = higher_all m n rs (ap (λ (o : Option Cell). option_map flags_of o) none) h.each;
  every = each_page (λ p. is_mapped m p ≡ true → IsInOne p rs) n h.every
      (λ there. absurd (false≢true (sym (ap (λ (o : Option Cell). is_some o) none) ∙ there)));
  fall = h.fall;
}

cell_runs : (m : Memory) (n : ℕ) (o : Option Cell) (rs : List Run) → m (n * page_bytes) ≡ o → AreRunsBelow m n rs →
    AreRunsBelow m (suc n) (with_cell m n o rs)
cell_runs m n None rs is h = no_page m n rs is h
cell_runs m n (Some c) rs is h = page_runs m n (flags_of c) rs (flags_here m n c is) h

runs_found : (n : ℕ) (m : Memory) → AreRunsBelow m n (runs_below n m)
unfolding runs_below
runs_found zero m = record { each = tt; every = λ p low there. absurd (omega (arith, low)); fall = tt }
runs_found (suc n) m = cell_runs m n (m (n * page_bytes)) (runs_below n m) refl (runs_found n m)

-- ---- of all pages

whole : (m : Memory) (r : Run) → IsPaged m → IsRunBelow m (2 ^ 20) r → IsRun m r
whole m r paged f = record {
  some = f.some;
  alike = f.alike;
  below = f.below;
  above = by (nat_lt (r.first + r.pages) (2 ^ 20)) refl;
  filled = f.filled;
  last = f.last;
  blank = f.blank;
} where
  by : (b : Bool) → nat_lt (r.first + r.pages) (2 ^ 20) ≡ b → flags_at m (r.first + r.pages) ≢ Some r.flags
  by true e = f.above (ltb-true (r.first + r.pages) (2 ^ 20) e)
  by false e =
      let not_low = ltb-false (r.first + r.pages) (2 ^ 20) e in
      none_there (flags_at m (r.first + r.pages)) r.flags
      (ap (λ (o : Option Cell). option_map flags_of o) (paged.high ((r.first + r.pages) * page_bytes) (omega (arith, not_low))))

all_whole : (m : Memory) (rs : List Run) → IsPaged m → AllByRecursion (IsRunBelow m (2 ^ 20)) rs → AllByRecursion (IsRun m) rs
all_whole m [] paged h = tt
all_whole m (r ∷ rs) paged h = (whole m r paged h.0, all_whole m rs paged h.1)

pub runs_are_found : RunsAreFound
runs_are_found m paged =
    let h = runs_found (2 ^ 20) m in record {
      each = all_whole m (runs_below (2 ^ 20) m) paged h.each;
      every = λ n there. by n there (nat_lt n (2 ^ 20)) refl;
      fall = h.fall;
    }
  where
    by : (n : ℕ) → is_mapped m n ≡ true → (b : Bool) → nat_lt n (2 ^ 20) ≡ b → IsInOne n (runs_below (2 ^ 20) m)
    by n there true e = (runs_found (2 ^ 20) m).every n (ltb-true n (2 ^ 20) e) there
    by n there false e =
        let not_low = ltb-false n (2 ^ 20) e in
        absurd (false≢true (sym (ap (λ (o : Option Cell). is_some o) (paged.high (n * page_bytes) (omega (arith, not_low)))) ∙ there))
