-- Pages that come into a table one after another, until each of some numbers has one of its own.
use Rattle.std.proofs.Common.{◌≡◌, ◌≢◌, ℕ, ◌+◌, Bool, true, false, if◌then◌else◌, Option, Some, None, IsSome, is_some, List, [], ◌∷◌, ◌++◌, ◌<◌, length, take, get_or, refl, ap, ◌∙◌, sym, subst, arith, inl, inr}
use Rattle.std.specs.List.{All}
use Rattle.std.proofs.lemmas.Bool.{false≢true, cases_eq}
use Rattle.std.proofs.lemmas.Grind.{take_at_read}
use Rattle.std.proofs.lemmas.List.Elements.{All-nil, All-pop, All-push, All-weaker}
use Rattle.page_tables.specs.declared.new_pages.NewPage.{NewPage}
use Rattle.page_tables.specs.Contents.{PageValue, Contents}
use Rattle.page_tables.specs.Changes.{AreOwned, IsPlaced, added, added_at, is_listed, page_or_zeros}
use Rattle.page_tables.specs.NewPages.{new_value, AreUnshared, IsCopy, AreCopies}
use Rattle.page_tables.proofs.Listed.{listed_more, still_listed, last_listed}
use Rattle.page_tables.proofs.Counting.{sum_changed, sum_zero}

-- ---- steps on the way: each number has what it had, or zeros

pub record AreNearer (numbers : List ℕ) (old new : Contents) : Type 0 where
  pub value : (n : ℕ) → page_or_zeros (new.pages n) ≡ page_or_zeros (old.pages n)
  pub pages : (n : ℕ) → is_listed numbers n ≡ false → new.pages n ≡ old.pages n
  pub counts : (n : ℕ) → is_listed numbers n ≡ false → new.counts n ≡ old.counts n
  pub kept : new.kept ≡ old.kept
  pub live : new.live + added_at (is_listed numbers) new.counts ≡ old.live + added_at (is_listed numbers) old.counts

pub no_step : (numbers : List ℕ) (c : Contents) → AreNearer numbers c c
no_step numbers c = record { value = λ n. refl; pages = λ n l. refl; counts = λ n l. refl; kept = refl; live = refl }

pub same_value : (n : ℕ) (page : PageValue) (old new : Contents) → IsPlaced n page old new → page ≡ page_or_zeros (old.pages n) → (q : ℕ) →
    page_or_zeros (new.pages q) ≡ page_or_zeros (old.pages q)
same_value n page old new i e q = elim (cases_eq q n) [
  | inl w ↦ ap (λ (j : ℕ). page_or_zeros (new.pages j)) w ∙ ap page_or_zeros i.here ∙ e
      ∙ sym (ap (λ (j : ℕ). page_or_zeros (old.pages j)) w)
  | inr w ↦ ap page_or_zeros (i.rest.pages q w)
]

-- a page that comes at a number adds what that number lacked
one_less : (numbers : List ℕ) (n : ℕ) (page : PageValue) (old new : Contents) → IsPlaced n page old new → is_listed numbers n ≡ true →
    n < 0x80000 →
    new.live + added_at (is_listed numbers) new.counts ≡ old.live + added_at (is_listed numbers) old.counts
one_less numbers n page old new i listed low =
    let f : ℕ → ℕ = λ q. if is_listed numbers q then added (old.counts q) else 0 in
    let g : ℕ → ℕ = λ q. if is_listed numbers q then added (new.counts q) else 0 in
    let changed =
    sum_changed 0x80000 n f g (λ q apart. ap (λ (o : Option ℕ). if is_listed numbers q then added o else 0) (i.rest.counts q apart))
    low in
    let lacked : f n ≡ added (old.counts n) = ap (λ (b : Bool). if b then added (old.counts n) else 0) listed in
    let lacks : g n ≡ 0 = ap (λ (b : Bool). if b then added (new.counts n) else 0) listed ∙ ap added i.own in
    omega (arith, changed, lacked, lacks, i.live)

pub one_step : (numbers : List ℕ) (n : ℕ) (page : PageValue) (old mid new : Contents) → AreNearer numbers old mid →
    IsPlaced n page mid new → page ≡ page_or_zeros (mid.pages n) → is_listed numbers n ≡ true → n < 0x80000 → AreNearer numbers old new
one_step numbers n page old mid new s i e listed low = record {
  value = λ q. same_value n page mid new i e q ∙ s.value q;
  pages = λ q l. i.rest.pages q (apart q l) ∙ s.pages q l;
  counts = λ q l. i.rest.counts q (apart q l) ∙ s.counts q l;
  kept = i.rest.kept ∙ s.kept;
  live = one_less numbers n page mid new i listed low ∙ s.live;
} where
  apart : (q : ℕ) → is_listed numbers q ≡ false → q ≢ n
  apart q l w = false≢true (sym l ∙ ap (is_listed numbers) w ∙ listed)

there_is : (o : Option PageValue) → IsSome o → o ≡ Some (page_or_zeros o)
there_is None e = absurd (false≢true e)
there_is (Some p) e = refl

-- numbers whose pages are their own lack none
none_lacked : (numbers : List ℕ) (counts : ℕ → Option ℕ) → AreUnshared numbers counts → added_at (is_listed numbers) counts ≡ 0
none_lacked numbers counts own =
    sum_zero 0x80000 (λ q. if is_listed numbers q then added (counts q) else 0) (λ q l. by_test q (is_listed numbers q) refl) where
      by_test : (q : ℕ) (b : Bool) → is_listed numbers q ≡ b → (if b then added (counts q) else 0) ≡ 0
      by_test q true e = ap added (own q e)
      by_test q false e = refl

-- where the steps end each of the pages is its own
pub all_steps : (numbers : List ℕ) (old new : Contents) → AreNearer numbers old new → AreUnshared numbers new.counts →
    ((n : ℕ) → IsSome (new.counts n) → IsSome (new.pages n)) → AreOwned numbers old new
all_steps numbers old new s own there = record {
  here = λ n l. there_is (new.pages n) (there n (ap is_some (own n l))) ∙ ap Some (s.value n);
  own = own;
  pages = s.pages;
  counts = s.counts;
  kept = s.kept;
  live = omega (arith, s.live, none_lacked numbers new.counts own);
}

-- ---- the pages that are to come

-- one of them has come
pub one_comes : (numbers : List ℕ) (old new : Contents) (all rest : List NewPage) (x : NewPage) → all ≡ rest ++ x ∷ [] →
    AreCopies numbers old.pages old.counts all → IsPlaced x.number (new_value x) old new →
    AreCopies numbers new.pages new.counts rest
one_comes numbers old new all rest x is c i =
    let both = All-pop (IsCopy numbers old.pages) all rest (Some x) is c.each in
    let same = same_value x.number (new_value x) old new i both.1.value in
    record {
      each = All-weaker (IsCopy numbers old.pages) (IsCopy numbers new.pages)
          (λ p h. record { listed = h.listed; value = h.value ∙ sym (same p.number) }) rest both.0;
      whole = λ n a apart. elim (cases_eq n x.number) [
        | inl w ↦ ap new.counts w ∙ i.own
        | inr w ↦ i.rest.counts n w
            ∙ c.whole n a (subst (All (λ p. p.number ≢ n)) (sym is) (All-push (λ p. p.number ≢ n) rest x apart (λ e. w (sym e))))
      ];
    }

-- when none is left
pub none_left : (numbers : List ℕ) (pages : ℕ → Option PageValue) (counts : ℕ → Option ℕ) (xs : List NewPage) → length xs ≡ 0 →
    AreCopies numbers pages counts xs → AreUnshared numbers counts
none_left numbers pages counts xs empty c = λ n a. c.whole n a (λ k d l. absurd (omega (arith, l, empty)))

-- there is one number more
module _ (numbers : List ℕ) (m : ℕ) (pages : ℕ → Option PageValue) (counts : ℕ → Option ℕ) (xs : List NewPage)
    (c : AreCopies numbers pages counts xs) where
  longer : (p : NewPage) → IsCopy numbers pages p → IsCopy (numbers ++ m ∷ []) pages p
  longer p h = record { listed = still_listed numbers m p.number h.listed; value = h.value }

  pub one_is_own : counts m ≡ Some 1 → AreCopies (numbers ++ m ∷ []) pages counts xs
  one_is_own one = record {
    each = All-weaker (IsCopy numbers pages) (IsCopy (numbers ++ m ∷ []) pages) longer xs c.each;
    whole = listed_more numbers m (λ n. All (λ p. p.number ≢ n) xs → counts n ≡ Some 1) c.whole (λ apart. one);
  }

  pub one_copied : (ys : List NewPage) (x : NewPage) → ys ≡ xs ++ x ∷ [] → x.number ≡ m → new_value x ≡ page_or_zeros (pages m) →
      AreCopies (numbers ++ m ∷ []) pages counts ys
  one_copied ys x is at value = record {
    each = subst (All (IsCopy (numbers ++ m ∷ []) pages)) (sym is)
        (All-push (IsCopy (numbers ++ m ∷ []) pages) xs x
        (All-weaker (IsCopy numbers pages) (IsCopy (numbers ++ m ∷ []) pages) longer xs c.each) new);
    whole = listed_more numbers m (λ n. All (λ p. p.number ≢ n) ys → counts n ≡ Some 1)
        (λ n a apart. let both = All-pop (λ p. p.number ≢ n) ys xs (Some x) is apart in c.whole n a both.0)
        (λ apart. let both = All-pop (λ p. p.number ≢ m) ys xs (Some x) is apart in absurd (both.1 at));
  } where
    new : IsCopy (numbers ++ m ∷ []) pages x
    new = record {
      listed = ap (is_listed (numbers ++ m ∷ [])) at ∙ last_listed numbers m;
      value = value ∙ sym (ap (λ (n : ℕ). page_or_zeros (pages n)) at);
    }

-- ---- the numbers of a list, from the first on

module _ (numbers : List ℕ) (i : ℕ) (below : i < length numbers) (counts : ℕ → Option ℕ) where
  more : take (i + 1) numbers ≡ take i numbers ++ get_or numbers i 0 ∷ []
  more = (take_at_read numbers i 0 below).1

  pub next_is_own : (pages : ℕ → Option PageValue) (xs : List NewPage) → AreCopies (take i numbers) pages counts xs →
      counts (get_or numbers i 0) ≡ Some 1 → AreCopies (take (i + 1) numbers) pages counts xs
  next_is_own pages xs c one =
      subst (λ (ns : List ℕ). AreCopies ns pages counts xs) (sym more)
      (one_is_own (take i numbers) (get_or numbers i 0) pages counts xs c one)

  pub next_copied : (pages : ℕ → Option PageValue) (xs : List NewPage) → AreCopies (take i numbers) pages counts xs →
      (ys : List NewPage) (x : NewPage) → ys ≡ xs ++ x ∷ [] → x.number ≡ get_or numbers i 0 →
      new_value x ≡ page_or_zeros (pages (get_or numbers i 0)) → AreCopies (take (i + 1) numbers) pages counts ys
  next_copied pages xs c ys x is at value =
      subst (λ (ns : List ℕ). AreCopies ns pages counts ys) (sym more)
      (one_copied (take i numbers) (get_or numbers i 0) pages counts xs c ys x is at value)

  pub less_unshared : AreUnshared (take (i + 1) numbers) counts → AreUnshared (take i numbers) counts
  less_unshared own n a =
      own n (ap (λ (ns : List ℕ). is_listed ns n) more ∙ still_listed (take i numbers) (get_or numbers i 0) n a)

  pub last_unshared : AreUnshared (take (i + 1) numbers) counts → counts (get_or numbers i 0) ≡ Some 1
  last_unshared own =
      own (get_or numbers i 0)
      (ap (λ (ns : List ℕ). is_listed ns (get_or numbers i 0)) more ∙ last_listed (take i numbers) (get_or numbers i 0))

pub no_copies : (pages : ℕ → Option PageValue) (counts : ℕ → Option ℕ) → AreCopies [] pages counts []
no_copies pages counts = record { each = All-nil (IsCopy [] pages); whole = λ n a apart. absurd (false≢true a) }

-- the numbers of the pages that are to come are low where all are
pub low_copies : (numbers : List ℕ) (pages : ℕ → Option PageValue) (counts : ℕ → Option ℕ) (xs : List NewPage) →
    AreCopies numbers pages counts xs → ((n : ℕ) → is_listed numbers n ≡ true → n < 0x80000) → All (λ p. p.number < 0x80000) xs
low_copies numbers pages counts xs c low =
    All-weaker (IsCopy numbers pages) (λ p. p.number < 0x80000) (λ p h. low p.number h.listed) xs c.each
