-- Parts of readable ranges, and the buffers of a writev.
use Rattle.std.proofs.Common.{◌≡◌, ℕ, zero, suc, ◌+◌, ◌-◌, ◌*◌, ◌<◌, ◌≤◌, Bool, true, false, ◌&&◌, nat_lt, min, List, [], ◌∷◌, ◌++◌, length, Option, Some, None, refl, sym, ◌∙◌, ap, subst, arith, add-zero, add-one, get_or, take, drop, drop-cons}
use Rattle.std.proofs.lemmas.Grind.{flat_map-append}
use Rattle.std.proofs.lemmas.List.Sums.{sum_by-cons, sum_by-append}
use Rattle.std.proofs.lemmas.List.{take-append-drop, take_more, append-nil}
use Rattle.std.proofs.Math.Bool.{and-true, and_assoc}
use Rattle.std.proofs.lemmas.Bool.{false≢true, and_from, and_right}
use Rattle.std.proofs.lemmas.Bool.Decides.{nat_tests}
use Rattle.rrv_model.specs.Memory.{Memory, Cell, IsMemory, can_read, readable, bytes_at}
use Rattle.rrv_model.specs.Step.{word_at}
use Rattle.rrv_model.specs.CallRows.{buffers_at, clipped, all_readable, total_len}
use Rattle.guest_pages.proofs.Cells.{all_pass, one_of_all}
use Rattle.guest_buffers.specs.Buffers.{joined}

-- ---- parts of a range

further : (a k j : ℕ) → a + (k + j) ≡ (a + k) + j
further a k j = omega arith

-- a part of a readable range
pub readable_within : (m : Memory) (a n k count : ℕ) → readable m a n ≡ true → k + count ≤ n → readable m (a + k) count ≡ true
readable_within m a n k count h within =
    all_pass can_read m (a + k) count (λ j below.
    subst (λ (x : ℕ). can_read (m x) ≡ true) (further a k j) (one_of_all can_read m a n (k + j) h (omega arith)))

nothing_there : (o : Option Cell) → o ≡ None → can_read o ≡ true → ⊥
nothing_there None e h = false≢true h
nothing_there (Some c) e h = cc

pub readable_further : (m : Memory) (a n k j count : ℕ) → readable m a n ≡ true → (k + j) + count ≤ n →
    readable m ((a + k) + j) count ≡ true
readable_further m a n k j count h within =
    subst (λ (x : ℕ). readable m x count ≡ true) (further a k j) (readable_within m a n (k + j) count h within)

-- a readable range lies in the lower half
pub readable_low : (m : Memory) (a n k : ℕ) → IsMemory m → readable m a n ≡ true → k < n → a + k < 0x80000000
readable_low m a n k is h below = low_or_high (nat_lt (a + k) 0x80000000) refl where
  low_or_high : (b : Bool) → nat_lt (a + k) 0x80000000 ≡ b → a + k < 0x80000000
  low_or_high true e = grind (arith, nat_tests)
  low_or_high false e =
      let high : 0x80000000 ≤ a + k = grind (arith, nat_tests) in
      absurd (nothing_there (m (a + k)) (is.pages.high (a + k) high) (one_of_all can_read m a n k h below))

-- ---- buffers

abbrev pub buffer_at : Memory → ℕ → ℕ × ℕ
buffer_at m a = (word_at m a, word_at m (a + 4))

eight_on : (a n : ℕ) → (a + 8) + 8 * n ≡ a + 8 * suc n
eight_on a n = omega arith

pub one_buffer_more : (m : Memory) (a n : ℕ) → buffers_at m a (suc n) ≡ buffers_at m a n ++ buffer_at m (a + 8 * n) ∷ []
unfolding buffers_at
one_buffer_more m a zero = ap (λ (x : ℕ). buffer_at m x ∷ []) (sym (add-zero a))
one_buffer_more m a (suc n) =
    ap (λ (bs : List (ℕ × ℕ)). buffer_at m a ∷ bs) (one_buffer_more m (a + 8) n)
    ∙ ap (λ (x : ℕ). buffer_at m a ∷ (buffers_at m (a + 8) n ++ buffer_at m x ∷ [])) (eight_on a n)

pub no_buffers : (m : Memory) (a : ℕ) → [] ≡ buffers_at m a 0
unfolding buffers_at
no_buffers m a = refl

at_next : (m : Memory) (a n : ℕ) → buffers_at m a (n + 1) ≡ buffers_at m a n ++ buffer_at m (a + 8 * n) ∷ []
at_next m a n = ap (buffers_at m a) (add-one n) ∙ one_buffer_more m a n

pub buffers_next : (m : Memory) (a n base len : ℕ) (old new : List (ℕ × ℕ)) → old ≡ buffers_at m a n → new ≡ old ++ (base, len) ∷ [] →
    base ≡ word_at m (a + 8 * n) → len ≡ word_at m ((a + 8 * n) + 4) → new ≡ buffers_at m a (n + 1)
buffers_next m a n base len old new before more e f =
    more ∙ (λ i. before i ++ (e i, f i) ∷ []) ∙ sym (at_next m a n)

less_none : (c : ℕ) → c ≡ c - 0
less_none c = omega arith

less_twice : (c x rest all : ℕ) → all ≡ x + rest → (c - x) - rest ≡ c - all
less_twice c x rest all e = omega arith

pub clipped-append : (c : ℕ) (xs ys : List (ℕ × ℕ)) → clipped c (xs ++ ys) ≡ clipped c xs ++ clipped (c - total_len xs) ys
unfolding clipped
clipped-append c [] ys = ap (λ (n : ℕ). clipped n ys) (less_none c)
clipped-append c (x ∷ xs) ys =
    ap (λ (bs : List (ℕ × ℕ)). (x.0, min x.1 c) ∷ bs) (clipped-append (c - x.1) xs ys)
    ∙ ap (λ (n : ℕ). ((x.0, min x.1 c) ∷ clipped (c - x.1) xs) ++ clipped n ys)
    (less_twice c x.1 (total_len xs) (total_len (x ∷ xs)) (sum_by-cons (λ b. b.1) x xs))

pub all_readable-append : (m : Memory) (xs ys : List (ℕ × ℕ)) → all_readable m (xs ++ ys) ≡ (all_readable m xs && all_readable m ys)
unfolding all_readable
all_readable-append m [] ys = refl
all_readable-append m (x ∷ xs) ys =
    ap (λ (b : Bool). readable m x.0 x.1 && b) (all_readable-append m xs ys)
    ∙ sym (and_assoc (readable m x.0 x.1) (all_readable m xs) (all_readable m ys))

min_both : (x c d rest all : ℕ) → all ≡ x + rest → all ≤ c → all ≤ d → min x c ≡ min x d
min_both x c d rest all e h g = omega arith

-- buffers that are no longer than either
pub clipped_alike : (c d : ℕ) (xs : List (ℕ × ℕ)) → total_len xs ≤ c → total_len xs ≤ d → clipped c xs ≡ clipped d xs
unfolding clipped
clipped_alike c d [] h g = refl
clipped_alike c d (x ∷ xs) h g =
    let e = sum_by-cons (λ (b : ℕ × ℕ). b.1) x xs in
    ap (λ (n : ℕ). (x.0, n) ∷ clipped (c - x.1) xs) (min_both x.1 c d (total_len xs) (total_len (x ∷ xs)) e h g)
    ∙ ap (λ (bs : List (ℕ × ℕ)). (x.0, min x.1 d) ∷ bs) (clipped_alike (c - x.1) (d - x.1) xs (omega (arith, e)) (omega (arith, e)))

-- what is put out is what was joined
pub joined_alike : (m : Memory) (xs : List (ℕ × ℕ)) (n : ℕ) → n ≡ min (total_len xs) 65_536 →
    joined m (clipped n xs) ≡ joined m (clipped 65_536 xs)
joined_alike m xs n e = all_or_cut (nat_lt 65_536 (total_len xs)) refl where
  all_or_cut : (b : Bool) → nat_lt 65_536 (total_len xs) ≡ b → joined m (clipped n xs) ≡ joined m (clipped 65_536 xs)
  all_or_cut true f =
      let cut : n ≡ 65_536 = grind (arith, nat_tests) in
      ap (λ (k : ℕ). joined m (clipped k xs)) cut
  all_or_cut false f =
      let fits : total_len xs ≤ 65_536 = grind (arith, nat_tests) in
      ap (joined m) (clipped_alike n 65_536 xs (omega arith) fits)

-- ---- one buffer more

pub total_more : (xs : List (ℕ × ℕ)) (b : ℕ × ℕ) → total_len (xs ++ b ∷ []) ≡ total_len xs + b.1
total_more xs b =
    let all = sum_by-append (λ (b : ℕ × ℕ). b.1) xs (b ∷ []) in
    let one : total_len (b ∷ []) ≡ b.1 = omega arith in
    omega (arith, all, one)

clipped_more : (c : ℕ) (xs : List (ℕ × ℕ)) (b : ℕ × ℕ) → clipped c (xs ++ b ∷ []) ≡ clipped c xs ++ (b.0, min b.1 (c - total_len xs)) ∷ []
unfolding clipped
clipped_more c xs b = clipped-append c xs (b ∷ [])

alone : (m : Memory) (b : ℕ × ℕ) → all_readable m (b ∷ []) ≡ readable m b.0 b.1
unfolding all_readable
alone m b = and-true (readable m b.0 b.1)

pub readable_more : (m : Memory) (c : ℕ) (xs : List (ℕ × ℕ)) (b : ℕ × ℕ) → all_readable m (clipped c xs) ≡ true →
    readable m b.0 (min b.1 (c - total_len xs)) ≡ true →
    all_readable m (clipped c (xs ++ b ∷ [])) ≡ true
readable_more m c xs b h g =
    ap (all_readable m) (clipped_more c xs b) ∙ all_readable-append m (clipped c xs) ((b.0, min b.1 (c - total_len xs)) ∷ [])
    ∙ and_from _ _ h (alone m (b.0, min b.1 (c - total_len xs)) ∙ g)

pub joined_more : (m : Memory) (c : ℕ) (xs : List (ℕ × ℕ)) (b : ℕ × ℕ) →
    joined m (clipped c (xs ++ b ∷ [])) ≡ joined m (clipped c xs) ++ bytes_at m b.0 (min b.1 (c - total_len xs))
joined_more m c xs b =
    ap (joined m) (clipped_more c xs b)
    ∙ flat_map-append (λ (b : ℕ × ℕ). bytes_at m b.0 b.1) (clipped c xs) ((b.0, min b.1 (c - total_len xs)) ∷ [])
    ∙ ap (λ (bytes : List ℕ). joined m (clipped c xs) ++ bytes) (append-nil (bytes_at m b.0 (min b.1 (c - total_len xs))))

head_false : (m : Memory) (c : ℕ) (b : ℕ × ℕ) (ys : List (ℕ × ℕ)) → readable m b.0 (min b.1 c) ≡ false →
    all_readable m (clipped c (b ∷ ys)) ≡ false
unfolding clipped all_readable
head_false m c b ys h = ap (λ (r : Bool). r && all_readable m (clipped (c - b.1) ys)) h

-- one buffer that can't be read spoils them all
pub unreadable_there : (m : Memory) (c : ℕ) (xs : List (ℕ × ℕ)) (b : ℕ × ℕ) (ys : List (ℕ × ℕ)) →
    readable m b.0 (min b.1 (c - total_len xs)) ≡ false →
    all_readable m (clipped c (xs ++ b ∷ ys)) ≡ false
unreadable_there m c xs b ys h =
    ap (all_readable m) (clipped-append c xs (b ∷ ys)) ∙ all_readable-append m (clipped c xs) (clipped (c - total_len xs) (b ∷ ys))
    ∙ and_right (all_readable m (clipped c xs)) _ (head_false m (c - total_len xs) b ys h)

-- ---- the loop over the buffers

pub none_readable : (m : Memory) (c : ℕ) → all_readable m (clipped c []) ≡ true
unfolding clipped all_readable
none_readable m c = refl

pub none_joined : (m : Memory) (c : ℕ) → [] ≡ joined m (clipped c [])
unfolding clipped
none_joined m c = refl

same_room : (x len total : ℕ) → len ≡ min total 65_536 → min x (65_536 - len) ≡ min x (65_536 - total)
same_room x len total e = omega arith

parts : (bs : List (ℕ × ℕ)) (i : ℕ) (d : ℕ × ℕ) → i < length bs → bs ≡ take i bs ++ get_or bs i d ∷ drop (suc i) bs
parts bs i d below = sym (take-append-drop i bs) ∙ ap (λ (ys : List (ℕ × ℕ)). take i bs ++ ys) (drop-cons bs i d below)

module _ (m : Memory) (bs : List (ℕ × ℕ)) (i : ℕ) (d : ℕ × ℕ) (base count len : ℕ) (below : i < length bs)
    (base_is : base ≡ (get_or bs i d).0)
    (count_is : count ≡ min (get_or bs i d).1 (65_536 - len)) (len_is : len ≡ min (total_len (take i bs)) 65_536) where
  count_there : count ≡ min (get_or bs i d).1 (65_536 - total_len (take i bs))
  count_there = count_is ∙ same_room (get_or bs i d).1 len (total_len (take i bs)) len_is

  at_there : (b : Bool) → readable m base count ≡ b →
      readable m (get_or bs i d).0 (min (get_or bs i d).1 (65_536 - total_len (take i bs))) ≡ b
  at_there b h =
      let same : readable m base count ≡ readable m (get_or bs i d).0 (min (get_or bs i d).1 (65_536 - total_len (take i bs))) =
      λ j. readable m (base_is j) (count_there j) in
      sym same ∙ h

  pub unreadable_at : readable m base count ≡ false → all_readable m (clipped 65_536 bs) ≡ false
  unreadable_at h =
      ap (λ (ys : List (ℕ × ℕ)). all_readable m (clipped 65_536 ys)) (parts bs i d below)
      ∙ unreadable_there m 65_536 (take i bs) (get_or bs i d) (drop (suc i) bs) (at_there false h)

  pub readable_next : readable m base count ≡ true → all_readable m (clipped 65_536 (take i bs)) ≡ true →
      all_readable m (clipped 65_536 (take (i + 1) bs)) ≡ true
  readable_next h all =
      ap (λ (ys : List (ℕ × ℕ)). all_readable m (clipped 65_536 ys)) (take_more bs i d below)
      ∙ readable_more m 65_536 (take i bs) (get_or bs i d) all (at_there true h)

  pub joined_next : (old new : List ℕ) → old ≡ joined m (clipped 65_536 (take i bs)) → new ≡ old ++ bytes_at m base count →
      new ≡ joined m (clipped 65_536 (take (i + 1) bs))
  joined_next old new before more =
      more ∙ (λ j. before j ++ bytes_at m (base_is j) (count_there j))
      ∙ sym (ap (λ (ys : List (ℕ × ℕ)). joined m (clipped 65_536 ys)) (take_more bs i d below)
      ∙ joined_more m 65_536 (take i bs) (get_or bs i d))

  pub len_next : (next : ℕ) → next ≡ len + count → next ≡ min (total_len (take (i + 1) bs)) 65_536
  len_next next e =
      let more = total_more (take i bs) (get_or bs i d) in
      let all : total_len (take (i + 1) bs) ≡ total_len (take i bs ++ get_or bs i d ∷ []) = ap total_len (take_more bs i d below) in
      omega (arith, more, all, count_is, len_is)
