-- Lists of deadlines: which there are, the earliest, and what changes leave.
use Rattle.std.proofs.Common.{◌≡◌, ◌≢◌, ◌↔◌, ◌⊎◌, inl, inr, ℕ, zero, suc, ◌+◌, ◌-◌, ◌<◌, ◌≤◌, ◌==◌, nat_lt, nat_le, drop, Bool, true, false, cond, not, is_some, List, [], ◌∷◌, ◌++◌, length, filter, Contains, Option, Some, None, IfSome, refl, sym, ◌∙◌, ap, subst, arith, length-append}
use Rattle.std.proofs.lemmas.Bool.{false≢true}
use Rattle.std.proofs.lemmas.Bool.Decides.{nat_tests}
use Rattle.std.specs.Prelude.{IsNone, IsSome, IsSomeAnd}
use Rattle.std.specs.List.{AllByRecursion, count_by, insert}
use Rattle.std.proofs.Math.Seq.{take-append_seam, drop-append_seam}
use Rattle.std.proofs.lemmas.List.Sums.{length-filter}
use Rattle.std.specs.Cmp.{nat_cmp_total}
use Rattle.std.specs.FinMap.{FinMap, get, remove, len, get-empty, get-remove, len-remove, empty_of_len}
use Rattle.std.specs.Ordering.{nat_cmp, eq_by_cmp}
use Rattle.outcomes.proofs.Lists.{AllByRecursion-append, AllByRecursion-weaker}
use Rattle.rrv_model.specs.declared.machine.FutexWait.{FutexWait}
use Rattle.rrv_model.specs.declared.machine.Thread.{Thread}
use Rattle.rrv_model.specs.declared.machine.Timeout.{Timeout}
use Rattle.rrv_model.specs.declared.machine.Version.{Version}
use Rattle.rrv_model.specs.declared.machine.Version.TheVariants.{One, Two}
use Rattle.rrv_model.specs.declared.record.Frame.{Frame}
use Rattle.rrv_model.specs.FrameStep.{FrameStep}
use Rattle.rrv_model.specs.State.{State, thread_at, live_threads, IsState, IsTimed}
use Rattle.rrv_model.proofs.ThreadRules.{same_tid}
use Rattle.recorder.specs.Deadlines.{AreDeadlinesOf, AreRising, HasDeadline, IsDueNow, above, below, comes_before, due, earlier, earliest_from, kept, put, timeout_in, timeout_of, without}
use Rattle.recorder.proofs.Begun.{frame_others}

-- ---- lists that are filtered

all_of : (P : ℕ × ℕ → Type 0) (p : ℕ × ℕ → Bool) (ds : List (ℕ × ℕ)) → AllByRecursion P ds → AllByRecursion P (filter p ds)
all_of P p [] h = h
all_of P p (d ∷ ds) h = by (p d) (all_of P p ds h.1) where
  by : (b : Bool) → AllByRecursion P (filter p ds) → AllByRecursion P (cond b (d ∷ filter p ds) (filter p ds))
  by true rest = (h.0, rest)
  by false rest = rest

pub rising_of : (p : ℕ × ℕ → Bool) (ds : List (ℕ × ℕ)) → AreRising ds → AreRising (filter p ds)
rising_of p [] h = h
rising_of p (d ∷ ds) h = by (p d) (rising_of p ds h.1) where
  by : (b : Bool) → AreRising (filter p ds) → AreRising (cond b (d ∷ filter p ds) (filter p ds))
  by true rest = (all_of (λ e. d.0 < e.0) p ds h.0, rest)
  by false rest = rest

passes : (p : ℕ × ℕ → Bool) (ds : List (ℕ × ℕ)) → AllByRecursion (λ d. p d ≡ true) (filter p ds)
passes p [] = tt
passes p (d ∷ ds) = by (p d) refl (passes p ds) where
  by : (b : Bool) → p d ≡ b → AllByRecursion (λ d. p d ≡ true) (filter p ds) →
      AllByRecursion (λ d. p d ≡ true) (cond b (d ∷ filter p ds) (filter p ds))
  by true e rest = (e, rest)
  by false e rest = rest

-- ---- whose there are, of those that pass a test of the tid

was_there : (t : ℕ → Bool) (ds : List (ℕ × ℕ)) (q : ℕ) → HasDeadline (filter (λ d. t d.0) ds) q → HasDeadline ds q × (t q ≡ true)
was_there t [] q h = absurd h
was_there t (d ∷ ds) q h = by (t d.0) refl (was_there t ds q) h where
  later_there : (HasDeadline (filter (λ d. t d.0) ds) q → HasDeadline ds q × (t q ≡ true)) → HasDeadline (filter (λ d. t d.0) ds) q →
      HasDeadline (d ∷ ds) q × (t q ≡ true)
  later_there rest g = (inr (rest g).0, (rest g).1)

  by : (b : Bool) → t d.0 ≡ b → (HasDeadline (filter (λ d. t d.0) ds) q → HasDeadline ds q × (t q ≡ true)) →
      HasDeadline (cond b (d ∷ filter (λ d. t d.0) ds) (filter (λ d. t d.0) ds)) q → HasDeadline (d ∷ ds) q × (t q ≡ true)
  by true e rest (inl same) = (inl same, ap t (sym same) ∙ e)
  by true e rest (inr g) = later_there rest g
  by false e rest g = later_there rest g

is_there : (t : ℕ → Bool) (ds : List (ℕ × ℕ)) (q : ℕ) → HasDeadline ds q → t q ≡ true → HasDeadline (filter (λ d. t d.0) ds) q
is_there t [] q h e = absurd h
is_there t (d ∷ ds) q h e = by (t d.0) refl (λ g. is_there t ds q g e) h where
  by : (b : Bool) → t d.0 ≡ b → (HasDeadline ds q → HasDeadline (filter (λ d. t d.0) ds) q) → HasDeadline (d ∷ ds) q →
      HasDeadline (cond b (d ∷ filter (λ d. t d.0) ds) (filter (λ d. t d.0) ds)) q
  by true f rest (inl same) = inl same
  by true f rest (inr g) = inr (rest g)
  by false f rest (inl same) = absurd (false≢true (sym f ∙ ap t same ∙ e))
  by false f rest (inr g) = rest g

-- ---- lists behind each other

of_both : (a b : List (ℕ × ℕ)) (q : ℕ) → HasDeadline (a ++ b) q → HasDeadline a q ⊎ HasDeadline b q
of_both [] b q h = inr h
of_both (d ∷ a) b q (inl same) = inl (inl same)
of_both (d ∷ a) b q (inr h) = by (of_both a b q h) where
  by : HasDeadline a q ⊎ HasDeadline b q → HasDeadline (d ∷ a) q ⊎ HasDeadline b q
  by (inl g) = inl (inr g)
  by (inr g) = inr g

in_first : (a b : List (ℕ × ℕ)) (q : ℕ) → HasDeadline a q → HasDeadline (a ++ b) q
in_first [] b q h = absurd h
in_first (d ∷ a) b q (inl same) = inl same
in_first (d ∷ a) b q (inr h) = inr (in_first a b q h)

in_second : (a b : List (ℕ × ℕ)) (q : ℕ) → HasDeadline b q → HasDeadline (a ++ b) q
in_second [] b q h = h
in_second (d ∷ a) b q h = inr (in_second a b q h)

rising_both : (a b : List (ℕ × ℕ)) → AreRising a → AreRising b → AllByRecursion (λ d. AllByRecursion (λ e. d.0 < e.0) b) a →
    AreRising (a ++ b)
rising_both [] b ra rb h = rb
rising_both (d ∷ a) b ra rb h = (AllByRecursion-append (λ e. d.0 < e.0) a b ra.0 h.0, rising_both a b ra.1 rb h.1)

-- ---- one that is put

is_below : (k tid : ℕ) → nat_lt k tid ≡ true → k < tid
is_below k tid e = grind (arith, nat_tests)

pub rising_put : (tid at : ℕ) (ds : List (ℕ × ℕ)) → AreRising ds → AreRising (put tid at ds)
rising_put tid at ds h =
    let low : AllByRecursion (λ d. d.0 < tid) (below tid ds) =
    AllByRecursion-weaker (λ d. nat_lt d.0 tid ≡ true) (λ d. d.0 < tid) (below tid ds) (λ d e. is_below d.0 tid e)
    (passes (λ d. nat_lt d.0 tid) ds) in
    let high : AllByRecursion (λ e. tid < e.0) (above tid ds) =
    AllByRecursion-weaker (λ d. nat_lt tid d.0 ≡ true) (λ d. tid < d.0) (above tid ds) (λ d e. is_below tid d.0 e)
    (passes (λ d. nat_lt tid d.0) ds) in
    rising_both (below tid ds) ((tid, at) ∷ above tid ds) (rising_of (λ d. nat_lt d.0 tid) ds h)
    (high, rising_of (λ d. nat_lt tid d.0) ds h)
    (AllByRecursion-weaker (λ d. d.0 < tid) (λ d. AllByRecursion (λ e. d.0 < e.0) ((tid, at) ∷ above tid ds)) (below tid ds)
    (λ d less. (less, AllByRecursion-weaker (λ e. tid < e.0) (λ e. d.0 < e.0) (above tid ds) (λ e more. omega (arith, less, more)) high))
    low)

of_put : (tid at : ℕ) (ds : List (ℕ × ℕ)) (q : ℕ) → HasDeadline (put tid at ds) q → (tid ≡ q) ⊎ HasDeadline ds q
of_put tid at ds q h = by (of_both (below tid ds) ((tid, at) ∷ above tid ds) q h) where
  by : HasDeadline (below tid ds) q ⊎ HasDeadline ((tid, at) ∷ above tid ds) q → (tid ≡ q) ⊎ HasDeadline ds q
  by (inl g) = inr (was_there (λ k. nat_lt k tid) ds q g).0
  by (inr (inl same)) = inl same
  by (inr (inr g)) = inr (was_there (λ k. nat_lt tid k) ds q g).0

neither : (q tid : ℕ) → nat_lt q tid ≡ false → nat_lt tid q ≡ false → tid ≡ q
neither q tid e f = grind (arith, nat_tests)

in_put : (tid at : ℕ) (ds : List (ℕ × ℕ)) (q : ℕ) → HasDeadline ds q → HasDeadline (put tid at ds) q
in_put tid at ds q h = by (nat_lt q tid) (nat_lt tid q) refl refl where
  by : (b c : Bool) → nat_lt q tid ≡ b → nat_lt tid q ≡ c → HasDeadline (put tid at ds) q
  by true c e f = in_first (below tid ds) ((tid, at) ∷ above tid ds) q (is_there (λ k. nat_lt k tid) ds q h e)
  by false true e f = in_second (below tid ds) ((tid, at) ∷ above tid ds) q (inr (is_there (λ k. nat_lt tid k) ds q h f))
  by false false e f = in_second (below tid ds) ((tid, at) ∷ above tid ds) q (inl (neither q tid e f))

it_is_put : (tid at : ℕ) (ds : List (ℕ × ℕ)) → HasDeadline (put tid at ds) tid
it_is_put tid at ds = in_second (below tid ds) ((tid, at) ∷ above tid ds) tid (inl refl)

-- ---- how many there are

pub length_put : (tid at : ℕ) (ds : List (ℕ × ℕ)) → length (put tid at ds) ≡ length (below tid ds) + suc (length (above tid ds))
length_put tid at ds = length-append (below tid ds) ((tid, at) ∷ above tid ds)

-- all but those of the tid
others_few : (tid : ℕ) (ds : List (ℕ × ℕ)) → length (below tid ds) + length (above tid ds) ≤ length ds
others_few tid [] = omega arith
others_few tid (d ∷ ds) = by (nat_lt d.0 tid) (nat_lt tid d.0) refl refl (others_few tid ds) where
  by : (b c : Bool) → nat_lt d.0 tid ≡ b → nat_lt tid d.0 ≡ c → length (below tid ds) + length (above tid ds) ≤ length ds →
      length (cond b (d ∷ below tid ds) (below tid ds)) + length (cond c (d ∷ above tid ds) (above tid ds)) ≤ suc (length ds)
  by true true e f h = absurd (omega (arith, is_below d.0 tid e, is_below tid d.0 f))
  by true false e f h = omega (arith, h)
  by false true e f h = omega (arith, h)
  by false false e f h = omega (arith, h)

-- that of the tid is among them
fewer : (tid : ℕ) (ds : List (ℕ × ℕ)) → HasDeadline ds tid → length (below tid ds) + length (above tid ds) + 1 ≤ length ds
fewer tid [] h = absurd h
fewer tid (d ∷ ds) h = by (nat_lt d.0 tid) (nat_lt tid d.0) refl refl (fewer tid ds) h where
  by : (b c : Bool) → nat_lt d.0 tid ≡ b → nat_lt tid d.0 ≡ c →
      (HasDeadline ds tid → length (below tid ds) + length (above tid ds) + 1 ≤ length ds) → HasDeadline (d ∷ ds) tid →
      length (cond b (d ∷ below tid ds) (below tid ds)) + length (cond c (d ∷ above tid ds) (above tid ds)) + 1 ≤ suc (length ds)
  by true true e f rest g = absurd (omega (arith, is_below d.0 tid e, is_below tid d.0 f))
  by true false e f rest (inl same) = absurd (omega (arith, same, is_below d.0 tid e))
  by true false e f rest (inr g) = omega (arith, rest g)
  by false true e f rest (inl same) = absurd (omega (arith, same, is_below tid d.0 f))
  by false true e f rest (inr g) = omega (arith, rest g)
  by false false e f rest g = omega (arith, others_few tid ds)

-- some are of neither kind, so one is of the tid
one_is : (tid : ℕ) (ds : List (ℕ × ℕ)) → length (below tid ds) + length (above tid ds) < length ds → HasDeadline ds tid
one_is tid [] h = absurd (omega (arith, h))
one_is tid (d ∷ ds) h = by (nat_lt d.0 tid) (nat_lt tid d.0) refl refl (one_is tid ds) h where
  by : (b c : Bool) → nat_lt d.0 tid ≡ b → nat_lt tid d.0 ≡ c →
      (length (below tid ds) + length (above tid ds) < length ds → HasDeadline ds tid) →
      length (cond b (d ∷ below tid ds) (below tid ds)) + length (cond c (d ∷ above tid ds) (above tid ds)) < suc (length ds) →
      HasDeadline (d ∷ ds) tid
  by true true e f rest g = absurd (omega (arith, is_below d.0 tid e, is_below tid d.0 f))
  by true false e f rest g = inr (rest (omega (arith, g)))
  by false true e f rest g = inr (rest (omega (arith, g)))
  by false false e f rest g = inl (sym (neither d.0 tid e f))

-- so many are there behind a put
pub few_put : (tid at : ℕ) (ds : List (ℕ × ℕ)) → (length ds < 64) ⊎ HasDeadline ds tid → length ds ≤ 64 → length (put tid at ds) ≤ 64
few_put tid at ds (inl less) most = omega (arith, less, others_few tid ds, length_put tid at ds)
few_put tid at ds (inr there) most = omega (arith, most, fewer tid ds there, length_put tid at ds)

pub few_without : (p : ℕ × ℕ → Bool) (ds : List (ℕ × ℕ)) → length (filter p ds) ≤ length ds
few_without p [] = omega arith
few_without p (d ∷ ds) = by (p d) (few_without p ds) where
  by : (b : Bool) → length (filter p ds) ≤ length ds → length (cond b (d ∷ filter p ds) (filter p ds)) ≤ suc (length ds)
  by true h = omega (arith, h)
  by false h = omega (arith, h)

-- ---- where one is put

none_below : (tid : ℕ) (ds : List (ℕ × ℕ)) → AllByRecursion (λ d. tid < d.0) ds → below tid ds ≡ []
none_below tid [] h = refl
none_below tid (d ∷ ds) h = by (nat_lt d.0 tid) refl (none_below tid ds h.1) where
  by : (b : Bool) → nat_lt d.0 tid ≡ b → below tid ds ≡ [] → cond b (d ∷ below tid ds) (below tid ds) ≡ []
  by true e rest = absurd (omega (arith, h.0, is_below d.0 tid e))
  by false e rest = rest

-- the others are those of lesser tids, and then those of greater ones
parted : (tid : ℕ) (ds : List (ℕ × ℕ)) → AreRising ds → without tid ds ≡ below tid ds ++ above tid ds
parted tid [] h = refl
parted tid (d ∷ ds) h = by (d.0 == tid) (nat_lt d.0 tid) (nat_lt tid d.0) refl refl refl (parted tid ds h.1) where
  after : tid < d.0 → below tid ds ≡ []
  after less = none_below tid ds (AllByRecursion-weaker (λ e. d.0 < e.0) (λ e. tid < e.0) ds (λ e more. omega (arith, less, more)) h.0)

  by : (a b c : Bool) → (d.0 == tid) ≡ a → nat_lt d.0 tid ≡ b → nat_lt tid d.0 ≡ c →
      without tid ds ≡ below tid ds ++ above tid ds →
      cond (not a) (d ∷ without tid ds) (without tid ds) ≡
      cond b (d ∷ below tid ds) (below tid ds) ++ cond c (d ∷ above tid ds) (above tid ds)
  by true false false same less more rest = rest
  by false true false same less more rest = ap (λ (l : List (ℕ × ℕ)). d ∷ l) rest
  by false false true same less more rest =
      let none : below tid ds ≡ [] = after (is_below tid d.0 more) in
      ap (λ (l : List (ℕ × ℕ)). d ∷ l) (rest ∙ ap (λ (l : List (ℕ × ℕ)). l ++ above tid ds) none)
      ∙ ap (λ (l : List (ℕ × ℕ)). l ++ d ∷ above tid ds) (sym none)
  by true true c same less more rest = absurd (grind (arith, nat_tests))
  by true false true same less more rest = absurd (grind (arith, nat_tests))
  by false true true same less more rest = absurd (grind (arith, nat_tests))
  by false false false same less more rest = absurd (grind (arith, nat_tests))

-- it is put among the others, behind as many as are of lesser tids
pub put_is_insert : (tid at : ℕ) (ds : List (ℕ × ℕ)) → AreRising ds →
    insert (without tid ds) (count_by (λ d. nat_lt d.0 tid) ds) (tid, at) ≡ put tid at ds
put_is_insert tid at ds h =
    ap (λ (l : List (ℕ × ℕ)). insert l (count_by (λ d. nat_lt d.0 tid) ds) (tid, at)) (parted tid ds h)
    ∙ ap (λ (n : ℕ). insert (below tid ds ++ above tid ds) n (tid, at)) (sym (length-filter (λ d. nat_lt d.0 tid) ds))
    ∙ ap (λ (l : List (ℕ × ℕ)). l ++ (tid, at) ∷ drop (length (below tid ds)) (below tid ds ++ above tid ds))
    (take-append_seam (below tid ds) (above tid ds))
    ∙ ap (λ (l : List (ℕ × ℕ)). below tid ds ++ (tid, at) ∷ l) (drop-append_seam (below tid ds) (above tid ds))

pub place_is_within : (tid : ℕ) (ds : List (ℕ × ℕ)) → AreRising ds → count_by (λ d. nat_lt d.0 tid) ds ≤ length (without tid ds)
place_is_within tid ds h =
    omega (
      arith,
      length-filter (λ d. nat_lt d.0 tid) ds,
      ap (λ (l : List (ℕ × ℕ)). length l) (parted tid ds h),
      length-append (below tid ds) (above tid ds),
    )

pub one_more : (tid at : ℕ) (ds : List (ℕ × ℕ)) → AreRising ds → length (put tid at ds) ≡ suc (length (without tid ds))
one_more tid at ds h =
    omega (arith, length_put tid at ds, ap (λ (l : List (ℕ × ℕ)). length l) (parted tid ds h), length-append (below tid ds) (above tid ds))

-- ---- no more than there are threads

some_there : (m : FinMap nat_cmp Thread) (k : ℕ) → IsSome (get m k) → 1 ≤ len m
some_there m k there = by (len m) refl where
  by : (n : ℕ) → len m ≡ n → 1 ≤ n
  by zero e = absurd (false≢true
      (sym (ap is_some (ap (λ (x : FinMap nat_cmp Thread). get x k) (empty_of_len m e) ∙ get-empty nat_cmp k)) ∙ there))
  by (suc n) e = omega arith

later : (d : ℕ × ℕ) (ds : List (ℕ × ℕ)) (q : ℕ) → AllByRecursion (λ e. d.0 < e.0) ds → HasDeadline ds q → d.0 < q
later d [] q h g = absurd g
later d (e ∷ ds) q h (inl same) = omega (arith, h.0, same)
later d (e ∷ ds) q h (inr g) = later d ds q h.1 g

still_there : (m : FinMap nat_cmp Thread) (k q : ℕ) → k < q → IsSome (get m q) → IsSome (get (remove m k) q)
still_there m k q less there =
    subst (λ (o : Option Thread). IsSome o) (sym (get-remove nat_cmp_total m k q)) (by (eq_by_cmp nat_cmp q k) refl) where
      by : (b : Bool) → eq_by_cmp nat_cmp q k ≡ b → IsSome (cond b None (get m q))
      by true e = absurd (omega (arith, less, same_tid q k e))
      by false e = there

pub few_there : (m : FinMap nat_cmp Thread) (ds : List (ℕ × ℕ)) → AreRising ds → ((q : ℕ) → HasDeadline ds q → IsSome (get m q)) →
    length ds ≤ len m
few_there m [] rising there = omega arith
few_there m (d ∷ ds) rising there =
    let rest : length ds ≤ len (remove m d.0) =
    few_there (remove m d.0) ds rising.1 (λ q h. still_there m d.0 q (later d ds q rising.0 h) (there q (inr h))) in
    let here : is_some (get m d.0) ≡ true = there d.0 (inl refl) in
    let one : len (remove m d.0) ≡ len m - 1 = len-remove nat_cmp_total m d.0 ∙ ap (λ (b : Bool). cond b (len m - 1) (len m)) here in
    omega (arith, rest, one, some_there m d.0 here)

-- ---- timeouts

timed_wait : (w : Option FutexWait) → IsSomeAnd w (λ w. IsSome w.timeout) ↔ (is_some (timeout_in w) ≡ true)
timed_wait None = ((λ h. absurd h), (λ e. absurd (false≢true e)))
timed_wait (Some w) = ((λ h. h), (λ h. h))

pub is_timed : (o : Option Thread) → IsTimed o ↔ (is_some (timeout_of o) ≡ true)
is_timed None = ((λ h. absurd h), (λ e. absurd (false≢true e)))
is_timed (Some t) = timed_wait t.wait

timed_there : (o : Option Thread) → IsTimed o → IsSome o
timed_there None h = absurd h
timed_there (Some t) h = refl

abbrev has_timeout : State → ℕ → Bool
has_timeout s k = is_some (timeout_of (thread_at s k))

pub kept_timed : (s : State) (ds : List (ℕ × ℕ)) (q : ℕ) → HasDeadline (kept s ds) q → IsTimed (thread_at s q)
kept_timed s ds q h = (is_timed (thread_at s q)).1 (was_there (has_timeout s) ds q h).1

most_live : (v : Version) → live_threads v ≤ 64
most_live One = omega arith
most_live Two = omega arith

-- there is room for the deadline of a thread that waits so
pub room_for : (s : State) (ds : List (ℕ × ℕ)) (tid at : ℕ) → IsState s → AreRising (kept s ds) → IsTimed (thread_at s tid) →
    (length (kept s ds) < 64) ⊎ HasDeadline (kept s ds) tid
room_for s ds tid at is rising timed = by (nat_lt (length (kept s ds)) 64) refl where
  all : length (put tid at (kept s ds)) ≤ len s.threads
  all = few_there s.threads (put tid at (kept s ds)) (rising_put tid at (kept s ds) rising)
      (λ q h. one (of_put tid at (kept s ds) q h)) where
        one : {q : ℕ} → (tid ≡ q) ⊎ HasDeadline (kept s ds) q → IsSome (get s.threads q)
        one (inl same) = subst (λ k. IsSome (get s.threads k)) same (timed_there (thread_at s tid) timed)
        one {q = q} (inr h) = timed_there (thread_at s q) (kept_timed s ds q h)

  by : (b : Bool) → nat_lt (length (kept s ds)) 64 ≡ b → (length (kept s ds) < 64) ⊎ HasDeadline (kept s ds) tid
  by true e = inl (is_below (length (kept s ds)) 64 e)
  by false e =
      let many : 64 ≤ length (kept s ds) = grind (arith, nat_tests) in
      inr (one_is tid (kept s ds)
      (omega (arith, many, all, is.rules.threads.live, most_live s.version, length_put tid at (kept s ds))))

-- ---- behind a frame

module _ (s s' : State) (f : Frame) (ds : List (ℕ × ℕ)) (are : AreDeadlinesOf s ds) (step : FrameStep s f s') where
  -- one that waits with a timeout has been kept, if it isn't the frame's thread
  is_kept : (q : ℕ) → q ≢ f.tid → IsTimed (thread_at s' q) → HasDeadline (kept s' ds) q
  is_kept q apart timed =
      is_there (has_timeout s') ds q ((are.each q).1 (frame_others s f s' step q apart timed)) ((is_timed (thread_at s' q)).0 timed)

  by_tid : (P : Type 0) (q : ℕ) → (q ≡ f.tid → P) → (q ≢ f.tid → P) → P
  by_tid P q of_it of_others = by (q == f.tid) refl where
    by : (b : Bool) → (q == f.tid) ≡ b → P
    by true e = of_it (grind (arith, nat_tests))
    by false e = of_others (λ same. grind (arith, nat_tests))

  -- no wait with a timeout began
  pub deadlines_kept : timeout_of (thread_at s' f.tid) ≡ None → AreDeadlinesOf s' (kept s' ds)
  deadlines_kept none = record {
    rising = rising_of (λ d. has_timeout s' d.0) ds are.rising;
    each = λ q. (
      (λ h. kept_timed s' ds q h),
      (λ timed. by_tid (HasDeadline (kept s' ds) q) q
          (λ same. absurd (false≢true (sym (ap is_some none)
          ∙ (is_timed (thread_at s' f.tid)).0 (subst (λ k. IsTimed (thread_at s' k)) same timed))))
          (λ apart. is_kept q apart timed)),
    );
  }

  -- one began
  pub deadlines_put : (timeout : Timeout) (at : ℕ) → timeout_of (thread_at s' f.tid) ≡ Some timeout →
      AreDeadlinesOf s' (put f.tid at (kept s' ds))
  deadlines_put timeout at some = record {
    rising = rising_put f.tid at (kept s' ds) (rising_of (λ d. has_timeout s' d.0) ds are.rising);
    each = λ q. (
      (λ h. waits q (of_put f.tid at (kept s' ds) q h)),
      (λ timed. by_tid (HasDeadline (put f.tid at (kept s' ds)) q) q
          (λ same. subst (λ k. HasDeadline (put f.tid at (kept s' ds)) k) (sym same) (it_is_put f.tid at (kept s' ds)))
          (λ apart. in_put f.tid at (kept s' ds) q (is_kept q apart timed))),
    );
  } where
    waits : (q : ℕ) → (f.tid ≡ q) ⊎ HasDeadline (kept s' ds) q → IsTimed (thread_at s' q)
    waits q (inl same) =
        subst (λ k. IsTimed (thread_at s' k)) same ((is_timed (thread_at s' f.tid)).1 (ap is_some some))
    waits q (inr h) = kept_timed s' ds q h

-- ---- the earliest

abbrev Before : ℕ × ℕ → ℕ × ℕ → Type 0
Before d e = (d.1 < e.1) ⊎ ((d.1 ≡ e.1) × (d.0 ≤ e.0))

before_same : (d : ℕ × ℕ) → Before d d
before_same d = inr (refl, omega arith)

before_both : (d e f : ℕ × ℕ) → Before d e → Before e f → Before d f
before_both d e f (inl h) (inl g) = inl (omega (arith, h, g))
before_both d e f (inl h) (inr g) = inl (omega (arith, h, g.0))
before_both d e f (inr h) (inl g) = inl (omega (arith, h.0, g))
before_both d e f (inr h) (inr g) = inr (h.0 ∙ g.0, omega (arith, h.1, g.1))

-- what the test says, both ways
tells_before : (d e : ℕ × ℕ) (b c : Bool) → (d.1 == e.1) ≡ b → cond b (nat_lt d.0 e.0) (nat_lt d.1 e.1) ≡ c →
    cond c (Before d e) (Before e d)
tells_before d e true true same less = inr (grind (arith, nat_tests), grind (arith, nat_tests))
tells_before d e true false same less = inr (grind (arith, nat_tests), grind (arith, nat_tests))
tells_before d e false true same less = inl (grind (arith, nat_tests))
tells_before d e false false same less = inl (grind (arith, nat_tests))

-- the earlier of two comes before both, and is one of them
earlier_is : (d e : ℕ × ℕ) → Before (earlier d e) d × Before (earlier d e) e × ((earlier d e ≡ d) ⊎ (earlier d e ≡ e))
earlier_is d e = by (comes_before e d) (tells_before e d (e.1 == d.1) (comes_before e d) refl refl) where
  by : (c : Bool) → cond c (Before e d) (Before d e) →
      Before (cond c e d) d × Before (cond c e d) e × ((cond c e d ≡ d) ⊎ (cond c e d ≡ e))
  by true h = (h, before_same e, inr refl)
  by false h = (before_same d, h, inl refl)

pub earliest_first : (d : ℕ × ℕ) (ds : List (ℕ × ℕ)) → AllByRecursion (λ e. Before (earliest_from d ds) e) (d ∷ ds)
earliest_first d [] = (before_same d, tt)
earliest_first d (e ∷ ds) =
    let h = earliest_first (earlier d e) ds in
    let first = earliest_from (earlier d e) ds in
    let one = earlier_is d e in
    (before_both first (earlier d e) d h.0 one.0, (before_both first (earlier d e) e h.0 one.1, h.1))

one_deeper : (d : ℕ × ℕ) (ds : List (ℕ × ℕ)) (r : ℕ × ℕ) → Contains ds r → Contains (d ∷ ds) r
one_deeper d ds r (k, less, at) = (suc k, omega (arith, less), at)

head_or_rest : (d : ℕ × ℕ) (ds : List (ℕ × ℕ)) (r : ℕ × ℕ) → Contains (d ∷ ds) r → (d ≡ r) ⊎ Contains ds r
head_or_rest d ds r (zero, less, at) = inl at
head_or_rest d ds r (suc k, less, at) = inr (k, omega (arith, less), at)

head_is_there : (d : ℕ × ℕ) (ds : List (ℕ × ℕ)) (r : ℕ × ℕ) → d ≡ r → Contains (d ∷ ds) r
head_is_there d ds r same = (zero, omega arith, same)

pub earliest_there : (d : ℕ × ℕ) (ds : List (ℕ × ℕ)) → Contains (d ∷ ds) (earliest_from d ds)
earliest_there d [] = head_is_there d [] d refl
earliest_there d (e ∷ ds) = by (head_or_rest (earlier d e) ds first (earliest_there (earlier d e) ds)) where
  first : ℕ × ℕ
  first = earliest_from (earlier d e) ds

  one_of : first ≡ earlier d e → (earlier d e ≡ d) ⊎ (earlier d e ≡ e) → Contains (d ∷ e ∷ ds) first
  one_of same (inl is) = head_is_there d (e ∷ ds) first (sym (same ∙ is))
  one_of same (inr is) = one_deeper d (e ∷ ds) first (head_is_there e ds first (sym (same ∙ is)))

  by : (earlier d e ≡ first) ⊎ Contains ds first → Contains (d ∷ e ∷ ds) first
  by (inl same) = one_of (sym same) (earlier_is d e).2
  by (inr there) = one_deeper d (e ∷ ds) first (one_deeper e ds first there)

-- ---- who is due

pub due_now : (ds : List (ℕ × ℕ)) (now : ℕ) → IfSome (due ds (Some now)) (IsDueNow ds now)
due_now [] now = tt
due_now (d ∷ ds) now = by (nat_le (earliest_from d ds).1 now) refl where
  by : (b : Bool) → nat_le (earliest_from d ds).1 now ≡ b → IfSome (cond b (Some (earliest_from d ds).0) None) (IsDueNow (d ∷ ds) now)
  by true e = record {
    at = (earliest_from d ds).1;
    earliest = record { there = earliest_there d ds; first = earliest_first d ds };
    come = grind (arith, nat_tests);
  }
  by false e = tt

at_first : (P : ℕ × ℕ → Type 0) (ds : List (ℕ × ℕ)) (r : ℕ × ℕ) → AllByRecursion P ds → Contains ds r → P r
at_first P [] r h (k, less, at) = absurd (omega (arith, less))
at_first P (d ∷ ds) r h c = by (head_or_rest d ds r c) (at_first P ds r h.1) where
  by : (d ≡ r) ⊎ Contains ds r → (Contains ds r → P r) → P r
  by (inl same) rest = subst P same h.0
  by (inr there) rest = rest there

pub none_due : (ds : List (ℕ × ℕ)) (now : ℕ) → IsNone (due ds (Some now)) ↔ AllByRecursion (λ d. now < d.1) ds
none_due [] now = ((λ h. tt), (λ h. refl))
none_due (d ∷ ds) now = by (nat_le (earliest_from d ds).1 now) refl where
  first : ℕ × ℕ
  first = earliest_from d ds

  after : (e : ℕ × ℕ) → now < first.1 → Before first e → now < e.1
  after e h (inl less) = omega (arith, h, less)
  after e h (inr same) = omega (arith, h, same.0)

  by : (b : Bool) → nat_le first.1 now ≡ b → IsNone (cond b (Some first.0) None) ↔ AllByRecursion (λ e. now < e.1) (d ∷ ds)
  by true e = (
    (λ h. absurd (false≢true (sym h))),
    (λ h. let less : now < first.1 = at_first (λ e. now < e.1) (d ∷ ds) first h (earliest_there d ds) in
        let come : first.1 ≤ now = grind (arith, nat_tests) in absurd (omega (arith, less, come))),
  )
  by false e = (
    (λ h. let less : now < first.1 = grind (arith, nat_tests) in
        AllByRecursion-weaker (λ e. Before first e) (λ e. now < e.1) (d ∷ ds) (λ e g. after e less g) (earliest_first d ds)),
    (λ h. refl),
  )

-- ---- who is due waits with a timeout

there_is : (ds : List (ℕ × ℕ)) (tid at : ℕ) → Contains ds (tid, at) → HasDeadline ds tid
there_is [] tid at (k, less, is) = absurd (omega (arith, less))
there_is (d ∷ ds) tid at c = by (head_or_rest d ds (tid, at) c) (there_is ds tid at) where
  by : (d ≡ (tid, at)) ⊎ Contains ds (tid, at) → (Contains ds (tid, at) → HasDeadline ds tid) → HasDeadline (d ∷ ds) tid
  by (inl same) rest = inl (ap (λ (e : ℕ × ℕ). e.0) same)
  by (inr there) rest = inr (rest there)

pub due_is_timed : (s : State) (ds : List (ℕ × ℕ)) (asked : Option ℕ) → AreDeadlinesOf s ds →
    IfSome (due ds asked) (λ tid. IsTimed (thread_at s tid))
due_is_timed s ds None are = tt
due_is_timed s ds (Some now) are = by (due ds (Some now)) (due_now ds now) where
  by : (o : Option ℕ) → IfSome o (IsDueNow ds now) → IfSome o (λ tid. IsTimed (thread_at s tid))
  by None h = tt
  by (Some tid) h = (are.each tid).0 (there_is ds tid h.at h.earliest.there)
