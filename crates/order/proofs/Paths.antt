-- Paths of the order, and where writes and messages stand.
use Rattle.std.proofs.Common.{◌≡◌, ◌⊎◌, inl, inr, ℕ, zero, suc, ◌<◌, ◌≤◌, Bool, true, false, cond, ◌||◌, ◌==◌, Option, Some, None, List, [], ◌∷◌, ◌++◌, refl, sym, subst, arith, lt_trans, eq-eqb, IsTrue}
use Rattle.std.proofs.lemmas.Bool.{cases_lt, or_left}
use Rattle.std.proofs.lemmas.Option.{none-some, same_Some}
use Rattle.order.specs.Deeds.{renews_byte, starts, wakes, writes_byte}
use Rattle.order.specs.Order.{Run, CarriesOn, HappensBefore, Leads, LeadsAlong, ReadsFrom, Sends, stands_at}

-- below the next number
pub below_suc : (k n : ℕ) → k < suc n → (k < n) ⊎ (k ≡ n)
below_suc k n l = elim (cases_lt k n) [ inl less ↦ inl less | inr more ↦ inr (omega (arith, l, more)) ]

-- ---- paths

module _ (declared : ℕ → Bool) (run : Run) where
  -- the same act, or one before it
  abbrev pub AtOrBefore : (i k : ℕ) → Type 0
  AtOrBefore i k = (i ≡ k) ⊎ HappensBefore declared run i k

  pub forward_along : (i : ℕ) (path : List ℕ) (j : ℕ) → LeadsAlong declared run i path j → i < j
  forward_along i [] j l = l.0
  forward_along i (k ∷ path) j l = lt_trans l.0.0 (forward_along k path j l.1)

  pub forward : (i j : ℕ) → HappensBefore declared run i j → i < j
  forward i j h = forward_along i h.0 j h.1

  pub at_or_forward : (i k : ℕ) → AtOrBefore i k → i ≤ k
  at_or_forward i k (inl e) = omega (arith, e)
  at_or_forward i k (inr h) = let l : i < k = forward i k h in omega arith

  along_then : (i : ℕ) (path : List ℕ) (k : ℕ) (rest : List ℕ) (j : ℕ) → LeadsAlong declared run i path k
      → LeadsAlong declared run k rest j → LeadsAlong declared run i (path ++ k ∷ rest) j
  along_then i [] k rest j a b = (a, b)
  along_then i (m ∷ path) k rest j a b = (a.0, along_then m path k rest j a.1 b)

  pub transitive : (i k j : ℕ) → HappensBefore declared run i k → HappensBefore declared run k j → HappensBefore declared run i j
  transitive i k j a b = (a.0 ++ k ∷ b.0, along_then i a.0 k b.0 j a.1 b.1)

  pub one_step : (i j : ℕ) → Leads declared run i j → HappensBefore declared run i j
  one_step i j l = ([], l)

  pub at_then : (i k j : ℕ) → AtOrBefore i k → HappensBefore declared run k j → HappensBefore declared run i j
  at_then i k j (inl e) b = subst (λ (x : ℕ). HappensBefore declared run x j) (sym e) b
  at_then i k j (inr a) b = transitive i k j a b

  pub then_at : (i k j : ℕ) → HappensBefore declared run i k → AtOrBefore k j → HappensBefore declared run i j
  then_at i k j a (inl e) = subst (λ (x : ℕ). HappensBefore declared run i x) e a
  then_at i k j a (inr b) = transitive i k j a b

  pub at_at : (i k j : ℕ) → AtOrBefore i k → AtOrBefore k j → AtOrBefore i j
  at_at i k j (inl e) b = subst (λ (x : ℕ). AtOrBefore x j) (sym e) b
  at_at i k j (inr a) b = inr (then_at i k j a b)

  -- the last step of a path
  last_along : (i : ℕ) (path : List ℕ) (j : ℕ) → LeadsAlong declared run i path j → (k : ℕ) × AtOrBefore i k × Leads declared run k j
  last_along i [] j l = (i, inl refl, l)
  last_along i (m ∷ path) j l =
      let h : (k : ℕ) × AtOrBefore m k × Leads declared run k j = last_along m path j l.1 in
      (h.0, inr (then_at i m h.0 (one_step i m l.0) h.1), h.2)

  pub last_step : (i j : ℕ) → HappensBefore declared run i j → (k : ℕ) × AtOrBefore i k × Leads declared run k j
  last_step i j h = last_along i h.0 j h.1

  -- in one thread
  pub in_thread : (i j : ℕ) → i < j → (run i).tid ≡ (run j).tid → HappensBefore declared run i j
  in_thread i j l e =
      one_step i j (
        l,
        inl (or_left ((run i).tid == (run j).tid) (starts (run i).deed (run j).tid || wakes (run i).deed (run j).tid)
            (eq-eqb (run i).tid (run j).tid e)),
      )

-- ---- writes and messages

-- by the clauses of stands_at
pub chosen : (r t : Bool) (n w : ℕ) (o : Option ℕ) → cond r None (cond t (Some n) o) ≡ Some w
    → (r ≡ false) × (((t ≡ true) × (n ≡ w)) ⊎ ((t ≡ false) × (o ≡ Some w)))
chosen true t n w o e = absurd (none-some w e)
chosen false true n w o e = (refl, inl (refl, same_Some n w e))
chosen false false n w o e = (refl, inr (refl, e))

module _ (run : Run) where
  pub stands_before : (b n w : ℕ) → stands_at run b n ≡ Some w → w < n
  stands_before b zero w e = absurd (none-some w e)
  stands_before b (suc n) w e =
      elim (chosen (renews_byte (run n).deed b) (writes_byte (run n).deed b) n w (stands_at run b n) e).1 [
        | inl here ↦ omega (arith, here.1)
        | inr earlier ↦ (let l : w < n = stands_before b n w earlier.1 in omega arith)
      ]

  -- it writes the byte
  pub stands_writes : (b n w : ℕ) → stands_at run b n ≡ Some w → IsTrue (writes_byte (run w).deed b)
  stands_writes b zero w e = absurd (none-some w e)
  stands_writes b (suc n) w e =
      elim (chosen (renews_byte (run n).deed b) (writes_byte (run n).deed b) n w (stands_at run b n) e).1 [
        | inl here ↦ subst (λ (x : ℕ). IsTrue (writes_byte (run x).deed b)) here.1 here.0
        | inr earlier ↦ stands_writes b n w earlier.1
      ]

  lives_on : (n k b : ℕ) → renews_byte (run n).deed b ≡ false → k < suc n → (k < n → renews_byte (run k).deed b ≡ false)
      → renews_byte (run k).deed b ≡ false
  lives_on n k b last below before = elim (below_suc k n below) [
    | inl l ↦ before l
    | inr e ↦ subst (λ (x : ℕ). renews_byte (run x).deed b ≡ false) (sym e) last
  ]

  -- and since then it was not renewed
  pub stands_lives : (b n w : ℕ) → stands_at run b n ≡ Some w → (k : ℕ) → w < k → k < n → renews_byte (run k).deed b ≡ false
  stands_lives b zero w e = absurd (none-some w e)
  stands_lives b (suc n) w e =
      let c : (renews_byte (run n).deed b ≡ false) ×
      (((writes_byte (run n).deed b ≡ true) × (n ≡ w)) ⊎ ((writes_byte (run n).deed b ≡ false) × (stands_at run b n ≡ Some w))) =
      chosen (renews_byte (run n).deed b) (writes_byte (run n).deed b) n w (stands_at run b n) e in
      elim c.1 [
        | inl here ↦ λ k after below. absurd (omega (arith, here.1, after, below))
        | inr earlier ↦ λ k after below. lives_on n k b c.0 below (λ l. stands_lives b n w earlier.1 k after l)
      ]

  pub reads_before : (w r : ℕ) → ReadsFrom run w r → w < r
  reads_before w r h = stands_before h.0 r w h.2

  pub carries_on_forward : (x steps w : ℕ) → CarriesOn run x steps w → x ≤ w
  carries_on_forward x zero w on = omega (arith, on)
  carries_on_forward x (suc k) w on =
      let front : x ≤ on.0 = carries_on_forward x k on.0 on.1 in
      let back : on.0 < w = reads_before on.0 w on.3 in
      omega arith

pub sends_forward : (declared : ℕ → Bool) (run : Run) (i w : ℕ) → Sends declared run i w → i ≤ w
sends_forward declared run i w s =
    let on : s.x ≤ w = carries_on_forward run s.x s.steps w s.on in
    let from : i ≤ s.x = (elim s.carries [ inl itself ↦ omega (arith, itself.0) | inr earlier ↦ omega (arith, earlier.0) ]) in
    omega arith
