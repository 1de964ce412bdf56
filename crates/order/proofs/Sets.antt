-- What a clock means: the acts of a run that are below it.
use Rattle.std.proofs.Common.{◌≡◌, ◌⊎◌, inl, inr, ℕ, zero, suc, ◌+◌, ◌<◌, ◌≤◌, max, Bool, true, false, nat_lt, nat_le, refl, subst, arith, IsTrue, leb-true, ltb-true, le-leb, lt-ltb}
use Rattle.std.proofs.lemmas.Bool.{and_from, and_parts, cases_eq, cases_lt, false≢true}
use Rattle.order.specs.Deeds.{is_within}
use Rattle.order.specs.Order.{Run}
use Rattle.order.specs.Detecting.{Clock, empty, join, joined, when}
use Rattle.order.proofs.Paths.{below_suc}

-- ---- ranges of bytes

pub within_parts : (a count b : ℕ) → IsTrue (is_within a count b) → (a ≤ b) × (b < a + count)
within_parts a count b h =
    let p : (nat_le a b ≡ true) × (nat_lt b (a + count) ≡ true) = and_parts (nat_le a b) (nat_lt b (a + count)) h in
    (leb-true a b p.0, ltb-true b (a + count) p.1)

pub within_from : (a count b : ℕ) → a ≤ b → b < a + count → IsTrue (is_within a count b)
within_from a count b low high = and_from (nat_le a b) (nat_lt b (a + count)) (le-leb a b low) (lt-ltb b (a + count) high)

-- ---- clocks

less_max : (i a b : ℕ) → i < max a b → (i < a) ⊎ (i < b)
less_max i a b h = elim (cases_lt i a) [ inl l ↦ inl l | inr ge ↦ inr (omega (arith, h, ge)) ]

module _ (chain : ℕ → ℕ) (run : Run) where
  -- the act is below the clock
  abbrev pub Holds : Clock → ℕ → Type 0
  Holds c i = i < c (chain (run i).tid)

  -- just these acts are below it
  abbrev pub Means : Clock → (ℕ → Type 0) → Type 0
  Means c S = (i : ℕ) → (Holds c i → S i) × (S i → Holds c i)

  pub means_same : (c : Clock) (S T : ℕ → Type 0) → Means c S → ((i : ℕ) → S i → T i) → ((i : ℕ) → T i → S i) → Means c T
  means_same c S T m to from i = (λ h. to i ((m i).0 h), λ h. (m i).1 (from i h))

  pub means_empty : (S : ℕ → Type 0) → ((i : ℕ) → S i → ⊥) → Means empty S
  means_empty S none i = (λ h. absurd (omega (arith, h)), λ s. absurd (none i s))

  pub means_join : (c d : Clock) (S T : ℕ → Type 0) → Means c S → Means d T → Means (join c d) (λ i. S i ⊎ T i)
  means_join c d S T m k i =
      let q = chain (run i).tid in (
        λ h. (elim (less_max i (c q) (d q) h) [ inl l ↦ inl ((m i).0 l) | inr l ↦ inr ((k i).0 l) ]),
        λ h. (elim h [
          | inl s ↦ (let l : i < c q = (m i).1 s in omega arith)
          | inr t ↦ (let l : i < d q = (k i).1 t in omega arith)
        ]),
      )

  pub means_when : (b : Bool) (c : Clock) (S : ℕ → Type 0) → Means c S → Means (when b c) (λ i. IsTrue b × S i)
  means_when true c S m i = (λ h. (refl, (m i).0 h), λ h. (m i).1 h.1)
  means_when false c S m i = (λ h. absurd (omega (arith, h)), λ h. absurd (false≢true h.0))

  -- of several bytes
  pub means_joined : (messages : ℕ → Clock) (T : ℕ → ℕ → Type 0) → ((b : ℕ) → Means (messages b) (T b)) → (a count : ℕ)
      → Means (joined messages a count) (λ i. (b : ℕ) × IsTrue (is_within a count b) × T b i)
  means_joined messages T each a zero =
      means_empty (λ i. (b : ℕ) × IsTrue (is_within a zero b) × T b i)
      (λ i h. let p : (a ≤ h.0) × (h.0 < a + zero) = within_parts a zero h.0 h.1 in omega arith)
  means_joined messages T each a (suc n) =
      means_same (join (joined messages a n) (messages (a + n))) (λ i. ((b : ℕ) × IsTrue (is_within a n b) × T b i) ⊎ T (a + n) i)
      (λ i. (b : ℕ) × IsTrue (is_within a (suc n) b) × T b i)
      (means_join (joined messages a n) (messages (a + n)) (λ i. (b : ℕ) × IsTrue (is_within a n b) × T b i) (T (a + n))
      (means_joined messages T each a n) (each (a + n)))
      (λ i h. wider i h) (λ i h. narrower i h)
    where
      wider : (i : ℕ) → ((b : ℕ) × IsTrue (is_within a n b) × T b i) ⊎ T (a + n) i → (b : ℕ) × IsTrue (is_within a (suc n) b) × T b i
      wider i (inl h) =
          let p : (a ≤ h.0) × (h.0 < a + n) = within_parts a n h.0 h.1 in
          (h.0, within_from a (suc n) h.0 p.0 (omega arith), h.2)
      wider i (inr t) = (a + n, within_from a (suc n) (a + n) (omega arith) (omega arith), t)

      narrower : (i : ℕ) → (b : ℕ) × IsTrue (is_within a (suc n) b) × T b i → ((b : ℕ) × IsTrue (is_within a n b) × T b i) ⊎ T (a + n) i
      narrower i h =
          let p : (a ≤ h.0) × (h.0 < a + suc n) = within_parts a (suc n) h.0 h.1 in
          elim (cases_eq h.0 (a + n)) [
            | inl e ↦ inr (subst (λ (b : ℕ). T b i) e h.2)
            | inr other ↦ inl (h.0, within_from a n h.0 p.0 (omega (arith, other)), h.2)
          ]

-- ---- what some act of the first n gives

-- of an act that passes a test
abbrev pub Since : (test : ℕ → Bool) (What : ℕ → ℕ → Type 0) (n i : ℕ) → Type 0
Since test What n i = (k : ℕ) × (k < n) × IsTrue (test k) × What k i

module _ (chain : ℕ → ℕ) (run : Run) (test : ℕ → Bool) (What : ℕ → ℕ → Type 0) where
  later : (n i : ℕ) → Since test What n i ⊎ (IsTrue (test n) × What n i) → Since test What (suc n) i
  later n i (inl h) = (h.0, (let l : h.0 < n = h.1 in omega arith), h.2, h.3)
  later n i (inr h) = (n, omega arith, h.0, h.1)

  earlier : (n i : ℕ) → Since test What (suc n) i → Since test What n i ⊎ (IsTrue (test n) × What n i)
  earlier n i h = elim (below_suc h.0 n h.1) [
    | inl l ↦ inl (h.0, l, h.2, h.3)
    | inr e ↦ inr (subst (λ (x : ℕ). IsTrue (test x) × What x i) e (h.2, h.3))
  ]

  pub since_more : (n : ℕ) (old now : Clock) → Means chain run old (Since test What n) → Means chain run now (What n)
      → Means chain run (join old (when (test n) now)) (Since test What (suc n))
  since_more n old now m k =
      means_same chain run (join old (when (test n) now)) (λ i. Since test What n i ⊎ (IsTrue (test n) × What n i))
      (Since test What (suc n))
      (means_join chain run old (when (test n) now) (Since test What n) (λ i. IsTrue (test n) × What n i) m
      (means_when chain run (test n) now (What n) k))
      (later n) (earlier n)

  pub since_none : Means chain run (λ q. 0) (Since test What 0)
  since_none i = (λ h. absurd (omega (arith, h)), λ h. absurd (let l : h.0 < 0 = h.1 in omega arith))
