-- Threads in the order of their tids.
use Rattle.std.proofs.Common.{◌≡◌, ◌∙◌, ℕ, ◌+◌, ◌<◌, ◌≤◌, T, Bool, true, false, cond, if◌then◌else◌, nat_lt, List, [], ◌∷◌, ◌++◌, Option, Some, None, IfSome, refl, sym, ap, subst, append-nil, arith}
use Rattle.std.specs.Prelude.{flat_map}
use Rattle.std.proofs.lemmas.Grind.{flat_map-append}
use Rattle.std.proofs.lemmas.Bool.{le-ltb, lt-ltb}
use Rattle.std.specs.Cmp.{ranks}
use Rattle.std.specs.declared.cmp.Ordering.{Ordering}
use Rattle.std.specs.declared.cmp.Ordering.TheVariants.{Less, Equal, Greater}
use Rattle.std.specs.Ordering.{MatchOrdering, eq_by_cmp, nat_cmp, is_eq}
use Rattle.std.specs.FinMap.{FinMap, entries, entries_sorted, find, get, get-entries}
use Rattle.std.specs.FinMap.Entries.{below_all, is_sorted}
use Rattle.rrv_model.specs.declared.machine.Thread.{Thread}
use Rattle.rrv_model.proofs.CheckpointLaws.{both_hold, holds, less_than}

-- those of a tid below n
abbrev pub below : ℕ → List (ℕ × Thread) → List (ℕ × Thread)
below n [] = []
below n (e ∷ es) = if nat_lt e.0 n then e ∷ below n es else []

-- the entry of a tid, if it is there
abbrev pub entry : ℕ → Option Thread → List (ℕ × Thread)
entry n None = []
entry n (Some t) = (n, t) ∷ []

-- the entries behind one of tid x are not below n, nor at n

none_below : (n x : ℕ) (es : List (ℕ × Thread)) → n ≤ x + 1 → T (below_all nat_cmp x es) → below n es ≡ []
none_below n x [] low h = refl
none_below n x (e ∷ es) low h =
    let after = less_than x e.0 (holds _ (both_hold _ _ h).0) in
    ap (λ (b : Bool). if b then e ∷ below n es else []) (le-ltb e.0 n (omega (arith, after, low)))

not_at : (n x : ℕ) → n < x → eq_by_cmp nat_cmp n x ≡ false
not_at n x low = by (nat_cmp n x) (ranks n x) where
  by : (o : Ordering) → MatchOrdering o (n < x) (n ≡ x) (x < n) → is_eq o ≡ false
  by Less r = refl
  by Equal r = absurd (omega (arith, r, low))
  by Greater r = refl

none_found : (n x : ℕ) (es : List (ℕ × Thread)) → n ≤ x → T (below_all nat_cmp x es) → find nat_cmp n es ≡ None
none_found n x [] low h = refl
none_found n x (e ∷ es) low h =
    let after = less_than x e.0 (holds _ (both_hold _ _ h).0) in
    ap (λ (b : Bool). cond b (Some e.1) (find nat_cmp n es)) (not_at n e.0 (omega (arith, after, low)))
    ∙ none_found n x es low (both_hold _ _ h).1

more_in : (n : ℕ) (es : List (ℕ × Thread)) → T (is_sorted nat_cmp es) → below (n + 1) es ≡ below n es ++ entry n (find nat_cmp n es)
more_in n [] h = refl
more_in n (e ∷ es) h = by (nat_cmp n e.0) (ranks n e.0) (more_in n es (both_hold _ _ h).1) where
  behind : T (below_all nat_cmp e.0 es)
  behind = (both_hold _ _ h).0

  by : (o : Ordering) → MatchOrdering o (n < e.0) (n ≡ e.0) (e.0 < n) → below (n + 1) es ≡ below n es ++ entry n (find nat_cmp n es) →
      below (n + 1) (e ∷ es) ≡ below n (e ∷ es) ++ entry n (cond (is_eq o) (Some e.1) (find nat_cmp n es))
  by Less r rest =
      rw (le-ltb e.0 (n + 1) (omega (arith, r)), le-ltb e.0 n (omega (arith, r)), none_found n e.0 es (omega (arith, r)) behind) refl
  by Equal r rest =
      rw (lt-ltb e.0 (n + 1) (omega (arith, r)), le-ltb e.0 n (omega (arith, r)), none_below (n + 1) e.0 es (omega (arith, r)) behind)
      (ap (λ (tid : ℕ). (tid, e.1) ∷ []) (sym r))
  by Greater r rest =
      rw (lt-ltb e.0 (n + 1) (omega (arith, r)), lt-ltb e.0 n (omega (arith, r))) (ap (λ (fs : List (ℕ × Thread)). e ∷ fs) rest)

-- what holds of each tid holds of the tids behind the first

kept : (P : Type 0) (b : Bool) (t : Thread) (o : Option Thread) → IfSome (cond b (Some t) o) (λ _. P) → IfSome o (λ _. P)
kept P true t None p = tt
kept P true t (Some u) p = p
kept P false t o p = p

at_first : (P : ℕ → Type 0) (e : ℕ × Thread) (es : List (ℕ × Thread)) → ((tid : ℕ) → IfSome (find nat_cmp tid (e ∷ es)) (λ _. P tid)) →
    P e.0
at_first P e es h = by (nat_cmp e.0 e.0) (ranks e.0 e.0) (h e.0) where
  by : (o : Ordering) → MatchOrdering o (e.0 < e.0) (e.0 ≡ e.0) (e.0 < e.0) →
      IfSome (cond (is_eq o) (Some e.1) (find nat_cmp e.0 es)) (λ _. P e.0) → P e.0
  by Less r p = absurd (omega (arith, r))
  by Equal r p = p
  by Greater r p = absurd (omega (arith, r))

all_in : (P : ℕ → Type 0) (n : ℕ) → ((tid : ℕ) → P tid → tid < n) → (es : List (ℕ × Thread)) →
    ((tid : ℕ) → IfSome (find nat_cmp tid es) (λ _. P tid)) →
    below n es ≡ es
all_in P n low [] h = refl
all_in P n low (e ∷ es) h =
    rw (lt-ltb e.0 n (low e.0 (at_first P e es h)))
    (ap (λ (fs : List (ℕ × Thread)). e ∷ fs) (all_in P n low es (λ tid. kept (P tid) (eq_by_cmp nat_cmp tid e.0) e.1 _ (h tid))))

none_in : (P : ℕ → Type 0) (n : ℕ) → ((tid : ℕ) → P tid → n ≤ tid) → (es : List (ℕ × Thread)) →
    ((tid : ℕ) → IfSome (find nat_cmp tid es) (λ _. P tid)) →
    below n es ≡ []
none_in P n high [] h = refl
none_in P n high (e ∷ es) h = rw (le-ltb e.0 n (high e.0 (at_first P e es h))) refl

-- ---- of a map

-- what f makes of the entry of a tid, if it is there
abbrev pub of_entry : (ℕ × Thread → List ℕ) → ℕ → Option Thread → List ℕ
of_entry f n None = []
of_entry f n (Some t) = f (n, t)

one_entry : (f : ℕ × Thread → List ℕ) (n : ℕ) (o : Option Thread) → flat_map f (entry n o) ≡ of_entry f n o
one_entry f n None = refl
one_entry f n (Some t) = append-nil (f (n, t))

pub below_more : (f : ℕ × Thread → List ℕ) (n : ℕ) (m : FinMap nat_cmp Thread) (o : Option Thread) → get m n ≡ o →
    flat_map f (below (n + 1) (entries m)) ≡ flat_map f (below n (entries m)) ++ of_entry f n o
below_more f n m o is =
    ap (flat_map f) (more_in n (entries m) (entries_sorted m))
    ∙ flat_map-append f (below n (entries m)) (entry n (find nat_cmp n (entries m)))
    ∙ ap (λ (text : List ℕ). flat_map f (below n (entries m)) ++ text)
    (one_entry f n (find nat_cmp n (entries m)) ∙ ap (of_entry f n) (sym (get-entries m n) ∙ is))

pub below_end : (P : ℕ → Type 0) (n : ℕ) (m : FinMap nat_cmp Thread) → ((tid : ℕ) → P tid → tid < n) →
    ((tid : ℕ) → IfSome (get m tid) (λ _. P tid)) →
    below n (entries m) ≡ entries m
below_end P n m low h = all_in P n low (entries m) (λ tid. subst (λ (o : Option Thread). IfSome o (λ _. P tid)) (get-entries m tid) (h tid))

pub below_start : (P : ℕ → Type 0) (n : ℕ) (m : FinMap nat_cmp Thread) → ((tid : ℕ) → P tid → n ≤ tid) →
    ((tid : ℕ) → IfSome (get m tid) (λ _. P tid)) →
    below n (entries m) ≡ []
below_start P n m high h =
    none_in P n high (entries m) (λ tid. subst (λ (o : Option Thread). IfSome o (λ _. P tid)) (get-entries m tid) (h tid))
