-- The tids of the threads that run.
use Rattle.std.proofs.Common.{◌≡◌, ◌↔◌, ℕ, Bool, true, false, cond, ◌||◌, List, [], ◌∷◌, filter, Contains, Option, Some, None, Result, Ok, Err, OnErr, refl, sym, ◌∙◌, ap, subst}
use Rattle.std.proofs.lemmas.Bool.{false≢true}
use Rattle.std.proofs.lemmas.Map.Keys.{IsStrictlyIncreasing-from_sorted}
use Rattle.std.proofs.lemmas.Map.Views.{list_any-from_Contains, Contains-from_any}
use Rattle.std.specs.Cmp.{nat_cmp_total, eq_by_cmp_equiv}
use Rattle.std.specs.FinMap.{get}
use Rattle.std.specs.List.{list_any, AllByRecursion}
use Rattle.std.specs.List.Sorted.{IsStrictlySortedBy, IsStrictlyIncreasing}
use Rattle.std.specs.Map.{keys_of}
use Rattle.std.specs.Ordering.{nat_cmp, eq_by_cmp}
use Rattle.std.specs.declared.cmp.Ordering.TheVariants.{Less}
use Rattle.rrv_model.specs.declared.machine.Thread.{Thread}
use Rattle.rrv_model.specs.State.{IsRunning}
use Rattle.guest_threads.specs.Threads.{thread_map, running_in, runs}
use Rattle.rrv_model.proofs.ThreadRules.{same_tid}
use Rattle.guest_threads.proofs.ByTid.{entry_at, get_thread, runs_is, is_runs, none_later}

pub on_err : {T E P : Type 0} (r : Result T E) → P → OnErr r P
on_err (Ok x) p = tt
on_err (Err e) p = p

-- ---- their order

kept_above : (k : ℕ) (es : List (ℕ × Thread)) → AllByRecursion (λ y. nat_cmp k y ≡ Less) (keys_of es) →
    AllByRecursion (λ y. nat_cmp k y ≡ Less) (running_in es)
kept_above k [] h = tt
kept_above k (e ∷ es) h = by (runs e.1) (kept_above k es h.1) where
  by : (b : Bool) → AllByRecursion (λ y. nat_cmp k y ≡ Less) (running_in es) →
      AllByRecursion (λ y. nat_cmp k y ≡ Less) (keys_of (cond b (e ∷ filter (λ e. runs e.1) es) (filter (λ e. runs e.1) es)))
  by true rest = (h.0, rest)
  by false rest = rest

sorted : (es : List (ℕ × Thread)) → IsStrictlySortedBy nat_cmp (keys_of es) → IsStrictlySortedBy nat_cmp (running_in es)
unfolding IsStrictlySortedBy
sorted [] h = tt
sorted (e ∷ es) h = sorted_by e es (runs e.1) h.0 (sorted es h.1) where
  sorted_by : (e : ℕ × Thread) (es : List (ℕ × Thread)) (b : Bool) → AllByRecursion (λ y. nat_cmp e.0 y ≡ Less) (keys_of es) →
      IsStrictlySortedBy nat_cmp (running_in es) →
      IsStrictlySortedBy nat_cmp (keys_of (cond b (e ∷ filter (λ e. runs e.1) es) (filter (λ e. runs e.1) es)))
  sorted_by e es true first rest = (kept_above e.0 es first, rest)
  sorted_by e es false first rest = rest

pub rising : (es : List (ℕ × Thread)) → IsStrictlySortedBy nat_cmp (keys_of es) → IsStrictlyIncreasing (running_in es)
rising es h = IsStrictlyIncreasing-from_sorted (running_in es) (sorted es h)

-- ---- which they are

-- whether the thread is there and runs
abbrev runs_there : Option Thread → Bool
runs_there None = false
runs_there (Some t) = runs t

is_there : (o : Option Thread) → IsRunning o → runs_there o ≡ true
is_there None r = absurd r
is_there (Some t) r = is_runs t r

there_is : (o : Option Thread) → runs_there o ≡ true → IsRunning o
there_is None e = absurd (false≢true e)
there_is (Some t) e = runs_is t e

-- one entry before the others
one_before : (q : ℕ) (e : ℕ × Thread) (es : List (ℕ × Thread)) (a b : Bool) → eq_by_cmp nat_cmp q e.0 ≡ a → runs e.1 ≡ b →
    entry_at es e.0 ≡ None →
    list_any (eq_by_cmp nat_cmp q) (running_in es) ≡ runs_there (entry_at es q) →
    list_any (eq_by_cmp nat_cmp q) (keys_of (cond b (e ∷ filter (λ e. runs e.1) es) (filter (λ e. runs e.1) es)))
    ≡ runs_there (cond a (Some e.1) (entry_at es q))
one_before q e es true true at r none rest = ap (λ b. b || list_any (eq_by_cmp nat_cmp q) (running_in es)) at ∙ sym r
one_before q e es true false at r none rest =
    rest ∙ ap (λ k. runs_there (entry_at es k)) (same_tid q e.0 at) ∙ ap runs_there none ∙ sym r
one_before q e es false true at r none rest = ap (λ b. b || list_any (eq_by_cmp nat_cmp q) (running_in es)) at ∙ rest
one_before q e es false false at r none rest = rest

found : (q : ℕ) (es : List (ℕ × Thread)) → IsStrictlySortedBy nat_cmp (keys_of es) →
    list_any (eq_by_cmp nat_cmp q) (running_in es) ≡ runs_there (entry_at es q)
unfolding IsStrictlySortedBy
found q [] h = refl
found q (e ∷ es) h = one_before q e es (eq_by_cmp nat_cmp q e.0) (runs e.1) refl refl (none_later e es h) (found q es h.1)

pub which : (es : List (ℕ × Thread)) → IsStrictlySortedBy nat_cmp (keys_of es) → (tid : ℕ) →
    Contains (running_in es) tid ↔ IsRunning (get (thread_map es) tid)
which es h tid =
    let here = get_thread es tid in (
      λ c. subst (λ (o : Option Thread). IsRunning o) (sym here)
          (there_is (entry_at es tid)
          (sym (found tid es h) ∙ list_any-from_Contains (eq_by_cmp_equiv nat_cmp_total) tid (running_in es) c)),
      λ r. Contains-from_any same_tid tid (running_in es)
          (found tid es h ∙ is_there (entry_at es tid) (subst (λ (o : Option Thread). IsRunning o) here r)),
    )
