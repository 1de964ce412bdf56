-- A map's entries as a finite map, after an insertion or a removal.
use Rattle.std.proofs.Common.{◌≡◌, ℕ, ◌+◌, Bool, true, false, cond, ◌||◌, is_none, is_some, List, [], ◌∷◌, length, Option, Some, None, refl, sym, ◌∙◌, ap, subst, arith}
use Rattle.std.proofs.lemmas.Bool.{false≢true}
use Rattle.std.proofs.lemmas.Map.{lookup-none}
use Rattle.std.proofs.lemmas.Map.Entries.{none_past_head}
use Rattle.std.proofs.lemmas.Map.Keys.{IsDistinct-from_sorted}
use Rattle.std.specs.List.{list_any}
use Rattle.std.specs.List.Sorted.{IsStrictlySortedBy}
use Rattle.std.specs.Ordering.{nat_cmp}
use Rattle.std.specs.Cmp.{nat_cmp_total, eq_by_cmp_equiv}
use Rattle.std.specs.Map.{lookup, keys_of, values_of}
use Rattle.std.specs.BTreeMap.{is_at}
use Rattle.std.specs.FinMap.{get, insert, remove, len, find, get-from_entries, get-insert, get-remove, len-empty, len-insert, same_map, nat_cmp-IsAntisymmetric}
use Rattle.std.proofs.Math.Bool.{or-true}
use Rattle.rrv_model.specs.declared.machine.Thread.{Thread}
use Rattle.rrv_model.specs.declared.machine.FutexWait.{FutexWait}
use Rattle.rrv_model.specs.State.{IsRunning, IsTimed}
use Rattle.rrv_model.proofs.ThreadRules.{same_tid, tied}
use Rattle.guest_threads.specs.Threads.{thread_map, runs, is_timed, timed_of}

abbrev pub entry_at : List (ℕ × Thread) → ℕ → Option Thread
entry_at es tid = lookup (is_at (nat_cmp tid)) es

find_thread : (es : List (ℕ × Thread)) (q : ℕ) → find nat_cmp q es ≡ entry_at es q
find_thread [] q = refl
find_thread (e ∷ es) q = ap (cond (is_at (nat_cmp q) e.0) (Some e.1)) (find_thread es q)

-- what the finite map of the entries has at a tid
pub get_thread : (es : List (ℕ × Thread)) (q : ℕ) → get (thread_map es) q ≡ entry_at es q
get_thread es q = get-from_entries nat_cmp_total es q ∙ find_thread es q

-- entries that differ at one tid make maps that differ there
pub one_set : (es fs : List (ℕ × Thread)) (s : ℕ) (n : Thread) →
    ((q : ℕ) → entry_at fs q ≡ cond (is_at (nat_cmp s) q) (Some n) (entry_at es q)) →
    thread_map fs ≡ insert (thread_map es) s n
one_set es fs s n h = same_map nat_cmp_total nat_cmp-IsAntisymmetric _ _ (λ q.
    get_thread fs q ∙ h q ∙ ap (λ b. cond b (Some n) (entry_at es q)) ((eq_by_cmp_equiv nat_cmp_total).symm s q)
    ∙ sym (get-insert nat_cmp_total (thread_map es) s n q ∙ ap (cond (is_at (nat_cmp q) s) (Some n)) (get_thread es q)))

pub one_removed : (es fs : List (ℕ × Thread)) (s : ℕ) → ((q : ℕ) → entry_at fs q ≡ cond (is_at (nat_cmp s) q) None (entry_at es q)) →
    thread_map fs ≡ remove (thread_map es) s
one_removed es fs s h = same_map nat_cmp_total nat_cmp-IsAntisymmetric _ _ (λ q.
    get_thread fs q ∙ h q ∙ ap (λ b. cond b None (entry_at es q)) ((eq_by_cmp_equiv nat_cmp_total).symm s q)
    ∙ sym (get-remove nat_cmp_total (thread_map es) s q ∙ ap (cond (is_at (nat_cmp q) s) None) (get_thread es q)))

-- ---- how many

-- no later entry has the first one's tid
pub none_later : (e : ℕ × Thread) (es : List (ℕ × Thread)) → IsStrictlySortedBy nat_cmp (keys_of (e ∷ es)) → entry_at es e.0 ≡ None
none_later e es h =
    lookup-none (is_at (nat_cmp e.0)) es
    (none_past_head (eq_by_cmp_equiv nat_cmp_total) e.0 e es (IsDistinct-from_sorted nat_cmp (keys_of (e ∷ es)) h) (tied e.0))

pub counted : (es : List (ℕ × Thread)) → IsStrictlySortedBy nat_cmp (keys_of es) → length es ≡ len (thread_map es)
unfolding IsStrictlySortedBy
counted [] h = sym (len-empty nat_cmp Thread)
counted (e ∷ es) h =
    let rest = counted es h.1 in
    let none : get (thread_map es) e.0 ≡ None = get_thread es e.0 ∙ none_later e es h in
    let one_more : len (thread_map (e ∷ es)) ≡ len (thread_map es) + 1 =
    len-insert nat_cmp_total (thread_map es) e.0 e.1
    ∙ ap (λ (o : Option Thread). cond (is_some o) (len (thread_map es)) (len (thread_map es) + 1)) none in
    omega arith

-- ---- some thread that runs

pub runs_is : (t : Thread) → runs t ≡ true → t.wait ≡ None
runs_is t e = none_is t.wait e where
  none_is : (o : Option FutexWait) → is_none o ≡ true → o ≡ None
  none_is None e = refl
  none_is (Some a) e = absurd (false≢true e)

pub is_runs : (t : Thread) → t.wait ≡ None → runs t ≡ true
is_runs t e = ap is_none e

-- a thread that a later entry has
later : (x : ℕ × Thread) (es : List (ℕ × Thread)) → IsStrictlySortedBy nat_cmp (keys_of (x ∷ es)) → (tid : ℕ) (b : Bool) →
    is_at (nat_cmp tid) x.0 ≡ b →
    IsRunning (entry_at es tid) → IsRunning (cond b (Some x.1) (entry_at es tid))
later x es h tid true t r =
    absurd (subst (λ (o : Option Thread). IsRunning o) (ap (entry_at es) (same_tid tid x.0 t) ∙ none_later x es h) r)
later x es h tid false t r = r

here : (x : ℕ × Thread) (es : List (ℕ × Thread)) → runs x.1 ≡ true → IsRunning (entry_at (x ∷ es) x.0)
here x es r = subst (λ b. IsRunning (cond b (Some x.1) (entry_at es x.0))) (sym (tied x.0)) (runs_is x.1 r)

either : (x : ℕ × Thread) (es : List (ℕ × Thread)) → IsStrictlySortedBy nat_cmp (keys_of (x ∷ es)) → (a b : Bool) → runs x.1 ≡ a →
    a || b ≡ true →
    (b ≡ true → (tid : ℕ) × IsRunning (entry_at es tid)) → (tid : ℕ) × IsRunning (entry_at (x ∷ es) tid)
either x es h true b r e f = (x.0, here x es r)
either x es h false b r e f = let p = f e in (p.0, later x es h p.0 _ refl p.1)

pub some_runs : (es : List (ℕ × Thread)) → IsStrictlySortedBy nat_cmp (keys_of es) → list_any runs (values_of es) ≡ true → (tid : ℕ) ×
    IsRunning (entry_at es tid)
unfolding IsStrictlySortedBy
some_runs [] h e = absurd (false≢true e)
some_runs (x ∷ es) h e = either x es h (runs x.1) (list_any runs (values_of es)) refl e (some_runs es h.1)

joins : (x : ℕ × Thread) (o : Option Thread) (a b : Bool) → IsRunning (cond a (Some x.1) o) → (IsRunning o → b ≡ true) →
    runs x.1 || b ≡ true
joins x o true b r f = ap (λ c. c || b) (is_runs x.1 r)
joins x o false b r f = ap (λ c. runs x.1 || c) (f r) ∙ or-true (runs x.1)

pub runs_some : (es : List (ℕ × Thread)) (tid : ℕ) → IsRunning (entry_at es tid) → list_any runs (values_of es) ≡ true
runs_some [] tid r = absurd r
runs_some (x ∷ es) tid r = joins x (entry_at es tid) (is_at (nat_cmp tid) x.0) (list_any runs (values_of es)) r (runs_some es tid)

-- ---- some thread whose wait is timed

pub timed_is : (t : Thread) → is_timed t ≡ true → IsTimed (Some t)
timed_is t e = by t.wait e where
  by : (o : Option FutexWait) → timed_of o ≡ true → IsTimed (Some (record t { wait = o }))
  by None e = absurd (false≢true e)
  by (Some w) e = e

pub is_timed_there : (t : Thread) → IsTimed (Some t) → is_timed t ≡ true
is_timed_there t h = by t.wait h where
  by : (o : Option FutexWait) → IsTimed (Some (record t { wait = o })) → timed_of o ≡ true
  by None h = absurd h
  by (Some w) h = h

-- a timed wait that a later entry has
timed_later : (x : ℕ × Thread) (es : List (ℕ × Thread)) → IsStrictlySortedBy nat_cmp (keys_of (x ∷ es)) → (tid : ℕ) (b : Bool) →
    is_at (nat_cmp tid) x.0 ≡ b →
    IsTimed (entry_at es tid) → IsTimed (cond b (Some x.1) (entry_at es tid))
timed_later x es h tid true t r =
    absurd (subst (λ (o : Option Thread). IsTimed o) (ap (entry_at es) (same_tid tid x.0 t) ∙ none_later x es h) r)
timed_later x es h tid false t r = r

timed_here : (x : ℕ × Thread) (es : List (ℕ × Thread)) → is_timed x.1 ≡ true → IsTimed (entry_at (x ∷ es) x.0)
timed_here x es r = subst (λ b. IsTimed (cond b (Some x.1) (entry_at es x.0))) (sym (tied x.0)) (timed_is x.1 r)

timed_either : (x : ℕ × Thread) (es : List (ℕ × Thread)) → IsStrictlySortedBy nat_cmp (keys_of (x ∷ es)) → (a b : Bool) → is_timed x.1 ≡ a →
    a || b ≡ true →
    (b ≡ true → (tid : ℕ) × IsTimed (entry_at es tid)) → (tid : ℕ) × IsTimed (entry_at (x ∷ es) tid)
timed_either x es h true b r e f = (x.0, timed_here x es r)
timed_either x es h false b r e f = let p = f e in (p.0, timed_later x es h p.0 _ refl p.1)

pub some_timed : (es : List (ℕ × Thread)) → IsStrictlySortedBy nat_cmp (keys_of es) → list_any is_timed (values_of es) ≡ true → (tid : ℕ) ×
    IsTimed (entry_at es tid)
unfolding IsStrictlySortedBy
some_timed [] h e = absurd (false≢true e)
some_timed (x ∷ es) h e = timed_either x es h (is_timed x.1) (list_any is_timed (values_of es)) refl e (some_timed es h.1)

timed_joins : (x : ℕ × Thread) (o : Option Thread) (a b : Bool) → IsTimed (cond a (Some x.1) o) → (IsTimed o → b ≡ true) →
    is_timed x.1 || b ≡ true
timed_joins x o true b r f = ap (λ c. c || b) (is_timed_there x.1 r)
timed_joins x o false b r f = ap (λ c. is_timed x.1 || c) (f r) ∙ or-true (is_timed x.1)

pub timed_some : (es : List (ℕ × Thread)) (tid : ℕ) → IsTimed (entry_at es tid) → list_any is_timed (values_of es) ≡ true
timed_some [] tid r = absurd r
timed_some (x ∷ es) tid r =
    timed_joins x (entry_at es tid) (is_at (nat_cmp tid) x.0) (list_any is_timed (values_of es)) r (timed_some es tid)
