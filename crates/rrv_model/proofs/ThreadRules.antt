-- What keeps the rules of threads.
use Rattle.std.proofs.Common.{◌≡◌, ◌≢◌, ◌↔◌, ◌⊎◌, inl, inr, ℕ, ◌+◌, ◌-◌, ◌^◌, ◌<◌, ◌≤◌, Bool, true, false, cond, not, ◌||◌, nat_eq, nat_le, nat_lt, is_some, List, [], ◌∷◌, ◌++◌, length, get_or, filter, fold, Contains, AllPairs, Option, Some, None, IfSome, IsSome, refl, sym, ◌∙◌, ap, subst, arith}
use Rattle.std.proofs.lemmas.Bool.{false≢true}
use Rattle.std.proofs.lemmas.Bool.Decides.{Decides-eqb, nat_tests}
use Rattle.std.proofs.lemmas.List.Elements.{All-contains, All-contains_itself, All-filter, filter_passes, Contains-get_or, Contains-append_left, Contains-push, Contains-push_cases}
use Rattle.std.proofs.lemmas.List.Kept.{AllPairs-filter}
use Rattle.std.proofs.lemmas.List.Quantifiers.{all_pairs_push}
use Rattle.std.proofs.lemmas.Map.Views.{any-filter_same, list_any-from_Contains, Contains-from_any}
use Rattle.std.specs.Cmp.{nat_cmp_total, eq_by_cmp_equiv}
use Rattle.std.specs.FinMap.{FinMap, get, insert, remove, empty, len, get-insert, get-remove, get-empty, len-empty, len-insert, len-remove, nat_cmp-IsAntisymmetric}
use Rattle.std.specs.Ordering.{nat_cmp, eq_by_cmp, is_eq}
use Rattle.std.specs.declared.cmp.Ordering.{Ordering}
use Rattle.std.specs.declared.cmp.Ordering.TheVariants.{Less, Equal, Greater}
use Rattle.rrv_model.specs.declared.machine.Thread.{Thread}
use Rattle.rrv_model.specs.declared.machine.FutexWait.{FutexWait}
use Rattle.rrv_model.specs.declared.machine.Version.{Version}
use Rattle.rrv_model.specs.declared.machine.Version.TheVariants.{One, Two}
use Rattle.rrv_model.specs.State.{State, IsThread, IsWait, IsRunning, IsWaiting, AreThreads, thread_at, live_threads}
use Rattle.rrv_model.specs.CallRows.{change_thread, changed, waiters, wakes, woken}

-- ---- tids

equal : (r : Ordering) → is_eq r ≡ true → r ≡ Equal
equal Less e = absurd (false≢true e)
equal Equal e = refl
equal Greater e = absurd (false≢true e)

pub same_tid : (q s : ℕ) → eq_by_cmp nat_cmp q s ≡ true → q ≡ s
same_tid q s e = nat_cmp-IsAntisymmetric q s (equal _ e)

pub tied : (q : ℕ) → eq_by_cmp nat_cmp q q ≡ true
tied q = (eq_by_cmp_equiv nat_cmp_total).refl q

-- ---- numbers that are apart

pub apart : (q tid : ℕ) → eq_by_cmp nat_cmp q tid ≡ false → tid ≡ q → ⊥
apart q tid e same = false≢true (sym e ∙ ap (λ k. eq_by_cmp nat_cmp q k) same ∙ tied q)

pub unequal : (a b : ℕ) → a ≢ b → nat_eq a b ≡ false
unequal a b h = by (nat_eq a b) refl where
  by : (t : Bool) → nat_eq a b ≡ t → t ≡ false
  by true e = absurd (h ((Decides-eqb a b).0 e))
  by false e = refl

pub by_cmp : (q tid : ℕ) → nat_eq q tid ≡ false → eq_by_cmp nat_cmp q tid ≡ false
by_cmp q tid e = by (eq_by_cmp nat_cmp q tid) refl where
  by : (t : Bool) → eq_by_cmp nat_cmp q tid ≡ t → t ≡ false
  by true h = absurd (false≢true (sym e ∙ (Decides-eqb q tid).1 (same_tid q tid h)))
  by false h = refl

-- ---- a filtered list

in_filtered : (p : ℕ → Bool) (xs : List ℕ) (q : ℕ) → Contains xs q → p q ≡ true → Contains (filter p xs) q
in_filtered p xs q c e = Contains-from_any same_tid q (filter p xs)
    (any-filter_same (eq_by_cmp nat_cmp q) p true (λ k at. ap p (sym (same_tid q k at)) ∙ e) xs
    ∙ list_any-from_Contains (eq_by_cmp_equiv nat_cmp_total) q xs c)

of_filtered : (p : ℕ → Bool) (xs : List ℕ) (q : ℕ) → Contains (filter p xs) q → Contains xs q × (p q ≡ true)
of_filtered p xs q c = (
  All-contains (Contains xs) (filter p xs) q (All-filter p (Contains xs) xs (All-contains_itself xs)) c,
  All-contains (λ x. p x ≡ true) (filter p xs) q (filter_passes p xs) c,
)

-- ---- one thread that is another

pub not_waiting : (t : Thread) → t.wait ≡ None → IsSome t.wait → ⊥
not_waiting t runs w = false≢true (subst (λ (o : Option FutexWait). IsSome o) runs w)

pub running_not_waiting : (o : Option Thread) → IsRunning o → IsWaiting o → ⊥
running_not_waiting None r w = r
running_not_waiting (Some t) r w = not_waiting t r w

one_of : (P : Thread → Type 0) (b : Bool) (x y : Option Thread) → (b ≡ true → IfSome x P) → IfSome y P → IfSome (cond b x y) P
one_of P true x y p q = p refl
one_of P false x y p q = q

wider : (o : Option Thread) (q n n' : ℕ) → n ≤ n' → IfSome o (λ _. (1 ≤ q) × (q < n)) → IfSome o (λ _. (1 ≤ q) × (q < n'))
wider None q n n' more h = tt
wider (Some t) q n n' more h = (h.0, omega (arith, h.1))

-- the map differs at one tid
keeps : {v : Version} (m m' : FinMap nat_cmp Thread) (order order' : List ℕ) (next next' tid : ℕ) (o : Option Thread) →
    AreThreads v m order next →
    ((q : ℕ) → get m' q ≡ cond (eq_by_cmp nat_cmp q tid) o (get m q)) → len m' ≤ live_threads v → IfSome o (IsThread v) →
    IfSome o (λ _. (1 ≤ tid) × (tid < next')) →
    next ≤ next' → next' ≤ 2 ^ 31 → ((q : ℕ) → Contains order' q ↔ IsWaiting (cond (eq_by_cmp nat_cmp q tid) o (get m q))) →
    AllPairs (λ a b. a ≢ b) order' → AreThreads v m' order' next'
keeps {v = v} m m' order order' next next' tid o h reads live fits low more most waits once = record {
  threads = λ q. subst (λ (p : Option Thread). IfSome p (IsThread v)) (sym (reads q))
      (one_of (IsThread v) _ o (get m q) (λ _. fits) (h.threads q));
  live = live;
  tids = λ q. subst (λ (p : Option Thread). IfSome p (λ _. (1 ≤ q) × (q < next'))) (sym (reads q))
      (one_of (λ _. (1 ≤ q) × (q < next')) _ o (get m q)
      (λ e. subst (λ k. IfSome o (λ _. (1 ≤ k) × (k < next'))) (sym (same_tid q tid e)) low)
      (wider (get m q) q next next' more (h.tids q)));
  first = omega (arith, h.first);
  next_tid = most;
  waiting = λ q. subst (λ (p : Option Thread). Contains order' q ↔ IsWaiting p) (sym (reads q)) (waits q);
  waiting_once = once;
}

-- the rules, along equations
pub moved : {v : Version} {m m' : FinMap nat_cmp Thread} {order order' : List ℕ} {next : ℕ} → m' ≡ m → order' ≡ order →
    AreThreads v m order next → AreThreads v m' order' next
moved {v = v} {m = m} {order' = order'} {next = next} e f h =
    subst (λ (n : FinMap nat_cmp Thread). AreThreads v n order' next) (sym e) (subst (λ (o : List ℕ). AreThreads v m o next) (sym f) h)

-- ---- no thread

pub few_at_once : (v : Version) → 1 ≤ live_threads v
few_at_once One = omega arith
few_at_once Two = omega arith

pub no_threads : (v : Version) → AreThreads v empty [] 1
no_threads v = record {
  threads = λ q. subst (λ (o : Option Thread). IfSome o (IsThread v)) (sym (get-empty nat_cmp q)) tt;
  live = omega (arith, len-empty nat_cmp Thread, few_at_once v);
  tids = λ q. subst (λ (o : Option Thread). IfSome o (λ _. (1 ≤ q) × (q < 1))) (sym (get-empty nat_cmp q)) tt;
  first = omega arith;
  next_tid = omega arith;
  waiting = λ q. subst (λ (o : Option Thread). Contains [] q ↔ IsWaiting o) (sym (get-empty nat_cmp q))
      (λ c. absurd (omega (arith, c.1)), λ w. absurd w);
  waiting_once = λ i j d below inside. absurd (omega arith);
}

-- ---- one more

-- what the test of room means
pub room_left : (limit live next : ℕ) → nat_le limit live || nat_lt (2 ^ 31 - 1) next ≡ false → (live < limit) × (next < 2 ^ 31)
room_left limit live next e = (grind (arith, nat_tests), grind (arith, nat_tests))

grown : (b : Bool) (n : ℕ) → cond b n (n + 1) ≤ n + 1
grown true n = omega arith
grown false n = omega arith

-- no thread is there under the next tid
unborn : (o : Option Thread) (q next : ℕ) → IfSome o (λ _. (1 ≤ q) × (q < next)) → q ≡ next → IsWaiting o → ⊥
unborn None q next h e w = w
unborn (Some t) q next h e w = omega (arith, h.1)

pub keeps_spawned : {v : Version} (m : FinMap nat_cmp Thread) (order : List ℕ) (next : ℕ) (t : Thread) → AreThreads v m order next →
    len m < live_threads v → next < 2 ^ 31 → IsThread v t →
    t.wait ≡ None → AreThreads v (insert m next t) order (next + 1)
keeps_spawned m order next t h room left fits runs =
    let size : len (insert m next t) ≤ len m + 1 = subst (λ n. n ≤ len m + 1) (sym (len-insert nat_cmp_total m next t)) (grown _ (len m)) in
    keeps m (insert m next t) order order next (next + 1) next (Some t) h (get-insert nat_cmp_total m next t) (omega arith) fits
    (h.first, omega arith) (omega arith) (omega arith)
    (λ q. waits q (eq_by_cmp nat_cmp q next) refl) h.waiting_once where
      waits : (q : ℕ) (b : Bool) → eq_by_cmp nat_cmp q next ≡ b → Contains order q ↔ IsWaiting (cond b (Some t) (get m q))
      waits q true e =
          (λ c. absurd (unborn (get m q) q next (h.tids q) (same_tid q next e) ((h.waiting q).0 c)), λ w. absurd (not_waiting t runs w))
      waits q false e = h.waiting q

-- ---- one that leaves

shrunk : (b : Bool) (n : ℕ) → cond b (n - 1) n ≤ n
shrunk true n = omega arith
shrunk false n = omega arith

pub keeps_left : {v : Version} (m : FinMap nat_cmp Thread) (order : List ℕ) (next tid : ℕ) → AreThreads v m order next →
    IsRunning (get m tid) → AreThreads v (remove m tid) order next
keeps_left m order next tid h runs =
    let size : len (remove m tid) ≤ len m = subst (λ n. n ≤ len m) (sym (len-remove nat_cmp_total m tid)) (shrunk _ (len m)) in
    keeps m (remove m tid) order order next next tid None h (get-remove nat_cmp_total m tid) (omega (arith, h.live)) tt tt (omega arith)
    h.next_tid
    (λ q. waits q (eq_by_cmp nat_cmp q tid) refl) h.waiting_once where
      waits : (q : ℕ) (b : Bool) → eq_by_cmp nat_cmp q tid ≡ b → Contains order q ↔ IsWaiting (cond b None (get m q))
      waits q true e = (
        λ c. running_not_waiting (get m tid) runs (subst (λ k. IsWaiting (get m k)) (same_tid q tid e) ((h.waiting q).0 c)),
        λ w. absurd w,
      )
      waits q false e = h.waiting q

-- ---- one that is changed

changed_nowhere : (m : FinMap nat_cmp Thread) (tid : ℕ) (change : Thread → Thread) → get m tid ≡ None → changed tid change m ≡ m
changed_nowhere m tid change none = rw none refl

changed_there : (m : FinMap nat_cmp Thread) (tid : ℕ) (change : Thread → Thread) (t : Thread) → get m tid ≡ Some t →
    changed tid change m ≡ insert m tid (change t)
changed_there m tid change t there = rw there refl

-- the thread at the tid is changed
abbrev pub changed_at : (tid : ℕ) (change : Thread → Thread) (o : Option Thread) → Option Thread
changed_at tid change None = None
changed_at tid change (Some t) = Some (change t)

none_at : (m : FinMap nat_cmp Thread) (tid q : ℕ) → get m tid ≡ None → get m q ≡ cond (eq_by_cmp nat_cmp q tid) None (get m q)
none_at m tid q none = by (eq_by_cmp nat_cmp q tid) refl where
  by : (b : Bool) → eq_by_cmp nat_cmp q tid ≡ b → get m q ≡ cond b None (get m q)
  by true e = ap (get m) (same_tid q tid e) ∙ none
  by false e = refl

-- what the map has after a change
pub get-changed : (m : FinMap nat_cmp Thread) (tid : ℕ) (change : Thread → Thread) (q : ℕ) →
    get (changed tid change m) q ≡ cond (eq_by_cmp nat_cmp q tid) (changed_at tid change (get m tid)) (get m q)
get-changed m tid change q = by (get m tid) refl where
  by : (o : Option Thread) → get m tid ≡ o →
      get (changed tid change m) q ≡ cond (eq_by_cmp nat_cmp q tid) (changed_at tid change o) (get m q)
  by None e = ap (λ (m' : FinMap nat_cmp Thread). get m' q) (changed_nowhere m tid change e) ∙ none_at m tid q e
  by (Some t) e =
      ap (λ (m' : FinMap nat_cmp Thread). get m' q) (changed_there m tid change t e) ∙ get-insert nat_cmp_total m tid (change t) q

len-changed : (m : FinMap nat_cmp Thread) (tid : ℕ) (change : Thread → Thread) → len (changed tid change m) ≡ len m
len-changed m tid change = by (get m tid) refl where
  by : (o : Option Thread) → get m tid ≡ o → len (changed tid change m) ≡ len m
  by None e = ap (λ (m' : FinMap nat_cmp Thread). len m') (changed_nowhere m tid change e)
  by (Some t) e = ap (λ (m' : FinMap nat_cmp Thread). len m') (changed_there m tid change t e) ∙ len-insert nat_cmp_total m tid (change t)
      ∙ ap (λ (o : Option Thread). cond (is_some o) (len m) (len m + 1)) e

maps_fits : {v : Version} (tid : ℕ) (change : Thread → Thread) (o : Option Thread) → ((t : Thread) → IsThread v t → IsThread v (change t)) →
    IfSome o (IsThread v) → IfSome (changed_at tid change o) (IsThread v)
maps_fits tid change None f h = tt
maps_fits tid change (Some t) f h = f t h

maps_low : (tid next : ℕ) (change : Thread → Thread) (o : Option Thread) → IfSome o (λ _. (1 ≤ tid) × (tid < next)) →
    IfSome (changed_at tid change o) (λ _. (1 ≤ tid) × (tid < next))
maps_low tid next change None h = tt
maps_low tid next change (Some t) h = h

-- a change that leaves where the thread waits
pub keeps_changed : {v : Version} (m : FinMap nat_cmp Thread) (order : List ℕ) (next tid : ℕ) (change : Thread → Thread) →
    AreThreads v m order next →
    ((t : Thread) → IsThread v t → IsThread v (change t)) → ((t : Thread) → (change t).wait ≡ t.wait) →
    AreThreads v (changed tid change m) order next
keeps_changed m order next tid change h fits same =
    keeps m (changed tid change m) order order next next tid (changed_at tid change (get m tid)) h (get-changed m tid change)
    (omega (arith, h.live, len-changed m tid change))
    (maps_fits tid change (get m tid) fits (h.threads tid)) (maps_low tid next change (get m tid) (h.tids tid)) (omega arith) h.next_tid
    (λ q. waits q (eq_by_cmp nat_cmp q tid) refl) h.waiting_once where
      waiting_same : (o : Option Thread) → IsWaiting (changed_at tid change o) ≡ IsWaiting o
      waiting_same None = refl
      waiting_same (Some t) = ap (λ (o : Option FutexWait). IsSome o) (same t)

      waits : (q : ℕ) (b : Bool) → eq_by_cmp nat_cmp q tid ≡ b →
          Contains order q ↔ IsWaiting (cond b (changed_at tid change (get m tid)) (get m q))
      waits q true e =
          subst (λ (W : Type 0). Contains order q ↔ W) (sym (waiting_same (get m tid)))
          (subst (λ k. Contains order q ↔ IsWaiting (get m k)) (same_tid q tid e) (h.waiting q))
      waits q false e = h.waiting q

-- a thread that runs again
abbrev pub resumed : Thread → Thread
resumed t = record t { wait = None }

pub keeps_woken : {v : Version} (m : FinMap nat_cmp Thread) (order : List ℕ) (next tid : ℕ) → AreThreads v m order next →
    AreThreads v (changed tid resumed m) (filter (λ w. not (nat_eq w tid)) order) next
keeps_woken m order next tid h =
    keeps m (changed tid resumed m) order (filter (λ w. not (nat_eq w tid)) order) next next tid (changed_at tid resumed (get m tid)) h
    (get-changed m tid resumed)
    (omega (arith, h.live, len-changed m tid resumed))
    (maps_fits tid resumed (get m tid) (λ t is. record { regs = is.regs; waits = tt; clear = is.clear }) (h.threads tid))
    (maps_low tid next resumed (get m tid) (h.tids tid)) (omega arith) h.next_tid
    (λ q. waits q (eq_by_cmp nat_cmp q tid) refl) (AllPairs-filter (λ a b. a ≢ b) (λ w. not (nat_eq w tid)) order h.waiting_once) where
      none_waits : (o : Option Thread) → IsWaiting (changed_at tid resumed o) → ⊥
      none_waits None w = w
      none_waits (Some t) w = false≢true w

      waits : (q : ℕ) (b : Bool) → eq_by_cmp nat_cmp q tid ≡ b →
          Contains (filter (λ w. not (nat_eq w tid)) order) q ↔ IsWaiting (cond b (changed_at tid resumed (get m tid)) (get m q))
      waits q true e = (
        λ c. absurd (false≢true
            (ap not (sym ((Decides-eqb q tid).1 (same_tid q tid e))) ∙ (of_filtered (λ w. not (nat_eq w tid)) order q c).1)),
        λ w. absurd (none_waits (get m tid) w),
      )
      waits q false e = (
        λ c. (h.waiting q).0 (of_filtered (λ w. not (nat_eq w tid)) order q c).0,
        λ w. in_filtered (λ w. not (nat_eq w tid)) order q ((h.waiting q).1 w) (ap not (unequal q tid (λ same. apart q tid e (sym same)))),
      )

-- ---- one that waits

-- a thread that waits so
abbrev waits_from : FutexWait → Thread → Thread
waits_from a t = record t { wait = Some a }

it_waits : (a : FutexWait) (tid : ℕ) (o : Option Thread) → IsRunning o → IsWaiting (changed_at tid (waits_from a) o)
it_waits a tid None r = absurd r
it_waits a tid (Some t) r = refl

pub keeps_waits : {v : Version} (m : FinMap nat_cmp Thread) (order : List ℕ) (next tid : ℕ) (a : FutexWait) → AreThreads v m order next →
    IsRunning (get m tid) → IsWait v a →
    AreThreads v (changed tid (λ t. record t { wait = Some a }) m) (order ++ tid ∷ []) next
keeps_waits m order next tid a h runs fits =
    keeps m (changed tid (waits_from a) m) order (order ++ tid ∷ []) next next tid (changed_at tid (waits_from a) (get m tid)) h
    (get-changed m tid (waits_from a))
    (omega (arith, h.live, len-changed m tid (waits_from a)))
    (maps_fits tid (waits_from a) (get m tid) (λ t is. record { regs = is.regs; waits = fits; clear = is.clear }) (h.threads tid))
    (maps_low tid next (waits_from a) (get m tid) (h.tids tid)) (omega arith) h.next_tid
    (λ q. waits q (eq_by_cmp nat_cmp q tid) refl) (all_pairs_push (λ a b. a ≢ b) order tid h.waiting_once new) where
      new : (k : ℕ) (d : ℕ) → k < length order → get_or order k d ≢ tid
      new k d l e =
          running_not_waiting (get m tid) runs
          (subst (λ q. IsWaiting (get m q)) e ((h.waiting (get_or order k d)).0 (Contains-get_or order k d l)))

      older : (q : ℕ) → eq_by_cmp nat_cmp q tid ≡ false → Contains order q ⊎ (tid ≡ q) → Contains order q
      older q e (inl c) = c
      older q e (inr same) = absurd (apart q tid e same)

      waits : (q : ℕ) (b : Bool) → eq_by_cmp nat_cmp q tid ≡ b →
          Contains (order ++ tid ∷ []) q ↔ IsWaiting (cond b (changed_at tid (waits_from a) (get m tid)) (get m q))
      waits q true e = (
        λ c. it_waits a tid (get m tid) runs,
        λ w. subst (λ k. Contains (order ++ tid ∷ []) k) (sym (same_tid q tid e)) (Contains-push order tid),
      )
      waits q false e = (
        λ c. (h.waiting q).0 (older q e (Contains-push_cases order tid q c)),
        λ w. Contains-append_left order (tid ∷ []) q ((h.waiting q).1 w),
      )

-- ---- changes of a state's threads

-- a change of a thread, as a change of the map
pub change_is : (tid : ℕ) (change : Thread → Thread) (s : State) →
    change_thread tid change s ≡ record s { threads = changed tid change s.threads }
change_is tid change s = by (get s.threads tid) refl where
  by : (o : Option Thread) → get s.threads tid ≡ o → change_thread tid change s ≡ record s { threads = changed tid change s.threads }
  by None e = rw e refl
  by (Some t) e = rw e refl

pub woken_is : (s : State) (tid : ℕ) →
    woken s tid ≡ record s { threads = changed tid resumed s.threads; waiting = filter (λ w. not (nat_eq w tid)) s.waiting }
woken_is s tid = change_is tid resumed (record s { waiting = filter (λ w. not (nat_eq w tid)) s.waiting })

-- ---- a running thread still runs when others are woken

still : (w : ℕ) (o : Option Thread) → IsRunning o → IsRunning (changed_at w resumed o)
still w None r = r
still w (Some t) r = refl

woken_running : (s : State) (w tid : ℕ) → IsRunning (thread_at s tid) → IsRunning (thread_at (woken s w) tid)
woken_running s w tid r =
    subst (λ (o : Option Thread). IsRunning o)
    (sym (ap (λ (s' : State). get s'.threads tid) (woken_is s w) ∙ get-changed s.threads w resumed tid))
    (by (eq_by_cmp nat_cmp tid w) refl) where
      by : (b : Bool) → eq_by_cmp nat_cmp tid w ≡ b → IsRunning (cond b (changed_at w resumed (get s.threads w)) (get s.threads tid))
      by true e = still w (get s.threads w) (subst (λ k. IsRunning (get s.threads k)) (same_tid tid w e) r)
      by false e = r

pub all_woken_running : (tids : List ℕ) (s : State) (tid : ℕ) → IsRunning (thread_at s tid) → IsRunning (thread_at (fold woken s tids) tid)
all_woken_running [] s tid r = r
all_woken_running (w ∷ tids) s tid r = all_woken_running tids (woken s w) tid (woken_running s w tid r)

pub wakes_running : (a count tid : ℕ) (s : State) → IsRunning (thread_at s tid) → IsRunning (thread_at (wakes a count s) tid)
wakes_running a count tid s r = all_woken_running (waiters s a count) s tid r
