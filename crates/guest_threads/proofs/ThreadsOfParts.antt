-- Threads that a list of parts tells.
use Rattle.std.proofs.Common.{◌≡◌, ℕ, zero, suc, ◌+◌, ◌^◌, ◌<◌, ◌≤◌, ◌==◌, ◌&&◌, not, nat_lt, Bool, true, false, cond, List, [], ◌∷◌, length, map, find, slice_index, Option, Some, None, IfSome, IsSome, All, Contains, get_or, refl, sym, ◌∙◌, ap, subst, arith}
use Rattle.std.proofs.lemmas.Bool.{false≢true, ltb-true, lt-ltb, and_parts, and_from, or_parts}
use Rattle.std.proofs.lemmas.Bool.Decides.{Decides-eqb}
use Rattle.std.proofs.lemmas.List.{length-map}
use Rattle.std.proofs.lemmas.List.Elements.{All-contains, All-from_recursion, recursion_from_All, All-contains_itself}
use Rattle.std.proofs.lemmas.Map.Keys.{sorted_from_strictly_increasing, IsStrictlyIncreasing-from_sorted, IsDistinct-from_apart}
use Rattle.std.proofs.lemmas.Map.Steps.{length-le_from_keys}
use Rattle.std.proofs.lemmas.Map.Views.{Contains-from_any}
use Rattle.std.specs.Cmp.{nat_cmp_total, eq_by_cmp_equiv}
use Rattle.std.proofs.lemmas.Map.Made.{AllPairs-from_IsDistinct, IsDistinct-from_AllPairs}
use Rattle.std.specs.List.{list_any, AllByRecursion, IsDistinct}
use Rattle.std.specs.List.Sorted.{IsStrictlyIncreasing, IsStrictlySortedBy}
use Rattle.std.specs.Option.{option_map}
use Rattle.std.specs.Ordering.{nat_cmp, eq_by_cmp}
use Rattle.std.specs.Map.{keys_of}
use Rattle.std.specs.BTreeMap.{is_at}
use Rattle.std.specs.FinMap.{get}
use Rattle.rrv_model.specs.declared.machine.Thread.{Thread}
use Rattle.rrv_model.specs.declared.record.ThreadPart.{ThreadPart}
use Rattle.rrv_model.specs.declared.machine.Version.{Version}
use Rattle.rrv_model.specs.State.{IsThread, IsWaiting, live_threads}
use Rattle.guest_threads.specs.Threads.{thread_map}
use Rattle.guest_threads.specs.ThreadParts.{entries_of, tids_rise, waits_in, order_fits, Fits, MakeThreads}
use Rattle.page_permissions.proofs.Keys.{is_at_nat}
use Rattle.rrv_model.proofs.ThreadRules.{same_tid, tied, by_cmp, unequal}
use Rattle.guest_threads.proofs.ByTid.{entry_at, get_thread, none_later, counted}

-- ---- rising tids

increases : (parts : List ThreadPart) → tids_rise parts ≡ true → IsStrictlyIncreasing (map (λ p. p.tid) parts)
increases [] e k lt = absurd (omega arith)
increases (p ∷ []) e k lt = absurd (omega arith)
increases (p ∷ q ∷ parts) e zero lt = ltb-true p.tid q.tid (and_parts (nat_lt p.tid q.tid) (tids_rise (q ∷ parts)) e).0
increases (p ∷ q ∷ parts) e (suc k) lt =
    let rest = (and_parts (nat_lt p.tid q.tid) (tids_rise (q ∷ parts)) e).1 in
    let later : slice_index (map (λ (p : ThreadPart). p.tid) (q ∷ parts)) k
    < slice_index (map (λ (p : ThreadPart). p.tid) (q ∷ parts)) (k + 1) = increases (q ∷ parts) rest k (omega arith) in
    let same : suc (k + 1) ≡ suc k + 1 = omega arith in
    subst (λ (j : ℕ). slice_index (map (λ (p : ThreadPart). p.tid) (q ∷ parts)) k
    < slice_index (map (λ (p : ThreadPart). p.tid) (p ∷ q ∷ parts)) j) same later

pub rises_where : (parts : List ThreadPart) → IsStrictlyIncreasing (map (λ p. p.tid) parts) → tids_rise parts ≡ true
rises_where [] h = refl
rises_where (p ∷ []) h = refl
rises_where (p ∷ q ∷ parts) h =
    let first : p.tid < q.tid = h 0 (omega arith) in
    let later : IsStrictlyIncreasing (map (λ (p : ThreadPart). p.tid) (q ∷ parts)) = λ k lt.
    let same : suc k + 1 ≡ suc (k + 1) = omega arith in
    subst (λ (j : ℕ). slice_index (map (λ (p : ThreadPart). p.tid) (q ∷ parts)) k
    < slice_index (map (λ (p : ThreadPart). p.tid) (p ∷ q ∷ parts)) j) same (h (suc k) (omega arith)) in
    and_from (nat_lt p.tid q.tid) (tids_rise (q ∷ parts)) (lt-ltb p.tid q.tid first) (rises_where (q ∷ parts) later)

keys_told : (parts : List ThreadPart) → keys_of (entries_of parts) ≡ map (λ p. p.tid) parts
keys_told [] = refl
keys_told (p ∷ parts) = ap (λ (ks : List ℕ). p.tid ∷ ks) (keys_told parts)

sorted_told : (parts : List ThreadPart) → IsStrictlyIncreasing (map (λ p. p.tid) parts) →
    IsStrictlySortedBy nat_cmp (keys_of (entries_of parts))
sorted_told parts h = subst (λ (ks : List ℕ). IsStrictlySortedBy nat_cmp ks) (sym (keys_told parts)) (sorted_from_strictly_increasing _ h)

-- the tids of entries that stand in order rise
pub told_rising : (parts : List ThreadPart) (es : List (ℕ × Thread)) → entries_of parts ≡ es → IsStrictlySortedBy nat_cmp (keys_of es)
    → IsStrictlyIncreasing (map (λ p. p.tid) parts)
told_rising parts es told ordered =
    let keys : keys_of es ≡ map (λ (p : ThreadPart). p.tid) parts =
    ap (λ (entries : List (ℕ × Thread)). keys_of entries) (sym told) ∙ keys_told parts in
    subst (λ (ks : List ℕ). IsStrictlyIncreasing ks) keys (IsStrictlyIncreasing-from_sorted (keys_of es) ordered)

-- ---- the threads by tid

-- what holds of each part holds of what is found under a tid
found : (P : ℕ → Thread → Type 0) (parts : List ThreadPart) → AllByRecursion (λ p. P p.tid p.thread) parts → (q : ℕ) →
    IfSome (entry_at (entries_of parts) q) (P q)
found P [] h q = tt
found P (p ∷ parts) h q = by (is_at (nat_cmp q) p.tid) refl (found P parts h.1 q) where
  by : (b : Bool) → is_at (nat_cmp q) p.tid ≡ b → IfSome (entry_at (entries_of parts) q) (P q) →
      IfSome (cond b (Some p.thread) (entry_at (entries_of parts) q)) (P q)
  by true e rest = subst (λ (k : ℕ). P k p.thread) (sym (same_tid q p.tid e)) h.0
  by false e rest = rest

-- and the other way round, where no tid stands twice
each : (P : ℕ → Thread → Type 0) (parts : List ThreadPart) → IsStrictlySortedBy nat_cmp (keys_of (entries_of parts))
    → ((q : ℕ) → IfSome (entry_at (entries_of parts) q) (P q)) → AllByRecursion (λ p. P p.tid p.thread) parts
unfolding IsStrictlySortedBy
each P [] sorted h = tt
each P (p ∷ parts) sorted h = (
  subst (λ (b : Bool). IfSome (cond b (Some p.thread) (entry_at (entries_of parts) p.tid)) (P p.tid)) (tied p.tid) (h p.tid),
  each P parts sorted.1 (λ q. by q (is_at (nat_cmp q) p.tid) refl),
) where
  by : (q : ℕ) (b : Bool) → is_at (nat_cmp q) p.tid ≡ b → IfSome (entry_at (entries_of parts) q) (P q)
  by q true e =
      let none : entry_at (entries_of parts) q ≡ None =
      ap (entry_at (entries_of parts)) (same_tid q p.tid e) ∙ none_later (p.tid, p.thread) (entries_of parts) sorted in
      subst (λ (o : Option Thread). IfSome o (P q)) (sym none) tt
  by q false e = subst (λ (b : Bool). IfSome (cond b (Some p.thread) (entry_at (entries_of parts) q)) (P q)) e (h q)

first_of : (parts : List ThreadPart) (q : ℕ) → entry_at (entries_of parts) q ≡ option_map (λ p. p.thread) (find (λ p. p.tid == q) parts)
first_of [] q = refl
first_of (p ∷ parts) q = rw (is_at_nat q p.tid) (by (p.tid == q) (first_of parts q)) where
  by : (b : Bool) → entry_at (entries_of parts) q ≡ option_map (λ p. p.thread) (find (λ p. p.tid == q) parts)
      → cond b (Some p.thread) (entry_at (entries_of parts) q) ≡ option_map (λ p. p.thread) (cond b (Some p) (find (λ p. p.tid == q) parts))
  by true rest = refl
  by false rest = rest

-- ---- the waiting order

waits : (o : Option ThreadPart) → waits_in o ≡ true → IsWaiting (option_map (λ p. p.thread) o)
waits None e = absurd (false≢true e)
waits (Some p) e = e

waits_too : (o : Option ThreadPart) → IsWaiting (option_map (λ p. p.thread) o) → waits_in o ≡ true
waits_too None h = absurd h
waits_too (Some p) h = h

map_at : (parts : List ThreadPart) (q : ℕ) →
    get (thread_map (entries_of parts)) q ≡ option_map (λ p. p.thread) (find (λ p. p.tid == q) parts)
map_at parts q = get_thread (entries_of parts) q ∙ first_of parts q

named_wait : (parts : List ThreadPart) (order : List ℕ) → order_fits parts order ≡ true →
    AllByRecursion (λ q. IsWaiting (get (thread_map (entries_of parts)) q)) order
named_wait parts [] e = tt
named_wait parts (q ∷ order) e =
    let a = and_parts (waits_in (find (λ (p : ThreadPart). p.tid == q) parts) && not (list_any (λ other. other == q) order))
    (order_fits parts order) e in
    let b = and_parts (waits_in (find (λ (p : ThreadPart). p.tid == q) parts)) (not (list_any (λ other. other == q) order)) a.0 in (
      subst (λ (o : Option Thread). IsWaiting o) (sym (map_at parts q)) (waits (find (λ p. p.tid == q) parts) b.0),
      named_wait parts order a.1,
    )

-- two tids are the same, the later one first
abbrev same : ℕ → ℕ → Bool
same q other = other == q

none_same : (q : ℕ) (order : List ℕ) → list_any (same q) order ≡ false → AllByRecursion (λ other. same q other ≡ false) order
none_same q [] e = tt
none_same q (w ∷ order) e = let parts = or_parts (w == q) (list_any (same q) order) e in (parts.0, none_same q order parts.1)

none_same_too : (q : ℕ) (order : List ℕ) → AllByRecursion (λ other. same q other ≡ false) order → list_any (same q) order ≡ false
none_same_too q [] h = refl
none_same_too q (w ∷ order) h = rw h.0 (none_same_too q order h.1)

none_is_not : (b : Bool) → not b ≡ true → b ≡ false
none_is_not true e = absurd (false≢true e)
none_is_not false e = refl

distinct : (parts : List ThreadPart) (order : List ℕ) → order_fits parts order ≡ true → IsDistinct same order
unfolding IsDistinct
distinct parts [] e = tt
distinct parts (q ∷ order) e =
    let a = and_parts (waits_in (find (λ (p : ThreadPart). p.tid == q) parts) && not (list_any (same q) order)) (order_fits parts order)
    e in
    let b = and_parts (waits_in (find (λ (p : ThreadPart). p.tid == q) parts)) (not (list_any (same q) order)) a.0 in
    (none_same q order (none_is_not (list_any (same q) order) b.1), distinct parts order a.1)

order_of : (parts : List ThreadPart) (order : List ℕ) → AllByRecursion (λ q. IsWaiting (get (thread_map (entries_of parts)) q)) order →
    IsDistinct same order → order_fits parts order ≡ true
unfolding IsDistinct
order_of parts [] h d = refl
order_of parts (q ∷ order) h d =
    let waiting : waits_in (find (λ (p : ThreadPart). p.tid == q) parts) ≡ true =
    waits_too (find (λ p. p.tid == q) parts) (subst (λ (o : Option Thread). IsWaiting o) (map_at parts q) h.0) in
    let once : list_any (same q) order ≡ false = none_same_too q order d.0 in
    rw (waiting, once) (order_of parts order h.1 d.1)

same_decides : (a b : ℕ) → (same a b ≡ true → a ≡ b) × (a ≡ b → same a b ≡ true)
same_decides a b = (λ e. sym ((Decides-eqb b a).0 e), λ e. (Decides-eqb b a).1 (sym e))

-- ---- the rules

if_some : {P Q : Thread → Type 0} (o : Option Thread) → ((t : Thread) → P t → Q t) → IfSome o P → IfSome o Q
if_some None f h = tt
if_some (Some t) f h = f t h

if_both : (v : Version) (o : Option Thread) (order : List ℕ) (next q : ℕ) → IfSome o (λ _. (1 ≤ q) × (q < next)) → IfSome o (IsThread v) →
    (IsWaiting o → Contains order q) →
    IfSome o (λ t. Fits v order next (record { tid = q; thread = t }))
if_both v None order next q tid thread named = tt
if_both v (Some t) order next q tid thread named = record { tid = tid; thread = thread; named = named }

named_there : (v : Version) (o : Option Thread) (order : List ℕ) (next q : ℕ) →
    IfSome o (λ t. Fits v order next (record { tid = q; thread = t })) → IsWaiting o → Contains order q
named_there v None order next q h w = absurd w
named_there v (Some t) order next q h w = h.named w

pub makes : (v : Version) (parts : List ThreadPart) (order : List ℕ) (next : ℕ) → length parts ≤ live_threads v → 1 ≤ next → next ≤ 2 ^ 31 →
    tids_rise parts ≡ true
    → AllByRecursion (Fits v order next) parts → order_fits parts order ≡ true → MakeThreads v parts order next
makes v parts order next few low high rise fit fits =
    let rising = increases parts rise in
    let at : (q : ℕ) → IfSome (get (thread_map (entries_of parts)) q) (λ t. Fits v order next (record { tid = q; thread = t })) = λ q.
    subst (λ (o : Option Thread). IfSome o (λ t. Fits v order next (record { tid = q; thread = t })))
    (sym (get_thread (entries_of parts) q))
    (found (λ q t. Fits v order next (record { tid = q; thread = t })) parts fit q) in
    record {
      tids_rising = rising;
      rules = record {
        threads = λ q. if_some (get (thread_map (entries_of parts)) q) (λ t h. h.thread) (at q);
        live = omega (
          arith,
          counted (entries_of parts) (sorted_told parts rising),
          length-map parts (λ (p : ThreadPart). let e : ℕ × Thread = (p.tid, p.thread) in e),
        );
        tids = λ q. if_some (get (thread_map (entries_of parts)) q) (λ t h. h.tid) (at q);
        first = low;
        next_tid = high;
        waiting = λ q. (
          λ c. All-contains (λ q. IsWaiting (get (thread_map (entries_of parts)) q)) order q
              (All-from_recursion _ order (named_wait parts order fits)) c,
          named_there v (get (thread_map (entries_of parts)) q) order next q (at q),
        );
        waiting_once = AllPairs-from_IsDistinct same_decides order (distinct parts order fits);
      };
    }

-- ---- and the other way round

module _ (v : Version) (parts : List ThreadPart) (order : List ℕ) (next : ℕ) (h : MakeThreads v parts order next) where
  pub few : length parts ≤ live_threads v
  few = omega (
    arith,
    h.rules.live,
    counted (entries_of parts) (sorted_told parts h.tids_rising),
    length-map parts (λ (p : ThreadPart). let e : ℕ × Thread = (p.tid, p.thread) in e),
  )

  pub rise : tids_rise parts ≡ true
  rise = rises_where parts h.tids_rising

  pub all_fit : AllByRecursion (Fits v order next) parts
  all_fit = each (λ q t. Fits v order next (record { tid = q; thread = t })) parts (sorted_told parts h.tids_rising) (λ q.
      subst (λ (o : Option Thread). IfSome o (λ t. Fits v order next (record { tid = q; thread = t }))) (get_thread (entries_of parts) q)
      (if_both v (get (thread_map (entries_of parts)) q) order next q (h.rules.tids q) (h.rules.threads q) (h.rules.waiting q).1))

  pub ordered : order_fits parts order ≡ true
  ordered = order_of parts order
      (recursion_from_All (λ q. IsWaiting (get (thread_map (entries_of parts)) q)) order (all_named order (λ q c. (h.rules.waiting q).0 c)))
      (IsDistinct-from_AllPairs same_decides order h.rules.waiting_once) where
        all_named : (order : List ℕ) → ((q : ℕ) → Contains order q → IsWaiting (get (thread_map (entries_of parts)) q)) →
            All (λ q. IsWaiting (get (thread_map (entries_of parts)) q)) order
        all_named order f = λ k d l. f _ (All-contains_itself order k d l)

  -- each waiting thread stands once in the order
  pub few_wait : length order ≤ live_threads v
  few_wait =
      let among : length order ≤ length (entries_of parts) =
      length-le_from_keys (eq_by_cmp_equiv nat_cmp_total) order (entries_of parts) apart_by_cmp (λ q any.
      is_there (entry_at (entries_of parts) q) (subst (λ (o : Option Thread). IsWaiting o) (get_thread (entries_of parts) q)
      ((h.rules.waiting q).0 (Contains-from_any same_tid q order any)))) in
      omega (arith, among, length-map parts (λ (p : ThreadPart). let e : ℕ × Thread = (p.tid, p.thread) in e), few) where
        apart_by_cmp : IsDistinct (eq_by_cmp nat_cmp) order
        apart_by_cmp = IsDistinct-from_apart (eq_by_cmp nat_cmp) order (λ i j d below inside.
            by_cmp (get_or order i d) (get_or order j d)
            (unequal (get_or order i d) (get_or order j d) (h.rules.waiting_once i j d below inside)))

        is_there : (o : Option Thread) → IsWaiting o → IsSome o
        is_there None w = absurd w
        is_there (Some t) w = refl
