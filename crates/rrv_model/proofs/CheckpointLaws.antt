-- A state that runs and has no reservation has a checkpoint.
use Rattle.std.proofs.Common.{◌≡◌, ◌≢◌, ℕ, zero, suc, ◌+◌, ◌/◌, ◌^◌, ◌<◌, ◌≤◌, Bool, true, false, cond, ◌&&◌, List, [], ◌∷◌, ◌++◌, length, get_or, map, Option, Some, None, IfSome, IsSome, All, AllPairs, slice_index, refl, sym, ◌∙◌, ap, subst, arith}
use Rattle.std.specs.Prelude.{T}
use Rattle.std.specs.Cmp.{nat_cmp_total, eq_by_cmp_equiv}
use Rattle.std.specs.FinMap.{FinMap, find, is_sorted, get, entries, entries_sorted, from_entries, get-entries, len-entries, get-from_entries, same_map, nat_cmp-IsAntisymmetric}
use Rattle.std.specs.FinMap.Entries.{below_all}
use Rattle.std.specs.List.{AllByRecursion, IsDistinct}
use Rattle.std.specs.List.Sorted.{IsStrictlyIncreasing}
use Rattle.std.specs.Map.{lookup}
use Rattle.std.specs.Ordering.{nat_cmp, eq_by_cmp, is_lt}
use Rattle.std.proofs.lemmas.Bool.Decides.{nat_tests}
use Rattle.std.proofs.lemmas.List.{append-nil}
use Rattle.std.proofs.lemmas.List.Elements.{Contains-get_or, All-from_recursion, recursion_from_All}
use Rattle.std.proofs.lemmas.Map.Keys.{IsDistinct-from_apart}
use Rattle.std.proofs.lemmas.Map.Steps.{length-le_from_keys}
use Rattle.std.proofs.lemmas.Map.Views.{Contains-from_any}
use Rattle.rrv_model.specs.declared.machine.Thread.{Thread}
use Rattle.rrv_model.specs.declared.machine.FutexWait.{FutexWait}
use Rattle.rrv_model.specs.declared.machine.Timeout.{Timeout}
use Rattle.rrv_model.specs.declared.machine.Version.{Version}
use Rattle.rrv_model.specs.declared.machine.Version.TheVariants.{One, Two}
use Rattle.rrv_model.specs.declared.record.CheckpointRest.{CheckpointRest}
use Rattle.rrv_model.specs.declared.record.PagePart.{PagePart}
use Rattle.rrv_model.specs.declared.record.Part.{Part}
use Rattle.rrv_model.specs.declared.record.ThreadPart.{ThreadPart}
use Rattle.rrv_model.specs.Memory.{Memory, IsPaged, page_bytes}
use Rattle.rrv_model.specs.State.{State, IsState, IsThread, IsTimeout, IsWait, IsWaiting, AreThreads, live_threads}
use Rattle.rrv_model.specs.Checkpoint.{all_pages, described_state, patched, IsPagePart, EndsWithRest}
use Rattle.rrv_model.specs.RecordText.{HasPageText, HasThreadText, HasTimeoutText, HasWaitText, HasRestText, HasPartText, CheckpointsExist}
use Rattle.rrv_model.proofs.MemoryRules.{Fits}
use Rattle.rrv_model.proofs.PageTexts.{entries_from, length-entries_from, entries_append, number_of_entry, has_page_text, is_page_part, patched_whole}
use Rattle.rrv_model.proofs.ThreadRules.{same_tid, tied, by_cmp, unequal}

-- ---- numbers that rise

Rises : List ℕ → Type 0
Rises [] = Unit {0}
Rises (x ∷ []) = Unit {0}
Rises (x ∷ y ∷ xs) = (x < y) × Rises (y ∷ xs)

increasing : (xs : List ℕ) → Rises xs → IsStrictlyIncreasing xs
unfolding Rises
increasing [] h k lt = absurd (omega arith)
increasing (x ∷ []) h k lt = absurd (omega arith)
increasing (x ∷ y ∷ xs) h zero lt = h.0
increasing (x ∷ y ∷ xs) h (suc k) lt =
    let later : slice_index (y ∷ xs) k < slice_index (y ∷ xs) (k + 1) = increasing (y ∷ xs) h.1 k (omega arith) in
    let same : suc (k + 1) ≡ suc k + 1 = omega arith in
    subst (λ (j : ℕ). slice_index (y ∷ xs) k < slice_index (x ∷ y ∷ xs) j) same later

-- ---- pages

numbers_rise : (m : Memory) (count first : ℕ) → Rises (map (λ p. p.number) (entries_from m first count))
unfolding Rises entries_from
numbers_rise m zero first = tt
numbers_rise m (suc zero) first = tt
numbers_rise m (suc (suc count)) first =
    (omega (arith, number_of_entry m first, number_of_entry m (suc first)), numbers_rise m (suc count) (suc first))

texts : (m : Memory) (count first : ℕ) → first + count ≤ 0x80000 → Fits m → AllByRecursion HasPageText (entries_from m first count)
unfolding entries_from
texts m zero first high fits = tt
texts m (suc count) first high fits = (has_page_text m first (omega arith) fits, texts m count (suc first) (omega arith) fits)

are_page_parts : (m : Memory) (count first : ℕ) → AllByRecursion IsPagePart (entries_from m first count)
unfolding entries_from
are_page_parts m zero first = tt
are_page_parts m (suc count) first = (is_page_part m first, are_page_parts m count (suc first))

-- ---- threads

parts_of : List (ℕ × Thread) → List ThreadPart
parts_of [] = []
parts_of (e ∷ es) = record { tid = e.0; thread = e.1 } ∷ parts_of es

pairs_of : (es : List (ℕ × Thread)) → map (λ p. (p.tid, p.thread)) (parts_of es) ≡ es
unfolding parts_of
pairs_of [] = refl
pairs_of (e ∷ es) = ap (λ (rest : List (ℕ × Thread)). e ∷ rest) (pairs_of es)

length-parts_of : (es : List (ℕ × Thread)) → length (parts_of es) ≡ length es
unfolding parts_of
length-parts_of [] = refl
length-parts_of (e ∷ es) = ap (λ n. suc n) (length-parts_of es)

pub less_than : (x y : ℕ) → is_lt (nat_cmp x y) ≡ true → x < y
less_than x y h = grind (arith, nat_tests)

pub holds : (b : Bool) → T b → b ≡ true
holds true h = refl
holds false h = absurd h

pub both_hold : (a b : Bool) → T (a && b) → T a × T b
both_hold true b h = (tt, h)
both_hold false b h = absurd h

tids_rise : (es : List (ℕ × Thread)) → T (is_sorted nat_cmp es) → Rises (map (λ p. p.tid) (parts_of es))
unfolding parts_of Rises
tids_rise [] h = tt
tids_rise (x ∷ []) h = tt
tids_rise (x ∷ y ∷ es) h =
    let parts = both_hold _ _ h in
    (less_than x.0 y.0 (holds _ (both_hold _ _ parts.0).0), tids_rise (y ∷ es) parts.1)

-- the entries of a map are those that it answers
threads_again : (m : FinMap nat_cmp Thread) → from_entries (map (λ p. (p.tid, p.thread)) (parts_of (entries m))) ≡ m
threads_again m = same_map nat_cmp_total nat_cmp-IsAntisymmetric _ _ (λ q.
    ap (λ (es : List (ℕ × Thread)). get (from_entries {R = nat_cmp} es) q) (pairs_of (entries m))
    ∙ get-from_entries nat_cmp_total (entries m) q ∙ sym (get-entries m q))

-- a tid is not among those behind it
pub none_below : (x : ℕ) (es : List (ℕ × Thread)) → T (below_all nat_cmp x es) → find nat_cmp x es ≡ None
none_below x [] h = refl
none_below x (e ∷ es) h =
    let parts = both_hold _ _ h in
    let below : x < e.0 = less_than x e.0 (holds _ parts.0) in
    ap (λ b. cond b (Some e.1) (find nat_cmp x es)) (by_cmp x e.0 (unequal x e.0 (λ same. omega (arith, same)))) ∙ none_below x es parts.1

each_thread : (P : ℕ → Thread → Type 0) (es : List (ℕ × Thread)) → T (is_sorted nat_cmp es) → ((q : ℕ) → IfSome (find nat_cmp q es) (P q)) →
    AllByRecursion (λ p. P p.tid p.thread) (parts_of es)
unfolding parts_of
each_thread P [] sorted h = tt
each_thread P (e ∷ es) sorted h = (
  subst (λ b. IfSome (cond b (Some e.1) (find nat_cmp e.0 es)) (P e.0)) (tied e.0) (h e.0),
  each_thread P es (both_hold _ _ sorted).1 (λ q. by q (eq_by_cmp nat_cmp q e.0) refl),
) where
  by : (q : ℕ) (b : Bool) → eq_by_cmp nat_cmp q e.0 ≡ b → IfSome (find nat_cmp q es) (P q)
  by q true f =
      subst (λ (o : Option Thread). IfSome o (P q))
      (sym (ap (λ k. find nat_cmp k es) (same_tid q e.0 f) ∙ none_below e.0 es (both_hold _ _ sorted).0)) tt
  by q false f = subst (λ b. IfSome (cond b (Some e.1) (find nat_cmp q es)) (P q)) f (h q)

-- ---- the waiting order

found_is : (es : List (ℕ × Thread)) (q : ℕ) → find nat_cmp q es ≡ lookup (eq_by_cmp nat_cmp q) es
found_is [] q = refl
found_is (e ∷ es) q = ap (cond (eq_by_cmp nat_cmp q e.0) (Some e.1)) (found_is es q)

distinct : (xs : List ℕ) → AllPairs (λ a b. a ≢ b) xs → IsDistinct (eq_by_cmp nat_cmp) xs
distinct xs h =
    IsDistinct-from_apart (eq_by_cmp nat_cmp) xs
    (λ i j d below inside. by_cmp (get_or xs i d) (get_or xs j d) (unequal (get_or xs i d) (get_or xs j d) (h i j d below inside)))

waits_is_there : (o : Option Thread) → IsWaiting o → IsSome o
waits_is_there None w = absurd w
waits_is_there (Some t) w = refl

few_threads : (v : Version) → live_threads v ≤ 64
few_threads One = omega arith
few_threads Two = omega arith

few_wait : {v : Version} (m : FinMap nat_cmp Thread) (order : List ℕ) (next : ℕ) → AreThreads v m order next → length order ≤ 64
few_wait {v = v} m order next h =
    let among : length order ≤ length (entries m) =
    length-le_from_keys (eq_by_cmp_equiv nat_cmp_total) order (entries m) (distinct order h.waiting_once) (λ q any.
    subst (λ (o : Option Thread). IsSome o) (get-entries m q ∙ found_is (entries m) q)
    (waits_is_there (get m q) ((h.waiting q).0 (Contains-from_any same_tid q order any)))) in
    omega (arith, among, len-entries m, h.live, few_threads v)

-- ---- the rest

abbrev rest_of : State → CheckpointRest
rest_of s = record { program_break = s.program_break; next_tid = s.next_tid; threads = parts_of (entries s.threads); waiting = s.waiting }

timeout_text : (v : Version) (o : Option Timeout) → IfSome o (IsTimeout v) → IfSome o HasTimeoutText
timeout_text v None h = tt
timeout_text v (Some t) h = record { seconds = omega (arith, h.seconds); nanoseconds = omega (arith, h.nanoseconds) }

wait_has_text : (v : Version) (o : Option FutexWait) → IfSome o (IsWait v) → IfSome o HasWaitText
wait_has_text v None h = tt
wait_has_text v (Some w) h = record { address = h.address; timeout = timeout_text v w.timeout h.timeout }

low_thread : {v : Version} (tid next : ℕ) (t : Thread) → next ≤ 2 ^ 31 → (1 ≤ tid) × (tid < next) → IsThread v t →
    HasThreadText (record { tid = tid; thread = t })
low_thread {v = v} tid next t most low is = record {
  tid = omega (arith, low.1);
  pc = is.regs.pc;
  registers = (is.regs.registers.0, recursion_from_All (λ n. n < 2 ^ 32) t.regs.registers is.regs.registers.1);
  x0 = is.regs.zero;
  waits = wait_has_text v t.wait is.waits;
  clear = is.clear;
}

both_of : (o : Option Thread) (P Q R : Thread → Type 0) → ((t : Thread) → P t → Q t → R t) → IfSome o P → IfSome o Q → IfSome o R
both_of None P Q R f p q = tt
both_of (Some t) P Q R f p q = f t p q

waiting_tid : (o : Option Thread) (tid next : ℕ) → next ≤ 2 ^ 31 → IsWaiting o → IfSome o (λ _. (1 ≤ tid) × (tid < next)) → tid < 2 ^ 32
waiting_tid None tid next most w low = absurd w
waiting_tid (Some t) tid next most w low = omega (arith, low.1)

each_waiting : {v : Version} (m : FinMap nat_cmp Thread) (order : List ℕ) (next : ℕ) → AreThreads v m order next →
    All (λ n. n < 2 ^ 32) order
each_waiting m order next h k d below =
    let q = get_or order k d in
    waiting_tid (get m q) q next h.next_tid ((h.waiting q).0 (Contains-get_or order k d below)) (h.tids q)

has_rest_text : (s : State) → IsState s → HasRestText (rest_of s)
has_rest_text s h =
    let are = h.rules.threads in
    record {
      program_break = omega (arith, h.rules.breaks.1);
      next_tid = omega (arith, are.next_tid);
      few = omega (arith, length-parts_of (entries s.threads), len-entries s.threads, are.live, few_threads s.version);
      rising = increasing (map (λ p. p.tid) (parts_of (entries s.threads))) (tids_rise (entries s.threads) (entries_sorted s.threads));
      threads = each_thread (λ tid t. HasThreadText (record { tid = tid; thread = t })) (entries s.threads) (entries_sorted s.threads) (λ q.
          subst (λ (o : Option Thread). IfSome o (λ t. HasThreadText (record { tid = q; thread = t }))) (get-entries s.threads q)
          (both_of (get s.threads q) _ _ _ (λ t low is. low_thread q s.next_tid t are.next_tid low is) (are.tids q) (are.threads q)));
      waiting = few_wait s.threads s.waiting s.next_tid are;
      tids = recursion_from_All (λ n. n < 2 ^ 32) s.waiting (each_waiting s.threads s.waiting s.next_tid are);
    }

-- ---- the parts

-- parts of size pages each, of which the last has the rest
parts_from : Memory → CheckpointRest → (size first more : ℕ) → List Part
parts_from m rest size first zero = record { pages = entries_from m first size; rest = Some rest } ∷ []
parts_from m rest size first (suc more) =
    record { pages = entries_from m first size; rest = None } ∷ parts_from m rest size (first + size) more

-- how many pages they name
named : (size more : ℕ) → ℕ
named size zero = size
named size (suc more) = size + named size more

all_pages_are : (m : Memory) (rest : CheckpointRest) (size more first : ℕ) →
    all_pages (parts_from m rest size first more) ≡ entries_from m first (named size more)
unfolding parts_from named
all_pages_are m rest size zero first = append-nil (entries_from m first size)
all_pages_are m rest size (suc more) first =
    ap (λ (ps : List PagePart). entries_from m first size ++ ps) (all_pages_are m rest size more (first + size))
    ∙ sym (entries_append m size (named size more) first)

ends_with_rest : (m : Memory) (rest : CheckpointRest) (size more first : ℕ) → EndsWithRest (parts_from m rest size first more) rest
unfolding parts_from
ends_with_rest m rest size zero first = refl
ends_with_rest m rest size (suc zero) first = (refl, ends_with_rest m rest size zero (first + size))
ends_with_rest m rest size (suc (suc more)) first = (refl, ends_with_rest m rest size (suc more) (first + size))

few_pages : (m : Memory) (rest : CheckpointRest) (size more first : ℕ) → size ≤ 1_024 →
    AllByRecursion (λ p. length p.pages ≤ 1_024) (parts_from m rest size first more)
unfolding parts_from
few_pages m rest size zero first few = (omega (arith, length-entries_from m size first), tt)
few_pages m rest size (suc more) first few =
    (omega (arith, length-entries_from m size first), few_pages m rest size more (first + size) few)

part_text_of : (m : Memory) (o : Option CheckpointRest) (size first : ℕ) → size ≤ 1_024 → first + size ≤ 0x80000 → Fits m →
    IfSome o HasRestText → HasPartText (record { pages = entries_from m first size; rest = o })
part_text_of m o size first few high fits has = record {
  most = omega (arith, length-entries_from m size first);
  rising = increasing (map (λ q. q.number) (entries_from m first size)) (numbers_rise m size first);
  pages = texts m size first high fits;
  rest = has;
}

part_texts : (m : Memory) (rest : CheckpointRest) (size more first : ℕ) → size ≤ 1_024 → first + named size more ≤ 0x80000 → Fits m →
    HasRestText rest → AllByRecursion HasPartText (parts_from m rest size first more)
unfolding parts_from named
part_texts m rest size zero first few high fits has = (part_text_of m (Some rest) size first few high fits has, tt)
part_texts m rest size (suc more) first few high fits has =
    (part_text_of m None size first few (omega arith) fits tt, part_texts m rest size more (first + size) few (omega arith) fits has)

-- 512 parts name all pages from 0 to 0x7FFFF
all_named : named 1_024 511 ≡ 0x80000
unfolding named
all_named = refl

-- ---- the checkpoint

none_past : (m : Memory) → IsPaged m → (a : ℕ) → 0x80000 ≤ a / page_bytes → m a ≡ None
none_past m h a past = h.high a (omega arith)

described : (base s : State) (pages : List PagePart) → pages ≡ entries_from s.memory 0 0x80000 → IsState base → IsState s →
    base.version ≡ s.version → base.opening_break ≡ s.opening_break →
    s.reservation ≡ None → s.ended ≡ None → s ≡ described_state base pages (rest_of s)
described base s pages are b h version same free runs =
    let memory : s.memory ≡ patched pages base.memory =
    sym (ap (λ (ps : List PagePart). patched ps base.memory) are
    ∙ patched_whole s.memory base.memory 0x80000 h.rules.memory (none_past s.memory h.rules.memory)
    (none_past base.memory b.rules.memory)) in
    let threads : s.threads ≡ from_entries (map (λ p. (p.tid, p.thread)) (parts_of (entries s.threads))) = sym (threads_again s.threads) in
    λ i. record {
      version = sym version i;
      memory = memory i;
      threads = threads i;
      waiting = s.waiting;
      next_tid = s.next_tid;
      opening_break = sym same i;
      program_break = s.program_break;
      reservation = free i;
      ended = runs i;
    }

pub checkpoints_exist : CheckpointsExist
checkpoints_exist base s b h version same free runs =
    let m = s.memory in
    let fits : Fits m = h.rules.memory.cells in
    let rest : CheckpointRest = rest_of s in
    let parts : List Part = parts_from m rest 1_024 0 511 in
    let whole : 0 + named 1_024 511 ≤ 0x80000 = omega (arith, all_named) in
    let are : all_pages parts ≡ entries_from m 0 0x80000 = all_pages_are m rest 1_024 511 0 ∙ ap (entries_from m 0) all_named in (
      parts,
      part_texts m rest 1_024 511 0 (omega arith) whole fits (has_rest_text s h),
      record {
        describes = record {
          rest = rest;
          flagged = ends_with_rest m rest 1_024 511 0;
          few = All-from_recursion (λ p. length p.pages ≤ 1_024) parts (few_pages m rest 1_024 511 0 (omega arith));
          rising = subst (λ (ps : List PagePart). IsStrictlyIncreasing (map (λ p. p.number) ps)) (sym are)
              (increasing _ (numbers_rise m 0x80000 0));
          pages = All-from_recursion IsPagePart (all_pages parts)
              (subst (λ (ps : List PagePart). AllByRecursion IsPagePart ps) (sym are) (are_page_parts m 0x80000 0));
          tids_rising = (has_rest_text s h).rising;
          is_state = h.rules;
          state_is = described base s (all_pages parts) are b h version same free runs;
        };
        limit = h.limit;
      },
    )
