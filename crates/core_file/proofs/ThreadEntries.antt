-- The threads that a guest lists are those of its state, in order.
use Rattle.std.proofs.Common.{◌≡◌, ◌∙◌, ℕ, ◌≤◌, T, Bool, true, false, ◌&&◌, List, [], ◌∷◌, map, length, refl, sym, ap, subst, arith}
use Rattle.std.specs.List.{AllByRecursion}
use Rattle.std.specs.List.Sorted.{IsStrictlySortedBy}
use Rattle.std.proofs.lemmas.Map.Keys.{sorted_from_strictly_increasing}
use Rattle.std.specs.Cmp.{nat_cmp_total}
use Rattle.std.specs.Ordering.{nat_cmp, is_lt}
use Rattle.std.specs.declared.cmp.Ordering.{Ordering}
use Rattle.std.specs.declared.cmp.Ordering.TheVariants.{Less}
use Rattle.std.specs.FinMap.{FinMap, entries, entries_sorted, get-entries, get-from_entries, nat_cmp-IsAntisymmetric}
use Rattle.std.specs.Map.{keys_of}
use Rattle.std.specs.FinMap.Entries.{below_all, is_sorted, same_entries}
use Rattle.rrv_model.specs.declared.machine.Thread.{Thread}
use Rattle.rrv_model.specs.declared.machine.Version.{Version}
use Rattle.rrv_model.specs.declared.machine.Version.TheVariants.{One, Two}
use Rattle.rrv_model.specs.declared.record.ThreadPart.{ThreadPart}
use Rattle.rrv_model.specs.State.{State, live_threads}
use Rattle.guest_threads.specs.Threads.{ThreadsValue, alone, thread_map, with_threads}
use Rattle.guest_threads.specs.ThreadParts.{MakeThreads, entries_of, with_parts}
use Rattle.guest_threads.proofs.ByTid.{counted}

both : (a b : Bool) → T a → T b → T (a && b)
both true b p q = q
both false b p q = p

below_told : (x : ℕ) (parts : List ThreadPart) → AllByRecursion (λ y. nat_cmp x y ≡ Less) (map (λ p. p.tid) parts) →
    T (below_all nat_cmp x (entries_of parts))
below_told x [] h = tt
below_told x (p ∷ parts) h = both _ _ (subst (λ (o : Ordering). T (is_lt o)) (sym h.0) tt) (below_told x parts h.1)

sorted_told : (parts : List ThreadPart) → IsStrictlySortedBy nat_cmp (map (λ p. p.tid) parts) → T (is_sorted nat_cmp (entries_of parts))
unfolding IsStrictlySortedBy
sorted_told [] h = tt
sorted_told (p ∷ parts) h = both _ _ (below_told p.tid parts h.0) (sorted_told parts h.1)

-- the entries of a map of sorted ones are these
same_told : (es : List (ℕ × Thread)) → T (is_sorted nat_cmp es) → entries (thread_map es) ≡ es
same_told es sorted =
    same_entries nat_cmp nat_cmp_total nat_cmp-IsAntisymmetric (entries (thread_map es)) es (entries_sorted (thread_map es)) sorted
    (λ q. sym (get-entries (thread_map es) q) ∙ get-from_entries nat_cmp_total es q)

pub threads_told : (v : ThreadsValue) (parts : List ThreadPart) →
    ((s : State) → with_parts v.version parts v.waiting v.next_tid s ≡ with_threads v s)
    → MakeThreads v.version parts v.waiting v.next_tid → entries (thread_map v.threads) ≡ entries_of parts
threads_told v parts told made =
    let same : thread_map (entries_of parts) ≡ thread_map v.threads = ap (λ (s : State). s.threads) (told (alone v)) in
    ap (λ (m : FinMap nat_cmp Thread). entries m) (sym same)
    ∙ same_told (entries_of parts) (sorted_told parts (sorted_from_strictly_increasing _ made.tids_rising))

keys_told : (parts : List ThreadPart) → keys_of (entries_of parts) ≡ map (λ p. p.tid) parts
keys_told [] = refl
keys_told (p ∷ parts) = ap (λ (ks : List ℕ). p.tid ∷ ks) (keys_told parts)

pub count_told : (parts : List ThreadPart) → length (entries_of parts) ≡ length parts
count_told [] = refl
count_told (p ∷ parts) = omega (arith, count_told parts)

few_live : (v : Version) → live_threads v ≤ 64
few_live One = omega arith
few_live Two = omega arith

pub few_parts : (v : Version) (parts : List ThreadPart) (order : List ℕ) (next : ℕ) → MakeThreads v parts order next → length parts ≤ 64
few_parts v parts order next made =
    let sorted : IsStrictlySortedBy nat_cmp (keys_of (entries_of parts)) =
    subst (λ (ks : List ℕ). IsStrictlySortedBy nat_cmp ks) (sym (keys_told parts)) (sorted_from_strictly_increasing _ made.tids_rising) in
    omega (arith, made.rules.live, few_live v, counted (entries_of parts) sorted, count_told parts)
