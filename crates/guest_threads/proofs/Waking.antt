-- The first waiter that runs again, and the waiters that are left.
use Rattle.std.proofs.Common.{◌≡◌, ◌≢◌, ℕ, suc, ◌+◌, ◌-◌, ◌<◌, ◌≤◌, Bool, true, false, cond, not, nat_eq, List, [], ◌∷◌, length, get_or, take, filter, find, fold, AllPairs, Option, Some, None, refl, sym, ◌∙◌, ap, subst, arith}
use Rattle.std.proofs.lemmas.Bool.Decides.{Decides-eqb}
use Rattle.std.proofs.lemmas.List.Elements.{All-filter, All-from_recursion, recursion_from_All}
use Rattle.std.proofs.lemmas.Map.Keys.{IsDistinct-from_apart, IsDistinct-head, IsDistinct-tail}
use Rattle.std.specs.FinMap.{get}
use Rattle.std.specs.List.{AllByRecursion, IsDistinct}
use Rattle.rrv_model.specs.declared.machine.Thread.{Thread}
use Rattle.rrv_model.specs.declared.machine.FutexWait.{FutexWait}
use Rattle.rrv_model.specs.State.{State}
use Rattle.rrv_model.specs.CallRows.{waits_at, waiters, woken, wakes}
use Rattle.guest_threads.specs.Threads.{ThreadsValue, with_threads}
use Rattle.rrv_model.proofs.ThreadRules.{woken_is, changed_at, get-changed, resumed, by_cmp, unequal}
use lib.Seq.{take-nil}

-- ---- a list without a number

abbrev without : ℕ → List ℕ → List ℕ
without tid xs = filter (λ w. not (nat_eq w tid)) xs

abbrev apart : ℕ → ℕ → Bool
apart a b = nat_eq b a

distinct : (xs : List ℕ) → AllPairs (λ a b. a ≢ b) xs → IsDistinct apart xs
distinct xs h =
    IsDistinct-from_apart apart xs (λ i j d below inside. unequal (get_or xs j d) (get_or xs i d) (λ e. h i j d below inside (sym e)))

none_left : (x : ℕ) (xs : List ℕ) → AllByRecursion (λ y. apart x y ≡ false) xs → without x xs ≡ xs
none_left x [] h = refl
none_left x (y ∷ ys) h = ap (λ b. cond (not b) (y ∷ without x ys) (without x ys)) h.0 ∙ ap (λ zs. y ∷ zs) (none_left x ys h.1)

kept_apart : (x : ℕ) (p : ℕ → Bool) (xs : List ℕ) → AllByRecursion (λ y. apart x y ≡ false) xs →
    AllByRecursion (λ y. apart x y ≡ false) (filter p xs)
kept_apart x p xs h =
    recursion_from_All (λ y. apart x y ≡ false) (filter p xs)
    (All-filter p (λ y. apart x y ≡ false) xs (All-from_recursion (λ y. apart x y ≡ false) xs h))

head_out : (x tid : ℕ) (ys : List ℕ) → AllByRecursion (λ y. apart x y ≡ false) ys → x ≡ tid → x ∷ ys ≡ tid ∷ without tid (x ∷ ys)
head_out x tid ys h e =
    subst (λ t. x ∷ ys ≡ t ∷ without t (x ∷ ys)) e
    (ap (λ zs. x ∷ zs) (sym (ap (λ b. cond (not b) (x ∷ without x ys) (without x ys)) ((Decides-eqb x x).1 refl) ∙ none_left x ys h)))

same_some : (a b : ℕ) → Some a ≡ Some b → a ≡ b
same_some a b e = cc

never : (tid : ℕ) → None ≡ Some tid → ⊥
never tid e = absurd (cc)

-- the first of those that pass, and the others
first_out : (p : ℕ → Bool) (xs : List ℕ) (tid : ℕ) → IsDistinct apart xs → find p xs ≡ Some tid →
    filter p xs ≡ tid ∷ without tid (filter p xs)
first_out p [] tid d e = absurd (never tid e)
first_out p (x ∷ xs) tid d e = by (first_out p xs tid (IsDistinct-tail apart x xs d)) (p x) e where
  by : (find p xs ≡ Some tid → filter p xs ≡ tid ∷ without tid (filter p xs)) → (b : Bool) →
      cond b (Some x) (find p xs) ≡ Some tid →
      cond b (x ∷ filter p xs) (filter p xs) ≡ tid ∷ without tid (cond b (x ∷ filter p xs) (filter p xs))
  by rest true e = head_out x tid (filter p xs) (kept_apart x p xs (IsDistinct-head apart x xs d)) (same_some x tid e)
  by rest false e = rest e

none_pass : (p : ℕ → Bool) (xs : List ℕ) → find p xs ≡ None → filter p xs ≡ []
none_pass p [] e = refl
none_pass p (x ∷ xs) e = by (none_pass p xs) (p x) e where
  by : (find p xs ≡ None → filter p xs ≡ []) → (b : Bool) → cond b (Some x) (find p xs) ≡ None → cond b (x ∷ filter p xs) (filter p xs) ≡ []
  by rest true e = absurd (never x (sym e))
  by rest false e = rest e

-- two tests that agree but for one number
agree : (p p' : ℕ → Bool) (tid : ℕ) → ((q : ℕ) → nat_eq q tid ≡ false → p' q ≡ p q) → (xs : List ℕ) →
    filter p' (without tid xs) ≡ without tid (filter p xs)
agree p p' tid h [] = refl
agree p p' tid h (x ∷ xs) = by (agree p p' tid h xs) (nat_eq x tid) (p x) refl refl where
  by : filter p' (without tid xs) ≡ without tid (filter p xs) → (b c : Bool) → nat_eq x tid ≡ b → p x ≡ c →
      filter p' (cond (not b) (x ∷ without tid xs) (without tid xs)) ≡ without tid (cond c (x ∷ filter p xs) (filter p xs))
  by rest true true e f = rest ∙ sym (ap (λ b. cond (not b) (x ∷ without tid (filter p xs)) (without tid (filter p xs))) e)
  by rest true false e f = rest
  by rest false true e f =
      ap (λ c. cond c (x ∷ filter p' (without tid xs)) (filter p' (without tid xs))) (h x e ∙ f) ∙ ap (λ zs. x ∷ zs) rest
      ∙ sym (ap (λ b. cond (not b) (x ∷ without tid (filter p xs)) (without tid (filter p xs))) e)
  by rest false false e f = ap (λ c. cond c (x ∷ filter p' (without tid xs)) (filter p' (without tid xs))) (h x e ∙ f) ∙ rest

-- ---- states

waits_there : ℕ → Option Thread → Bool
waits_there a None = false
waits_there a (Some t) = at a t.wait where
  at : ℕ → Option FutexWait → Bool
  at a None = false
  at a (Some w) = nat_eq a w.address

waits_there_is : (s : State) (a q : ℕ) (o : Option Thread) → get s.threads q ≡ o → waits_at s a q ≡ waits_there a o
unfolding waits_there
waits_there_is s a q None e = rw e refl
waits_there_is s a q (Some t) e = by t.wait refl where
  by : (w : Option FutexWait) → t.wait ≡ w → waits_at s a q ≡ waits_there a (Some t)
  by None f = rw (e, f) refl
  by (Some b) f = rw (e, f) refl

others_wait : (s : State) (a tid q : ℕ) → nat_eq q tid ≡ false → waits_at (woken s tid) a q ≡ waits_at s a q
others_wait s a tid q e =
    let there : get (woken s tid).threads q ≡ get s.threads q =
    ap (λ (s' : State). get s'.threads q) (woken_is s tid) ∙ get-changed s.threads tid resumed q
    ∙ ap (λ b. cond b (changed_at tid resumed (get s.threads tid)) (get s.threads q)) (by_cmp q tid e) in
    waits_there_is (woken s tid) a q _ there ∙ sym (waits_there_is s a q _ refl)

-- ---- one waiter, and the others

next_waiters : (s : State) (a k tid : ℕ) → AllPairs (λ a b. a ≢ b) s.waiting → find (waits_at s a) s.waiting ≡ Some tid →
    waiters s a (suc k) ≡ tid ∷ waiters (woken s tid) a k
next_waiters s a k tid once e =
    ap (take (suc k)) (first_out (waits_at s a) s.waiting tid (distinct s.waiting once) e)
    ∙ ap (λ (zs : List ℕ). tid ∷ take k zs) (sym (agree (waits_at s a) (waits_at (woken s tid) a) tid (others_wait s a tid) s.waiting))
    ∙ ap (λ (ws : List ℕ). tid ∷ take k (filter (waits_at (woken s tid) a) ws)) (sym (ap (λ (s' : State). s'.waiting) (woken_is s tid)))

no_waiters : (s : State) (a k : ℕ) → find (waits_at s a) s.waiting ≡ None → waiters s a k ≡ []
no_waiters s a k e = ap (take k) (none_pass (waits_at s a) s.waiting e) ∙ take-nil k

-- ---- a wake that goes on

-- what is left to wake of count at a, from old to now, when done threads were woken
pub record WakesOn (a count done : ℕ) (old now : ThreadsValue) : Type 0 where
  pub state : (s : State) → wakes a count (with_threads old s) ≡ wakes a (count - done) (with_threads now s)
  pub many : (s : State) → length (waiters (with_threads old s) a count) ≡ done + length (waiters (with_threads now s) a (count - done))

pub begins : (a count : ℕ) (v : ThreadsValue) → WakesOn a count 0 v v
begins a count v =
    let all : count ≡ count - 0 = omega arith in
    record {
      state = λ s. ap (λ n. wakes a n (with_threads v s)) all;
      many = λ s. omega (arith, ap (λ n. length (waiters (with_threads v s) a n)) all);
    }

pub goes_on : (a count done tid : ℕ) (old mid new : ThreadsValue) → WakesOn a count done old mid → done < count →
    AllPairs (λ a b. a ≢ b) mid.waiting →
    ((s : State) → Some tid ≡ find (waits_at (with_threads mid s) a) mid.waiting) →
    ((s : State) → with_threads new s ≡ woken (with_threads mid s) tid) →
    WakesOn a count (done + 1) old new
goes_on a count done tid old mid new h below once first is =
    let left : count - done ≡ suc (count - (done + 1)) = omega arith in
    let next : (s : State) → waiters (with_threads mid s) a (count - done) ≡ tid ∷ waiters (with_threads new s) a (count - (done + 1)) =
    λ s. ap (λ n. waiters (with_threads mid s) a n) left ∙ next_waiters (with_threads mid s) a (count - (done + 1)) tid once (sym (first s))
    ∙ ap (λ (s' : State). tid ∷ waiters s' a (count - (done + 1))) (sym (is s)) in
    record {
      state = λ s. h.state s ∙ ap (λ (tids : List ℕ). fold woken (with_threads mid s) tids) (next s)
          ∙ ap (λ (s' : State). fold woken s' (waiters (with_threads new s) a (count - (done + 1)))) (sym (is s));
      many = λ s. omega (arith, h.many s, ap length (next s));
    }

pub none_left_to_wake : (a count done : ℕ) (old now : ThreadsValue) → WakesOn a count done old now →
    ((s : State) → None ≡ find (waits_at (with_threads now s) a) now.waiting) → (s : State) →
    done ≡ length (waiters (with_threads old s) a count)
none_left_to_wake a count done old now h none s =
    omega (arith, h.many s, ap length (no_waiters (with_threads now s) a (count - done) (sym (none s))))

pub all_woken : (a count done : ℕ) (old now : ThreadsValue) → WakesOn a count done old now →
    ((s : State) → None ≡ find (waits_at (with_threads now s) a) now.waiting) → (s : State) →
    with_threads now s ≡ wakes a count (with_threads old s)
all_woken a count done old now h none s =
    sym (h.state s
    ∙ ap (λ (tids : List ℕ). fold woken (with_threads now s) tids) (no_waiters (with_threads now s) a (count - done) (sym (none s))))

pub count_woken : (a count done : ℕ) (old now : ThreadsValue) → WakesOn a count done old now → count ≤ done → done ≤ count → (s : State) →
    count ≡ length (waiters (with_threads old s) a count)
count_woken a count done old now h e within s =
    let all : count - done ≡ 0 = omega arith in
    let none : waiters (with_threads now s) a (count - done) ≡ [] = ap (λ n. waiters (with_threads now s) a n) all in
    omega (arith, h.many s, ap length none)

pub count_wakes : (a count done : ℕ) (old now : ThreadsValue) → WakesOn a count done old now → count ≤ done → (s : State) →
    with_threads now s ≡ wakes a count (with_threads old s)
count_wakes a count done old now h e s =
    let all : count - done ≡ 0 = omega arith in
    sym (h.state s ∙ ap (λ n. wakes a n (with_threads now s)) all)
