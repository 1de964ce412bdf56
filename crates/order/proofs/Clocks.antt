-- The clocks of a detector have just what comes before.
use Rattle.std.proofs.Common.{◌≡◌, ◌⊎◌, inl, inr, ℕ, zero, suc, ◌+◌, ◌<◌, ◌≤◌, Bool, true, false, cond, ◌&&◌, ◌||◌, ◌==◌, Option, Some, None, refl, sym, ◌∙◌, ap, subst, arith, IsTrue, eqb-true, eq-eqb}
use Rattle.std.proofs.lemmas.Bool.{and_from, and_parts, cases_eq, cases_lt, false≢true, or_cases, or_left, or_right}
use Rattle.std.proofs.lemmas.Bool.Decides.{eqb_tells}
use Rattle.std.proofs.lemmas.Option.{none-some, same_Some}
use Rattle.order.specs.declared.act.Deed.{Deed}
use Rattle.order.specs.declared.act.Deed.TheVariants.{Writes, Changes}
use Rattle.order.specs.Deeds.{acquires_itself, is_acquire, is_change, is_clearing, is_release, is_release_fence, precedes, read_range, reads_byte, releases_itself, renews_byte, touches_byte, writes_byte}
use Rattle.order.specs.Order.{Run, Carries, CarriesOn, HappensBefore, Knows, Message, ReadsFrom, Sends, is_after_fence, is_atomic, is_atomic_write, is_plain, is_plain_write, stands_at}
use Rattle.order.specs.Detecting.{AreChains, Clock, Clocks, before, before_at, clocks_after, clocks_at, empty, join, message, no_clocks, own, told, told_cleared, when, with_own}
use Rattle.order.specs.Laws.{IsOneLife, IsRaceless}
use Rattle.order.proofs.Paths.{AtOrBefore, at_or_forward, at_then, in_thread, last_step, one_step, reads_before, sends_forward, stands_before, stands_lives, stands_writes}
use Rattle.order.proofs.Sets.{Means, Since, means_empty, means_join, means_joined, means_same, means_when, since_more, since_none}

-- a change is an atomic write
change_is_atomic : (declared : ℕ → Bool) (fenced : Bool) (d : Deed) → is_change d ≡ true → is_atomic declared fenced d ≡ true
change_is_atomic declared fenced (Changes c) h = refl
change_is_atomic declared fenced _ h = absurd (false≢true h)

module _ (declared : ℕ → Bool) (chain : ℕ → ℕ) (run : Run) where
  -- ---- what the clocks are to have

  -- what comes at or before an act
  abbrev pub At : (k i : ℕ) → Type 0
  At k i = AtOrBefore declared run i k

  -- what is at or before something that a write's message has
  abbrev pub Carried : (w i : ℕ) → Type 0
  Carried w i = (k : ℕ) × At k i × Sends declared run k w

  abbrev pub OfWrite : Option ℕ → ℕ → Type 0
  OfWrite o i = (w : ℕ) × (o ≡ Some w) × Carried w i

  -- what an act hears
  abbrev pub Hears : (r i : ℕ) → Type 0
  Hears r i = (b : ℕ) × IsTrue (reads_byte (run r).deed b) × OfWrite (stands_at run b r) i

  -- whether an exit wrote it
  abbrev pub is_cleared : Option ℕ → Bool
  is_cleared None = false
  is_cleared (Some w) = is_clearing (run w).deed

  abbrev pub OfClearing : Option ℕ → ℕ → Type 0
  OfClearing o i = IsTrue (is_cleared o) × OfWrite o i

  abbrev pub HearsCleared : (r i : ℕ) → Type 0
  HearsCleared r i = (b : ℕ) × IsTrue (reads_byte (run r).deed b) × OfClearing (stands_at run b r) i

  abbrev pub Known : (q n i : ℕ) → Type 0
  Known q n i = Since (λ k. precedes (run k) q) At n i

  abbrev pub Fenced : (q n i : ℕ) → Type 0
  Fenced q n i = Since (λ k. (run k).tid == q && is_release (run k).deed) At n i

  abbrev pub Heard : (q n i : ℕ) → Type 0
  Heard q n i = Since (λ k. (run k).tid == q) Hears n i

  -- what an act learns
  abbrev pub Learns : (n i : ℕ) → Type 0
  Learns n i =
      (IsTrue (acquires_itself (run n).deed) × Hears n i)
      ⊎ (HearsCleared n i ⊎ (IsTrue (is_acquire (run n).deed) × Heard (run n).tid n i))

  abbrev pub Ways : (n i : ℕ) → Type 0
  Ways n i = Known (run n).tid n i ⊎ Learns n i

  -- ---- what comes before an act

  heard_now : (i k w r : ℕ) → At k i → Sends declared run k w → ReadsFrom run w r
      → IsTrue (acquires_itself (run r).deed || is_clearing (run w).deed) → Learns r i
  heard_now i k w r comes sends hears flag =
      let of : OfWrite (stands_at run hears.0 r) i = (w, hears.2, (k, comes, sends)) in
      elim (or_cases (acquires_itself (run r).deed) (is_clearing (run w).deed) flag) [
        | inl acquires ↦ inl (acquires, (hears.0, hears.1, of))
        | inr clearing ↦ inr (inl (hears.0, hears.1, (ap is_cleared hears.2 ∙ clearing, of)))
      ]

  of_message : (n i k : ℕ) → At k i → Message declared run k n → Learns n i
  of_message n i k comes m = elim m.knows [
    | inl now ↦ subst (λ (x : ℕ). Learns x i) (sym now.0) (heard_now i k m.w m.r comes m.sends m.hears now.1)
    | inr later ↦ inr (inr (
      later.2,
      (
        m.r,
        later.0,
        eq-eqb (run m.r).tid (run n).tid (sym later.1),
        (m.hears.0, m.hears.1, (m.w, m.hears.2, (k, comes, m.sends))),
      ),
    ))
  ]

  ways_from : (n i : ℕ) → HappensBefore declared run i n → Ways n i
  ways_from n i h =
      let s = last_step declared run i n h in
      elim s.2.1 [ inl p ↦ inl (s.0, s.2.0, p, s.1) | inr m ↦ inr (of_message n i s.0 s.1 m) ]

  by_message : (n i k w r : ℕ) → At k i → Sends declared run k w → ReadsFrom run w r → Knows run w r n → HappensBefore declared run i n
  by_message n i k w r comes sends hears knows =
      let low : k ≤ w = sends_forward declared run k w sends in
      let mid : w < r = reads_before run w r hears in
      let high : r ≤ n = (elim knows [ inl now ↦ omega (arith, now.0) | inr later ↦ omega (arith, later.0) ]) in
      at_then declared run i k n comes (one_step declared run k n
      (omega arith, inr (record { w = w; sends = sends; r = r; hears = hears; knows = knows })))

  from_learned : (n i : ℕ) → Learns n i → HappensBefore declared run i n
  from_learned n i (inl h) =
      let of = h.1.2 in
      by_message n i of.2.0 of.0 n of.2.1 of.2.2 (h.1.0, h.1.1, of.1)
      (inl (refl, or_left (acquires_itself (run n).deed) (is_clearing (run of.0).deed) h.0))
  from_learned n i (inr (inl h)) =
      let of = h.2.1 in
      by_message n i of.2.0 of.0 n of.2.1 of.2.2 (h.0, h.1, of.1)
      (inl (refl, or_right (acquires_itself (run n).deed) (is_clearing (run of.0).deed) (sym (ap is_cleared of.1) ∙ h.2.0)))
  from_learned n i (inr (inr h)) =
      let heard = h.1 in
      let of = heard.3.2 in
      by_message n i of.2.0 of.0 heard.0 of.2.1 of.2.2 (heard.3.0, heard.3.1, of.1)
      (inr (heard.1, sym (eqb-true (run heard.0).tid (run n).tid heard.2), h.0))

  from_ways : (n i : ℕ) → Ways n i → HappensBefore declared run i n
  from_ways n i (inl h) = at_then declared run i h.0 n h.3 (one_step declared run h.0 n (h.1, inl h.2))
  from_ways n i (inr h) = from_learned n i h

  -- ---- what a message has

  abbrev pub Sent : (n i : ℕ) → Type 0
  Sent n i =
      ((IsTrue (releases_itself (run n).deed) × At n i) ⊎ Fenced (run n).tid n i)
      ⊎ (IsTrue (is_change (run n).deed) × Hears n i)

  carried_from : (n i : ℕ) → IsTrue (is_atomic_write declared run n) × Sent n i → Carried n i
  carried_from n i (atomic, inl (inl h)) =
      (n, h.1, record { x = n; atomic = atomic; carries = inl (refl, h.0); steps = 0; on = refl })
  carried_from n i (atomic, inl (inr h)) =
      let p = and_parts ((run h.0).tid == (run n).tid) (is_release (run h.0).deed) h.2 in (
        h.0,
        h.3,
        record {
          x = n;
          atomic = atomic;
          carries = inr (h.1, eqb-true (run h.0).tid (run n).tid p.0, p.1);
          steps = 0;
          on = refl;
        },
      )
  carried_from n i (atomic, inr h) =
      let of = h.1.2 in
      let sends = of.2.2 in (
        of.2.0,
        of.2.1,
        record {
          x = sends.x;
          atomic = sends.atomic;
          carries = sends.carries;
          steps = suc sends.steps;
          on = (of.0, sends.on, h.0, (h.1.0, h.1.1, of.1));
        },
      )

  sent_from : (n i k : ℕ) → At k i → Carries run k n → Sent n i
  sent_from n i k comes (inl itself) = inl (inl (itself.1, subst (λ (x : ℕ). At x i) itself.0 comes))
  sent_from n i k comes (inr earlier) =
      inl (inr (
        k,
        earlier.0,
        and_from ((run k).tid == (run n).tid) (is_release (run k).deed)
            (eq-eqb (run k).tid (run n).tid earlier.1) earlier.2,
        comes,
      ))

  carried_along : (n i k x : ℕ) → At k i → IsTrue (is_atomic_write declared run x) → Carries run k x → (steps : ℕ)
      → CarriesOn run x steps n → IsTrue (is_atomic_write declared run n) × Sent n i
  carried_along n i k x comes atomic carries zero on = (
    subst (λ (y : ℕ). IsTrue (is_atomic_write declared run y)) (sym on) atomic,
    sent_from n i k comes (subst (λ (y : ℕ). Carries run k y) (sym on) carries),
  )
  carried_along n i k x comes atomic carries (suc m) on = (
    change_is_atomic declared (is_after_fence run (run n).tid n) (run n).deed on.2,
    inr (
      on.2,
      (
        on.3.0,
        on.3.1,
        (
          on.0,
          on.3.2,
          (k, comes, record { x = x; atomic = atomic; carries = carries; steps = m; on = on.1 }),
        ),
      ),
    ),
  )

  carried_to : (n i : ℕ) → Carried n i → IsTrue (is_atomic_write declared run n) × Sent n i
  carried_to n i h = carried_along n i h.0 h.2.x h.1 h.2.atomic h.2.carries h.2.steps h.2.on

  -- ---- the invariant

  record Stands (n : ℕ) (s : Clocks) : Type 0 where
    known : (q : ℕ) → Means chain run (s.known q) (Known q n)
    fenced : (q : ℕ) → Means chain run (s.fenced q) (Fenced q n)
    heard : (q : ℕ) → Means chain run (s.heard q) (Heard q n)
    ready : (q : ℕ) → s.ready q ≡ is_after_fence run q n
    messages : (b : ℕ) → Means chain run (s.messages b) (OfWrite (stands_at run b n))
    cleared : (b : ℕ) → s.cleared b ≡ is_cleared (stands_at run b n)

  told_means : (n : ℕ) (s : Clocks) → Stands n s → Means chain run (told s (run n).deed) (Hears n)
  told_means n s st =
      means_joined chain run s.messages (λ b. OfWrite (stands_at run b n)) st.messages (read_range (run n).deed).0
      (read_range (run n).deed).1

  cleared_means : (n : ℕ) (s : Clocks) → Stands n s → Means chain run (told_cleared s (run n).deed) (HearsCleared n)
  cleared_means n s st =
      means_joined chain run (λ b. when (s.cleared b) (s.messages b)) (λ b. OfClearing (stands_at run b n))
      (λ b. subst (λ (x : Bool). Means chain run (when (s.cleared b) (s.messages b)) (λ i. IsTrue x × OfWrite (stands_at run b n) i))
      (st.cleared b) (means_when chain run (s.cleared b) (s.messages b) (OfWrite (stands_at run b n)) (st.messages b)))
      (read_range (run n).deed).0 (read_range (run n).deed).1

  learned_means : (n : ℕ) (s : Clocks) → Stands n s
      → Means chain run (join (when (acquires_itself (run n).deed) (told s (run n).deed))
      (join (told_cleared s (run n).deed) (when (is_acquire (run n).deed) (s.heard (run n).tid)))) (Learns n)
  learned_means n s st =
      let d = (run n).deed in
      means_join chain run (when (acquires_itself d) (told s d)) (join (told_cleared s d) (when (is_acquire d) (s.heard (run n).tid)))
      (λ i. IsTrue (acquires_itself d) × Hears n i) (λ i. HearsCleared n i ⊎ (IsTrue (is_acquire d) × Heard (run n).tid n i))
      (means_when chain run (acquires_itself d) (told s d) (Hears n) (told_means n s st))
      (means_join chain run (told_cleared s d) (when (is_acquire d) (s.heard (run n).tid))
      (HearsCleared n) (λ i. IsTrue (is_acquire d) × Heard (run n).tid n i) (cleared_means n s st)
      (means_when chain run (is_acquire d) (s.heard (run n).tid) (Heard (run n).tid n) (st.heard (run n).tid)))

  before_means : (n : ℕ) (s : Clocks) → Stands n s → Means chain run (before s (run n)) (λ i. HappensBefore declared run i n)
  before_means n s st =
      let d = (run n).deed in
      means_same chain run (before s (run n)) (Ways n) (λ i. HappensBefore declared run i n)
      (means_join chain run (s.known (run n).tid)
      (join (when (acquires_itself d) (told s d)) (join (told_cleared s d) (when (is_acquire d) (s.heard (run n).tid))))
      (Known (run n).tid n) (Learns n) (st.known (run n).tid) (learned_means n s st))
      (from_ways n) (ways_from n)

  message_more : (r t : Bool) (n : ℕ) (o : Option ℕ) (old new : Clock) → Means chain run old (OfWrite o) → Means chain run new (Carried n)
      → Means chain run (cond r empty (cond t new old)) (OfWrite (cond r None (cond t (Some n) o)))
  message_more true t n o old new m k = means_empty chain run (OfWrite None) (λ i h. none-some h.0 h.1)
  message_more false true n o old new m k =
      means_same chain run new (Carried n) (OfWrite (Some n)) k (λ i c. (n, refl, c))
      (λ i h. subst (λ (x : ℕ). Carried x i) (sym (same_Some n h.0 h.1)) h.2)
  message_more false false n o old new m k = m

  cleared_more : (r t : Bool) (n : ℕ) (o : Option ℕ) (c : Bool) → c ≡ is_cleared o
      → cond r false (cond t (is_clearing (run n).deed) c) ≡ is_cleared (cond r None (cond t (Some n) o))
  cleared_more true t n o c e = refl
  cleared_more false true n o c e = refl
  cleared_more false false n o c e = e

  module _ (chains : AreChains declared chain run) where
    own_means : (n : ℕ) (c : Clock) → Means chain run c (λ i. HappensBefore declared run i n)
        → Means chain run (with_own c (chain (run n).tid) n) (At n)
    own_means n c m i =
        let x = chain (run i).tid in
        let y = chain (run n).tid in
        elim (eqb_tells x y) [
          | inl same ↦ subst (λ (b : Bool). (i < cond b (n + 1) (c x) → At n i) × (At n i → i < cond b (n + 1) (c x))) (sym same.0) (
            (λ h. elim (cases_lt i n) [ inl l ↦ inr (chains i n l same.1) | inr ge ↦ inl (omega (arith, h, ge)) ]),
            (λ h. let l : i ≤ n = at_or_forward declared run i n h in omega arith),
          )
          | inr other ↦ subst (λ (b : Bool). (i < cond b (n + 1) (c x) → At n i) × (At n i → i < cond b (n + 1) (c x))) (sym other.0) (
            (λ h. inr ((m i).0 h)),
            (λ h. elim h [ inl e ↦ absurd (other.1 (ap (λ (k : ℕ). chain (run k).tid) e)) | inr b ↦ (m i).1 b ]),
          )
        ]

    own_is : (n : ℕ) (s : Clocks) → Stands n s → Means chain run (own chain n s (run n)) (At n)
    own_is n s st = own_means n (before s (run n)) (before_means n s st)

    message_means : (n : ℕ) (s : Clocks) → Stands n s
        → Means chain run (when (is_atomic declared (s.ready (run n).tid) (run n).deed) (message chain n s (run n))) (Carried n)
    message_means n s st =
        let d = (run n).deed in
        let p = (run n).tid in
        let mine = own chain n s (run n) in
        let all : Means chain run (message chain n s (run n)) (Sent n) =
        means_join chain run (join (when (releases_itself d) mine) (s.fenced p)) (when (is_change d) (told s d))
        (λ i. (IsTrue (releases_itself d) × At n i) ⊎ Fenced p n i) (λ i. IsTrue (is_change d) × Hears n i)
        (means_join chain run (when (releases_itself d) mine) (s.fenced p) (λ i. IsTrue (releases_itself d) × At n i) (Fenced p n)
        (means_when chain run (releases_itself d) mine (At n) (own_is n s st)) (st.fenced p))
        (means_when chain run (is_change d) (told s d) (Hears n) (told_means n s st)) in
        means_same chain run (when (is_atomic declared (s.ready p) d) (message chain n s (run n)))
        (λ i. IsTrue (is_atomic_write declared run n) × Sent n i) (Carried n)
        (subst (λ (f : Bool). Means chain run (when (is_atomic declared (s.ready p) d) (message chain n s (run n)))
        (λ i. IsTrue (is_atomic declared f d) × Sent n i)) (st.ready p)
        (means_when chain run (is_atomic declared (s.ready p) d) (message chain n s (run n)) (Sent n) all))
        (carried_from n) (carried_to n)

    stands_more : (n : ℕ) (s : Clocks) → Stands n s → Stands (suc n) (clocks_after declared chain n (run n) s)
    stands_more n s st =
        let mine = own chain n s (run n) in
        record {
          known = λ q. since_more chain run (λ k. precedes (run k) q) At n (s.known q) mine (st.known q) (own_is n s st);
          fenced = λ q. since_more chain run (λ k. (run k).tid == q && is_release (run k).deed) At n (s.fenced q) mine (st.fenced q)
              (own_is n s st);
          heard = λ q. since_more chain run (λ k. (run k).tid == q) Hears n (s.heard q) (told s (run n).deed) (st.heard q)
              (told_means n s st);
          ready = λ q. ap (λ (x : Bool). cond ((run n).tid == q) (is_release_fence (run n).deed) x) (st.ready q);
          messages = λ b. message_more (renews_byte (run n).deed b) (writes_byte (run n).deed b) n (stands_at run b n) (s.messages b)
              (when (is_atomic declared (s.ready (run n).tid) (run n).deed) (message chain n s (run n))) (st.messages b)
              (message_means n s st);
          cleared = λ b. cleared_more (renews_byte (run n).deed b) (writes_byte (run n).deed b) n (stands_at run b n) (s.cleared b)
              (st.cleared b);
        }

    stands_first : Stands 0 no_clocks
    stands_first = record {
      known = λ q. since_none chain run (λ k. precedes (run k) q) At;
      fenced = λ q. since_none chain run (λ k. (run k).tid == q && is_release (run k).deed) At;
      heard = λ q. since_none chain run (λ k. (run k).tid == q) Hears;
      ready = λ q. refl;
      messages = λ b. means_empty chain run (OfWrite None) (λ i h. none-some h.0 h.1);
      cleared = λ b. refl;
    }

    stands_always : (n : ℕ) → Stands n (clocks_at declared chain run n)
    stands_always zero = stands_first
    stands_always (suc n) = stands_more n (clocks_at declared chain run n) (stands_always n)

    -- the clock has just what comes before
    pub exact : (n : ℕ) → Means chain run (before_at declared chain run n) (λ i. HappensBefore declared run i n)
    exact n = before_means n (clocks_at declared chain run n) (stands_always n)

    pub ready_is : (n q : ℕ) → (clocks_at declared chain run n).ready q ≡ is_after_fence run q n
    ready_is n q = (stands_always n).ready q

-- ---- the order is decided

pub threads : (declared : ℕ → Bool) (run : Run) → AreChains declared (λ tid. tid) run
threads declared run i j l e = in_thread declared run i j l e

pub order_decided : (declared : ℕ → Bool) (run : Run) (i j : ℕ) → HappensBefore declared run i j ⊎ (¬ HappensBefore declared run i j)
order_decided declared run i j =
    let m = exact declared (λ tid. tid) run (threads declared run) j i in
    let c = before_at declared (λ tid. tid) run j (run i).tid in
    elim (cases_lt i c) [
      | inl l ↦ inl (m.0 l)
      | inr ge ↦ inr (λ h. let l : i < c = m.1 h in omega arith)
    ]

plain_touches : (declared : ℕ → Bool) (fenced : Bool) (d : Deed) (b : ℕ) → is_plain declared fenced d ≡ true
    → writes_byte d b ≡ true → touches_byte d b ≡ true
plain_touches declared fenced (Writes a count) b p h = h
plain_touches declared fenced _ b p h = absurd (false≢true p)

pub raceless_acts : (declared : ℕ → Bool) (run : Run) (i j b : ℕ) → IsRaceless declared run → i < j → IsTrue (touches_byte (run i).deed b)
    → IsTrue (touches_byte (run j).deed b) → IsTrue (is_plain_write declared run i) ⊎ IsTrue (is_plain_write declared run j)
    → IsOneLife run b i j → HappensBefore declared run i j
raceless_acts declared run i j b none l first second plain life =
    elim (cases_eq (run i).tid (run j).tid) [
      | inl e ↦ in_thread declared run i j l e
      | inr other ↦ elim (order_decided declared run i j) [
        | inl h ↦ h
        | inr free ↦ absurd (none i j b (record {
          later = l;
          threads = other;
          first = first;
          second = second;
          plain = plain;
          life = life;
          free = free;
        }))
      ]
    ]

pub raceless_ordered : (declared : ℕ → Bool) (run : Run) (w r b : ℕ) → IsRaceless declared run → IsTrue (touches_byte (run r).deed b)
    → stands_at run b r ≡ Some w → IsTrue (is_plain_write declared run w) → HappensBefore declared run w r
raceless_ordered declared run w r b none touches stands plain =
    let l : w < r = stands_before run b r w stands in
    let first = plain_touches declared (is_after_fence run (run w).tid w) (run w).deed b plain (stands_writes run b r w stands) in
    raceless_acts declared run w r b none l first touches (inl plain) (stands_lives run b r w stands)
