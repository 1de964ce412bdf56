-- What a detector finds races, and it finds each byte that races.
use Rattle.std.proofs.Common.{◌≡◌, ◌≢◌, ◌⊎◌, inl, inr, ℕ, zero, suc, ◌+◌, ◌<◌, ◌≤◌, Bool, true, false, not, cond, ◌==◌, nat_le, nat_lt, List, [], ◌∷◌, ◌++◌, filter, refl, sym, ◌∙◌, ap, subst, arith, IsTrue, eqb-true, ltb-true, le-ltb}
use Rattle.std.proofs.lemmas.Bool.{and_cases, and_parts, and_right, cases_Bool, eqb-false, false≢true, ltb-false, not-false, not-true}
use Rattle.order.specs.declared.act.Deed.{Deed}
use Rattle.order.specs.declared.act.Deed.TheVariants.{Renews}
use Rattle.order.specs.Deeds.{is_within, renews_byte, touches_byte}
use Rattle.order.specs.Order.{Run, HappensBefore, Race, is_plain, is_plain_write}
use Rattle.order.specs.declared.entry.Entry.{Entry}
use Rattle.order.specs.Detecting.{AreChains, Clock, Kept, before_at, found_at, is_unordered, kept_after, kept_at, none_kept, racing, unordered, with_access, writes_plainly}
use Rattle.order.specs.Laws.{Among}
use Rattle.order.proofs.Paths.{AtOrBefore, at_then, below_suc}
use Rattle.order.proofs.Clocks.{exact, ready_is}

-- ---- lists of entries

among_front : (e : Entry) (xs ys : List Entry) → Among e xs → Among e (xs ++ ys)
among_front e [] ys h = absurd h
among_front e (x ∷ xs) ys (inl h) = inl h
among_front e (x ∷ xs) ys (inr h) = inr (among_front e xs ys h)

among_back : (e : Entry) (xs ys : List Entry) → Among e ys → Among e (xs ++ ys)
among_back e [] ys h = h
among_back e (x ∷ xs) ys h = inr (among_back e xs ys h)

among_cases : (e : Entry) (xs ys : List Entry) → Among e (xs ++ ys) → Among e xs ⊎ Among e ys
among_cases e [] ys h = inr h
among_cases e (x ∷ xs) ys (inl h) = inl (inl h)
among_cases e (x ∷ xs) ys (inr h) = elim (among_cases e xs ys h) [ inl a ↦ inl (inr a) | inr b ↦ inr b ]

among_one : (e x : Entry) → Among e (x ∷ []) → e ≡ x
among_one e x (inl h) = h
among_one e x (inr h) = absurd h

-- of what may be left out
kept_if : (b : Bool) (e x : Entry) (xs : List Entry) → Among e (cond b (x ∷ xs) xs) → ((b ≡ true) × (e ≡ x)) ⊎ Among e xs
kept_if true e x xs (inl h) = inl (refl, h)
kept_if true e x xs (inr h) = inr h
kept_if false e x xs h = inr h

keeps_rest : (b : Bool) (e x : Entry) (xs : List Entry) → Among e xs → Among e (cond b (x ∷ xs) xs)
keeps_rest true e x xs h = inr h
keeps_rest false e x xs h = h

filtered : (p : Entry → Bool) (e : Entry) (xs : List Entry) → Among e (filter p xs) → Among e xs × (p e ≡ true)
filtered p e [] h = absurd h
filtered p e (x ∷ xs) h = elim (kept_if (p x) e x (filter p xs) h) [
  | inl here ↦ (inl here.1, ap p here.1 ∙ here.0)
  | inr rest ↦ (let f = filtered p e xs rest in (inr f.0, f.1))
]

stays : (p : Entry → Bool) (e : Entry) (xs : List Entry) → Among e xs → p e ≡ true → Among e (filter p xs)
stays p e [] h yes_it = absurd h
stays p e (x ∷ xs) (inl h) yes_it =
    subst (λ (b : Bool). Among e (cond b (x ∷ filter p xs) (filter p xs))) (sym (sym (ap p h) ∙ yes_it)) (inl h)
stays p e (x ∷ xs) (inr h) yes_it = keeps_rest (p x) e x (filter p xs) (stays p e xs h yes_it)

-- what is unordered is of another chain, and not below the clock
unordered_parts : (c : Clock) (line : ℕ) (e : Entry) → is_unordered c line e ≡ true → (e.line ≢ line) × (c e.line ≤ e.act)
unordered_parts c line e h =
    let p = and_parts (not (e.line == line)) (not (nat_lt e.act (c e.line))) h in
    (eqb-false e.line line (not-true (e.line == line) p.0), ltb-false e.act (c e.line) (not-true (nat_lt e.act (c e.line)) p.1))

ordered_cases : (c : Clock) (line : ℕ) (e : Entry) → is_unordered c line e ≡ false → (e.line ≡ line) ⊎ (e.act < c e.line)
ordered_cases c line e h = elim (and_cases (not (e.line == line)) (not (nat_lt e.act (c e.line))) h) [
  | inl same ↦ inl (eqb-true e.line line (not-false (e.line == line) same))
  | inr below ↦ inr (ltb-true e.act (c e.line) (not-false (nat_lt e.act (c e.line)) below))
]

-- what touches a byte doesn't renew it
nothing_within : (b : ℕ) → is_within 0 0 b ≡ false
nothing_within b = and_right (nat_le 0 b) (nat_lt b (0 + 0)) (le-ltb b (0 + 0) (omega arith))

touches_or_renews : (d : Deed) (b : ℕ) → touches_byte d b ≡ true → renews_byte d b ≡ false
touches_or_renews (Renews a count) b h = absurd (false≢true h)
touches_or_renews _ b h = nothing_within b

-- ---- what is kept

module _ (declared : ℕ → Bool) (chain : ℕ → ℕ) (run : Run) (chains : AreChains declared chain run) where
  -- no byte of its life ends up to act n
  abbrev Lives : (n b i : ℕ) → Type 0
  Lives n b i = (k : ℕ) → i < k → k < n → renews_byte (run k).deed b ≡ false

  -- an access of the byte's life at act n
  abbrev Accesses : (n b i : ℕ) → Type 0
  Accesses n b i = (i < n) × IsTrue (touches_byte (run i).deed b) × Lives n b i

  abbrev IsEntry : (n b : ℕ) → Entry → Type 0
  IsEntry n b e = Accesses n b e.act × (e.line ≡ chain (run e.act).tid)

  -- some entry is it, or comes after it
  abbrev Covers : List Entry → ℕ → Type 0
  Covers entries i = (e : Entry) × Among e entries × AtOrBefore declared run i e.act

  record AreKept (n b : ℕ) (kept : Kept) : Type 0 where
    hard : (e : Entry) → Among e kept.hard → IsEntry n b e × IsTrue (is_plain_write declared run e.act)
    soft : (e : Entry) → Among e kept.soft → IsEntry n b e
    plain : (i : ℕ) → Accesses n b i → IsTrue (is_plain_write declared run i) → Covers kept.hard i
    each : (i : ℕ) → Accesses n b i → Covers kept.hard i ⊎ Covers kept.soft i

  abbrev clock : ℕ → Clock
  clock n = before_at declared chain run n

  abbrev line : ℕ → ℕ
  line n = chain (run n).tid

  abbrev me : ℕ → Entry
  me n = record { line = chain (run n).tid; act = n }

  -- an entry that is ordered before act n comes before it
  below_comes_before : (n b : ℕ) (e : Entry) → IsEntry n b e → is_unordered (clock n) (line n) e ≡ false →
      HappensBefore declared run e.act n
  below_comes_before n b e is out = elim (ordered_cases (clock n) (line n) e out) [
    | inl same ↦ chains e.act n is.0.0 (sym is.1 ∙ same)
    | inr below ↦ (exact declared chain run chains n e.act).0 (subst (λ (q : ℕ). e.act < clock n q) is.1 below)
  ]

  unordered_is_free : (n b : ℕ) (e : Entry) → IsEntry n b e → is_unordered (clock n) (line n) e ≡ true →
      ¬ HappensBefore declared run e.act n
  unordered_is_free n b e is out h =
      let low : e.act < clock n (chain (run e.act).tid) = (exact declared chain run chains n e.act).1 h in
      let here : e.act < clock n e.line = subst (λ (q : ℕ). e.act < clock n q) (sym is.1) low in
      let high : clock n e.line ≤ e.act = (unordered_parts (clock n) (line n) e out).1 in
      omega arith

  -- what was covered still is, or act n comes after it
  still_covers : (n b i : ℕ) (entries : List Entry) → ((e : Entry) → Among e entries → IsEntry n b e) → Covers entries i
      → Covers (unordered (clock n) (line n) entries) i ⊎ AtOrBefore declared run i n
  still_covers n b i entries are (e, among, comes) = elim (cases_Bool (is_unordered (clock n) (line n) e)) [
    | inl stands ↦ inl (e, stays (is_unordered (clock n) (line n)) e entries among stands, comes)
    | inr out ↦ inr (inr (at_then declared run i e.act n comes (below_comes_before n b e (are e among) out)))
  ]

  -- with act n behind them
  covers_with : (n i : ℕ) (entries : List Entry) → Covers entries i ⊎ AtOrBefore declared run i n → Covers (entries ++ me n ∷ []) i
  covers_with n i entries (inl (e, among, comes)) = (e, among_front e entries (me n ∷ []) among, comes)
  covers_with n i entries (inr comes) = (me n, among_back (me n) entries (me n ∷ []) (inl refl), comes)

  lives_on : (n b i : ℕ) → renews_byte (run n).deed b ≡ false → Lives n b i → Lives (suc n) b i
  lives_on n b i last lives k after below = elim (below_suc k n below) [
    | inl l ↦ lives k after l
    | inr e ↦ subst (λ (x : ℕ). renews_byte (run x).deed b ≡ false) (sym e) last
  ]

  entry_on : (n b : ℕ) (e : Entry) → renews_byte (run n).deed b ≡ false → IsEntry n b e → IsEntry (suc n) b e
  entry_on n b e last is = (((let l : e.act < n = is.0.0 in omega arith), is.0.1, lives_on n b e.act last is.0.2), is.1)

  my_entry : (n b : ℕ) → IsTrue (touches_byte (run n).deed b) → IsEntry (suc n) b (me n)
  my_entry n b touches = ((omega arith, touches, λ k after below. absurd (omega (arith, after, below))), refl)

  -- an access up to act n is one before it, or act n itself
  earlier_access : (n b i : ℕ) → Accesses (suc n) b i → Accesses n b i ⊎ (i ≡ n)
  earlier_access n b i a = elim (below_suc i n a.0) [
    | inl l ↦ inl (l, a.1, λ k after below. a.2 k after (let m : k < n = below in omega arith))
    | inr e ↦ inr e
  ]

  touches_now : (n b i : ℕ) → i ≡ n → Accesses (suc n) b i → IsTrue (touches_byte (run n).deed b)
  touches_now n b i e a = subst (λ (x : ℕ). IsTrue (touches_byte (run x).deed b)) e a.1

  plain_now : (n i : ℕ) → i ≡ n → IsTrue (is_plain_write declared run i) → IsTrue (is_plain_write declared run n)
  plain_now n i e p = subst (λ (x : ℕ). IsTrue (is_plain_write declared run x)) e p

  itself : (n i : ℕ) → i ≡ n → AtOrBefore declared run i n
  itself n i e = inl e

  -- ---- the four ways on

  none_after : (n b i : ℕ) → renews_byte (run n).deed b ≡ true → Accesses (suc n) b i → ⊥
  none_after n b i renews a = elim (below_suc i n a.0) [
    | inl l ↦ false≢true (sym (a.2 n l (omega arith)) ∙ renews)
    | inr e ↦ false≢true (sym (touches_or_renews (run n).deed b (touches_now n b i e a)) ∙ renews)
  ]

  after_renewal : (n b : ℕ) → renews_byte (run n).deed b ≡ true → AreKept (suc n) b none_kept
  after_renewal n b renews = record {
    hard = λ e h. absurd h;
    soft = λ e h. absurd h;
    plain = λ i a p. absurd (none_after n b i renews a);
    each = λ i a. absurd (none_after n b i renews a);
  }

  after_nothing : (n b : ℕ) (kept : Kept) → renews_byte (run n).deed b ≡ false → touches_byte (run n).deed b ≡ false → AreKept n b kept
      → AreKept (suc n) b kept
  after_nothing n b kept renews touches k = record {
    hard = λ e h. (entry_on n b e renews (k.hard e h).0, (k.hard e h).1);
    soft = λ e h. entry_on n b e renews (k.soft e h);
    plain = λ i a p. k.plain i (before_it i a) p;
    each = λ i a. k.each i (before_it i a);
  }
    where
      before_it : (i : ℕ) → Accesses (suc n) b i → Accesses n b i
      before_it i a = elim (earlier_access n b i a) [
        | inl before ↦ before
        | inr e ↦ absurd (false≢true (sym touches ∙ touches_now n b i e a))
      ]

  hard_entries : (n b : ℕ) (kept : Kept) → AreKept n b kept → (e : Entry) → Among e kept.hard → IsEntry n b e
  hard_entries n b kept k e h = (k.hard e h).0

  after_write : (n b : ℕ) (kept : Kept) → renews_byte (run n).deed b ≡ false → IsTrue (touches_byte (run n).deed b)
      → IsTrue (is_plain_write declared run n) → AreKept n b kept → AreKept (suc n) b (with_access true (clock n) (me n) kept)
  after_write n b kept renews touches plain k =
      let out = is_unordered (clock n) (line n) in
      record {
        hard = λ e h. (elim (among_cases e (filter out kept.hard) (me n ∷ []) h) [
          | inl old ↦ (let f = filtered out e kept.hard old in (entry_on n b e renews (k.hard e f.0).0, (k.hard e f.0).1))
          | inr new ↦ subst (λ (x : Entry). IsEntry (suc n) b x × IsTrue (is_plain_write declared run x.act)) (sym (among_one e (me n) new))
              (my_entry n b touches, plain)
        ]);
        soft = λ e h. entry_on n b e renews (k.soft e (filtered out e kept.soft h).0);
        plain = λ i a p. (elim (earlier_access n b i a) [
          | inl before ↦
              covers_with n i (filter out kept.hard) (still_covers n b i kept.hard (hard_entries n b kept k) (k.plain i before p))
          | inr e ↦ covers_with n i (filter out kept.hard) (inr (itself n i e))
        ]);
        each = λ i a. (elim (earlier_access n b i a) [
          | inl before ↦ old_covers i (k.each i before)
          | inr e ↦ inl (covers_with n i (filter out kept.hard) (inr (itself n i e)))
        ]);
      }
    where
      soft_covers : (i : ℕ) → Covers (unordered (clock n) (line n) kept.soft) i ⊎ AtOrBefore declared run i n
          → Covers (unordered (clock n) (line n) kept.hard ++ me n ∷ []) i ⊎ Covers (unordered (clock n) (line n) kept.soft) i
      soft_covers i (inl c) = inr c
      soft_covers i (inr comes) = inl (covers_with n i (unordered (clock n) (line n) kept.hard) (inr comes))

      old_covers : (i : ℕ) → Covers kept.hard i ⊎ Covers kept.soft i
          → Covers (unordered (clock n) (line n) kept.hard ++ me n ∷ []) i ⊎ Covers (unordered (clock n) (line n) kept.soft) i
      old_covers i (inl c) =
          inl (covers_with n i (unordered (clock n) (line n) kept.hard) (still_covers n b i kept.hard (hard_entries n b kept k) c))
      old_covers i (inr c) = soft_covers i (still_covers n b i kept.soft k.soft c)

  after_other : (n b : ℕ) (kept : Kept) → renews_byte (run n).deed b ≡ false → IsTrue (touches_byte (run n).deed b)
      → is_plain_write declared run n ≡ false → AreKept n b kept → AreKept (suc n) b (with_access false (clock n) (me n) kept)
  after_other n b kept renews touches plain k =
      let out = is_unordered (clock n) (line n) in
      record {
        hard = λ e h. (entry_on n b e renews (k.hard e h).0, (k.hard e h).1);
        soft = λ e h. (elim (among_cases e (filter out kept.soft) (me n ∷ []) h) [
          | inl old ↦ entry_on n b e renews (k.soft e (filtered out e kept.soft old).0)
          | inr new ↦ subst (λ (x : Entry). IsEntry (suc n) b x) (sym (among_one e (me n) new)) (my_entry n b touches)
        ]);
        plain = λ i a p. (elim (earlier_access n b i a) [
          | inl before ↦ k.plain i before p
          | inr e ↦ absurd (false≢true (sym plain ∙ plain_now n i e p))
        ]);
        each = λ i a. (elim (earlier_access n b i a) [
          | inl before ↦ old_covers i (k.each i before)
          | inr e ↦ inr (covers_with n i (filter out kept.soft) (inr (itself n i e)))
        ]);
      }
    where
      old_covers : (i : ℕ) → Covers kept.hard i ⊎ Covers kept.soft i
          → Covers kept.hard i ⊎ Covers (unordered (clock n) (line n) kept.soft ++ me n ∷ []) i
      old_covers i (inl c) = inl c
      old_covers i (inr c) = inr (covers_with n i (unordered (clock n) (line n) kept.soft) (still_covers n b i kept.soft k.soft c))

  -- by what act n does
  kept_more : (n b : ℕ) (kept : Kept) (r t p : Bool) → renews_byte (run n).deed b ≡ r → touches_byte (run n).deed b ≡ t
      → is_plain_write declared run n ≡ p → AreKept n b kept → AreKept (suc n) b (kept_after r t p (clock n) (me n) kept)
  kept_more n b kept true t p er et ep k = after_renewal n b er
  kept_more n b kept false false p er et ep k = after_nothing n b kept er et k
  kept_more n b kept false true true er et ep k = after_write n b kept er et ep k
  kept_more n b kept false true false er et ep k = after_other n b kept er et ep k

  sees_plainly : (n : ℕ) → writes_plainly declared chain run n ≡ is_plain_write declared run n
  sees_plainly n = ap (λ (f : Bool). is_plain declared f (run n).deed) (ready_is declared chain run chains n (run n).tid)

  kept_first : (b : ℕ) → AreKept 0 b none_kept
  kept_first b = record {
    hard = λ e h. absurd h;
    soft = λ e h. absurd h;
    plain = λ i a p. absurd (omega (arith, a.0));
    each = λ i a. absurd (omega (arith, a.0));
  }

  kept_always : (b n : ℕ) → AreKept n b (kept_at declared chain run b n)
  kept_always b zero = kept_first b
  kept_always b (suc n) =
      kept_more n b (kept_at declared chain run b n) (renews_byte (run n).deed b) (touches_byte (run n).deed b)
      (writes_plainly declared chain run n) refl refl (sym (sees_plainly n)) (kept_always b n)

  -- ---- what is found

  race_of : (n b : ℕ) (e : Entry) → IsEntry n b e → IsTrue (touches_byte (run n).deed b) → is_unordered (clock n) (line n) e ≡ true
      → IsTrue (is_plain_write declared run e.act) ⊎ IsTrue (is_plain_write declared run n) → Race declared run e.act n b
  race_of n b e is touches out plain = record {
    later = is.0.0;
    threads = λ same. (unordered_parts (clock n) (line n) e out).0 (is.1 ∙ ap chain same);
    first = is.0.1;
    second = touches;
    plain = plain;
    life = is.0.2;
    free = unordered_is_free n b e is out;
  }

  racing_races : (n b : ℕ) (kept : Kept) (p : Bool) → is_plain_write declared run n ≡ p → AreKept n b kept
      → IsTrue (touches_byte (run n).deed b) → (e : Entry) → Among e (racing p (clock n) (line n) kept) → Race declared run e.act n b
  racing_races n b kept true ep k touches e h =
      elim (among_cases e (unordered (clock n) (line n) kept.hard) (unordered (clock n) (line n) kept.soft) h) [
        | inl old ↦ (let f = filtered (is_unordered (clock n) (line n)) e kept.hard old in
            race_of n b e (k.hard e f.0).0 touches f.1 (inr ep))
        | inr old ↦ (let f = filtered (is_unordered (clock n) (line n)) e kept.soft old in
            race_of n b e (k.soft e f.0) touches f.1 (inr ep))
      ]
  racing_races n b kept false ep k touches e h =
      let f = filtered (is_unordered (clock n) (line n)) e kept.hard h in
      race_of n b e (k.hard e f.0).0 touches f.1 (inl (k.hard e f.0).1)

  -- an entry that covers an access which is free of act n stays
  covering_stays : (n b i : ℕ) (entries : List Entry) → ((e : Entry) → Among e entries → IsEntry n b e) → ¬ HappensBefore declared run i n
      → Covers entries i → (e : Entry) × Among e (unordered (clock n) (line n) entries)
  covering_stays n b i entries are free (e, among, comes) = elim (cases_Bool (is_unordered (clock n) (line n) e)) [
    | inl stands ↦ (e, stays (is_unordered (clock n) (line n)) e entries among stands)
    | inr out ↦ absurd (free (at_then declared run i e.act n comes (below_comes_before n b e (are e among) out)))
  ]

  racing_has : (n b i : ℕ) (kept : Kept) (p : Bool) → is_plain_write declared run n ≡ p → AreKept n b kept → Race declared run i n b
      → (e : Entry) × Among e (racing p (clock n) (line n) kept)
  racing_has n b i kept true ep k race =
      let hard = unordered (clock n) (line n) kept.hard in
      let soft = unordered (clock n) (line n) kept.soft in
      elim (k.each i (race.later, race.first, race.life)) [
        | inl c ↦ (let s = covering_stays n b i kept.hard (hard_entries n b kept k) race.free c in (s.0, among_front s.0 hard soft s.1))
        | inr c ↦ (let s = covering_stays n b i kept.soft k.soft race.free c in (s.0, among_back s.0 hard soft s.1))
      ]
  racing_has n b i kept false ep k race = elim race.plain [
    | inl p ↦ covering_stays n b i kept.hard (hard_entries n b kept k) race.free (k.plain i (race.later, race.first, race.life) p)
    | inr p ↦ absurd (false≢true (sym ep ∙ p))
  ]

  found_if : (n b : ℕ) (t : Bool) (entries : List Entry) → touches_byte (run n).deed b ≡ t → (e : Entry) → Among e (cond t entries [])
      → IsTrue (touches_byte (run n).deed b) × Among e entries
  found_if n b true entries et e h = (et, h)
  found_if n b false entries et e h = absurd h

  pub found_race : (n b : ℕ) (e : Entry) → Among e (found_at declared chain run n b) → Race declared run e.act n b
  found_race n b e h =
      let kept = kept_at declared chain run b n in
      let p = writes_plainly declared chain run n in
      let f = found_if n b (touches_byte (run n).deed b) (racing p (clock n) (line n) kept) refl e h in
      racing_races n b kept p (sym (sees_plainly n)) (kept_always b n) f.0 e f.1

  pub race_found : (i n b : ℕ) → Race declared run i n b → (e : Entry) × Among e (found_at declared chain run n b)
  race_found i n b race =
      let kept = kept_at declared chain run b n in
      let p = writes_plainly declared chain run n in
      let s = racing_has n b i kept p (sym (sees_plainly n)) (kept_always b n) race in
      (s.0, subst (λ (t : Bool). Among s.0 (cond t (racing p (clock n) (line n) kept) [])) (sym race.second) s.1)
