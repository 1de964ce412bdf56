-- Acts that are added at the end change neither the order nor the races of those before.
use Rattle.std.proofs.Common.{◌≡◌, inl, inr, ℕ, zero, suc, ◌<◌, ◌≤◌, Bool, cond, ◌||◌, ◌==◌, Some, None, List, [], ◌∷◌, refl, sym, ◌∙◌, ap, subst, arith, lt_trans, IsTrue}
use Rattle.order.specs.declared.act.Act.{Act}
use Rattle.order.specs.Deeds.{acquires_itself, is_acquire, is_change, is_clearing, is_release, is_release_fence, precedes, reads_byte, releases_itself, renews_byte, touches_byte, writes_byte}
use Rattle.order.specs.Order.{Run, Carries, CarriesOn, HappensBefore, Knows, Leads, LeadsAlong, Message, Race, ReadsFrom, Sends, is_after_fence, is_atomic, is_atomic_write, is_plain, is_plain_write, stands_at}
use Rattle.order.specs.Laws.{Agree}
use Rattle.order.proofs.Paths.{carries_on_forward, forward_along, reads_before}

module _ (declared : ℕ → Bool) (one other : Run) (n : ℕ) (same : Agree n one other) where
  fence_settled : (tid m : ℕ) → m ≤ n → is_after_fence one tid m ≡ is_after_fence other tid m
  fence_settled tid zero l = refl
  fence_settled tid (suc m) l =
      let s : one m ≡ other m = same m l in
      let rest : is_after_fence one tid m ≡ is_after_fence other tid m = fence_settled tid m (omega arith) in
      λ i. cond ((s i).tid == tid) (is_release_fence (s i).deed) (rest i)

  fence_of : (i : ℕ) → i < n → is_after_fence one (one i).tid i ≡ is_after_fence other (other i).tid i
  fence_of i l = fence_settled (one i).tid i (omega arith) ∙ ap (λ (a : Act). is_after_fence other a.tid i) (same i l)

  plain_settled : (i : ℕ) → i < n → is_plain_write declared one i ≡ is_plain_write declared other i
  plain_settled i l =
      let s : one i ≡ other i = same i l in
      let f : is_after_fence one (one i).tid i ≡ is_after_fence other (other i).tid i = fence_of i l in
      λ k. is_plain declared (f k) (s k).deed

  atomic_settled : (i : ℕ) → i < n → is_atomic_write declared one i ≡ is_atomic_write declared other i
  atomic_settled i l =
      let s : one i ≡ other i = same i l in
      let f : is_after_fence one (one i).tid i ≡ is_after_fence other (other i).tid i = fence_of i l in
      λ k. is_atomic declared (f k) (s k).deed

  stands_settled : (b m : ℕ) → m ≤ n → stands_at one b m ≡ stands_at other b m
  stands_settled b zero l = refl
  stands_settled b (suc m) l =
      let s : one m ≡ other m = same m l in
      let rest : stands_at one b m ≡ stands_at other b m = stands_settled b m (omega arith) in
      λ i. cond (renews_byte (s i).deed b) None (cond (writes_byte (s i).deed b) (Some m) (rest i))

  reads_settled : (w r : ℕ) → r < n → ReadsFrom one w r → ReadsFrom other w r
  reads_settled w r l h =
      (h.0, subst (λ (a : Act). IsTrue (reads_byte a.deed h.0)) (same r l) h.1, sym (stands_settled h.0 r (omega arith)) ∙ h.2)

  carries_on_settled : (x steps w : ℕ) → w < n → CarriesOn one x steps w → CarriesOn other x steps w
  carries_on_settled x zero w l on = on
  carries_on_settled x (suc k) w l on =
      let back : on.0 < w = reads_before one on.0 w on.3 in (
        on.0,
        carries_on_settled x k on.0 (lt_trans back l) on.1,
        subst (λ (a : Act). IsTrue (is_change a.deed)) (same w l) on.2,
        reads_settled on.0 w l on.3,
      )

  same_tid : (i k : ℕ) → i < n → k < n → (one i).tid ≡ (one k).tid → (other i).tid ≡ (other k).tid
  same_tid i k li lk e = sym (ap (λ (a : Act). a.tid) (same i li)) ∙ e ∙ ap (λ (a : Act). a.tid) (same k lk)

  carries_settled : (i x : ℕ) → x < n → Carries one i x → Carries other i x
  carries_settled i x l (inl itself) =
      inl (itself.0, subst (λ (a : Act). IsTrue (releases_itself a.deed)) (same x l) itself.1)
  carries_settled i x l (inr earlier) =
      let li : i < n = lt_trans earlier.0 l in
      inr (earlier.0, same_tid i x li l earlier.1, subst (λ (a : Act). IsTrue (is_release a.deed)) (same i li) earlier.2)

  sends_settled : (i w : ℕ) → w < n → Sends declared one i w → Sends declared other i w
  sends_settled i w l s =
      let on : s.x ≤ w = carries_on_forward one s.x s.steps w s.on in
      let lx : s.x < n = omega arith in
      record {
        x = s.x;
        atomic = sym (atomic_settled s.x lx) ∙ s.atomic;
        carries = carries_settled i s.x lx s.carries;
        steps = s.steps;
        on = carries_on_settled s.x s.steps w l s.on;
      }

  knows_settled : (w r j : ℕ) → w < n → r < n → j < n → Knows one w r j → Knows other w r j
  knows_settled w r j lw lr lj (inl now) =
      inl (
        now.0,
        subst (λ (p : Act × Act). IsTrue (acquires_itself p.0.deed || is_clearing p.1.deed)) (λ i. (same r lr i, same w lw i))
            now.1,
      )
  knows_settled w r j lw lr lj (inr later) =
      inr (later.0, same_tid j r lj lr later.1, subst (λ (a : Act). IsTrue (is_acquire a.deed)) (same j lj) later.2)

  message_settled : (i j : ℕ) → j < n → Message declared one i j → Message declared other i j
  message_settled i j l m =
      let back : m.w < m.r = reads_before one m.w m.r m.hears in
      let up : m.r ≤ j = (elim m.knows [ inl now ↦ omega (arith, now.0) | inr later ↦ omega (arith, later.0) ]) in
      let lr : m.r < n = omega arith in
      let lw : m.w < n = omega arith in
      record {
        w = m.w;
        sends = sends_settled i m.w lw m.sends;
        r = m.r;
        hears = reads_settled m.w m.r lr m.hears;
        knows = knows_settled m.w m.r j lw lr l m.knows;
      }

  leads_settled : (i j : ℕ) → j < n → Leads declared one i j → Leads declared other i j
  leads_settled i j l h =
      let li : i < n = lt_trans h.0 l in (
        h.0,
        (elim h.1 [
          | inl p ↦ inl (subst (λ (q : Act × Act). IsTrue (precedes q.0 q.1.tid)) (λ k. (same i li k, same j l k)) p)
          | inr m ↦ inr (message_settled i j l m)
        ]),
      )

  along_settled : (i : ℕ) (path : List ℕ) (j : ℕ) → j < n → LeadsAlong declared one i path j → LeadsAlong declared other i path j
  along_settled i [] j l h = leads_settled i j l h
  along_settled i (k ∷ path) j l h =
      (leads_settled i k (lt_trans (forward_along declared one k path j h.1) l) h.0, along_settled k path j l h.1)

  pub order_settled : (i j : ℕ) → j < n → HappensBefore declared one i j → HappensBefore declared other i j
  order_settled i j l h = (h.0, along_settled i h.0 j l h.1)

  tids_settled : (i j : ℕ) → i < n → j < n → (other i).tid ≡ (other j).tid → (one i).tid ≡ (one j).tid
  tids_settled i j li lj e = ap (λ (a : Act). a.tid) (same i li) ∙ e ∙ sym (ap (λ (a : Act). a.tid) (same j lj))

  touch_settled : (i b : ℕ) → i < n → IsTrue (touches_byte (one i).deed b) → IsTrue (touches_byte (other i).deed b)
  touch_settled i b l h = subst (λ (a : Act). IsTrue (touches_byte a.deed b)) (same i l) h

pub race_settled : (declared : ℕ → Bool) (one other : Run) (n : ℕ) → Agree n one other → (i j b : ℕ) → j < n
    → Race declared one i j b → Race declared other i j b
race_settled declared one other n same i j b l race =
    let li : i < n = lt_trans race.later l in
    record {
      later = race.later;
      threads = λ e. race.threads (tids_settled declared one other n same i j li l e);
      first = touch_settled declared one other n same i b li race.first;
      second = touch_settled declared one other n same j b l race.second;
      plain = (elim race.plain [
        | inl p ↦ inl (sym (plain_settled declared one other n same i li) ∙ p)
        | inr p ↦ inr (sym (plain_settled declared one other n same j l) ∙ p)
      ]);
      life = λ k after below. sym (ap (λ (a : Act). renews_byte a.deed b) (same k (lt_trans below l))) ∙ race.life k after below;
      free = λ h. race.free (order_settled declared other one n (λ k m. sym (same k m)) i j l h);
    }
