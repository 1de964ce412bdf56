-- Threads that are equal, and states of the same threads.
use Rattle.std.proofs.Common.{◌≡◌, ℕ, Bool, List, ◌&&◌, eqb, Option, Some, None, is_some, Decides, refl, sym, ap, ◌∙◌}
use Rattle.std.proofs.lemmas.Bool.{false≢true}
use Rattle.std.proofs.lemmas.Bool.Decides.{Decides-and, Decides-eqb}
use Rattle.std.proofs.lemmas.Map.Lookups.{btree_map_from_get, exact_unsigned}
use Rattle.std.proofs.lemmas.Slice.Eq.{slice_eq-Decides}
use Rattle.std.specs.BTreeMap.{BTreeMap, IsOrdered}
use Rattle.std.specs.Cmp.{nat_cmp_total}
use Rattle.std.specs.FinMap.{FinMap, get}
use Rattle.std.specs.Option.{option_eq, unwrap_or}
use Rattle.std.specs.Ordering.{nat_cmp}
use Rattle.rrv_model.specs.declared.machine.Thread.{Thread}
use Rattle.rrv_model.specs.declared.machine.FutexWait.{FutexWait}
use Rattle.rrv_model.specs.declared.machine.Timeout.{Timeout}
use Rattle.rrv_model.specs.declared.machine.Version.{Version}
use Rattle.rrv_model.specs.State.{State}
use Rattle.guest_threads.specs.Threads.{ThreadsValue, thread_map, with_threads, alone}
use Rattle.guest_threads.proofs.ByTid.{get_thread}
use lib.Pointwise.{pointwise}

-- ---- one thread

same_option : {A : Type 0} (eq : A → A → Bool) → ((a b : A) → Decides (eq a b) (a ≡ b)) → (a b : Option A) →
    Decides (option_eq eq a b) (a ≡ b)
same_option eq one None None = (λ e. refl, λ e. refl)
same_option eq one None (Some y) = (λ e. absurd (false≢true e), λ e. absurd (false≢true (ap is_some e)))
same_option eq one (Some x) None = (λ e. absurd (false≢true e), λ e. absurd (false≢true (sym (ap is_some e))))
same_option eq one (Some x) (Some y) = (λ e. ap Some ((one x y).0 e), λ e. (one x y).1 (ap (λ o. unwrap_or o x) e))

same_timeout : (a b : Timeout) → Decides (eqb a.seconds b.seconds && eqb a.nanoseconds b.nanoseconds) (a ≡ b)
same_timeout a b =
    let both = Decides-and _ _ (Decides-eqb a.seconds b.seconds) (Decides-eqb a.nanoseconds b.nanoseconds) in (
      λ e. let h = both.0 e in λ i. record { seconds = h.0 i; nanoseconds = h.1 i },
      λ e. both.1 (ap (λ (t : Timeout). t.seconds) e, ap (λ (t : Timeout). t.nanoseconds) e),
    )

abbrev eq_timeout : Timeout → Timeout → Bool
eq_timeout a b = eqb a.seconds b.seconds && eqb a.nanoseconds b.nanoseconds

same_wait : (a b : FutexWait) → Decides (eqb a.address b.address && option_eq eq_timeout a.timeout b.timeout) (a ≡ b)
same_wait a b =
    let both = Decides-and _ _ (Decides-eqb a.address b.address) (same_option eq_timeout same_timeout a.timeout b.timeout) in (
      λ e. let h = both.0 e in λ i. record { address = h.0 i; timeout = h.1 i },
      λ e. both.1 (ap (λ (w : FutexWait). w.address) e, ap (λ (w : FutexWait). w.timeout) e),
    )

abbrev eq_wait : FutexWait → FutexWait → Bool
eq_wait a b = eqb a.address b.address && option_eq eq_timeout a.timeout b.timeout

-- what `==` of two threads says
pub same_thread : (a b : Thread) →
    Decides ((eqb a.regs.pc b.regs.pc && pointwise eqb a.regs.registers b.regs.registers)
    && (option_eq eq_wait a.wait b.wait && eqb a.clear b.clear)) (a ≡ b)
same_thread a b =
    let regs = Decides-and _ _ (Decides-eqb a.regs.pc b.regs.pc) (slice_eq-Decides Decides-eqb a.regs.registers b.regs.registers _ refl) in
    let rest = Decides-and _ _ (same_option eq_wait same_wait a.wait b.wait) (Decides-eqb a.clear b.clear) in
    let all = Decides-and _ _ regs rest in (
      λ e. let h = all.0 e in
          λ i. record { regs = record { pc = h.0.0 i; registers = h.0.1 i }; wait = h.1.0 i; clear = h.1.1 i },
      λ e. all.1 (
        (ap (λ (t : Thread). t.regs.pc) e, ap (λ (t : Thread). t.regs.registers) e),
        (ap (λ (t : Thread). t.wait) e, ap (λ (t : Thread). t.clear) e),
      ),
    )

-- ---- all threads of a guest

-- the tids rise, so the finite map tells the list
pub same_list : (a b : BTreeMap ℕ Thread) → IsOrdered nat_cmp a → IsOrdered nat_cmp b → thread_map a.entries ≡ thread_map b.entries →
    a.entries ≡ b.entries
same_list a b ha hb e =
    btree_map_from_get nat_cmp_total a b ha hb
    (λ q. sym (get_thread a.entries q) ∙ ap (λ (m : FinMap nat_cmp Thread). get m q) e ∙ get_thread b.entries q)
    exact_unsigned

-- ---- states

abbrev pub value_of : Version → List (ℕ × Thread) → List ℕ → ℕ → ThreadsValue
value_of version es order next = record { version = version; threads = es; waiting = order; next_tid = next }

module _ (u v : Version) (es fs : List (ℕ × Thread)) (order order' : List ℕ) (next next' : ℕ) (a b : ThreadsValue)
    (is_a : value_of u es order next ≡ a) (is_b : value_of v fs order' next' ≡ b) where
  pub same_states : u ≡ v → thread_map es ≡ thread_map fs → order ≡ order' → next ≡ next' → (s : State) →
      with_threads a s ≡ with_threads b s
  same_states d e f g s =
      ap (λ (v : ThreadsValue). with_threads v s) (sym is_a)
      ∙ (λ i. record s { version = d i; threads = e i; waiting = f i; next_tid = g i })
      ∙ ap (λ (v : ThreadsValue). with_threads v s) is_b

  as_one : ((s : State) → with_threads a s ≡ with_threads b s) →
      with_threads (value_of u es order next) (alone a) ≡ with_threads (value_of v fs order' next') (alone a)
  as_one h = ap (λ (v : ThreadsValue). with_threads v (alone a)) is_a ∙ h (alone a)
      ∙ ap (λ (v : ThreadsValue). with_threads v (alone a)) (sym is_b)

  pub same_versions : ((s : State) → with_threads a s ≡ with_threads b s) → u ≡ v
  same_versions h = ap (λ (s : State). s.version) (as_one h)

  pub same_maps : ((s : State) → with_threads a s ≡ with_threads b s) → thread_map es ≡ thread_map fs
  same_maps h = ap (λ (s : State). s.threads) (as_one h)

  pub same_orders : ((s : State) → with_threads a s ≡ with_threads b s) → order ≡ order'
  same_orders h = ap (λ (s : State). s.waiting) (as_one h)

  pub same_next : ((s : State) → with_threads a s ≡ with_threads b s) → next ≡ next'
  same_next h = ap (λ (s : State). s.next_tid) (as_one h)
