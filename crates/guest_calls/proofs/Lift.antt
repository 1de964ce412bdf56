-- Steps of a hart are steps of the thread that it stands for.
use Rattle.std.proofs.Common.{◌≡◌, ℕ, zero, suc, ◌-◌, ◌<◌, ◌^◌, Bool, true, false, cond, Option, Some, None, refl, sym, ◌∙◌, ap, subst, arith}
use Rattle.std.specs.Ordering.{nat_cmp, eq_by_cmp}
use Rattle.std.specs.Cmp.{nat_cmp_total, eq_by_cmp_equiv}
use Rattle.std.specs.FinMap.{FinMap, get, insert, get-insert, same_map, nat_cmp-IsAntisymmetric}
use Rattle.rrv_model.specs.declared.machine.FaultKind.{FaultKind}
use Rattle.rrv_model.specs.declared.machine.Thread.{Thread}
use Rattle.rrv_model.specs.Words.{plus, minus}
use Rattle.rrv_model.specs.State.{State, thread_at, with_thread, AreRegs}
use Rattle.rrv_model.specs.Step.{Hart, HartStep, Next, StepsTo, hart_of, with_hart, goes_on}
use Rattle.rrv_model.specs.CallRows.{change_thread}
use Rattle.rrv_model.specs.FrameStep.{Steps}
use Rattle.rv_machine.specs.declared.run.Run.{Run}
use Rattle.rv_machine.specs.declared.run.RunEnd.{RunEnd}
use Rattle.rv_machine.specs.declared.run.RunEnd.TheVariants as ends
use Rattle.rv_machine.specs.HartRuns.{HartSteps, HartRuns, HartRunsTo, HartRunsToCall, HartRunsToFault, HartRunsToMemory}
use Rattle.rv_machine.specs.Watching.{HartWatched, WatchedSteps}
use Rattle.guest_calls.specs.Runs.{Runs, RunsTo, RunsToCall, RunsToFault, RunsToMemory, Watched, before_call}
use Rattle.guest_calls.proofs.Ecalls.{called_hart}
use Rattle.rrv_model.proofs.ThreadRules.{same_tid}

-- ---- a thread put into the threads

insert_insert : (m : FinMap nat_cmp Thread) (k : ℕ) (v w : Thread) → insert (insert m k v) k w ≡ insert m k w
insert_insert m k v w = same_map nat_cmp_total nat_cmp-IsAntisymmetric _ _ (λ q.
    get-insert nat_cmp_total (insert m k v) k w q ∙ ap (cond (eq_by_cmp nat_cmp q k) (Some w)) (get-insert nat_cmp_total m k v q)
    ∙ covered (eq_by_cmp nat_cmp q k) (Some w) (Some v) (get m q) ∙ sym (get-insert nat_cmp_total m k w q)) where
      covered : (b : Bool) (x y z : Option Thread) → cond b x (cond b y z) ≡ cond b x z
      covered true x y z = refl
      covered false x y z = refl

tied : (q : ℕ) → eq_by_cmp nat_cmp q q ≡ true
tied q = (eq_by_cmp_equiv nat_cmp_total).refl q

pub get-insert_same : (m : FinMap nat_cmp Thread) (k : ℕ) (v : Thread) → get (insert m k v) k ≡ Some v
get-insert_same m k v = get-insert nat_cmp_total m k v k ∙ ap (λ b. cond b (Some v) (get m k)) (tied k)

pub insert_same : (m : FinMap nat_cmp Thread) (k : ℕ) (v : Thread) → get m k ≡ Some v → insert m k v ≡ m
insert_same m k v there = same_map nat_cmp_total nat_cmp-IsAntisymmetric _ _ (λ q.
    get-insert nat_cmp_total m k v q ∙ here q (eq_by_cmp nat_cmp q k) refl) where
      here : (q : ℕ) (b : Bool) → eq_by_cmp nat_cmp q k ≡ b → cond b (Some v) (get m q) ≡ get m q
      here q true e = sym there ∙ ap (get m) (sym (same_tid q k e))
      here q false e = refl

-- the thread there is changed
pub changed_there : (tid : ℕ) (change : Thread → Thread) (s : State) (t : Thread) → thread_at s tid ≡ Some t →
    change_thread tid change s ≡ with_thread tid (change t) s
changed_there tid change s t there = rw there refl

-- ---- steps

pub steps_then : (n tid : ℕ) (s mid after : State) → Steps n tid s mid → StepsTo mid tid after → Steps (suc n) tid s after
steps_then zero tid s mid after e q = (after, subst (λ (m : State). StepsTo m tid after) e q, refl)
steps_then (suc n) tid s mid after p q = (p.0, p.1, steps_then n tid p.0 mid after p.2 q)

-- the thread with the hart's registers
abbrev now : Thread → Hart → Thread
now t h = record t { regs = h.regs }

with_hart_twice : (tid : ℕ) (t : Thread) (h h' : Hart) (s : State) → with_hart tid t h' s ≡ with_hart tid (now t h) h' (with_hart tid t h s)
with_hart_twice tid t h h' s =
    ap (λ (m : FinMap nat_cmp Thread). record s { memory = h'.memory; threads = m; reservation = h'.reservation })
    (sym (insert_insert s.threads tid (now t h) (now t h')))

module _ (tid : ℕ) (s : State) (t : Thread) (there : thread_at s tid ≡ Some t) (running : t.wait ≡ None) where
  there_now : (h : Hart) → thread_at (with_hart tid t h s) tid ≡ Some (now t h)
  there_now h = get-insert_same s.threads tid (now t h)

  one_step : (h h' : Hart) → HartStep h (Next h') → StepsTo (with_hart tid t h s) tid (with_hart tid t h' s)
  one_step h h' does = record {
    thread = now t h;
    hart = h';
    step = record { there = there_now h; running = running; does = does };
    after_is = with_hart_twice tid t h h' s;
  }

  pub lifted : (n : ℕ) (h : Hart) → HartSteps n (hart_of s t) h → Steps n tid s (with_hart tid t h s)
  unfolding HartSteps
  lifted zero h e =
      ap (λ (h : Hart). with_hart tid t h s) e
      ∙ ap (λ (m : FinMap nat_cmp Thread). record s { threads = m }) (insert_same s.threads tid t there)
  lifted (suc n) h p = steps_then n tid s (with_hart tid t p.0 s) (with_hart tid t h s) (lifted n p.0 p.1) (one_step p.0 h p.2)

  -- so are steps over which a byte is watched
  pub lifted_watched : (a n changed : ℕ) (h : Hart) → HartWatched a n (hart_of s t) changed h →
      Watched a n tid s changed (with_hart tid t h s)
  unfolding WatchedSteps HartSteps
  lifted_watched a zero changed h p = (p.0, lifted zero h p.1)
  lifted_watched a (suc n) changed h p =
      (with_hart tid t p.0 s, p.1, lifted_watched a n p.1 p.0 p.2, one_step p.0 h p.3, p.4)

  back_to : (n : ℕ) → n < 2 ^ 32 → minus (plus n 4) 4 ≡ n
  back_to n fits = omega arith

  stands_back : (b : Hart) → AreRegs b.regs → before_call tid (with_hart tid t (goes_on b.regs b) s) ≡ with_hart tid t b s
  stands_back b are =
      changed_there tid _ (with_hart tid t (goes_on b.regs b) s) (now t (goes_on b.regs b)) (there_now (goes_on b.regs b))
      ∙ ap (λ (m : FinMap nat_cmp Thread). record s { memory = b.memory; threads = m; reservation = b.reservation })
      (insert_insert s.threads tid _ _
      ∙ ap (λ pc. insert s.threads tid (record t { regs = record b.regs { pc = pc } })) (back_to b.regs.pc are.pc))

  lifted_call : (limit count : ℕ) (h : Hart) → HartRunsToCall limit count (hart_of s t) h →
      RunsToCall limit tid count s (with_hart tid t h s)
  lifted_call limit count h p = record {
    some = p.some;
    within = p.within;
    before = with_hart tid t p.before s;
    steps = lifted (count - 1) p.before p.steps;
    calls = record {
      thread = now t p.before;
      hart = h;
      step = record { there = there_now p.before; running = running; does = p.calls };
      after_is = with_hart_twice tid t p.before h s;
    };
    back = subst (λ (h : Hart). before_call tid (with_hart tid t h s) ≡ with_hart tid t p.before s) (sym (called_hart p.before h p.calls))
        (stands_back p.before p.regs);
  }

  lifted_fault : (limit count : ℕ) (kind : FaultKind) (h : Hart) → HartRunsToFault limit count kind (hart_of s t) h →
      RunsToFault limit tid count kind s (with_hart tid t h s)
  lifted_fault limit count kind h p = record {
    some = p.some;
    within = p.within;
    steps = lifted (count - 1) h p.steps;
    faults = record { thread = now t h; step = record { there = there_now h; running = running; does = p.faults } };
  }

  lifted_memory : (limit count : ℕ) (h : Hart) → HartRunsToMemory limit count (hart_of s t) h →
      RunsToMemory limit tid count s (with_hart tid t h s)
  lifted_memory limit count h p = record {
    within = p.within;
    steps = lifted count h p.steps;
    takes = record { thread = now t h; there = there_now h; running = running; next = p.takes };
  }

  by_end : (end : RunEnd) (limit count : ℕ) (h : Hart) → HartRunsTo end limit count (hart_of s t) h →
      RunsTo end limit tid count s (with_hart tid t h s)
  by_end ends.Limit limit count h p = (p.0, lifted limit h p.1)
  by_end ends.Call limit count h p = lifted_call limit count h p
  by_end (ends.Fault kind) limit count h p = lifted_fault limit count kind h p
  by_end ends.Memory limit count h p = lifted_memory limit count h p

  -- a run of the hart is one of the thread
  pub lifted_run : (limit : ℕ) (run : Run) (h : Hart) → HartRuns limit (hart_of s t) run h → Runs limit tid s run (with_hart tid t h s)
  lifted_run limit run h p = by_end run.end limit run.count h p
