-- What keeps the rules of a state.
use Rattle.std.proofs.Common.{◌≡◌, ℕ, zero, suc, ◌^◌, ◌<◌, ◌≤◌, Bool, true, false, cond, not, nat_eq, List, [], ◌∷◌, ◌++◌, filter, fold, Option, Some, IfSome, refl, sym, subst, arith, rules}
use Rattle.std.specs.FinMap.{FinMap, get, insert, remove, len}
use Rattle.std.specs.Ordering.{nat_cmp}
use Rattle.rrv_model.specs.declared.machine.Thread.{Thread}
use Rattle.rrv_model.specs.declared.machine.GuestEnd.{GuestEnd}
use Rattle.rrv_model.specs.declared.record.Written.{Written}
use Rattle.rrv_model.specs.Memory.{Memory, IsMemory}
use Rattle.rrv_model.specs.declared.machine.FutexWait.{FutexWait}
use Rattle.rrv_model.specs.State.{State, IsState, IsEnd, IsThread, IsWait, IsRunning, AreThreads, thread_at}
use Rattle.rrv_model.specs.Step.{Hart, Outcome, Next, Called, Step, StepsTo, CallsFrom, hart_of, with_hart}
use Rattle.rrv_model.specs.CallRows.{change_thread, changed, set_register, waiters, wakes, woken, waits, leaves, ends, with_memory}
use Rattle.rrv_model.specs.Calls.{writes, results}
use Rattle.rrv_model.specs.FrameStep.{Steps}
use Rattle.rrv_model.proofs.MemoryRules.{AreWritten, memory-write_all}
use Rattle.rrv_model.proofs.StepRules.{IsHart, LeavesHart, hart_keeps, regs-with_register}
use Rattle.rrv_model.proofs.ThreadRules.{change_is, woken_is, keeps_changed, keeps_woken, keeps_waits, keeps_left, resumed}

-- ---- parts of a state

pub memory_of_state : (s : State) → IsState s → IsMemory s.memory
memory_of_state s h = record { pages = h.rules.memory; limit = h.limit }

pub keeps-memory : (m : Memory) (s : State) → IsMemory m → IsState s → IsState (with_memory m s)
keeps-memory m s is h = search rules

pub keeps-threads : (m : FinMap nat_cmp Thread) (order : List ℕ) (next : ℕ) (s : State) → AreThreads s.version m order next → IsState s →
    IsState (record s { threads = m; waiting = order; next_tid = next })
keeps-threads m order next s are h = search rules

pub keeps-reservation : (r : Option ℕ) (s : State) → IfSome r (λ a. a < 2 ^ 32) → IsState s → IsState (record s { reservation = r })
keeps-reservation r s low h = search rules

pub keeps-ended : (end : GuestEnd) (s : State) → IsEnd end → IsState s → IsState (record s { ended = Some end })
keeps-ended end s is h = search rules

pub keeps-break : (a : ℕ) (s : State) → s.opening_break ≤ a → a ≤ 0x70000000 → IsState s → IsState (record s { program_break = a })
keeps-break a s low high h = search rules

-- ---- threads

-- a thread that is changed, but for where it waits
pub keeps-change : (tid : ℕ) (change : Thread → Thread) (s : State) →
    ((t : Thread) → IsThread s.version t → IsThread s.version (change t)) → ((t : Thread) → (change t).wait ≡ t.wait) →
    IsState s → IsState (change_thread tid change s)
keeps-change tid change s fits same h =
    subst IsState (sym (change_is tid change s))
    (keeps-threads (changed tid change s.threads) s.waiting s.next_tid s
    (keeps_changed s.threads s.waiting s.next_tid tid change h.rules.threads fits same) h)

pub keeps-register : (tid r value : ℕ) (s : State) → value < 2 ^ 32 → IsState s → IsState (change_thread tid (set_register r value) s)
keeps-register tid r value s low h =
    keeps-change tid (set_register r value) s
    (λ t is. record { regs = regs-with_register r value t.regs low is.regs; waits = is.waits; clear = is.clear }) (λ t. refl) h

pub keeps-clear : (tid a : ℕ) (s : State) → a < 2 ^ 32 → IsState s → IsState (change_thread tid (λ t. record t { clear = a }) s)
keeps-clear tid a s low h =
    keeps-change tid (λ t. record t { clear = a }) s (λ t is. record { regs = is.regs; waits = is.waits; clear = low }) (λ t. refl) h

pub keeps-woken : (s : State) (tid : ℕ) → IsState s → IsState (woken s tid)
keeps-woken s tid h =
    subst IsState (sym (woken_is s tid))
    (keeps-threads (changed tid resumed s.threads) (filter (λ w. not (nat_eq w tid)) s.waiting) s.next_tid s
    (keeps_woken s.threads s.waiting s.next_tid tid h.rules.threads) h)

all_woken : (tids : List ℕ) (s : State) → IsState s → IsState (fold woken s tids)
all_woken [] s h = h
all_woken (tid ∷ tids) s h = all_woken tids (woken s tid) (keeps-woken s tid h)

pub keeps-wakes : (a count : ℕ) (s : State) → IsState s → IsState (wakes a count s)
keeps-wakes a count s h = all_woken (waiters s a count) s h

pub keeps-waits : (tid : ℕ) (a : FutexWait) (s : State) → IsRunning (thread_at s tid) → IsWait s.version a → IsState s →
    IsState (waits tid a s)
keeps-waits tid a s runs low h =
    subst IsState (sym (change_is tid (λ t. record t { wait = Some a }) (record s { waiting = s.waiting ++ tid ∷ [] })))
    (keeps-threads (changed tid (λ t. record t { wait = Some a }) s.threads) (s.waiting ++ tid ∷ []) s.next_tid s
    (keeps_waits s.threads s.waiting s.next_tid tid a h.rules.threads runs low) h)

pub keeps-ends : (status : ℕ) (s : State) → IsState s → IsState (ends status s)
keeps-ends status s h = keeps-ended _ s (omega arith) h

either : (b : Bool) (x y : State) → IsState x → IsState y → IsState (cond b x y)
either true x y h g = h
either false x y h g = g

pub keeps-leaves : (tid status : ℕ) (s : State) → IsRunning (thread_at s tid) → IsState s → IsState (leaves tid status s)
keeps-leaves tid status s runs h =
    let rest : State = record s { threads = remove s.threads tid } in
    let is_rest : IsState rest =
    keeps-threads (remove s.threads tid) s.waiting s.next_tid s (keeps_left s.threads s.waiting s.next_tid tid h.rules.threads runs)
    h in
    either (nat_eq (len rest.threads) 0) (ends status rest) rest (keeps-ends status rest is_rest) is_rest

-- ---- what a call writes and answers

pub keeps-writes : (written : List Written) (s : State) → AreWritten written → IsState s → IsState (writes written s)
keeps-writes written s small h = keeps-memory _ s (memory-write_all written s.memory small (memory_of_state s h)) h

pub keeps-results : (tid result : ℕ) (s : State) → result < 2 ^ 32 → IsState s → IsState (results tid result s)
keeps-results tid result s low h = keeps-register tid 10 result s low h

-- ---- steps

there_is : (P : Thread → Type 0) (o : Option Thread) (t : Thread) → o ≡ Some t → IfSome o P → P t
there_is P o t e h = subst (λ (o : Option Thread). IfSome o P) e h

-- the thread is one
pub thread_of_state : (s : State) (tid : ℕ) (t : Thread) → thread_at s tid ≡ Some t → IsState s → IsThread s.version t
thread_of_state s tid t there h = there_is (IsThread s.version) (thread_at s tid) t there (h.rules.threads.threads tid)

changed_there : (m : FinMap nat_cmp Thread) (tid : ℕ) (change : Thread → Thread) (t : Thread) → get m tid ≡ Some t →
    changed tid change m ≡ insert m tid (change t)
changed_there m tid change t there = rw there refl

pub keeps-hart : (s : State) (tid : ℕ) (t : Thread) (h : Hart) → thread_at s tid ≡ Some t → IsHart h → IsState s →
    IsState (with_hart tid t h s)
keeps-hart s tid t h there is are =
    let change : Thread → Thread = λ u. record u { regs = h.regs } in
    let threads : AreThreads s.version (changed tid change s.threads) s.waiting s.next_tid =
    keeps_changed s.threads s.waiting s.next_tid tid change are.rules.threads
    (λ u g. record { regs = is.regs; waits = g.waits; clear = g.clear }) (λ u. refl) in
    let now : AreThreads s.version (insert s.threads tid (record t { regs = h.regs })) s.waiting s.next_tid =
    subst (λ (m : FinMap nat_cmp Thread). AreThreads s.version m s.waiting s.next_tid) (changed_there s.threads tid change t there)
    threads in
    keeps-reservation h.reservation _ is.reservation (keeps-memory h.memory _ is.memory (keeps-threads _ s.waiting s.next_tid s now are))

pub is_hart_of : (s : State) (tid : ℕ) (t : Thread) → thread_at s tid ≡ Some t → IsState s → IsHart (hart_of s t)
is_hart_of s tid t there h =
    record { regs = (thread_of_state s tid t there h).regs; memory = memory_of_state s h; reservation = h.rules.reservation }

pub outcome_keeps : (s : State) (tid : ℕ) (t : Thread) (outcome : Outcome) → Step s tid t outcome → IsState s → LeavesHart outcome
outcome_keeps s tid t outcome step h = hart_keeps (hart_of s t) outcome step.does (is_hart_of s tid t step.there h)

-- a plain step keeps the rules
pub step_keeps_state : (s : State) (tid : ℕ) (after : State) → StepsTo s tid after → IsState s → IsState after
step_keeps_state s tid after p h =
    subst IsState (sym p.after_is) (keeps-hart s tid p.thread p.hart p.step.there (outcome_keeps s tid p.thread (Next p.hart) p.step h) h)

pub ecall_keeps_state : (s : State) (tid : ℕ) (after : State) → CallsFrom s tid after → IsState s → IsState after
ecall_keeps_state s tid after p h =
    subst IsState (sym p.after_is) (keeps-hart s tid p.thread p.hart p.step.there (outcome_keeps s tid p.thread (Called p.hart) p.step h) h)

pub steps_keep_state : (n tid : ℕ) (s after : State) → Steps n tid s after → IsState s → IsState after
steps_keep_state zero tid s after e h = subst IsState (sym e) h
steps_keep_state (suc n) tid s after p h = steps_keep_state n tid p.0 after p.2 (step_keeps_state s tid p.0 p.1 h)
