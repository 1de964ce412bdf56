-- What the parts of a call leave of a state.
use Rattle.std.proofs.Common.{◌≡◌, ℕ, ◌+◌, ◌^◌, ◌<◌, ◌≤◌, Bool, true, false, cond, not, ◌==◌, if◌then◌else◌, List, [], ◌∷◌, ◌++◌, Option, Some, None, slice_index, refl, sym, subst, ◌∙◌, ap, arith}
use Rattle.std.proofs.lemmas.List.{get_or-set_other}
use Rattle.std.specs.Prelude.{filter, fold}
use Rattle.std.specs.Cmp.{nat_cmp_total}
use Rattle.std.specs.FinMap.{get, len, remove, get-insert, get-remove}
use Rattle.std.specs.Ordering.{nat_cmp, eq_by_cmp}
use Rattle.rrv_model.specs.declared.machine.Thread.{Thread}
use Rattle.rrv_model.specs.declared.machine.FutexWait.{FutexWait}
use Rattle.rrv_model.specs.declared.machine.Version.{Version}
use Rattle.rrv_model.specs.declared.record.Written.{Written}
use Rattle.rrv_model.specs.Memory.{Memory, IsMemory}
use Rattle.rrv_model.specs.State.{State, IsRunning, IsState, IsWait, thread_at, with_thread}
use Rattle.rrv_model.specs.CallRows.{argument, change_thread, child_of, ends, has_flag, leaves, set_register, waiters, waits, wakes, with_memory, woken}
use Rattle.rrv_model.specs.Calls.{results, writes}
use Rattle.rrv_model.proofs.MemoryRules.{AreWritten}
use Rattle.rrv_model.proofs.ThreadRules.{change_is, changed_at, get-changed, same_tid, tied}
use Rattle.rrv_model.proofs.StateRules.{keeps-memory, keeps-break, keeps-clear, keeps-wakes, keeps-waits, keeps-leaves, keeps-ends, keeps-writes, keeps-results}

-- what a thread has in a7
abbrev pub number : Thread → ℕ
number t = slice_index t.regs.registers 17

-- the thread tells this number, or it is gone and the number is that of exit
abbrev pub Has : ℕ → Option Thread → Type 0
Has n None = n ≡ 93
Has n (Some t) = number t ≡ n

-- what stays of a guest through all its run: its version and the break at its opening
abbrev pub fixed : State → Version × ℕ
fixed s = (s.version, s.opening_break)

-- the rules of a state are kept, what is fixed stays, and the thread tells the number that it told
pub record Keeps (n tid : ℕ) (s s' : State) : Type 0 where
  pub rules : IsState s → IsState s'
  pub fixed : fixed s' ≡ fixed s
  pub told : Has n (thread_at s tid) → Has n (thread_at s' tid)

pub nothing_keeps : (n tid : ℕ) (s : State) → Keeps n tid s s
nothing_keeps n tid s = record { rules = λ h. h; fixed = refl; told = λ h. h }

pub both_keep : (n tid : ℕ) (s mid s' : State) → Keeps n tid s mid → Keeps n tid mid s' → Keeps n tid s s'
both_keep n tid s mid s' p q = record {
  rules = λ h. q.rules (p.rules h);
  fixed = q.fixed ∙ p.fixed;
  told = λ h. q.told (p.told h);
}

-- ---- the number of one thread

set_10 : (value : ℕ) (t : Thread) → number (set_register 10 value t) ≡ number t
set_10 value t = get_or-set_other t.regs.registers 10 17 value 0 (λ e. omega (arith, e))

set_2 : (value : ℕ) (t : Thread) → number (set_register 2 value t) ≡ number t
set_2 value t = get_or-set_other t.regs.registers 2 17 value 0 (λ e. omega (arith, e))

set_4 : (value : ℕ) (t : Thread) → number (set_register 4 value t) ≡ number t
set_4 value t = get_or-set_other t.regs.registers 4 17 value 0 (λ e. omega (arith, e))

one_of : (n : ℕ) (b : Bool) (x y : Thread) → number x ≡ n → number y ≡ n → number (if b then x else y) ≡ n
one_of n true x y p q = p
one_of n false x y p q = q

pub child_tells : (t : Thread) → number (child_of t) ≡ number t
child_tells t =
    let zeroed : Thread = set_register 10 0 t in
    let stacked : Thread = if argument t 1 == 0 then zeroed else set_register 2 (argument t 1) zeroed in
    let first : number zeroed ≡ number t = set_10 0 t in
    let second : number stacked ≡ number t = one_of (number t) (argument t 1 == 0) zeroed _ first (set_2 (argument t 1) zeroed ∙ first) in
    one_of (number t) (has_flag (argument t 0) 0x80000) (set_register 4 (argument t 3) stacked) stacked
    (set_4 (argument t 3) stacked ∙ second) second

-- ---- the number of one thread of a state

either_has : (n : ℕ) (b : Bool) (x y : Option Thread) → Has n x → Has n y → Has n (cond b x y)
either_has n true x y p q = p
either_has n false x y p q = q

changed_has : (n w : ℕ) (change : Thread → Thread) → ((t : Thread) → number (change t) ≡ number t) → (o : Option Thread) → Has n o →
    Has n (changed_at w change o)
changed_has n w change same None h = h
changed_has n w change same (Some t) h = same t ∙ h

changing_has : (n tid w : ℕ) (change : Thread → Thread) → ((t : Thread) → number (change t) ≡ number t) → (s : State) →
    Has n (thread_at s tid) →
    Has n (thread_at (change_thread w change s) tid)
changing_has n tid w change same s h =
    subst (λ (o : Option Thread). Has n o)
    (sym (ap (λ (s' : State). get s'.threads tid) (change_is w change s) ∙ get-changed s.threads w change tid))
    (by (eq_by_cmp nat_cmp tid w) refl) where
      by : (b : Bool) → eq_by_cmp nat_cmp tid w ≡ b → Has n (cond b (changed_at w change (get s.threads w)) (get s.threads tid))
      by true e = changed_has n w change same (get s.threads w) (subst (λ k. Has n (get s.threads k)) (same_tid tid w e) h)
      by false e = h

left_has : (n tid : ℕ) (s : State) → n ≡ 93 → Has n (get (remove s.threads tid) tid)
left_has n tid s e =
    subst (λ (o : Option Thread). Has n o)
    (sym (get-remove nat_cmp_total s.threads tid tid ∙ ap (λ (b : Bool). cond b None (get s.threads tid)) (tied tid))) e

-- ---- what changes a state

-- a thread that is changed, but for its a7
pub change_keeps : (n tid w : ℕ) (change : Thread → Thread) (s : State) → ((t : Thread) → number (change t) ≡ number t) →
    (IsState s → IsState (change_thread w change s)) → Keeps n tid s (change_thread w change s)
change_keeps n tid w change s same rules = record {
  rules = rules;
  fixed = ap fixed (change_is w change s);
  told = changing_has n tid w change same s;
}

pub memory_keeps : (n tid : ℕ) (m : Memory) (s : State) → (IsState s → IsMemory m) → Keeps n tid s (with_memory m s)
memory_keeps n tid m s is = record { rules = λ h. keeps-memory m s (is h) h; fixed = refl; told = λ h. h }

pub break_keeps : (n tid : ℕ) (m : Memory) (a : ℕ) (s : State) → (IsState s → IsMemory m) → s.opening_break ≤ a → a ≤ 0x70000000 →
    Keeps n tid s (record s { memory = m; program_break = a })
break_keeps n tid m a s is low high = record {
  rules = λ h. keeps-break a (with_memory m s) low high (keeps-memory m s (is h) h);
  fixed = refl;
  told = λ h. h;
}

pub clear_keeps : (n tid a : ℕ) (s : State) → (IsState s → a < 2 ^ 32) → Keeps n tid s (change_thread tid (λ t. record t { clear = a }) s)
clear_keeps n tid a s low = change_keeps n tid tid (λ t. record t { clear = a }) s (λ t. refl) (λ h. keeps-clear tid a s (low h) h)

woken_told : (n tid : ℕ) (tids : List ℕ) (s : State) → Has n (thread_at s tid) → Has n (thread_at (fold woken s tids) tid)
woken_told n tid [] s h = h
woken_told n tid (w ∷ tids) s h =
    woken_told n tid tids (woken s w)
    (changing_has n tid w (λ t. record t { wait = None }) (λ t. refl) (record s { waiting = filter (λ q. not (q == w)) s.waiting }) h)

pub woken_fixed : (tids : List ℕ) (s : State) → fixed (fold woken s tids) ≡ fixed s
woken_fixed [] s = refl
woken_fixed (w ∷ tids) s =
    woken_fixed tids (woken s w)
    ∙ ap fixed
    (change_is w (λ t. record t { wait = None }) (record s { waiting = filter (λ q. not (q == w)) s.waiting }))

pub wakes_keep : (n tid a count : ℕ) (s : State) → Keeps n tid s (wakes a count s)
wakes_keep n tid a count s = record {
  rules = keeps-wakes a count s;
  fixed = woken_fixed (waiters s a count) s;
  told = woken_told n tid (waiters s a count) s;
}

pub waits_keeps : (n tid : ℕ) (w : FutexWait) (s : State) → IsRunning (thread_at s tid) → (IsState s → IsWait s.version w) →
    Keeps n tid s (waits tid w s)
waits_keeps n tid w s runs is =
    let change : Thread → Thread = λ t. record t { wait = Some w } in
    let listed : State = record s { waiting = s.waiting ++ tid ∷ [] } in
    record {
      rules = λ h. keeps-waits tid w s runs (is h) h;
      fixed = ap fixed (change_is tid change listed);
      told = changing_has n tid tid change (λ t. refl) listed;
    }

pub ends_keeps : (n tid status : ℕ) (s : State) → Keeps n tid s (ends status s)
ends_keeps n tid status s = record { rules = keeps-ends status s; fixed = refl; told = λ h. h }

either_left : (n tid : ℕ) (b : Bool) (x y s : State) → (fixed x ≡ fixed s) × Has n (thread_at x tid) →
    (fixed y ≡ fixed s) × Has n (thread_at y tid) →
    (fixed (if b then x else y) ≡ fixed s) × Has n (thread_at (if b then x else y) tid)
either_left n tid true x y s p q = p
either_left n tid false x y s p q = q

-- the thread is gone, so the number is that of exit
pub leaves_keeps : (n tid status : ℕ) (s : State) → IsRunning (thread_at s tid) → n ≡ 93 → Keeps n tid s (leaves tid status s)
leaves_keeps n tid status s runs exits =
    let rest : State = record s { threads = remove s.threads tid } in
    let left = either_left n tid (len rest.threads == 0) (ends status rest) rest s (refl, left_has n tid s exits)
    (refl, left_has n tid s exits) in
    record { rules = keeps-leaves tid status s runs; fixed = left.0; told = λ _. left.1 }

-- a new thread tells the same number
pub spawn_keeps : (n tid next : ℕ) (t : Thread) (s : State) → number t ≡ n →
    (IsState s → IsState (with_thread next t (record s { next_tid = next + 1 }))) →
    Keeps n tid s (with_thread next t (record s { next_tid = next + 1 }))
spawn_keeps n tid next t s same rules = record {
  rules = rules;
  fixed = refl;
  told = λ h. subst (λ (o : Option Thread). Has n o) (sym (get-insert nat_cmp_total s.threads next t tid))
      (either_has n (eq_by_cmp nat_cmp tid next) (Some t) (get s.threads tid) same h);
}

-- what is written goes to memory, and the result to a0
pub answer_keeps : (n tid value : ℕ) (written : List Written) (s s' : State) → (IsState s → value < 2 ^ 32) → AreWritten written →
    Keeps n tid s s' → Keeps n tid s (results tid value (writes written s'))
answer_keeps n tid value written s s' low small keeps =
    let mid : State = writes written s' in
    record {
      rules = λ h. keeps-results tid value mid (low h) (keeps-writes written s' small (keeps.rules h));
      fixed = ap fixed (change_is tid (set_register 10 value) mid) ∙ keeps.fixed;
      told = λ h. changing_has n tid tid (set_register 10 value) (set_10 value) mid (keeps.told h);
    }

pub written_keeps : (n tid : ℕ) (written : List Written) (s s' : State) → AreWritten written → Keeps n tid s s' →
    Keeps n tid s (writes written s')
written_keeps n tid written s s' small keeps = record {
  rules = λ h. keeps-writes written s' small (keeps.rules h);
  fixed = keeps.fixed;
  told = keeps.told;
}
