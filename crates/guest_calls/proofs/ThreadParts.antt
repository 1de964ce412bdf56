-- Changes of a guest's threads, as changes of its state.
use Rattle.std.proofs.Common.{◌≡◌, ◌≢◌, ◌↔◌, ℕ, ◌≤◌, cond, nat_eq, slice_set, Option, Some, None, sym, ◌∙◌, ap, subst, arith}
use Rattle.std.proofs.lemmas.Bool.Decides.{Decides-eqb}
use Rattle.std.specs.FinMap.{len}
use Rattle.rrv_model.specs.declared.machine.Regs.{Regs}
use Rattle.rrv_model.specs.declared.machine.Thread.{Thread}
use Rattle.rrv_model.specs.State.{State, thread_at, with_register, with_thread, IsRunning}
use Rattle.rrv_model.specs.CallRows.{change_thread, ends, leaves}
use Rattle.guest_threads.specs.Threads.{ThreadsValue, alone, thread_map, with_threads, without_thread}
use Rattle.rrv_model.proofs.ThreadRules.{unequal}
use Rattle.guest_calls.proofs.Lift.{changed_there}

-- ---- all threads

abbrev pub AreSameParts : ThreadsValue → ThreadsValue → Type 0
AreSameParts v w =
    (v.version ≡ w.version) × (thread_map v.threads ≡ thread_map w.threads) × (v.waiting ≡ w.waiting) × (v.next_tid ≡ w.next_tid)

pub same_parts : (v w : ThreadsValue) → ((s : State) → with_threads v s ≡ with_threads w s) ↔ AreSameParts v w
same_parts v w = (
  λ h. let e =
      h (alone v) in
      (ap (λ (s : State). s.version) e, ap (λ (s : State). s.threads) e, ap (λ (s : State). s.waiting) e, ap (λ (s : State). s.next_tid) e),
  λ p s i. record s { version = p.0 i; threads = p.1 i; waiting = p.2 i; next_tid = p.3 i },
)

-- ---- one thread

pub running_there : (o : Option Thread) (t : Thread) → o ≡ Some t → t.wait ≡ None → IsRunning o
running_there o t there runs = subst (λ (o : Option Thread). IsRunning o) (sym there) runs

pub set_above_zero : (r value : ℕ) (regs : Regs) → 1 ≤ r →
    (let after : Regs = record regs { registers = slice_set regs.registers r value } in after) ≡ with_register r value regs
set_above_zero r value regs low =
    sym (ap (λ b. cond b regs (record regs { registers = slice_set regs.registers r value })) (unequal r 0 (λ e. omega arith)))

-- registers that are put into a thread change it so
pub regs_changed : (tid : ℕ) (change : Thread → Thread) (s : State) (t : Thread) (regs : Regs) → thread_at s tid ≡ Some t →
    record t { regs = regs } ≡ change t → change_thread tid (λ u. record u { regs = regs }) s ≡ change_thread tid change s
regs_changed tid change s t regs there is =
    changed_there tid (λ u. record u { regs = regs }) s t there ∙ ap (λ (u : Thread). with_thread tid u s) is
    ∙ sym (changed_there tid change s t there)

-- ---- a thread that leaves

abbrev left_with : ℕ → State → State
left_with status rest = cond (nat_eq (len rest.threads) 0) (ends status rest) rest

pub last_left : (tid status : ℕ) (s rest : State) → rest ≡ without_thread tid s → len rest.threads ≡ 0 →
    ends status rest ≡ leaves tid status s
last_left tid status s rest is none =
    sym (ap (λ b. cond b (ends status rest) rest) ((Decides-eqb (len rest.threads) 0).1 none)) ∙ ap (left_with status) is

pub others_left : (tid status : ℕ) (s rest : State) → rest ≡ without_thread tid s → len rest.threads ≢ 0 → rest ≡ leaves tid status s
others_left tid status s rest is some =
    sym (ap (λ b. cond b (ends status rest) rest) (unequal (len rest.threads) 0 some)) ∙ ap (left_with status) is
