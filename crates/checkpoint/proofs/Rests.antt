-- What a checkpoint says of threads has a text.
use Rattle.std.proofs.Common.{◌≡◌, ◌∙◌, ℕ, ◌^◌, ◌<◌, ◌≤◌, List, [], ◌∷◌, get_or, Option, Some, None, IfSome, ap, sym, subst, arith}
use Rattle.std.proofs.lemmas.List.Elements.{All-contains_itself, recursion_from_All}
use Rattle.std.specs.FinMap.{get}
use Rattle.std.specs.List.{AllByRecursion}
use Rattle.rrv_model.specs.declared.machine.Thread.{Thread}
use Rattle.rrv_model.specs.declared.machine.FutexWait.{FutexWait}
use Rattle.rrv_model.specs.declared.machine.Timeout.{Timeout}
use Rattle.rrv_model.specs.declared.machine.Version.{Version}
use Rattle.rrv_model.specs.declared.machine.Version.TheVariants.{One, Two}
use Rattle.rrv_model.specs.declared.record.ThreadPart.{ThreadPart}
use Rattle.rrv_model.specs.RecordText.{HasRestText, HasThreadText, HasTimeoutText, HasWaitText}
use Rattle.rrv_model.specs.State.{State, IsTimeout, IsWait, IsWaiting, live_threads}
use Rattle.guest_threads.specs.ThreadParts.{Fits, MakeThreads, entries_of, with_parts}
use Rattle.guest_threads.specs.Threads.{ThreadsValue, thread_map, with_threads}
use Rattle.guest_threads.proofs.ThreadsOfParts.{all_fit, few, few_wait}
use Rattle.guest_calls.specs.Guest.{GuestValue, state_of}
use Rattle.checkpoint.specs.Made.{IsRestOf}

timeout_text : (v : Version) (o : Option Timeout) → IfSome o (IsTimeout v) → IfSome o HasTimeoutText
timeout_text v None h = tt
timeout_text v (Some t) h = record { seconds = omega (arith, h.seconds); nanoseconds = omega (arith, h.nanoseconds) }

wait_text : (v : Version) (o : Option FutexWait) → IfSome o (IsWait v) → IfSome o HasWaitText
wait_text v None h = tt
wait_text v (Some w) h = record { address = h.address; timeout = timeout_text v w.timeout h.timeout }

few_at_once : (v : Version) → live_threads v ≤ 64
few_at_once One = omega arith
few_at_once Two = omega arith

thread_texts : (v : Version) (parts : List ThreadPart) (order : List ℕ) (next : ℕ) → next ≤ 2 ^ 31 →
    AllByRecursion (Fits v order next) parts → AllByRecursion HasThreadText parts
thread_texts v [] order next low h = tt
thread_texts v (p ∷ parts) order next low h = (
  record {
    tid = omega (arith, low, h.0.tid.1);
    pc = h.0.thread.regs.pc;
    registers = (h.0.thread.regs.registers.0, recursion_from_All (λ n. n < 2 ^ 32) p.thread.regs.registers h.0.thread.regs.registers.1);
    x0 = h.0.thread.regs.zero;
    waits = wait_text v p.thread.wait h.0.thread.waits;
    clear = h.0.thread.clear;
  },
  thread_texts v parts order next low h.1,
)

low_tid : (o : Option Thread) (q next : ℕ) → next ≤ 2 ^ 31 → IsWaiting o → IfSome o (λ _. (1 ≤ q) × (q < next)) → q < 2 ^ 32
low_tid None q next low waits h = absurd waits
low_tid (Some t) q next low waits h = omega (arith, low, h.1)

rest_text : (v : Version) (parts : List ThreadPart) (order : List ℕ) (next end : ℕ) → MakeThreads v parts order next → end ≤ 0x70000000 →
    HasRestText (record { program_break = end; next_tid = next; threads = parts; waiting = order })
rest_text v parts order next end h high = record {
  program_break = omega (arith, high);
  next_tid = omega (arith, h.rules.next_tid);
  few = omega (arith, few v parts order next h, few_at_once v);
  rising = h.tids_rising;
  threads = thread_texts v parts order next h.rules.next_tid (all_fit v parts order next h);
  waiting = omega (arith, few_wait v parts order next h, few_at_once v);
  tids = recursion_from_All (λ n. n < 2 ^ 32) order (λ k d below.
      let q = get_or order k d in
      low_tid (get (thread_map (entries_of parts)) q) q next h.rules.next_tid ((h.rules.waiting q).0 (All-contains_itself order k d below))
      (h.rules.tids q));
}

-- the rest that is told of a guest's threads
pub rest_is : (g : GuestValue) (v : ThreadsValue) (parts : List ThreadPart) (order : List ℕ) (end next : ℕ) → v ≡ g.threads →
    order ≡ v.waiting → next ≡ v.next_tid →
    end ≡ g.program_break → end ≤ 0x70000000 → MakeThreads v.version parts v.waiting v.next_tid →
    ((s : State) → with_parts v.version parts v.waiting v.next_tid s ≡ with_threads v s) →
    IsRestOf (state_of g) (record { program_break = end; next_tid = next; threads = parts; waiting = order })
rest_is g v parts order end next same order_is next_is end_is high make told = record {
  text = subst (λ (o : List ℕ). HasRestText (record { program_break = end; next_tid = next; threads = parts; waiting = o })) (sym order_is)
      (subst (λ n. HasRestText (record { program_break = end; next_tid = n; threads = parts; waiting = v.waiting })) (sym next_is)
      (rest_text v.version parts v.waiting v.next_tid end make high));
  program_break = end_is;
  next_tid = next_is ∙ ap (λ (w : ThreadsValue). w.next_tid) same;
  waiting = order_is ∙ ap (λ (w : ThreadsValue). w.waiting) same;
  threads = ap (λ (s : State). s.threads) (told (state_of g)) ∙ ap (λ (w : ThreadsValue). thread_map w.threads) same;
}
