use Rattle.std.proofs.Common.{◌≡◌, ℕ, List, ap, sym, subst}
use Rattle.std.specs.FinMap.{from_entries}
use Rattle.rrv_model.specs.declared.machine.Thread.{Thread}
use Rattle.rrv_model.specs.State.{State, AreThreads}
use Rattle.guest_threads.specs.ThreadParts.{with_parts, MakeThreads}
use Rattle.guest_threads.specs.Threads.{ThreadsValue, thread_map, with_threads}
use Rattle.guest_threads.proofs.ThreadsOfParts.{told_rising}
use Rattle.guest_threads.proofs.threads.Threads.to_parts.Goals as goal

pub returns-clause-told : goal.returns-clause-told
returns-clause-told c = λ s.
    let parts = c.in_ok-parts.parts.items in
    subst (λ (v : ThreadsValue). with_parts v.version parts v.waiting v.next_tid s ≡ with_threads v s) c.self.view_is
    (ap (λ (es : List (ℕ × Thread)). let new : State = record s {
      version = c.self.inside.version;
      threads = from_entries es;
      waiting = c.self.inside.waiting.items;
      next_tid = c.self.inside.next_tid;
    } in new) c.in_ok-parts.ensures)

pub returns-clause-rules : goal.returns-clause-rules
returns-clause-rules c =
    let parts = c.in_ok-parts.parts.items in
    let es = c.self.inside.threads.entries in
    subst (λ (v : ThreadsValue). MakeThreads v.version parts v.waiting v.next_tid) c.self.view_is (record {
      tids_rising = told_rising parts es c.in_ok-parts.ensures c.len-ordered.ensures.ordered;
      rules = subst
          (λ (entries : List (ℕ × Thread)). AreThreads c.self.inside.version (thread_map entries) c.self.inside.waiting.items
          c.self.inside.next_tid) (sym c.in_ok-parts.ensures) c.self.invariant;
    })
