use Rattle.std.proofs.Common.{◌∙◌, ◌<◌, ◌≤◌, ℕ, List, Some, None, true, ap, append-nil, refl, rules, subst, sym, arith}
use Rattle.std.proofs.lemmas.Grind.{put_two}
use Rattle.std.specs.Prelude.{flat_map}
use Rattle.std.specs.Fmt.{HasWritten}
use Rattle.std.specs.FinMap.{entries}
use Rattle.rrv_model.specs.declared.machine.Thread.{Thread}
use Rattle.guest_threads.specs.Threads.{thread_map}
use Rattle.trace_text.proofs.Tids.{below, below_end, below_more, below_start}
use Rattle.trace_text.proofs.each_thread.write_each.Goals.{in-Some+in_ok-write, in_default}
use Rattle.trace_text.proofs.each_thread.write_each.Goals as goal

-- the text of an entry
abbrev of : (ℕ → Thread → List ℕ) → ℕ × Thread → List ℕ
of text e = text e.0 e.1

-- the tids of a guest's threads
abbrev IsTid : ℕ → ℕ → Type 0
IsTid next tid = (1 ≤ tid) × (tid < next)

pub loop-tid-init : goal.loop-tid-init
loop-tid-init g c =
    let threads = c.args.threads.now in
    rw (below_start (IsTid threads.next_tid) 1 (thread_map threads.threads) (λ tid is. is.0) c.live.ensures.rules.tids) (search rules)

pub loop-tid-preserved : goal.loop-tid-preserved
loop-tid-preserved g c plain =
    let m = thread_map c.args.threads.now.threads in
    let n = c.loop-tid.tid in
    let lines = of g.T.ThreadText.text in
    let before = flat_map lines (below n (entries m)) in
    let so_far = c.loop-tid.invariant plain in
    elim c.match-get.branch [
      | in-Some+in_ok-write w ↦
          rw w.f-is (put_two g.W.Write.write_str_gives _ _ _ before (g.T.ThreadText.text n w.in-Some.thread) _ so_far
          (w.in_ok-write.ensures so_far.plain (refl {a = true}))
          (sym (below_more lines n m (Some w.in-Some.thread) (sym c.get.ensures.value ∙ w.in-Some.is))))
      | in_default w ↦
          rw w.f-is (subst (λ (text : List ℕ). HasWritten g.W.Write.write_str_gives c.args.f.now text c.loop-tid.f)
          (sym (below_more lines n m None (sym c.get.ensures.value ∙ w.in_default.is) ∙ append-nil before)) so_far)
    ]

pub returns : goal.returns
returns g c plain ok =
    let threads = c.args.threads.now in
    let end : threads.next_tid ≤ c.loop-tid.tid = omega (arith, c.loop-tid-test.false, c.next_tid-tid-end.ensures) in
    subst (λ (text : List ℕ). HasWritten g.W.Write.write_str_gives c.args.f.now text c.loop-tid.f)
    (ap (flat_map (of g.T.ThreadText.text))
    (below_end (IsTid threads.next_tid) c.loop-tid.tid (thread_map threads.threads) (λ tid is. omega (arith, end, is.1))
    c.live.ensures.rules.tids))
    (c.loop-tid.invariant plain)
