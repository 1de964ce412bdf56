use Rattle.std.proofs.Common.{rules, arith, ◌≡◌, inl, inr, refl, sym, ap, ◌∙◌, length}
use Rattle.std.specs.Iterator.Adapters.{zip_first, zip_second}
use Rattle.std.specs.Vec.Iter.{into_iter_items, into_iter_len}
use Rattle.session.specs.Tasks.{jobs_of, seats_of}
use Rattle.session.proofs.Pairs.{none_left}
use Rattle.session.proofs.Tasks.{all_passed, one_passed}
use Rattle.session.proofs.hand_over.give.Goals as goal

pub loop-seat-preserved : goal.loop-seat-preserved
loop-seat-preserved g c =
    let was = c.loop-seat.invariant in
    let seat = c.in-Some.ensures.steps.0 in
    let job = c.in-Some.ensures.steps.1 in
    let seats = ap length seat.0 in
    let jobs = ap length job.0 in (
      one_passed (λ task. task.seat) c.loop-seat.tasks.items c.push_reserved.new.self.items
          (record { seat = c.in-Some.seat; job = c.in-Some.job })
          (into_iter_items (zip_first c.loop-seat.seat-iterator)) (into_iter_items (zip_first c.next.new.self)) c.args.seats.items was.0
          seat.0
          c.push_reserved.ensures.items,
      one_passed (λ task. task.job) c.loop-seat.tasks.items c.push_reserved.new.self.items
          (record { seat = c.in-Some.seat; job = c.in-Some.job })
          (into_iter_items (zip_second c.loop-seat.seat-iterator)) (into_iter_items (zip_second c.next.new.self)) c.args.jobs.items was.1
          job.0
          c.push_reserved.ensures.items,
      omega arith,
      omega arith,
      omega arith,
      search rules,
    )

pub returns-clause-seats : goal.returns-clause-seats
returns-clause-seats g c =
    let was = c.loop-seat.invariant in
    let ended : into_iter_len (zip_first c.loop-seat.seat-iterator) ≡ 0 =
    elim c.in-None.ensures.steps [ inl first ↦ first.1.0 | inr second ↦ sym was.4 ∙ second.1.0 ] in
    all_passed (λ seats. seats) refl (seats_of c.loop-seat.tasks.items) (into_iter_items (zip_first c.loop-seat.seat-iterator))
    c.args.seats.items was.0
    (none_left _ (was.2 ∙ ended))

pub returns-clause-jobs : goal.returns-clause-jobs
returns-clause-jobs g c =
    let was = c.loop-seat.invariant in
    let ended : into_iter_len (zip_second c.loop-seat.seat-iterator) ≡ 0 =
    elim c.in-None.ensures.steps [ inl first ↦ was.4 ∙ first.1.0 | inr second ↦ second.1.0 ] in
    all_passed (λ jobs. jobs) refl (jobs_of c.loop-seat.tasks.items) (into_iter_items (zip_second c.loop-seat.seat-iterator))
    c.args.jobs.items was.1
    (none_left _ (was.3 ∙ ended))
