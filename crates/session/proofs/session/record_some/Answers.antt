use Rattle.std.proofs.Common.{rules, arith, ◌≡◌, [], ◌++◌, length, false, sym, ap, ◌∙◌, subst}
use Rattle.std.specs.Prelude.{slice_get, Err, IfErr, Option, Result, Some}
use Rattle.std.proofs.lemmas.List.{length-map}
use Rattle.commit_group.specs.Seats.{AllNew, AllOf, GroupId}
use Rattle.commit_group.specs.declared.fault.FlushFault.{FlushFault}
use Rattle.commit_group.specs.declared.fault.FlushFault.TheVariants as flushes
use Rattle.trace_log.specs.Kept.{LogValue}
use Rattle.faults.specs.declared.session.SessionFault.{SessionFault}
use Rattle.session.specs.declared.report.SessionReport.{SessionReport}
use Rattle.session.specs.Faults.{IsLowest, flusher_met}
use Rattle.session.specs.Gains.{IsLeftBy}
use Rattle.std.specs.List.{AllByRecursion}
use Rattle.session.specs.Openings.{StartsGuest}
use Rattle.session.specs.Tasks.{faults_met}
use Rattle.session.specs.Works.{HasWorked}
use Rattle.session.specs.Sessions.{HasRun}
use Rattle.session.proofs.Pairs.{pairs_length}
use Rattle.session.proofs.Recorded.{all_numbered}
use Rattle.session.proofs.Refusals.{lowest_tells}
use Rattle.faults.specs.declared.session.SessionFault.TheVariants as faults
use Rattle.session.proofs.Told.{device_told, none_meets, other_than_sink, sinks_err, sinks_ok, sinks_rest, steady_where_none}
use Rattle.session.proofs.Sessions.{AreJoined, flusher_met_none, has_left, has_reported, has_run, lacks_none, nothing_ran, tells_alone, tells_first}
use Rattle.session.proofs.Tasks.{all_fresh, all_of}
use Rattle.session.proofs.session.record_some.Given.{Over}
use Rattle.session.proofs.session.record_some.Goals.{After-end}
use Rattle.session.proofs.session.record_some.Goals as goal

pub returns-in_default-clause-recorded : goal.returns-in_default-clause-recorded
returns-in_default-clause-recorded g c = (
  [],
  nothing_ran g.D.Disk g.C.Chooser g.S.Sink c.args.log c.args.jobs.items,
  tt,
  tells_alone g.D.Disk g.C.Chooser g.S.Sink SessionReport faults.Memory tt c.args.log.next_guest c.args.jobs.items,
)

pub run-done-requires-after_bounds : goal.run-done-requires-after_bounds
run-done-requires-after_bounds g c κs within =
    let h = c.in-Ok.ensures in
    let len : length c.give.new.tasks.items ≡ length c.in-Ok.room.seats.items =
    sym (length-map c.give.new.tasks.items (λ task. task.seat)) ∙ ap length c.give.ensures.seats in
    let count = h.count in record {
      fresh = all_fresh c.in-Ok.room.flusher.group c.give.new.tasks.items
          (subst (λ l. AllNew c.in-Ok.room.flusher.group l) (sym c.give.ensures.seats) h.seats)
          (subst (λ l. AllByRecursion StartsGuest l) (sym c.give.ensures.jobs) c.requires.starts);
      no_workers = h.workers.0;
      room = (let r = h.workers.1 in omega arith);
      none_done = h.done.0;
      space = (let r = h.done.1 in omega arith);
      whole = c.requires.whole;
      numbers = (let r = c.requires.numbers in let q = h.guests_are in let e = c.len.ensures in search rules);
    }

pub take_back-requires : goal.take_back-requires
take_back-requires g c =
    let h = c.in-Ok.ensures in
    let T = c.give.new.tasks.items in
    let Z = c.run-done.result.0.items in
    let new = subst (λ l. AllNew c.in-Ok.room.flusher.group l) (sym c.give.ensures.seats) h.seats in
    let len : length T ≡ length c.in-Ok.room.seats.items = sym (length-map T (λ task. task.seat)) ∙ ap length c.give.ensures.seats in
    let same = pairs_length (HasWorked g.C.Chooser g.S.Sink) T Z c.run-done.ensures.works in
    let count = h.count in
    let jobs : length T ≡ length c.args.jobs.items = sym (length-map T (λ task. task.job)) ∙ ap length c.give.ensures.jobs in
    let numbers = c.requires.numbers in
    let first = c.next_guest-first.ensures in
    record {
      numbers = all_numbered c.next_guest-first.result 0 Z
          (λ k r at. (all_of g.C.Chooser g.S.Sink c.in-Ok.room.flusher.group T Z new c.run-done.ensures.works k r at).1 ∙ omega arith)
          (omega arith);
      seats = (h.seats_back.0, (let room = h.seats_back.1 in omega arith));
      jobs = (h.jobs_back.0, (let room = h.jobs_back.1 in omega arith));
      reports = (h.reports.0, (let room = h.reports.1 in omega arith));
      states = (h.states.0, (let room = h.states.1 in omega arith));
    }

pub end-requires-clause-count : goal.end-requires-clause-count
end-requires-clause-count g c =
    let h = c.in-Ok.ensures in
    let len : length c.give.new.tasks.items ≡ length c.in-Ok.room.seats.items =
    sym (length-map c.give.new.tasks.items (λ task. task.seat)) ∙ ap length c.give.ensures.seats in
    let same = pairs_length (HasWorked g.C.Chooser g.S.Sink) c.give.new.tasks.items c.run-done.result.0.items c.run-done.ensures.works in
    let count = h.count in
    ap length c.take_back.ensures.seats ∙ length-map c.run-done.result.0.items (λ worked. worked.seat) ∙ sym same ∙ len ∙ h.count
    ∙ sym h.guests_are
    ∙ ap (λ (gr : GroupId). gr.guests) (sym c.run-done.ensures.flushed.group)

pub end-requires-clause-of_group : goal.end-requires-clause-of_group
end-requires-clause-of_group g c =
    let h = c.in-Ok.ensures in
    let new = subst (λ l. AllNew c.in-Ok.room.flusher.group l) (sym c.give.ensures.seats) h.seats in
    let all = all_of g.C.Chooser g.S.Sink c.in-Ok.room.flusher.group c.give.new.tasks.items c.run-done.result.0.items new
    c.run-done.ensures.works in
    subst (λ gr. AllOf gr c.take_back.new.seats.items) (sym c.run-done.ensures.flushed.group)
    (subst (λ l. AllOf c.in-Ok.room.flusher.group l) (sym c.take_back.ensures.seats) all)

-- the seats that came back are those of the group, and what came of them is joined
joins : (g : Over) (c : After-end g) → AreJoined g.C.Chooser g.S.Sink g.D.Disk c.in-Ok.room.flusher.group c.in-Ok.room.flusher
    c.run-done.result.1 c.args.log c.run-done.result.2 c.run-done.result.3 c.give.new.tasks.items c.run-done.result.0.items
joins g c =
    let h = c.in-Ok.ensures in
    let T = c.give.new.tasks.items in
    let Z = c.run-done.result.0.items in
    let same = pairs_length (HasWorked g.C.Chooser g.S.Sink) T Z c.run-done.ensures.works in
    let len : length T ≡ length c.in-Ok.room.seats.items = sym (length-map T (λ task. task.seat)) ∙ ap length c.give.ensures.seats in
    record {
      new = h.flusher;
      seats = subst (λ l. AllNew c.in-Ok.room.flusher.group l) (sym c.give.ensures.seats) h.seats;
      works = c.run-done.ensures.works;
      flusher = c.run-done.ensures.flushed;
      count = length-map Z (λ worked. worked.seat) ∙ sym same ∙ len ∙ h.count ∙ sym h.guests_are
          ∙ ap (λ (gr : GroupId). gr.guests) (sym c.run-done.ensures.flushed.group);
      placed = c.end.ensures.placed;
      each = λ k r at. (_, _, _, c.end.ensures.each k r (ap (λ l. slice_get l k) c.take_back.ensures.seats ∙ at));
    }

runs : (g : Over) (c : After-end g) → HasRun g.C.Chooser g.S.Sink g.D.Disk c.run-done.result.1.committed c.args.log c.run-done.result.2
    c.args.jobs.items c.take_back.new.jobs.items
runs g c =
    has_run g.C.Chooser g.S.Sink g.D.Disk c.in-Ok.room.flusher.group c.in-Ok.room.flusher c.run-done.result.1 c.args.log
    c.run-done.result.2 c.run-done.result.3 c.give.new.tasks.items c.run-done.result.0.items c.args.jobs.items
    c.take_back.new.jobs.items (joins g c) c.give.ensures.jobs c.take_back.ensures.jobs

pub returns-in-Some-clause-recorded : goal.returns-in-Some-clause-recorded
returns-in-Some-clause-recorded g c =
    let T = c.give.new.tasks.items in
    let Z = c.run-done.result.0.items in
    let group = c.in-Ok.room.flusher.group in
    let joined = joins g (goal.at.returns-in-Some-clause-recorded g c).After-end in
    let run = runs g (goal.at.returns-in-Some-clause-recorded g c).After-end in
    let jobs : length T ≡ length c.args.jobs.items = sym (length-map T (λ task. task.job)) ∙ ap length c.give.ensures.jobs in
    let r = c.requires.numbers in
    let same = pairs_length (HasWorked g.C.Chooser g.S.Sink) T Z c.run-done.ensures.works in
    let met = flusher_met c.run-done.result.3 in
    let lowest =
    subst (λ l. IsLowest (met ++ faults_met l) (Some c.in-Some.fault)) c.deref.ensures.value
    (subst (λ (o : Option SessionFault). IsLowest (met ++ faults_met c.deref.result.now) o) c.in-Some.is
    c.lowest_fault-lowest.ensures) in (
      c.run-done.result.1.committed,
      run,
      tt,
      tells_first g.C.Chooser g.S.Sink g.D.Disk group c.in-Ok.room.flusher c.run-done.result.1 c.args.log c.run-done.result.2
          c.run-done.result.3 T Z SessionReport (Err c.in-Some.fault) c.args.jobs.items
          c.take_back.new.jobs.items joined c.give.ensures.jobs c.take_back.ensures.jobs (omega arith) lowest,
    )

pub returns-clause-recorded : goal.returns-clause-recorded
returns-clause-recorded g c =
    let T = c.give.new.tasks.items in
    let Z = c.run-done.result.0.items in
    let group = c.in-Ok.room.flusher.group in
    let joined = joins g (goal.at.returns-clause-recorded g c).After-end in
    let run = runs g (goal.at.returns-clause-recorded g c).After-end in
    let jobs : length T ≡ length c.args.jobs.items = sym (length-map T (λ task. task.job)) ∙ ap length c.give.ensures.jobs in
    let r = c.requires.numbers in
    let same = pairs_length (HasWorked g.C.Chooser g.S.Sink) T Z c.run-done.ensures.works in
    let met = flusher_met c.run-done.result.3 in
    let none : met ++ faults_met Z ≡ [] = ap (λ l. met ++ faults_met l) (sym c.deref.ensures.value)
    ∙ subst (λ (o : Option SessionFault). IsLowest (met ++ faults_met c.deref.result.now) o) c.in_default-lowest.is
    c.lowest_fault-lowest.ensures in (
      c.run-done.result.1.committed,
      run,
      (
        has_reported g.C.Chooser g.S.Sink g.D.Disk group c.in-Ok.room.flusher c.run-done.result.1 c.args.log c.run-done.result.2
            c.run-done.result.3 T Z c.args.jobs.items c.take_back.new.jobs.items
            c.next_guest-first.result c.take_back.new.reports.items joined c.give.ensures.jobs c.take_back.ensures.jobs
            c.next_guest-first.ensures c.take_back.ensures.reports none (omega arith),
        has_left g.C.Chooser g.S.Sink g.D.Disk group c.in-Ok.room.flusher c.run-done.result.1 c.args.log c.run-done.result.2
            c.run-done.result.3 T Z c.take_back.new.jobs.items c.take_back.new.states.items
            joined c.take_back.ensures.jobs c.take_back.ensures.states none,
      ),
      tells_first g.C.Chooser g.S.Sink g.D.Disk group c.in-Ok.room.flusher c.run-done.result.1 c.args.log c.run-done.result.2
          c.run-done.result.3 T Z SessionReport _ c.args.jobs.items
          c.take_back.new.jobs.items joined c.give.ensures.jobs c.take_back.ensures.jobs (omega arith) none,
    )

-- a flusher that lacks the Mark leaves a log without it
unmarked_by : {D : Type 0} (log : LogValue D) (flushed : Result Unit FlushFault) → flushed ≡ Err flushes.NeedsMark →
    IfErr flushed (IsLeftBy log) → log.marked ≡ false
unmarked_by log flushed told left = (subst (λ r. IfErr r (IsLeftBy log)) told left).1

pub returns-in-Some-clause-refused : goal.returns-in-Some-clause-refused
returns-in-Some-clause-refused g c =
    let T = c.give.new.tasks.items in
    let Z = c.run-done.result.0.items in
    let f = c.run-done.ensures.flushed in
    let met = flusher_met c.run-done.result.3 in
    lowest_tells g.C.Chooser g.S.Sink c.args.log c.run-done.result.2 c.args.jobs c.take_back.new.jobs c.in-Ok.room.flusher.group
    c.run-done.result.3 T Z c.in-Some.fault f.refused f.whole
    (λ left told. lacks_none g.C.Chooser g.S.Sink g.D.Disk c.in-Ok.room.flusher.group c.in-Ok.room.flusher c.run-done.result.1 c.args.log
    c.run-done.result.2 c.run-done.result.3 T Z c.args.jobs.items c.take_back.new.jobs.items
    (joins g (goal.at.returns-in-Some-clause-refused g c).After-end) c.give.ensures.jobs c.take_back.ensures.jobs
    (c.requires.marked (sym f.marked ∙ unmarked_by c.run-done.result.2 c.run-done.result.3 told left)) told)
    (subst (λ l. AllNew c.in-Ok.room.flusher.group l) (sym c.give.ensures.seats) c.in-Ok.ensures.seats) c.run-done.ensures.works
    (sym (length-map T (λ task. task.job)) ∙ ap length c.give.ensures.jobs)
    (subst (λ l. IsLowest (met ++ faults_met l) (Some c.in-Some.fault)) c.deref.ensures.value
    (subst (λ (o : Option SessionFault). IsLowest (met ++ faults_met c.deref.result.now) o) c.in-Some.is c.lowest_fault-lowest.ensures))

pub returns-clause-whole : goal.returns-clause-whole
returns-clause-whole g c =
    let rest = faults_met c.deref.result.now in
    let none = subst (λ (o : Option SessionFault). IsLowest (flusher_met c.run-done.result.3 ++ rest) o) c.in_default-lowest.is
    c.lowest_fault-lowest.ensures in
    (flusher_met_none c.run-done.result.3 rest _ none c.run-done.ensures.flushed.whole).0

pub returns-in_default-clause-sinks : goal.returns-in_default-clause-sinks
returns-in_default-clause-sinks g c = sinks_rest g.S.Sink _ c.args.jobs.items (other_than_sink faults.Memory (λ e. omega (arith, e)))

pub returns-in-Some-clause-disk : goal.returns-in-Some-clause-disk
returns-in-Some-clause-disk g c =
    let met = flusher_met c.run-done.result.3 in
    let lowest =
    subst (λ l. IsLowest (met ++ faults_met l) (Some c.in-Some.fault)) c.deref.ensures.value
    (subst (λ (o : Option SessionFault). IsLowest (met ++ faults_met c.deref.result.now) o) c.in-Some.is
    c.lowest_fault-lowest.ensures) in
    device_told c.run-done.result.3 (faults_met c.run-done.result.0.items) _ _ c.run-done.ensures.flushed.disk
    (none_meets g.C.Chooser g.S.Sink c.give.new.tasks.items c.run-done.result.0.items c.run-done.ensures.works) SessionReport
    c.in-Some.fault lowest

pub returns-clause-disk : goal.returns-clause-disk
returns-clause-disk g c =
    let rest = faults_met c.deref.result.now in
    let none = subst (λ (o : Option SessionFault). IsLowest (flusher_met c.run-done.result.3 ++ rest) o) c.in_default-lowest.is
    c.lowest_fault-lowest.ensures in
    steady_where_none c.run-done.result.3 rest _ _ c.run-done.ensures.flushed.disk none

pub returns-in-Some-clause-sinks : goal.returns-in-Some-clause-sinks
returns-in-Some-clause-sinks g c =
    let met = flusher_met c.run-done.result.3 in
    let group = c.in-Ok.room.flusher.group in
    let lowest =
    subst (λ l. IsLowest (met ++ faults_met l) (Some c.in-Some.fault)) c.deref.ensures.value
    (subst (λ (o : Option SessionFault). IsLowest (met ++ faults_met c.deref.result.now) o) c.in-Some.is
    c.lowest_fault-lowest.ensures) in
    sinks_err g.C.Chooser g.S.Sink group c.give.new.tasks.items c.run-done.result.0.items
    (subst (λ l. AllNew group l) (sym c.give.ensures.seats) c.in-Ok.ensures.seats) c.run-done.ensures.works
    c.run-done.result.3 c.args.jobs.items c.take_back.new.jobs.items c.give.ensures.jobs c.take_back.ensures.jobs c.in-Some.fault lowest _

pub returns-clause-sinks : goal.returns-clause-sinks
returns-clause-sinks g c =
    let Z = c.run-done.result.0.items in
    let met = flusher_met c.run-done.result.3 in
    let group = c.in-Ok.room.flusher.group in
    let none : met ++ faults_met Z ≡ [] = ap (λ l. met ++ faults_met l) (sym c.deref.ensures.value)
    ∙ subst (λ (o : Option SessionFault). IsLowest (met ++ faults_met c.deref.result.now) o) c.in_default-lowest.is
    c.lowest_fault-lowest.ensures in
    sinks_ok g.C.Chooser g.S.Sink group c.give.new.tasks.items Z
    (subst (λ l. AllNew group l) (sym c.give.ensures.seats) c.in-Ok.ensures.seats) c.run-done.ensures.works
    c.run-done.result.3 c.args.jobs.items c.take_back.new.jobs.items c.give.ensures.jobs c.take_back.ensures.jobs none _ _
