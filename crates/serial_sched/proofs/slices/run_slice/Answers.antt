use Rattle.std.proofs.Common.{inl, refl, sym, ◌∙◌, ap, subst, arith}
use Rattle.rrv_model.specs.State.{thread_at, IsRunning}
use Rattle.guest_calls.specs.Guest.{GuestValue, state_of, chunks_of}
use Rattle.guest_calls.specs.Runs.{before_call}
use Rattle.serial_sched.proofs.SliceLaws.{call_running, call_runs_on, limit_slice, call_slice, fault_slice, stops_short, call_stops_short}
use Rattle.serial_sched.proofs.slices.run_slice.Goals as goal

pub call-requires-clause-running : goal.call-requires-clause-running
call-requires-clause-running g c =
    let p = rw c.in-Call.is at c.run_thread-run.ensures.runs in
    call_running c.args.choice.quantum c.args.choice.tid c.run_thread-run.result.count (state_of c.args.guest.now)
    (state_of c.run_thread-run.new.self) p

pub call-requires-clause-runs : goal.call-requires-clause-runs
call-requires-clause-runs g c =
    let p = rw c.in-Call.is at c.run_thread-run.ensures.runs in
    call_runs_on c.args.choice.quantum c.args.choice.tid c.run_thread-run.result.count (state_of c.args.guest.now)
    (state_of c.run_thread-run.new.self) p c.requires.runs

pub take_back-requires : goal.take_back-requires
take_back-requires g c =
    let p = rw c.in-Call.is at c.run_thread-run.ensures.runs in
    subst (λ (v : GuestValue). IsRunning (thread_at (state_of v) c.args.choice.tid)) (sym c.in-Err.ensures.refused)
    (call_running c.args.choice.quantum c.args.choice.tid c.run_thread-run.result.count (state_of c.args.guest.now)
    (state_of c.run_thread-run.new.self) p)

-- ---- slices

pub returns-in-Limit-clause-is_slice : goal.returns-in-Limit-clause-is_slice
returns-in-Limit-clause-is_slice g c =
    let p = rw c.in-Limit.is at c.run_thread-run.ensures.runs in
    limit_slice g.O.Outside.gives c.args.guest.now c.closed_frame.new.guest c.args.choice c.args.outside.now c.args.outside.now c.requires
    c.closed_frame.result c.run_thread-run.result.count c.run_thread-run.new.self c.closed_frame.ensures.frame p.0 p.1
    c.closed_frame.ensures.closes
    (record {
      ran = c.run_thread-run.ensures.ran;
      put = c.run_thread-run.ensures.keeps.put;
      snapshots = c.run_thread-run.ensures.keeps.snapshots;
      environment = refl;
    })

pub returns-in-Ok-clause-is_slice : goal.returns-in-Ok-clause-is_slice
returns-in-Ok-clause-is_slice g c =
    let p = rw c.in-Call.is at c.run_thread-run.ensures.runs in
    let closes = c.closed_frame-in-Ok.ensures.closes in
    call_slice g.O.Outside.gives c.args.guest.now c.closed_frame-in-Ok.new.guest c.args.choice c.args.outside.now c.call.new.outside
    c.requires
    c.closed_frame-in-Ok.result c.run_thread-run.result.count (state_of c.run_thread-run.new.self) (state_of c.call.new.self)
    c.in-Ok.ensures.calls.0 c.in-Ok.told
    c.closed_frame-in-Ok.ensures.frame p c.in-Ok.ensures.calls.1 c.in-Ok.ensures.text
    (ap chunks_of closes.put ∙ c.in-Ok.ensures.puts)
    c.in-Ok.ensures.answered c.in-Ok.ensures.unasked closes.state
    (closes.keeps.ran ∙ c.in-Ok.ensures.keeps.ran ∙ c.run_thread-run.ensures.ran)
    (closes.keeps.snapshots ∙ c.in-Ok.ensures.keeps.snapshots ∙ c.run_thread-run.ensures.keeps.snapshots)

pub returns-in-Fault-clause-is_slice : goal.returns-in-Fault-clause-is_slice
returns-in-Fault-clause-is_slice g c =
    let p = rw c.in-Fault.is at c.run_thread-run.ensures.runs in
    fault_slice g.O.Outside.gives c.args.guest.now c.close_slice.new.self c.args.choice c.args.outside.now c.args.outside.now c.requires
    c.run_thread-run.result.count c.in-Fault.kind c.run_thread-run.new.self p c.close_slice.ensures
    (record {
      ran = c.run_thread-run.ensures.ran;
      put = c.run_thread-run.ensures.keeps.put;
      snapshots = c.run_thread-run.ensures.keeps.snapshots;
      environment = refl;
    })

-- ---- where there was no memory

pub returns-in-Memory : goal.returns-in-Memory
returns-in-Memory g c =
    let p = rw c.in-Memory.is at c.run_thread-run.ensures.runs in
    let short =
    stops_short g.O.Outside.gives c.args.guest.now c.stop_short-in-Memory.new.guest c.args.choice c.args.outside.now c.args.outside.now
    c.requires
    c.stop_short-in-Memory.result c.run_thread-run.result.count c.run_thread-run.new.self (omega (arith, c.ran-ran.ensures))
    p.within p.steps (inl p.takes) c.stop_short-in-Memory.ensures.some c.stop_short-in-Memory.ensures.frame
    c.stop_short-in-Memory.ensures.none c.stop_short-in-Memory.ensures.closes
    (record {
      ran = c.run_thread-run.ensures.ran;
      put = c.run_thread-run.ensures.keeps.put;
      snapshots = c.run_thread-run.ensures.keeps.snapshots;
      environment = refl;
    }) in
    record { is_slice = short.slice; memory = short.memory; grows = short.grows; refused = short.refused }

pub returns-in-Err : goal.returns-in-Err
returns-in-Err g c =
    let p = rw c.in-Call.is at c.run_thread-run.ensures.runs in
    let short =
    call_stops_short g.O.Outside.gives c.args.guest.now c.stop_short.new.guest c.args.choice c.args.outside.now c.call.new.outside
    c.requires
    c.stop_short.result c.run_thread-run.result.count (state_of c.run_thread-run.new.self) c.take_back.new.self
    (omega (arith, c.ran-ran.ensures)) p c.in-Err.ensures.memory
    (c.take_back.ensures.state ∙ ap (λ (v : GuestValue). before_call c.args.choice.tid (state_of v)) c.in-Err.ensures.refused)
    c.stop_short.ensures.some c.stop_short.ensures.frame c.stop_short.ensures.none c.stop_short.ensures.closes
    (record {
      ran = c.take_back.ensures.ran ∙ ap (λ (v : GuestValue). v.ran_before_call) c.in-Err.ensures.refused
          ∙ c.run_thread-run.ensures.ran_before_call c.in-Call.is;
      put = c.take_back.ensures.keeps.put ∙ ap (λ (v : GuestValue). v.put) c.in-Err.ensures.refused
          ∙ c.run_thread-run.ensures.keeps.put;
      snapshots = c.take_back.ensures.keeps.snapshots ∙ c.in-Err.ensures.keeps.snapshots ∙ c.run_thread-run.ensures.keeps.snapshots;
      environment = c.in-Err.ensures.refused_unasked;
    }) in
    record { is_slice = short.slice; memory = short.memory; grows = short.grows; refused = short.refused }
