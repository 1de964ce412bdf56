use Rattle.std.proofs.Common.{◌≡◌, Some, sym, ◌∙◌, ap, subst}
use Rattle.rrv_model.specs.declared.machine.Version.TheVariants.{One}
use Rattle.rrv_model.specs.State.{State, thread_at}
use Rattle.rrv_model.specs.Step.{with_hart}
use Rattle.guest_pages.specs.Space.{memory_of}
use Rattle.guest_threads.specs.Threads.{with_threads}
use Rattle.rv_machine.specs.Outcome.{hart}
use Rattle.guest_calls.specs.contracts.guest.Guest.{the_view}
use Rattle.guest_calls.specs.Guest.{GuestValue, state_of}
use Rattle.guest_calls.specs.Runs.{Runs, Watched}
use Rattle.guest_calls.proofs.Lift.{changed_there, lifted_run, lifted_watched}
use Rattle.guest_calls.proofs.guest.Guest.watch_thread.Goals as goal

pub returns-clause-runs : goal.returns-clause-runs
returns-clause-runs c =
    let g = the_view c.self.inside in
    let t = c.running_thread-thread.result in
    let there : thread_at (state_of g) c.args.tid ≡ Some t =
    ap (λ (v : GuestValue). thread_at (state_of v) c.args.tid) c.self.view_is ∙ c.running_thread-thread.ensures.there in
    let run = c.run_watched-watched in
    let h = hart run.new.regs (memory_of run.new.space) run.new.reservation in
    let runs : Runs c.args.limit c.args.tid (state_of g) run.result.run (with_hart c.args.tid t h (state_of g)) =
    lifted_run c.args.tid (state_of g) t there c.running_thread-thread.ensures.runs.running c.args.limit run.result.run h
    run.ensures.runs.runs in
    let base : State = record (state_of g) { memory = h.memory; reservation = h.reservation } in
    let new : State = with_threads c.set_regs.new.self base in
    let after : with_hart c.args.tid t h (state_of g) ≡ new =
    sym (c.set_regs.ensures base ∙ changed_there c.args.tid (λ u. record u { regs = h.regs }) base t there) in
    subst (λ (v : GuestValue). Runs c.args.limit c.args.tid (state_of v) run.result.run new) c.self.view_is
    (subst (λ (s : State). Runs c.args.limit c.args.tid (state_of g) run.result.run s) after runs)

pub returns-clause-watched : goal.returns-clause-watched
returns-clause-watched c = λ e.
    let g = the_view c.self.inside in
    let t = c.running_thread-thread.result in
    let there : thread_at (state_of g) c.args.tid ≡ Some t =
    ap (λ (v : GuestValue). thread_at (state_of v) c.args.tid) c.self.view_is ∙ c.running_thread-thread.ensures.there in
    let run = c.run_watched-watched in
    let h = hart run.new.regs (memory_of run.new.space) run.new.reservation in
    let watched : Watched c.args.address c.args.limit c.args.tid (state_of g) run.result.changed (with_hart c.args.tid t h (state_of g)) =
    lifted_watched c.args.tid (state_of g) t there c.running_thread-thread.ensures.runs.running c.args.address c.args.limit
    run.result.changed
    h (run.ensures.watched e) in
    let base : State = record (state_of g) { memory = h.memory; reservation = h.reservation } in
    let new : State = with_threads c.set_regs.new.self base in
    let after : with_hart c.args.tid t h (state_of g) ≡ new =
    sym (c.set_regs.ensures base ∙ changed_there c.args.tid (λ u. record u { regs = h.regs }) base t there) in
    subst (λ (v : GuestValue). Watched c.args.address c.args.limit c.args.tid (state_of v) run.result.changed new) c.self.view_is
    (subst (λ (s : State). Watched c.args.address c.args.limit c.args.tid (state_of g) run.result.changed s) after watched)

pub run_watched-watched-requires : goal.run_watched-watched-requires
run_watched-watched-requires c = (c.running_thread-thread.ensures.runs.fits One).regs
