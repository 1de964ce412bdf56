use Rattle.std.proofs.lemmas.Result.{err_from_is_err_and}
use Rattle.rv_machine.specs.declared.run.RunEnd.TheVariants as ends
use Rattle.guest_calls.specs.Guest.{state_of}
use Rattle.serial_sched.specs.declared.fault.FollowFault.TheVariants as faults
use Rattle.serial_sched.proofs.FollowLaws.{other_than_steps, again}
use Rattle.serial_sched.proofs.following.steps.Goals as goal

pub returns-in_err-run_whole-clause-nowhere : goal.returns-in_err-run_whole-clause-nowhere
returns-in_err-run_whole-clause-nowhere c =
    let r = err_from_is_err_and c.from_residual.result c.from_residual.ensures.1 in
    λ e new p. c.in_err-run_whole.ensures.nowhere
    (again c.from_residual.result r.0 c.in_err-run_whole.field-0.0 faults.GoesNowhere r.1 r.2 e) ends.Limit new p

pub returns-in_default-clause-nowhere : goal.returns-in_default-clause-nowhere
returns-in_default-clause-nowhere c =
    λ e new p. other_than_steps c.in_ok-run_whole.field-0 c.args.tid c.args.count (state_of c.args.guest.now)
    (state_of c.run_whole.new.guest)
    c.in_default.not-Limit c.in_ok-run_whole.ensures.runs new p
