use Rattle.std.proofs.Common.{◌≡◌, ◌≤◌, ◌-◌}
use Rattle.rrv_model.specs.State.{AreRegs}
use Rattle.guest_pages.specs.Space.{memory_of, snapshots_of}
use Rattle.rv_machine.specs.HartRuns.{HartSteps}
use Rattle.rv_machine.specs.Outcome.{hart}
use Rattle.rv_machine.specs.Watching.{IsWatched}
use Rattle.rv_machine.proofs.watching.run_watched.Given as goal

abbrev pub invariant-loop-done : goal.invariant-loop-done
invariant-loop-done l = record {
  regs : AreRegs l.regs;
  steps : HartSteps l.done (hart l.fn.regs (memory_of l.fn.space) l.fn.reservation) (hart l.regs (memory_of l.space) l.reservation);
  snapshots : snapshots_of l.space ≡ snapshots_of l.fn.space;
  within : l.done ≤ l.limit;
  address : l.watch.address ≡ l.address;
  watched : IsWatched l.watch l.done (hart l.fn.regs (memory_of l.fn.space) l.fn.reservation)
      (hart l.regs (memory_of l.space) l.reservation);
}

abbrev pub decreases-loop-done : goal.decreases-loop-done
decreases-loop-done l = l.limit - l.done
