use Rattle.std.proofs.Common.{◌≡◌, ◌+◌, ◌-◌, ◌*◌, ◌<◌, ◌≤◌}
use Rattle.rrv_model.specs.State.{AreRegs}
use Rattle.rrv_model.specs.Step.{Hart}
use Rattle.guest_pages.specs.Space.{memory_of, snapshots_of}
use Rattle.rv_machine.specs.Flows.{hart_at}
use Rattle.rv_machine.specs.HartRuns.{HartSteps}
use Rattle.rv_machine.specs.Outcome.{hart}
use Rattle.rv_machine.specs.Watching.{IsWatched}
use Rattle.rv_machine.proofs.watching.watch_page.Given as goal

abbrev pub invariant-loop-instrs : goal.invariant-loop-instrs
invariant-loop-instrs g l = record {
  regs : AreRegs l.regs;
  steps : HartSteps (l.limit - (l.until - l.index)) (hart l.fn.regs (memory_of l.fn.space) l.fn.reservation)
      (hart_at (l.page.number * 4096 + l.index * 4) (hart l.regs (memory_of l.space) l.reservation));
  snapshots : snapshots_of l.space ≡ snapshots_of l.fn.space;
  low : l.index ≤ l.end;
  high : l.end ≤ 1024;
  within : l.end ≤ l.until;
  left : l.until ≤ l.index + l.limit;
  whole : g.row.LEAST ≡ 1024 → l.end ≡ 1024;
  some : l.until ≡ l.index + l.limit → l.index < l.end;
  address : l.watch.address ≡ l.fn.watch.address;
  watched : (first : Hart) → IsWatched l.fn.watch l.done first (hart l.fn.regs (memory_of l.fn.space) l.fn.reservation) →
      IsWatched l.watch (l.done + (l.limit - (l.until - l.index))) first
      (hart_at (l.page.number * 4096 + l.index * 4) (hart l.regs (memory_of l.space) l.reservation));
}

abbrev pub decreases-loop-instrs : goal.decreases-loop-instrs
decreases-loop-instrs g l = l.until - l.index
