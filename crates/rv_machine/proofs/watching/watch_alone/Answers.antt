use Rattle.std.proofs.Common.{refl, arith}
use Rattle.rv_machine.proofs.HartSteps.{at_most, counts, goes_on, no_steps, one_more, stops}
use Rattle.rv_machine.proofs.Watches.{look_watches}
use Rattle.rv_machine.proofs.watching.watch_alone.Goals as goal

pub returns-in-Some-clause-runs : goal.returns-in-Some-clause-runs
returns-in-Some-clause-runs c =
    let did = c.step.ensures in
    let stopped = stops 1 0 _ _ _ _ _ c.in-Some.ensures (omega arith) c.requires.regs (no_steps _)
    (record { step = did.step; fault = did.fault; refused = did.refused; takes = did.takes }) in
    record {
      runs = at_most c.in-Some.ended.end _ _ c.in-Some.ended.count _ _ (omega arith) stopped.runs;
      within = counts c.in-Some.ended.end _ c.in-Some.ended.count _ _ stopped.runs;
      some = λ e. absurd (stopped.ended e);
      regs = did.regs;
      snapshots = did.snapshots;
    }

pub returns-clause-runs : goal.returns-clause-runs
returns-clause-runs c =
    let did = c.step.ensures in
    let step = goes_on 0 c.step.result _ _ c.in-None.ensures
    (record { step = did.step; fault = did.fault; refused = did.refused; takes = did.takes }) in
    record {
      runs = (omega arith, one_more 0 _ _ _ (no_steps _) step);
      within = omega arith;
      some = λ e. omega arith;
      regs = did.regs;
      snapshots = did.snapshots;
    }

pub returns-clause-watches : goal.returns-clause-watches
returns-clause-watches c e first watched =
    let did = c.step.ensures in
    let step = goes_on 0 c.step.result _ _ c.in-None.ensures
    (record { step = did.step; fault = did.fault; refused = did.refused; takes = did.takes }) in
    look_watches _ _ _ _ first _ _ refl step c.look.ensures watched
