use Rattle.std.proofs.Common.{◌≡◌, refl, ◌∙◌, arith}
use Rattle.rv_machine.proofs.HartSteps.{no_steps, steps_join, after_steps, are_steps, runs_all}
use Rattle.rv_machine.proofs.Watches.{none_watched, watched_all}
use Rattle.rv_machine.proofs.watching.run_watched.Goals as goal

pub loop-done-init : goal.loop-done-init
loop-done-init c = record {
  regs = c.requires;
  steps = no_steps _;
  snapshots = refl;
  within = omega arith;
  address = rw c.watch-watch.ensures refl;
  watched = rw c.watch-watch.ensures (record { steps = none_watched _ _; byte = refl });
}

pub loop-done-preserved : goal.loop-done-preserved
loop-done-preserved c =
    let did = c.watch_some-run.ensures in
    let now = c.loop-done.invariant in
    record {
      regs = did.runs.regs;
      steps = steps_join _ _ _ _ _ now.steps (are_steps _ _ _ _ _ c.in-Limit.is did.runs.runs);
      snapshots = did.runs.snapshots ∙ now.snapshots;
      within = omega (arith, did.runs.within);
      address = did.address ∙ now.address;
      watched = did.watches c.in-Limit.is _ now.watched;
    }

pub returns-in_default : goal.returns-in_default
returns-in_default c =
    let did = c.watch_some-run.ensures in
    let now = c.loop-done.invariant in
    record {
      runs = record {
        runs = after_steps c.watch_some-run.result.end _ _ _ _ _ _ c.in_default.not-Limit now.within now.steps did.runs.runs;
        regs = did.runs.regs;
        snapshots = did.runs.snapshots ∙ now.snapshots;
      };
      watched = λ e. absurd (c.in_default.not-Limit e);
    }

pub returns : goal.returns
returns c =
    let now = c.loop-done.invariant in
    let all : c.loop-done.done ≡ c.args.limit = omega (arith, now.within) in
    record {
      runs = runs_all _ _ _ _ _ _ _ all all now.steps now.regs now.snapshots;
      watched = λ e. watched_all c.loop-done.watch _ _ _ _ _ now.address all now.watched;
    }
