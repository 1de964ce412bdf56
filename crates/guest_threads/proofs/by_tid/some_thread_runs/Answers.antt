use Rattle.std.proofs.Common.{Option, sym, ◌∙◌, subst}
use Rattle.rrv_model.specs.declared.machine.Thread.{Thread}
use Rattle.rrv_model.specs.State.{IsRunning}
use Rattle.guest_threads.proofs.ByTid.{get_thread, some_runs, runs_some}
use Rattle.guest_threads.proofs.by_tid.some_thread_runs.Goals as goal

pub returns : goal.returns
returns c =
    let es = c.args.threads.now.entries in
    let any = c.any_without_wait.ensures in (
      λ t. let p =
          some_runs es c.len-ordered.ensures.ordered (sym any ∙ t) in
          (p.0, subst (λ (o : Option Thread). IsRunning o) (sym (get_thread es p.0)) p.1),
      λ p. any ∙ runs_some es p.0 (subst (λ (o : Option Thread). IsRunning o) (get_thread es p.0) p.1),
    )
