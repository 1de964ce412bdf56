use Rattle.std.proofs.Common.{Option, sym, ◌∙◌, subst}
use Rattle.rrv_model.specs.declared.machine.Thread.{Thread}
use Rattle.rrv_model.specs.State.{IsTimed}
use Rattle.guest_threads.proofs.ByTid.{get_thread, some_timed, timed_some}
use Rattle.guest_threads.proofs.by_tid.some_wait_is_timed.Goals as goal

pub returns : goal.returns
returns c =
    let es = c.args.threads.now.entries in
    let any = c.any_timed.ensures in (
      λ t. let p =
          some_timed es c.len-ordered.ensures.ordered (sym any ∙ t) in
          (p.0, subst (λ (o : Option Thread). IsTimed o) (sym (get_thread es p.0)) p.1),
      λ p. any ∙ timed_some es p.0 (subst (λ (o : Option Thread). IsTimed o) (get_thread es p.0) p.1),
    )
