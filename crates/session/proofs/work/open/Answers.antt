use Rattle.std.proofs.Common.{◌∙◌}
use Rattle.session.proofs.Chosen.{at_start}
use Rattle.session.proofs.work.open.Goals as goal

pub returns-in-Ok-new-clause-start : goal.returns-in-Ok-new-clause-start
returns-in-Ok-new-clause-start g c =
    at_start g.C.Chooser.chooses c.args.job.now _ _ _ c.in-Ok-new.ensures.made c.in-Ok-new.ensures.recorded c.in-Ok-new.ensures.ran
    (c.in-Ok.ensures.is
    ∙ (λ i. record {
      version = c.args.job.now.version;
      elf = c.deref.ensures.value i;
      name = c.deref-2.ensures.value i;
      random = c.args.job.now.random;
    }))
