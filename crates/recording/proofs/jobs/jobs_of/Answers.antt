use Rattle.std.proofs.Common.{◌≡◌, ◌+◌, ◌++◌, ◌∷◌, [], length, rules, arith, subst, sym}
use Rattle.std.proofs.lemmas.Iterator.Adapters.{YieldsList-from_vec}
use Rattle.std.proofs.lemmas.Iterator.Consumers.{YieldsList-turn}
use Rattle.recording.specs.Jobs.{AreJobs, terms_of}
use Rattle.recording.proofs.JobLists.{as_many, jobs_on}
use Rattle.recording.proofs.jobs.jobs_of.Goals as goal

pub returns-in_default-clause-refused : goal.returns-in_default-clause-refused
returns-in_default-clause-refused g c =
    let shared = c.args.shared.now in
    let t = YieldsList-turn (YieldsList-from_vec {s = c.into_iter-image-iterator.result} c.args.images.items (search rules) (search rules))
    c.loop-image.yielded _ c.loop-image.yielded_by _ c.next.new.self c.in-Some.image c.in-Some.is c.next.ensures.steps in
    let many = as_many (terms_of shared) 0
    c.loop-image.yielded c.loop-image.jobs.items c.loop-image.invariant.2 in
    let past = c.in_default.ensures in
    let len = c.len.ensures in
    λ other. (c.from.ensures, omega (arith, t.0, many, past, len))

pub loop-image-preserved : goal.loop-image-preserved
loop-image-preserved g c =
    let shared = c.args.shared.now in
    let terms = terms_of shared in
    let place = c.in-Ok.ensures in
    let len = c.len.ensures in
    let at : c.in-Ok.place ≡ 0 + length c.loop-image.jobs.items = omega (arith, place.1, len) in (
      tt,
      tt,
      subst (λ js. AreJobs terms 0 (c.loop-image.yielded ++ c.in-Some.image ∷ []) js) (sym c.in_ok-push.ensures.items)
          (jobs_on terms 0 c.in-Ok.place c.loop-image.yielded c.loop-image.jobs.items c.in-Some.image c.in_ok-job_of.field-0
          c.loop-image.invariant.2 at c.in_ok-job_of.ensures.job),
    )
