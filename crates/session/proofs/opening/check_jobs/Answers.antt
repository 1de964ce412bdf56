use Rattle.std.proofs.lemmas.Result.{err_from_is_err_and}
use Rattle.session.proofs.Openings.{get_is}
use Rattle.session.proofs.opening.check_jobs.Goals as goal

pub returns-in_err-check_job-clause-refused : goal.returns-in_err-check_job-clause-refused
returns-in_err-check_job-clause-refused g c =
    let p = err_from_is_err_and c.from_residual.result c.from_residual.ensures.1 in
    rw (p.1, p.2) (record {
      place = c.loop-place.place;
      job = c.index-jobs-place.result;
      is_there = get_is _ _ _ c.loop-place-test.true c.index-jobs-place.is;
      refuses = c.in_err-check_job.ensures.refused;
      before = c.loop-place.invariant;
    })
