use Rattle.std.proofs.Common.{◌∙◌}
use Rattle.session.proofs.Openings.{get_is}
use Rattle.session.proofs.opening.first_new.Goals as goal

pub returns-then-is_new-clause-found : goal.returns-then-is_new-clause-found
returns-then-is_new-clause-found g c = record {
  job = c.index-jobs-place.result;
  is_there = get_is _ _ _ c.loop-place-test.true c.index-jobs-place.is;
  version = (λ i. (c.index-jobs-place.is i).version) ∙ c.is_new.ensures.0 c.if-is_new.true;
  before = c.loop-place.invariant;
}
