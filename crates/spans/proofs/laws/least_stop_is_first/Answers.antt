use Rattle.spans.proofs.Spans.{least_stop_is_first}
use Rattle.spans.proofs.laws.least_stop_is_first.Goals as goal

pub returns : goal.returns
returns c = least_stop_is_first
