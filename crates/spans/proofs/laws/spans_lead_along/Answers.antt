use Rattle.spans.proofs.Spans.{spans_lead_along}
use Rattle.spans.proofs.laws.spans_lead_along.Goals as goal

pub returns : goal.returns
returns c = spans_lead_along
