use Rattle.std.proofs.Common.{◌+◌, ◌*◌}
use Rattle.spans.proofs.following.+spans.Given as goal

abbrev pub decreases-follow_in_spans : goal.decreases-follow_in_spans
decreases-follow_in_spans g l = 3 * l.workers

abbrev pub decreases-follow_claimed : goal.decreases-follow_claimed
decreases-follow_claimed g l = 3 * l.workers + 1

abbrev pub decreases-follow_in_spans-first : goal.decreases-follow_in_spans-first
decreases-follow_in_spans-first g l = 3 * l.half + 1

abbrev pub decreases-follow_in_spans-second : goal.decreases-follow_in_spans-second
decreases-follow_in_spans-second g l = 3 * l.rest + 2
