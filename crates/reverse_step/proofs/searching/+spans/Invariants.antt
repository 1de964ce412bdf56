use Rattle.std.proofs.Common.{◌+◌, ◌*◌}
use Rattle.reverse_step.proofs.searching.+spans.Given as goal

abbrev pub decreases-last_in_spans : goal.decreases-last_in_spans
decreases-last_in_spans g l = 2 * l.workers

abbrev pub decreases-first : goal.decreases-first
decreases-first g l = 2 * l.half + 1

abbrev pub decreases-second : goal.decreases-second
decreases-second g l = 2 * l.rest + 1
