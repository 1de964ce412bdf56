use Rattle.lane_pages.proofs.Lanes.{zero_by_bits}
use Rattle.lane_pages.proofs.are_zero.Goals as goal

pub returns : goal.returns
returns c = zero_by_bits c.args.line.now c.told-line
