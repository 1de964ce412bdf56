use Rattle.lane_pages.proofs.Lanes.{differ_by_bits}
use Rattle.lane_pages.proofs.differ.Goals as goal

pub returns : goal.returns
returns c = differ_by_bits c.args.ours.now c.args.theirs.now c.told-ours c.told-theirs
