use Rattle.replayer.proofs.Pairs.{keeps_behind}
use Rattle.replayer.proofs.pair.Pair.follow.Goals as goal

pub invariant_of-self : goal.invariant_of-self
invariant_of-self c =
    keeps_behind c.self.inside.kept c.self.inside.guest c.follow.new.guest c.self.inside.base c.args.frame.now c.self.invariant
    c.follow.ensures.snapshots c.in-Ok.ensures.follows
