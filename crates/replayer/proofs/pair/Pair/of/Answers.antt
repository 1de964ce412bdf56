use Rattle.replayer.proofs.Pairs.{keeps_new}
use Rattle.replayer.proofs.pair.Pair.of.Goals as goal

pub invariant_of-result : goal.invariant_of-result
invariant_of-result c =
    keeps_new c.keep-kept.result c.args.guest c.keep-kept.new.guest c.args.base c.keep-kept.ensures.kept c.keep-kept.ensures.state
    c.requires
