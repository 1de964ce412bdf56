use Rattle.std.proofs.Common.{refl, ◌+◌}
use Rattle.session.specs.Faults.{flusher_met}
use Rattle.session.proofs.FirstFaults.{lowest_more}
use Rattle.session.proofs.lowest.lowest_fault.Goals as goal

pub loop-worked-preserved : goal.loop-worked-preserved
loop-worked-preserved g c =
    lowest_more (flusher_met c.args.flushed) c.args.done.now c.loop-worked.worked-index (c.loop-worked.worked-index + 1)
    c.worked-item.result c.loop-worked.lowest c.lower-lowest.result refl c.loop-worked-test.true c.worked-item.is
    c.loop-worked.invariant c.lower-lowest.ensures
