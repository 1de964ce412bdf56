use Rattle.std.proofs.Common.{Bool, subst, ◌∙◌, arith}
use Rattle.recorder.specs.Owed.{Counts}
use Rattle.recorder.proofs.Leaving.{releases_more}
use Rattle.recorder.proofs.outputs.Outputs.release.Goals as goal

pub returns-then-not-all-clause-released : goal.returns-then-not-all-clause-released
returns-then-not-all-clause-released g c =
    let i = c.loop-self.invariant in
    let t = c.loop-self-test.true in
    let r = c.released.ensures in
    releases_more g.S.Sink.tells g.S.Sink.taken c.args.seen _ _ _ _ _ _ _ _ _ _ (omega arith) c.saturating_add-taken.ensures
    i.released c.put_first-count.ensures.released

pub loop-self-preserved : goal.loop-self-preserved
loop-self-preserved g c =
    let i = c.loop-self.invariant in
    let f = c.put_first-count.ensures in
    let t = c.loop-self-test.true in
    let r = c.released.ensures in
    record {
      released = releases_more g.S.Sink.tells g.S.Sink.taken c.args.seen _ _ _ _ _ _ _ _ _ _ (omega arith)
          c.saturating_add-taken.ensures i.released f.released;
      counted = subst (λ (b : Bool). Counts b (g.S.Sink.faults c.loop-self.sink) (g.S.Sink.faults c.put_first-count.new.sink))
          c.if-not-all.false f.counted ∙ i.counted;
    }
