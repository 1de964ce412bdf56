use Rattle.std.proofs.Common.{subst}
use Rattle.std.specs.Prelude.{IsSome}
use Rattle.recorder.proofs.Made.{keeps_both}
use Rattle.session.proofs.Driven.{goes_both}
use Rattle.session.proofs.rounds.send_rest.Goals.{in-None, in-Some+then-is_err}
use Rattle.session.proofs.rounds.send_rest.Goals as goal

pub returns-clause-goes : goal.returns-clause-goes
returns-clause-goes g c =
    elim c.match-next.branch [
      | in-None w ↦ (let never = subst IsSome w.in-None.is c.next.ensures.steps in absurd (cc (never)))
      | in-Some+then-is_err w ↦
          rw w.recorder-is (goes_both _ _ _ _ _ c.loop.invariant.goes w.send.ensures.goes)
    ]

pub loop-preserved : goal.loop-preserved
loop-preserved g c =
    record {
      goes = goes_both _ _ _ _ _ c.loop.invariant.goes c.send.ensures.goes;
      keeps = keeps_both _ _ _ c.loop.invariant.keeps c.send.ensures.keeps;
    }

pub returns-clause-keeps : goal.returns-clause-keeps
returns-clause-keeps g c =
    elim c.match-next.branch [
      | in-None w ↦ (let never = subst IsSome w.in-None.is c.next.ensures.steps in absurd (cc (never)))
      | in-Some+then-is_err w ↦
          rw w.recorder-is (keeps_both _ _ _ c.loop.invariant.keeps w.send.ensures.keeps)
    ]
