use Rattle.std.proofs.Common.{sym, subst, ◌∙◌}
use Rattle.std.proofs.lemmas.Result.{err_from_is_err_and}
use Rattle.std.specs.Prelude.{IsSome}
use Rattle.session.proofs.Chosen.{is_over, makes_asked, makes_both, makes_kept, makes_met, makes_over, makes_round, not_over}
use Rattle.session.proofs.Driven.{drives_both, drives_still, held_is_no_sink, memory_is_no_sink, work_steady, work_tells}
use Rattle.session.proofs.rounds.make_frames.Goals.{in-None, in-Some+in_ok-send_and_release+in_ok-turn+then-eq}
use Rattle.session.proofs.rounds.make_frames.Goals as goal

pub returns-in_err-send_and_release-clause-drives : goal.returns-in_err-send_and_release-clause-drives
returns-in_err-send_and_release-clause-drives g c =
    drives_both g.S.Sink _ _ _ _ _ _ c.loop.invariant.drives c.send_and_release.ensures.drives

pub returns-in_err-turn-clause-drives : goal.returns-in_err-turn-clause-drives
returns-in_err-turn-clause-drives g c =
    drives_both g.S.Sink _ _ _ _ _ _ (drives_both g.S.Sink _ _ _ _ _ _ c.loop.invariant.drives c.send_and_release.ensures.drives)
    (drives_still g.S.Sink _ _ _ c.take_turn.ensures.goes)

pub returns-clause-drives : goal.returns-clause-drives
returns-clause-drives g c =
    elim c.match-next.branch [
      | in-None w ↦ (let never = subst IsSome w.in-None.is c.next.ensures.steps in absurd (cc (never)))
      | in-Some+in_ok-send_and_release+in_ok-turn+then-eq w ↦
          rw (w.recorder-is, w.sink-is) (drives_both g.S.Sink _ _ _ _ _ _
          (drives_both g.S.Sink _ _ _ _ _ _ c.loop.invariant.drives w.send_and_release.ensures.drives)
          (drives_still g.S.Sink _ _ _ w.take_turn.ensures.goes))
    ]

pub returns-in_err-held-clause-drives : goal.returns-in_err-held-clause-drives
returns-in_err-held-clause-drives g c =
    drives_both g.S.Sink _ _ _ _ _ _ (drives_both g.S.Sink _ _ _ _ _ _ c.loop.invariant.drives c.send_and_release.ensures.drives)
    (drives_still g.S.Sink _ _ _ c.take_turn.ensures.goes)

pub loop-preserved : goal.loop-preserved
loop-preserved g c = record {
  drives = drives_both g.S.Sink _ _ _ _ _ _ (drives_both g.S.Sink _ _ _ _ _ _ c.loop.invariant.drives c.send_and_release.ensures.drives)
      (drives_still g.S.Sink _ _ _ c.take_turn.ensures.goes);
  chosen = makes_both g.C.Chooser.chooses _ _ _ _ _ _
      (makes_kept g.C.Chooser.chooses _ _ _ _ _ c.send_and_release.ensures.keeps c.loop.invariant.chosen)
      (makes_round g.C.Chooser.chooses _ _ _ _ _ (λ over. not_over _ (sym c.if-eq.false ∙ c.eq.ensures) over) c.in_ok-turn.ensures.turn);
  few = c.in_ok-held.ensures.few;
  steady = c.in_ok-send_and_release.ensures.sink ∙ c.loop.invariant.steady;
}

pub returns-in_err-send_and_release-clause-chosen : goal.returns-in_err-send_and_release-clause-chosen
returns-in_err-send_and_release-clause-chosen g c =
    let p = err_from_is_err_and c.from_residual.result c.from_residual.ensures.1 in
    rw p.1 (makes_met g.C.Chooser.chooses _ _ _ _ p.0
    (makes_kept g.C.Chooser.chooses _ _ _ _ _ c.send_and_release.ensures.keeps c.loop.invariant.chosen))

pub returns-in_err-turn-clause-chosen : goal.returns-in_err-turn-clause-chosen
returns-in_err-turn-clause-chosen g c =
    let p = err_from_is_err_and c.from_residual-in_err-turn.result c.from_residual-in_err-turn.ensures.1 in
    rw p.1 (makes_asked g.C.Chooser.chooses _ _ _ _ p.0 (p.2 ∙ c.in_err-turn.ensures.memory)
    (makes_both g.C.Chooser.chooses _ _ _ _ _ _
    (makes_kept g.C.Chooser.chooses _ _ _ _ _ c.send_and_release.ensures.keeps c.loop.invariant.chosen) c.in_err-turn.ensures.chosen))

pub returns-clause-chosen : goal.returns-clause-chosen
returns-clause-chosen g c =
    elim c.match-next.branch [
      | in-None w ↦ (let never = subst IsSome w.in-None.is c.next.ensures.steps in absurd (cc (never)))
      | in-Some+in_ok-send_and_release+in_ok-turn+then-eq w ↦
          rw (w.recorder-is, w.chooser-is) (makes_both g.C.Chooser.chooses _ _ _ _ _ _
          (makes_kept g.C.Chooser.chooses _ _ _ _ _ w.send_and_release.ensures.keeps c.loop.invariant.chosen)
          (makes_over g.C.Chooser.chooses _ _ _ _ _ (is_over _ (sym w.if-eq.true ∙ w.eq.ensures)) w.in_ok-turn.ensures.turn))
    ]

pub returns-in_err-held-clause-chosen : goal.returns-in_err-held-clause-chosen
returns-in_err-held-clause-chosen g c =
    let p = err_from_is_err_and c.from_residual-in_err-held.result c.from_residual-in_err-held.ensures.1 in
    rw p.1 (makes_met g.C.Chooser.chooses _ _ _ _ p.0
    (makes_both g.C.Chooser.chooses _ _ _ _ _ _
    (makes_kept g.C.Chooser.chooses _ _ _ _ _ c.send_and_release.ensures.keeps c.loop.invariant.chosen)
    (makes_round g.C.Chooser.chooses _ _ _ _ _ (λ over. not_over _ (sym c.if-eq.false ∙ c.eq.ensures) over) c.in_ok-turn.ensures.turn)))

pub returns-in_err-send_and_release-clause-sink : goal.returns-in_err-send_and_release-clause-sink
returns-in_err-send_and_release-clause-sink g c =
    let p = err_from_is_err_and c.from_residual.result c.from_residual.ensures.1 in
    rw p.1 (work_tells _ _ _ _ _ c.in_err-send_and_release.ensures.sink c.loop.invariant.steady p.2)

pub returns-in_err-turn-clause-sink : goal.returns-in_err-turn-clause-sink
returns-in_err-turn-clause-sink g c =
    let p = err_from_is_err_and c.from_residual-in_err-turn.result c.from_residual-in_err-turn.ensures.1 in
    let is = p.2 ∙ c.in_err-turn.ensures.memory in
    rw p.1 (work_steady _ _ _ (λ e. memory_is_no_sink (sym is ∙ e)) (c.in_ok-send_and_release.ensures.sink ∙ c.loop.invariant.steady))

pub returns-in_err-held-clause-sink : goal.returns-in_err-held-clause-sink
returns-in_err-held-clause-sink g c =
    let p = err_from_is_err_and c.from_residual-in_err-held.result c.from_residual-in_err-held.ensures.1 in
    let is = p.2 ∙ c.in_err-held.ensures.refused.0 in
    rw p.1 (work_steady _ _ _ (λ e. held_is_no_sink (sym is ∙ e)) (c.in_ok-send_and_release.ensures.sink ∙ c.loop.invariant.steady))

pub returns-clause-sink : goal.returns-clause-sink
returns-clause-sink g c =
    elim c.match-next.branch [
      | in-None w ↦ (let never = subst IsSome w.in-None.is c.next.ensures.steps in absurd (cc (never)))
      | in-Some+in_ok-send_and_release+in_ok-turn+then-eq w ↦
          rw w.sink-is (w.in_ok-send_and_release.ensures.sink ∙ c.loop.invariant.steady)
    ]
