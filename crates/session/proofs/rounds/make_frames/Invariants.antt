use Rattle.std.proofs.Common.{◌≡◌, ◌<◌}
use Rattle.session.specs.Chosen.{MakesChosen}
use Rattle.session.specs.Drives.{Drives}
use Rattle.session.proofs.rounds.make_frames.Given as goal

abbrev pub invariant-loop : goal.invariant-loop
invariant-loop g l = record {
  drives : Drives g.S.Sink l.fn.recorder l.recorder l.fn.sink l.sink;
  chosen : MakesChosen g.C.Chooser.chooses l.fn.recorder l.fn.chooser l.recorder (λ last. l.chooser ≡ last);
  few : l.held < 10000000;
  steady : g.S.Sink.faults l.sink ≡ g.S.Sink.faults l.fn.sink;
}
