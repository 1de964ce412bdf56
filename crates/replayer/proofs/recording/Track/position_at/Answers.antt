use Rattle.std.proofs.Common.{arith}
use Rattle.guest_calls.specs.Guest.{state_of}
use Rattle.replayer.proofs.Onward.{on_from}
use Rattle.replayer.proofs.recording.Track.position_at.Goals as goal

pub run_to-requires-clause-on : goal.run_to-requires-clause-on
run_to-requires-clause-on c =
    on_from c.args.self.now.opening c.args.self.now.frames c.args.self.now.marks c.in_ok-position.position.frames
    c.in_ok-position.position.at
    (state_of c.in_ok-position.position.guest) c.requires.kept c.in_ok-position.ensures.begins.place

pub returns-clause-ran : goal.returns-clause-ran
returns-clause-ran c = omega (arith, c.in_ok-run_to.ensures.ran, c.in_ok-position.ensures.begins.ran, c.in_ok-position.ensures.last)
