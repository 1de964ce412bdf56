use Rattle.std.proofs.Common.{[]}
use Rattle.recorder.specs.RecorderCalls.{KeepsMade}
use Rattle.session.specs.Drives.{GoesOn}
use Rattle.session.proofs.rounds.send_rest.Given as goal

abbrev pub invariant-loop : goal.invariant-loop
invariant-loop g l = record { goes : GoesOn l.fn.recorder l.recorder []; keeps : KeepsMade l.fn.recorder l.recorder }
