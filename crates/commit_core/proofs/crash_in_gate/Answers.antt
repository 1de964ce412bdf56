use Rattle.commit_core.proofs.ExampleCrash.{crash_in_gate}
use Rattle.commit_core.proofs.crash_in_gate.Goals as goal

pub returns : goal.returns
returns c = crash_in_gate
