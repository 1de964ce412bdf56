use Rattle.std.proofs.Common.{◌≡◌, ◌+◌, [], ◌++◌, replicate}
use Rattle.recorder.proofs.outputs.Outputs.push_silent.Given as goal

abbrev pub invariant-loop : goal.invariant-loop
invariant-loop l =
    (l.self.released ≡ l.initial.self.released)
    × (l.self.owed ≡ l.initial.self.owed ++ replicate l.counter [])
    × (l.self.room + l.counter ≡ l.initial.self.room)
