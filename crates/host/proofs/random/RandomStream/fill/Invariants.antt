use Rattle.std.proofs.Common.{◌≡◌, ◌+◌, ◌%◌, ◌^◌, ◌<◌, ℕ}
use Rattle.std.specs.Prelude.{slice_index}
use Rattle.host.specs.Stream.{byte_at}
use Rattle.host.proofs.random.RandomStream.fill.Given as goal

abbrev pub invariant-loop-i : goal.invariant-loop-i
invariant-loop-i l =
    (l.self.seed ≡ l.initial.self.seed)
    × (l.self.guest ≡ l.initial.self.guest)
    × (l.self.place ≡ (l.initial.self.place + l.i) % 2 ^ 37)
    × ((k : ℕ) → k < l.i → slice_index l.into k
    ≡ byte_at l.initial.self.seed l.initial.self.guest (l.initial.self.place + k))
