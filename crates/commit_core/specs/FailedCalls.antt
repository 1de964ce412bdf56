-- A call of the disk that fails is the last one.
use Rattle.std.specs.Prelude.{◌≡◌, List, [], ◌∷◌, ◌++◌}
use Rattle.std.specs.List.{AllByRecursion}
use Rattle.commit_core.specs.World.{World}
use Rattle.commit_core.specs.Events.{Event, run}
use Rattle.commit_core.specs.Events.Event.{WriteBody, WriteBodyFails, Sync1, Sync1Fails, OpenGate, OpenGateFails, Sync2, Sync2Fails}

-- a call of the disk, whether it answers or fails
abbrev pub IsCall : Event → Type 0
IsCall (WriteBody count) = Unit {0}
IsCall (WriteBodyFails count disk) = Unit {0}
IsCall Sync1 = Unit {0}
IsCall Sync1Fails = Unit {0}
IsCall OpenGate = Unit {0}
IsCall (OpenGateFails disk) = Unit {0}
IsCall Sync2 = Unit {0}
IsCall Sync2Fails = Unit {0}
IsCall _ = ⊥

-- one that fails
abbrev pub IsFailedCall : Event → Type 0
IsFailedCall (WriteBodyFails count disk) = Unit {0}
IsFailedCall Sync1Fails = Unit {0}
IsFailedCall (OpenGateFails disk) = Unit {0}
IsFailedCall Sync2Fails = Unit {0}
IsFailedCall _ = ⊥

-- no later event is a call of the disk, and the disk stays as the failed call left it
pub record IsLastCall (start : World) (before : List Event) (failed : Event) (later : List Event) : Type 0 where
  pub none : AllByRecursion (λ (e : Event). ¬ (IsCall e)) later
  pub disk : (run start (before ++ failed ∷ later)).disk ≡ (run start (before ++ failed ∷ [])).disk
