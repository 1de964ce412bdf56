-- Which frames a chooser chose.
use Rattle.std.specs.Prelude.{◌≡◌, ◌↔◌, ℕ, List, [], ◌∷◌, Option, Some, Contains, IsSome, false}
use Rattle.std.specs.List.Sorted.{IsStrictlyIncreasing}
use Rattle.rrv_model.specs.declared.record.Choice.{Choice}
use Rattle.rrv_model.specs.declared.record.Frame.{Frame}
use Rattle.rrv_model.specs.State.{State, thread_at, IsRunning}
use Rattle.rrv_model.specs.Ends.{is_expiry}
use Rattle.rrv_model.specs.FrameStep.{FrameStep}
use Rattle.serial_sched.specs.Slices.{FitsChoice}

-- what a chooser chooses of the runnable threads, and what it becomes
abbrev pub Choosing : Type 0 → Type 1
Choosing C = C → List ℕ → Option Choice → C → Type 0

-- the tids of the threads that run, rising
pub record AreRunning (s : State) (tids : List ℕ) : Type 0 where
  pub rising : IsStrictlyIncreasing tids
  pub running : (tid : ℕ) → Contains tids tid ↔ IsRunning (thread_at s tid)

-- a chooser is asked only where some thread runs; else any choice is taken
abbrev pub PicksAmong : {C : Type 0} → Choosing C → List ℕ → C → Option Choice → C → Type 0
PicksAmong chooses [] old outcome new = IsSome outcome × (new ≡ old)
PicksAmong chooses (tid ∷ tids) old outcome new = chooses old (tid ∷ tids) outcome new

-- what is chosen in a state, and what the chooser becomes
pub record Picks {C : Type 0} (chooses : Choosing C) (s : State) (old : C) (outcome : Option Choice) (new : C)
    : Type 0 where
  pub tids : List ℕ
  pub running : AreRunning s tids
  pub picks : PicksAmong chooses tids old outcome new

-- the frame leads from one state to the other, and is the slice of a choice that the chooser made there
pub record IsChosen {C : Type 0} (chooses : Choosing C) (s : State) (old : C) (f : Frame) (s' : State) (new : C)
    : Type 0 where
  pub step : FrameStep s f s'
  pub choice : Choice
  pub picks : Picks chooses s old (Some choice) new
  pub fits : FitsChoice f.end s f choice

-- The frame leads from one state to the other. A choice was made there: it is the slice of it, or it ends a wait, by which the
-- choice is lost.
pub record IsMade {C : Type 0} (chooses : Choosing C) (s : State) (old : C) (f : Frame) (s' : State) (new : C)
    : Type 0 where
  pub step : FrameStep s f s'
  pub choice : Choice
  pub picks : Picks chooses s old (Some choice) new
  pub fits : is_expiry f.end ≡ false → FitsChoice f.end s f choice

-- so each of the frames, one behind the other
abbrev pub AreMade : {C : Type 0} → Choosing C → State → C → List Frame → State → C → Type 0
AreMade chooses s old [] s' new = (s' ≡ s) × (new ≡ old)
AreMade {C = C} chooses s old (f ∷ frames) s' new =
    (mid : State) × (next : C) × IsMade chooses s old f mid next × AreMade chooses mid next frames s' new

-- each of the frames is chosen, one behind the other
abbrev pub AreChosen : {C : Type 0} → Choosing C → State → C → List Frame → State → C → Type 0
AreChosen chooses s old [] s' new = (s' ≡ s) × (new ≡ old)
AreChosen {C = C} chooses s old (f ∷ frames) s' new =
    (mid : State) × (next : C) × IsChosen chooses s old f mid next × AreChosen chooses mid next frames s' new
