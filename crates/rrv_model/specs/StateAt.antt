-- The state of a recorded guest at a count of instructions.
use Rattle.std.specs.Prelude.{◌≡◌, ℕ, ◌-◌, nat_le, List, [], ◌∷◌, sum_by, MatchBool}
use Rattle.rrv_model.specs.declared.record.Frame.{Frame}
use Rattle.rrv_model.specs.declared.record.Opening.{Opening}
use Rattle.rrv_model.specs.State.{State, IsState}
use Rattle.rrv_model.specs.FrameStep.{Steps, FrameStep}
use Rattle.rrv_model.specs.Opening.{Opens}

-- the steps of all frames
abbrev pub total : List Frame → ℕ
total frames = sum_by (λ f. f.count) frames

-- from s on: all frames whose counts end at or before t, then the remaining steps of the next, whatever comes behind them
abbrev pub StateAtFrom : State → List Frame → ℕ → State → Type 0
StateAtFrom s [] t at = (t ≡ 0) × (at ≡ s)
StateAtFrom s (f ∷ frames) t at =
    MatchBool (nat_le f.count t)
    ((mid : State) × FrameStep s f mid × StateAtFrom mid frames (t - f.count) at)
    (Steps t f.tid s at)

-- the state at t, the ends of the frames at or before t included
abbrev pub StateAt : Opening → List Frame → ℕ → State → Type 0
StateAt o frames t at = (s : State) × Opens o s × StateAtFrom s frames t at

-- whatever a guest was recorded to do, it was in a state at each count
abbrev pub RecordedStatesAreStates : Type 0
RecordedStatesAreStates = (o : Opening) (frames : List Frame) (t : ℕ) (at : State) → StateAt o frames t at → IsState at
