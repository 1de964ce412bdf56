-- The slices of a schedule.
use Rattle.std.specs.Prelude.{◌≡◌, ℕ, false, List, [], ◌∷◌, Option, Some}
use Rattle.rrv_model.specs.declared.record.Choice.{Choice}
use Rattle.rrv_model.specs.declared.record.Frame.{Frame}
use Rattle.rrv_model.specs.State.{State}
use Rattle.rrv_model.specs.FrameStep.{FrameStep}
use Rattle.rrv_model.specs.Ends.{runs_thread, is_expiry}
use Rattle.serial_sched.specs.Chosen.{AreChosen, AreRunning}
use Rattle.serial_sched.specs.Slices.{FitsChoice}
use Rattle.choices.specs.Schedule.{Plan, IsSchedule, plan}
use Rattle.choices.specs.Scheduled.{by_schedule}

-- The frames from a state on are the slices of these choices, one after another, each of the threads that run there. A
-- frame of no thread is the last, and has no choice.
abbrev pub AreSlicesOf : State → List Frame → List (List ℕ) → List (Option Choice) → Type 0
AreSlicesOf s [] runnables outcomes = (runnables ≡ []) × (outcomes ≡ [])
AreSlicesOf s (f ∷ frames) [] outcomes =
    (runs_thread f.end ≡ false) × (is_expiry f.end ≡ false) × (frames ≡ []) × (outcomes ≡ [])
AreSlicesOf s (f ∷ frames) (tids ∷ more) outcomes =
    (choice : Choice) × (others : List (Option Choice)) × (new : State) × (outcomes ≡ Some choice ∷ others) × AreRunning s tids
    × FrameStep s f new × FitsChoice f.end s f choice × AreSlicesOf new frames more others

-- the frames that a schedule chose are the slices of its list, up to the first choice that doesn't fit, and then those of turns
abbrev pub FramesAreLists : Type 0
FramesAreLists =
    (s : State) (list : List Choice) (turns : Option ℕ) (frames : List Frame) (s' : State) (new : Plan) →
    AreChosen by_schedule s (plan list turns) frames s' new →
    (runnables : List (List ℕ)) × (outcomes : List (Option Choice)) × AreSlicesOf s frames runnables outcomes
    × IsSchedule list turns 0 runnables outcomes
