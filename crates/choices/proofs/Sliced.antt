-- The slices of a schedule.
use Rattle.std.proofs.Common.{ℕ, List, [], ◌∷◌, Option, Some, refl}
use Rattle.rrv_model.specs.declared.record.Choice.{Choice}
use Rattle.rrv_model.specs.declared.record.Frame.{Frame}
use Rattle.rrv_model.specs.State.{State}
use Rattle.rrv_model.specs.FrameStep.{FrameStep}
use Rattle.serial_sched.specs.Chosen.{AreChosen, AreRunning, PicksAmong}
use Rattle.serial_sched.specs.Slices.{FitsChoice}
use Rattle.serial_sched.proofs.Reached.{has_none}
use Rattle.choices.specs.Schedule.{Plan, ChoosesInTurn, plan}
use Rattle.choices.specs.Scheduled.{by_schedule}
use Rattle.choices.specs.Again.{FramesFollow}
use Rattle.choices.specs.Sliced.{AreSlicesOf, FramesAreLists}
use Rattle.choices.proofs.Again.{none_behind}
use Rattle.choices.proofs.Scheduled.{none_runs}
use Rattle.choices.proofs.Schedules.{schedules_are_lists}

follows : (frames : List Frame) (s : State) (old : Plan) (s' : State) (new : Plan) → AreChosen by_schedule s old frames s' new →
    FramesFollow s frames
follows [] s old s' new chosen = tt
follows (f ∷ frames) s old s' new (mid, next, is, rest) = (mid, is.step, follows frames mid next s' new rest)

abbrev HasOutcomes : State → Plan → List Frame → Type 0
HasOutcomes s old frames =
    (runnables : List (List ℕ)) × (outcomes : List (Option Choice)) × AreSlicesOf s frames runnables outcomes ×
    ChoosesInTurn runnables old outcomes

one_more : (tids : List ℕ) (s : State) (f : Frame) (frames : List Frame) (mid : State) (old : Plan) (choice : Choice) (next : Plan) →
    AreRunning s tids →
    PicksAmong by_schedule tids old (Some choice) next → FrameStep s f mid → FitsChoice f.end s f choice → FramesFollow mid frames →
    HasOutcomes mid next frames →
    HasOutcomes s old (f ∷ frames)
one_more [] s f frames mid old choice next are picks step fits follow rest =
    let none = has_none f.end s f.tid f.count mid (none_runs s are) step.goes in
    ([], [], (none, fits.0, none_behind s f mid frames none fits.0 step follow, refl), refl)
one_more (t ∷ tids) s f frames mid old choice next are picks step fits follow (runnables, outcomes, slices, chosen) = (
  (t ∷ tids) ∷ runnables,
  Some choice ∷ outcomes,
  (choice, outcomes, mid, refl, are, step, fits, slices),
  (Some choice, next, outcomes, refl, picks, chosen),
)

outcomes_of : (frames : List Frame) (s : State) (old : Plan) (s' : State) (new : Plan) → AreChosen by_schedule s old frames s' new →
    HasOutcomes s old frames
outcomes_of [] s old s' new chosen = ([], [], (refl, refl), refl)
outcomes_of (f ∷ frames) s old s' new (mid, next, is, rest) =
    one_more is.picks.tids s f frames mid old is.choice next is.picks.running is.picks.picks is.step is.fits
    (follows frames mid next s' new rest)
    (outcomes_of frames mid next s' new rest)

pub frames_are_lists : FramesAreLists
frames_are_lists s list turns frames s' new chosen =
    let o = outcomes_of frames s (plan list turns) s' new chosen in
    (o.0, o.1, o.2, schedules_are_lists list turns o.0 o.1 o.3)
