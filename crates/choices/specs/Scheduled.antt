-- Frames that a schedule chose.
use Rattle.std.specs.Prelude.{◌≡◌, ◌⊎◌, ℕ, true, List, None, Option}
use Rattle.rrv_model.specs.declared.record.Choice.{Choice}
use Rattle.rrv_model.specs.declared.record.Frame.{Frame}
use Rattle.rrv_model.specs.State.{State}
use Rattle.serial_sched.specs.Chosen.{AreChosen, Choosing, Picks}
use Rattle.serial_sched.specs.LastThread.{last_from}
use Rattle.choices.specs.Schedule.{Plan, Chooses, plan}

-- what a schedule chooses, and what it becomes, as `Schedule` says it of its `chooses`
abbrev pub by_schedule : Choosing Plan
by_schedule old runnable outcome new = Chooses runnable old outcome new

-- ---- laws

-- the thread that a schedule chose last is the one that ran last
abbrev pub LastChosenRanLast : Type 0
LastChosenRanLast =
    (s : State) (old : Plan) (frames : List Frame) (s' : State) (new : Plan) →
    AreChosen by_schedule s old frames s' new → new.last ≡ last_from old.last frames

-- and stays so, where the schedule then chooses nothing
abbrev pub NothingKeepsLast : Type 0
NothingKeepsLast = (runnable : List ℕ) (old new : Plan) → Chooses runnable old None new → new.last ≡ old.last

-- a schedule that is done behind the frames that it chose was asked once more there, and chose nothing
abbrev pub DoneIsAsked : Type 0
DoneIsAsked =
    (s : State) (list : List Choice) (turns : Option ℕ) (frames : List Frame) (s' : State) (last new : Plan) →
    AreChosen by_schedule s (plan list turns) frames s' last → (new ≡ last) ⊎ Picks by_schedule s' last None new →
    new.done ≡ true → Picks by_schedule s' last None new
