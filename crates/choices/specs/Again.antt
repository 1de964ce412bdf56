-- A guest that is recorded again by the choices of its frames.
use Rattle.std.specs.Prelude.{◌≡◌, ◌⊎◌, ℕ, ◌<◌, ◌≤◌, false, List, [], ◌∷◌, length, take, zip, slice_get, Option, Some, None, All}
use Rattle.rrv_model.specs.declared.limits.TheConstants.{MIN_QUANTUM}
use Rattle.rrv_model.specs.declared.record.CallRecord.{CallRecord}
use Rattle.rrv_model.specs.declared.record.Choice.{Choice}
use Rattle.rrv_model.specs.declared.record.End.TheVariants as ends
use Rattle.rrv_model.specs.declared.record.Frame.{Frame}
use Rattle.rrv_model.specs.declared.record.Item.TheVariants as items
use Rattle.rrv_model.specs.declared.record.Opening.{Opening}
use Rattle.rrv_model.specs.declared.record.Record.{Record}
use Rattle.rrv_model.specs.Ends.{is_expiry}
use Rattle.rrv_model.specs.FrameStep.{FrameStep}
use Rattle.rrv_model.specs.Opening.{opening_state}
use Rattle.rrv_model.specs.Recording.{IsRecording, frames_of, items_of}
use Rattle.rrv_model.specs.State.{State, IsState}
use Rattle.serial_sched.specs.Chosen.{AreChosen, Picks}
use Rattle.serial_sched.specs.Slices.{FindsNoMemory}
use Rattle.choices.specs.ChoiceText.{text_says}
use Rattle.choices.specs.Recorded.{IsSameSlice, choices_text}
use Rattle.choices.specs.Schedule.{Plan, plan}
use Rattle.choices.specs.Scheduled.{by_schedule}

-- the frames lead on from a state, one behind the other
abbrev pub FramesFollow : State → List Frame → Type 0
FramesFollow s [] = Unit {0}
FramesFollow s (f ∷ frames) = (new : State) × FrameStep s f new × FramesFollow new frames

-- want of memory didn't cut the frame short of the least quantum, and no wait ended in it: its choice is printed, unless no
-- thread ran
pub record IsTold (f : Frame) : Type 0 where
  pub long : f.end ≡ ends.Preempt → MIN_QUANTUM ≤ f.count
  pub still : is_expiry f.end ≡ false

-- A guest ran frames from a state on. Others are chosen from there by their printed choices, and any turns behind.
pub record IsRunAgain (s : State) (frames others : List Frame) : Type 0 where
  pub start : IsState s
  pub follow : FramesFollow s frames
  pub told : All IsTold frames
  pub choices : List Choice
  pub printed : text_says (choices_text frames) ≡ Some choices
  pub turns : Option ℕ
  pub state : State
  pub last : Plan
  pub chosen : AreChosen by_schedule s (plan choices turns) others state last

-- the second frame's thread was preempted before the first one's, where its next instruction found no memory
pub record IsCutShortOf (s : State) (f g : Frame) : Type 0 where
  pub tid : g.tid ≡ f.tid
  pub end : g.end ≡ ends.Preempt
  pub count : g.count < f.count
  pub memory : FindsNoMemory s g.tid g.count

-- Frame by frame the others are alike, up to the first of which a call was answered otherwise, or which want of memory
-- cut short.
abbrev pub RunsAlike : State → List Frame → List Frame → Type 0
RunsAlike s [] others = Unit {0}
RunsAlike s (f ∷ frames) [] = Unit {0}
RunsAlike s (f ∷ frames) (g ∷ others) =
    (IsSameSlice f g ⊎ IsCutShortOf s f g)
    × ((new : State) → g ≡ f → FrameStep s f new → RunsAlike new frames others)

-- the second frame's call was answered as the first one's, and it was cut short of nothing
pub record IsAnsweredAlike (f g : Frame) : Type 0 where
  pub answered : (r r' : CallRecord) → f.end ≡ ends.Call r → g.end ≡ ends.Call r' → r' ≡ r
  pub whole : g.end ≡ ends.Preempt → f.count ≤ g.count

-- so it is of each pair of frames
abbrev pub AreAnsweredAlike : List Frame → List Frame → Type 0
AreAnsweredAlike frames others = All (λ pair. IsAnsweredAlike pair.0 pair.1) (zip frames others)

-- the guest has ended, or its schedule was asked once more and chose nothing
abbrev pub HasEnded : State → Plan → Type 0
HasEnded s last = (¬ (s.ended ≡ None)) ⊎ ((new : Plan) × Picks by_schedule s last None new)

-- ---- laws

-- the choices allow the frames themselves
abbrev pub FramesRunAgain : Type 0
FramesRunAgain =
    (s : State) (frames : List Frame) (turns : Option ℕ) → IsState s → FramesFollow s frames → All IsTold frames →
    (again : IsRunAgain s frames frames) × (again.turns ≡ turns)

-- by them a guest runs as it did
abbrev pub RunAgainIsAlike : Type 0
RunAgainIsAlike = (s : State) (frames others : List Frame) → IsRunAgain s frames others → RunsAlike s frames others

-- with the same answers and memory enough it runs the same frames, as far as both go
abbrev pub RunAgainIsSame : Type 0
RunAgainIsSame =
    (s : State) (frames others : List Frame) → IsRunAgain s frames others → AreAnsweredAlike frames others →
    take (length frames) others ≡ take (length others) frames

-- and all of them, where it went on until it ended
abbrev pub RunAgainIsWhole : Type 0
RunAgainIsWhole =
    (s : State) (frames others : List Frame) (again : IsRunAgain s frames others) → AreAnsweredAlike frames others →
    HasEnded again.state again.last → take (length frames) others ≡ frames

-- the frames of a recording lead on from where its guest starts
abbrev pub RecordingsFollow : Type 0
RecordingsFollow =
    (records : List Record) (o : Opening) → IsRecording records →
    slice_get (items_of records) 0 ≡ Some (items.Opening o) →
    IsState (opening_state o.version o.elf o.name o.random)
    × FramesFollow (opening_state o.version o.elf o.name o.random) (frames_of (items_of records))
