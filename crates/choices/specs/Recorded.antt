-- The choices of a recording, and their text.
use Rattle.std.specs.Prelude.{◌≡◌, ℕ, ◌≤◌, Bool, not, nat_le, max, if◌then◌else◌, MatchBool, List, [], ◌∷◌, ◌++◌, filter_map, flat_map, codes, Option, Some, None, MatchOption, All}
use Rattle.std.specs.Fmt.{decimal}
use Rattle.rrv_model.specs.declared.limits.TheConstants.{MAX_QUANTUM, MAX_TID, MIN_QUANTUM}
use Rattle.rrv_model.specs.declared.record.CallRecord.{CallRecord}
use Rattle.rrv_model.specs.declared.record.Choice.{Choice}
use Rattle.rrv_model.specs.declared.record.End.{End}
use Rattle.rrv_model.specs.declared.record.End.TheVariants as ends
use Rattle.rrv_model.specs.declared.record.Frame.{Frame}
use Rattle.rrv_model.specs.declared.record.Record.{Record}
use Rattle.rrv_model.specs.State.{State, IsState}
use Rattle.rrv_model.specs.FrameStep.{FrameStep}
use Rattle.rrv_model.specs.Ends.{call_in, runs_thread, is_preempt}
use Rattle.rrv_model.specs.Recording.{IsRecording, frames_of, items_of}
use Rattle.serial_sched.specs.Slices.{FitsChoice, IsQuantum}
use Rattle.choices.specs.declared.recorded.ChoiceLine.{ChoiceLine}
use Rattle.choices.specs.declared.recorded.ChoiceLine.TheVariants as lines
use Rattle.choices.specs.ChoiceText.{text_says}

-- A thread that was preempted used its quantum, unless that would be below the least one: then memory was short. One
-- that ended in a call or a fault had a quantum of so many instructions at least, and the least such one serves.
abbrev pub choice_if : (thread preempt : Bool) → ℕ → ℕ → Option Choice
choice_if thread preempt tid count =
    if not thread then None
    else if not preempt then Some (record { tid = tid; quantum = max MIN_QUANTUM count })
    else if nat_le MIN_QUANTUM count then Some (record { tid = tid; quantum = count })
    else None

abbrev pub choice_by_end : End → ℕ → ℕ → Option Choice
choice_by_end end tid count = choice_if (runs_thread end) (is_preempt end) tid count

-- the choice whose slice the frame is, where it tells one
abbrev pub choice_of : Frame → Option Choice
choice_of f = choice_by_end f.end f.tid f.count

-- ---- text

abbrev pub line_by_end : Option Choice → End → ℕ → ℕ → Option ChoiceLine
line_by_end (Some choice) end tid count = Some (lines.Ran choice)
line_by_end None end tid count = if is_preempt end then Some (lines.CutShort tid count) else None

-- the line of a frame's choice, or of a slice that was cut short
abbrev pub line_of : Frame → Option ChoiceLine
line_of f = line_by_end (choice_of f) f.end f.tid f.count

abbrev pub line_text : ChoiceLine → List ℕ
line_text (lines.Ran choice) = decimal choice.tid ++ (codes " " ++ decimal choice.quantum)
line_text (lines.CutShort tid count) =
    codes "# thread " ++ (decimal tid ++ (codes " stopped after " ++ (decimal count ++ codes " for want of memory")))

abbrev pub ended_line : Option ChoiceLine → List ℕ
ended_line None = []
ended_line (Some line) = line_text line ++ 10 ∷ []

-- the lines of frames, each ended by a newline
abbrev pub choices_text : List Frame → List ℕ
choices_text frames = flat_map (λ f. ended_line (line_of f)) frames

-- ---- laws

-- a tid and a count that a guest's frame may have
pub record IsOfGuest (tid count : ℕ) : Type 0 where
  pub tid_low : 1 ≤ tid
  pub tid_high : tid ≤ MAX_TID
  pub count_high : count ≤ MAX_QUANTUM

abbrev pub EndIsOfGuest : End → ℕ → ℕ → Type 0
EndIsOfGuest end tid count = MatchBool (runs_thread end) (IsOfGuest tid count) (Unit {0})

abbrev pub FrameIsOfGuest : Frame → Type 0
FrameIsOfGuest f = EndIsOfGuest f.end f.tid f.count

-- each frame from a state has a tid and a count of a guest
abbrev pub FramesAreOfGuests : Type 0
FramesAreOfGuests = (old : State) (f : Frame) (new : State) → IsState old → FrameStep old f new → FrameIsOfGuest f

-- the text of frames says just their choices, in order
abbrev pub TextSaysChoices : Type 0
TextSaysChoices =
    (frames : List Frame) → All FrameIsOfGuest frames →
    text_says (choices_text frames) ≡ Some (filter_map choice_of frames)

-- so does that of a recording's frames
abbrev pub RecordingsSayChoices : Type 0
RecordingsSayChoices =
    (records : List Record) → IsRecording records →
    text_says (choices_text (frames_of (items_of records))) ≡ Some (filter_map choice_of (frames_of (items_of records)))

-- a frame is the slice of its choice
abbrev pub FramesFitChoices : Type 0
FramesFitChoices =
    (old : State) (f : Frame) (new : State) (choice : Choice) → FrameStep old f new → choice_of f ≡ Some choice →
    IsQuantum choice.quantum × FitsChoice f.end old f choice

-- the ends are alike, but for what calls were answered
abbrev pub IsSameEnd : End → End → Type 0
IsSameEnd end other = MatchOption (call_in end) (other ≡ end) (λ _. (r : CallRecord) × (other ≡ ends.Call r))

-- the frames are alike, but for what calls were answered; ones that end in no call are one frame
pub record IsSameSlice (f g : Frame) : Type 0 where
  pub tid : g.tid ≡ f.tid
  pub count : g.count ≡ f.count
  pub end : IsSameEnd f.end g.end
  pub same : call_in f.end ≡ None → g ≡ f

-- no thread was preempted before its quantum for want of memory
abbrev pub IsUncut : End → ℕ → Choice → Type 0
IsUncut end count choice = end ≡ ends.Preempt → count ≡ choice.quantum

-- no other slice of a frame's choice leads on from the same state, unless memory was short
abbrev pub ChoicesTellSlices : Type 0
ChoicesTellSlices =
    (old : State) (f : Frame) (new : State) (choice : Choice) → FrameStep old f new → choice_of f ≡ Some choice →
    (g : Frame) (other : State) → FrameStep old g other → FitsChoice g.end old g choice → IsUncut g.end g.count choice →
    IsSameSlice f g
