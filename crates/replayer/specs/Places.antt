-- Places of a recording, from which a guest goes on.
use Rattle.std.specs.Prelude.{◌≡◌, ℕ, ◌+◌, ◌-◌, ◌≤◌, List, [], ◌∷◌, length, take, drop}
use Rattle.rrv_model.specs.declared.record.Frame.{Frame}
use Rattle.rrv_model.specs.declared.record.Opening.{Opening}
use Rattle.rrv_model.specs.State.{State}
use Rattle.rrv_model.specs.Opening.{Opens}
use Rattle.rrv_model.specs.StateAt.{StateAt, StateAtFrom, total}
use Rattle.guest_calls.specs.Guest.{GuestValue, state_of}
use Rattle.replayer.specs.declared.position.Position.{Position}
use Rattle.replayer.specs.declared.recording.Mark.{Mark}
use Rattle.replayer.specs.Kept.{AreMarks}
use Rattle.replayer.specs.Verified.{VerifiedValue}

-- What contracts see of a place: the recording, the instructions behind the place, and the guest there.
pub record PlaceValue : Type 0 where
  pub verified : VerifiedValue
  pub at : ℕ
  pub guest : GuestValue

-- the state behind the first frames, which take so many steps
pub record IsPlace (o : Opening) (frames : List Frame) (done steps : ℕ) (s : State) : Type 0 where
  pub first : State
  pub opens : Opens o first
  pub reached : StateAtFrom first (take done frames) steps s
  pub steps_are : steps ≡ total (take done frames)
  pub within : done ≤ length frames

-- the marks that are left go on from a base
pub record MarksLeft (o : Opening) (frames : List Frame) (base : State) (marks : List Mark) : Type 0 where
  pub first : State
  pub opens : Opens o first
  pub are_marks : AreMarks first frames base marks

-- frames, of the first of which so many steps are done
abbrev pub begun : ℕ → List Frame → List Frame
begun steps [] = []
begun steps (f ∷ frames) = record f { count = f.count - steps } ∷ frames

-- a frame of so many instructions, as the last ones of it are
abbrev pub with_count : ℕ → Frame → Frame
with_count n f = record f { count = n }

-- no frame of no instruction is next
abbrev pub Begins : List Frame → Type 0
Begins [] = Unit {0}
Begins (f ∷ frames) = 1 ≤ f.count

-- from a state at t on, the frames that are left lead to each later state, and on to the end
pub record GoesOn (o : Opening) (frames : List Frame) (t : ℕ) (s : State) (left : List Frame) : Type 0 where
  pub goes : (n : ℕ) (at : State) → StateAtFrom s left n at → StateAt o frames (t + n) at
  pub last : State
  pub ends : StateAtFrom s left (total left) last
  pub sum : t + total left ≡ total frames

-- a guest stands where its frames and steps say, and is in the state there
pub record StandsAt (o : Opening) (frames : List Frame) (p : Position) : Type 0 where
  pub state : StateAt o frames p.at (state_of p.guest)
  pub inside : p.frames ≤ length frames
  pub on : GoesOn o frames p.at (state_of p.guest) (begun p.steps (drop p.frames frames))
  pub begins : Begins (begun p.steps (drop p.frames frames))

-- a guest between two frames, before a step of its own
pub record BeginsAt (o : Opening) (frames : List Frame) (p : Position) : Type 0 where
  pub place : IsPlace o frames p.frames p.at (state_of p.guest)
  pub steps : p.steps ≡ 0
  pub ran : p.guest.ran ≡ 0
