-- The acts of a recording: those of each instruction, in the order of the run. Places are counts of instructions.
use Rattle.std.specs.Prelude.{◌≡◌, ℕ, zero, suc, ◌+◌, ◌<◌, ◌≤◌, ◌==◌, List, [], ◌∷◌, ◌++◌, map, Some}
use Rattle.rrv_model.specs.declared.machine.Thread.{Thread}
use Rattle.rrv_model.specs.declared.record.Frame.{Frame}
use Rattle.rrv_model.specs.declared.record.Opening.{Opening}
use Rattle.rrv_model.specs.State.{State, thread_at}
use Rattle.rrv_model.specs.StateAt.{StateAt, total}
use Rattle.order.specs.declared.act.Act.{Act}
use Rattle.order.specs.declared.act.Deed.{Deed}
use Rattle.acts.specs.Deeds.{DoesIn}

-- the instruction after t others is one of this frame
pub record StandsIn (frames : List Frame) (t : ℕ) (frame : Frame) : Type 0 where
  pub before : List Frame
  pub after : List Frame
  pub frames_are : frames ≡ before ++ frame ∷ after
  pub low : total before ≤ t
  pub high : t < total before + frame.count

-- the acts of that instruction; a frame of no instruction has none
pub record ActsAt (o : Opening) (frames : List Frame) (t : ℕ) (here : List Act) : Type 0 where
  pub frame : Frame
  pub stands : StandsIn frames t frame
  pub state : State
  pub is_at : StateAt o frames t state
  pub thread : Thread
  pub there : thread_at state frame.tid ≡ Some thread
  pub done : List Deed
  pub does : DoesIn ((t + 1) == (total stands.before + frame.count)) frame.end state thread done
  pub here_are : here ≡ map (λ d. record { place = t; tid = frame.tid; deed = d }) done

-- those of the first n instructions, in order
abbrev pub ActsUpTo : Opening → List Frame → ℕ → List Act → Type 0
ActsUpTo o frames zero acts = acts ≡ []
ActsUpTo o frames (suc n) acts =
    (before here : List Act) × ActsUpTo o frames n before × ActsAt o frames n here × (acts ≡ before ++ here)
