-- The places that lines name, and which thread comes next at a place.
use Rattle.std.specs.Prelude.{◌≡◌, ℕ, ◌+◌, ◌-◌, ◌<◌, ◌≤◌, nat_lt, if◌then◌else◌, List, ◌∷◌, ◌++◌}
use Rattle.command_line.specs.declared.request.Place.{Place}
use Rattle.command_line.specs.declared.request.Place.TheVariants as places
use Rattle.rrv_model.specs.declared.record.Frame.{Frame}
use Rattle.rrv_model.specs.StateAt.{total}

-- the place that a line names in a recording of so many instructions
abbrev pub place_in : ℕ → Place → ℕ
place_in total (places.At place) = place
place_in total places.End = total

-- the instruction after t others is one of this thread's
pub record RunsNext (frames : List Frame) (t tid : ℕ) : Type 0 where
  pub before : List Frame
  pub frame : Frame
  pub after : List Frame
  pub frames_are : frames ≡ before ++ frame ∷ after
  pub low : total before ≤ t
  pub high : t < total before + frame.count
  pub tid_is : tid ≡ frame.tid

-- the place of the instruction whose thread comes first: the next one, and at the end the last one
abbrev pub shown_place : (total place : ℕ) → ℕ
shown_place total place = if nat_lt place total then place else total - 1
