-- Where a byte of a recorded guest changes.
use Rattle.std.specs.Prelude.{◌≢◌, ℕ, ◌+◌, ◌-◌, ◌<◌, ◌≤◌, ◌==◌, if◌then◌else◌, List, Option, Some, None}
use Rattle.std.specs.Option.{option_map}
use Rattle.rrv_model.specs.declared.record.Frame.{Frame}
use Rattle.rrv_model.specs.declared.record.Opening.{Opening}
use Rattle.rrv_model.specs.State.{State}
use Rattle.rrv_model.specs.StateAt.{StateAt}

-- the byte at an address, if there is one
abbrev pub byte_at : State → ℕ → Option ℕ
byte_at s a = option_map (λ c. c.byte) (s.memory a)

-- instruction t changes the byte at an address, or whether there is one
pub record ChangesAt (o : Opening) (frames : List Frame) (a t : ℕ) : Type 0 where
  pub at : State
  pub next : State
  pub is_at : StateAt o frames t at
  pub is_next : StateAt o frames (t + 1) next
  pub differs : byte_at at a ≢ byte_at next a

-- none from a start on and below an end does
abbrev pub NoneIn : Opening → List Frame → ℕ → ℕ → ℕ → Type 0
NoneIn o frames a start end = (t : ℕ) → start ≤ t → t < end → ¬ ChangesAt o frames a t

-- the last one that does, if any
abbrev pub IsLastIn : Opening → List Frame → ℕ → ℕ → ℕ → Option ℕ → Type 0
IsLastIn o frames a start end None = NoneIn o frames a start end
IsLastIn o frames a start end (Some t) =
    (start ≤ t) × (t < end) × ChangesAt o frames a t × NoneIn o frames a (t + 1) end

-- the place of the last of some instructions from a place on that changes something, of which so many there are up to it
abbrev pub place_after : ℕ → ℕ → Option ℕ
place_after from changed = if changed == 0 then None else Some (from + (changed - 1))
