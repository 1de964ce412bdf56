-- Where a byte of a recorded guest changes last, and next.
use Rattle.std.specs.Prelude.{ℕ, ◌+◌, ◌<◌, ◌≤◌, List, Option, Some, None}
use Rattle.rrv_model.specs.declared.record.Frame.{Frame}
use Rattle.rrv_model.specs.declared.record.Opening.{Opening}
use Rattle.rrv_model.specs.StateAt.{total}
use Rattle.replayer.specs.Changes.{ChangesAt, IsLastIn, NoneIn}

-- the last instruction below a place that changes the byte at an address
abbrev pub IsLastChange : Opening → List Frame → ℕ → ℕ → Option ℕ → Type 0
IsLastChange o frames a place found = IsLastIn o frames a 0 place found

-- the first one from a start on and below an end that does, if any
abbrev pub IsFirstIn : Opening → List Frame → ℕ → ℕ → ℕ → Option ℕ → Type 0
IsFirstIn o frames a start end None = NoneIn o frames a start end
IsFirstIn o frames a start end (Some t) = (start ≤ t) × (t < end) × ChangesAt o frames a t × NoneIn o frames a start t

-- the first instruction behind that at a place that changes the byte at an address
abbrev pub IsNextChange : Opening → List Frame → ℕ → ℕ → Option ℕ → Type 0
IsNextChange o frames a place found = IsFirstIn o frames a (place + 1) (total frames) found
