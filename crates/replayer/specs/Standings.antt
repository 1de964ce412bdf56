-- Where a guest stands behind its records, and what a checkpoint among them claims of it.
use Rattle.std.specs.Prelude.{◌≡◌, ℕ, ◌+◌, List, length, slice_get, IsSomeAnd}
use Rattle.rrv_model.specs.declared.record.Part.{Part}
use Rattle.rrv_model.specs.declared.record.Record.{Record}
use Rattle.rrv_model.specs.State.{State}
use Rattle.rrv_model.specs.Recording.{EndsIn, IsRecording, frames_of, items_of}
use Rattle.rrv_model.specs.StateAt.{total}
use Rattle.serial_sched.specs.LastThread.{last_tid}
use Rattle.replayer.specs.Kept.{instructions_in}
use Rattle.replayer.specs.LastThread.{thread_behind}
use Rattle.replayer.specs.Refusals.{TakesMemory}
use Rattle.replayer.specs.Walks.{LeadsOn, Stands}

-- the guest's number, how many records there are and what they count, and the states that they lead to
pub record Standing : Type 0 where
  pub number : ℕ
  pub len : ℕ
  pub total : ℕ
  -- the tid of the last frame that has a thread
  pub last : ℕ
  -- the state of the last complete checkpoint, or of the opening
  pub base : State
  -- the parts since
  pub row : List Part
  pub state : State

-- the records are a recording, behind which a guest stands so
pub record IsReached (x : Standing) (records : List Record) : Type 0 where
  pub recording : IsRecording records
  pub ends : EndsIn (items_of records) x.state
  pub total : x.total ≡ total (frames_of (items_of records))
  pub last : x.last ≡ last_tid (frames_of (items_of records))
  pub len : x.len ≡ length records
  pub takes : IsSomeAnd (slice_get records 0) TakesMemory
  pub stands : Stands x.number records x.base x.row x.state

-- a record leads from one standing to the next
pub record Continues (r : Record) (x y : Standing) : Type 0 where
  pub number : y.number ≡ x.number
  pub len : y.len ≡ x.len + 1
  pub total : y.total ≡ x.total + instructions_in r.item
  pub last : y.last ≡ thread_behind r.item x.last
  pub leads : LeadsOn x.number x.len r x.base x.row x.state y.base y.row y.state

-- a claim fits a standing: it says all of it but the state
pub record Fits (claim x : Standing) : Type 0 where
  pub number : x.number ≡ claim.number
  pub len : x.len ≡ claim.len
  pub total : x.total ≡ claim.total
  pub last : x.last ≡ claim.last
  pub base : x.base ≡ claim.base
  pub row : x.row ≡ claim.row
