-- What contracts see of a guest's recorder.
use Rattle.std.specs.Prelude.{◌≡◌, ℕ, ◌+◌, ◌≤◌, true, false, List, [], ◌∷◌, ◌++◌, length, take, Option}
use Rattle.std.specs.List.{AllByRecursion}
use Rattle.rrv_model.specs.declared.limits.TheConstants.{MAX_NUMBER}
use Rattle.rrv_model.specs.declared.record.Item.{Item}
use Rattle.rrv_model.specs.declared.record.Record.{Record}
use Rattle.rrv_model.specs.Output.{Chunk, spread}
use Rattle.rrv_model.specs.Recording.{items_of}
use Rattle.rrv_model.specs.Recovered.{OpensAtZero, of_guest}
use Rattle.guest_calls.specs.Guest.{GuestValue, state_of}
use Rattle.commit_core.specs.Runs.{IsOutput, ItemsPut}
use Rattle.commit_group.specs.Numbers.{base}
use Rattle.commit_group.specs.Reports.{HasEnded}
use Rattle.commit_group.specs.Seats.{FlusherValue, RecorderValue}
use Rattle.recorder.specs.declared.checkpoints.Checkpoints.{Checkpoints}
use Rattle.recorder.specs.declared.every.Every.{Every}
use Rattle.recorder.specs.Checkpoints.{KeepsBase, every_of, gap_of, last_of}
use Rattle.recorder.specs.Deadlines.{AreDeadlinesOf}
use Rattle.recorder.specs.Owed.{Owed, left_of}
use Rattle.recorder.specs.Recorded.{IsRecorded}

-- A guest's recorder: its seat, the records that it made and didn't send, the output that waits, and the guest. The guest
-- of each record is the place in the group. Then how far apart checkpoints are, how many instructions lie behind the last one, or
-- the start, at the least, or 0 where there are none, and how many had run there. Then the deadlines of its waits, and the last
-- answer of the monotonic clock, in nanoseconds, or 0 before the first.
pub record GuestRecorder : Type 0 where
  pub seat : RecorderValue
  pub backlog : List Record
  pub owed : Owed
  pub guest : GuestValue
  pub every : Every
  pub gap : ℕ
  pub last : ℕ
  pub deadlines : List (ℕ × ℕ)
  pub clock : ℕ

-- all records that it made, of which the first are sent
abbrev pub made : GuestRecorder → List Record
made r = r.seat.sent ++ r.backlog

-- what it made is a recording that ends in the guest's state, and it has a deadline of each wait with a timeout there
pub record HasRecorded (r : GuestRecorder) : Type 0 where
  pub recorded : IsRecorded r.seat.guest (made r) (state_of r.guest)
  pub deadlines : AreDeadlinesOf (state_of r.guest) r.deadlines

-- These bytes have left: what is left of the first k records' output behind them, they are all that these records put out,
-- as soon as k is no less than how many are seen to be durable.
pub record HasPut (r : GuestRecorder) (out : List (ℕ × ℕ)) : Type 0 where
  pub each : (k : ℕ) → r.seat.seen ≤ k → k ≤ length (made r)
      → (chunks : List Chunk) × ItemsPut (items_of (take k (made r))) chunks × (out ++ left_of r.owed k ≡ spread chunks)

-- all that was made is sent and seen to be durable, and its output has left
pub record IsSettled (r : GuestRecorder) : Type 0 where
  pub sent : r.backlog ≡ []
  pub seen : r.seat.seen ≡ length r.seat.sent
  pub left : r.owed.released ≡ length r.seat.sent

-- ---- what its fields keep

-- these items as records of the guest at a place, from an index on
abbrev pub records_from : (place index : ℕ) → List Item → List Record
records_from place index [] = []
records_from place index (item ∷ items) =
    record { guest = place; index = index; item = item } ∷ records_from place (index + 1) items

abbrev pub backlog_of : RecorderValue → List Item → List Record
backlog_of seat items = records_from seat.guest (length seat.sent) items

abbrev pub recorder_of : RecorderValue → List Item → Owed → GuestValue → Option Checkpoints → List (ℕ × ℕ) → ℕ → GuestRecorder
recorder_of seat items owed guest checkpoints deadlines clock = record {
  seat = seat;
  backlog = backlog_of seat items;
  owed = owed;
  guest = guest;
  every = every_of checkpoints;
  gap = gap_of checkpoints;
  last = last_of checkpoints;
  deadlines = deadlines;
  clock = clock;
}

pub record KeepsGuest (seat : RecorderValue) (items : List Item) (owed : Owed) (guest : GuestValue)
    (checkpoints : Option Checkpoints) (deadlines : List (ℕ × ℕ)) : Type 0 where
  pub here : seat.has_left ≡ false
  pub place : seat.guest ≤ MAX_NUMBER
  pub recorded : IsRecorded seat.guest (seat.sent ++ backlog_of seat items) (state_of guest)
  pub waits : AreDeadlinesOf (state_of guest) deadlines
  pub base : KeepsBase checkpoints (items_of (seat.sent ++ backlog_of seat items)) guest
  pub opens : AllByRecursion OpensAtZero (backlog_of seat items)
  pub few : length seat.sent + length items ≤ MAX_NUMBER + 1
  pub all : owed.released + length owed.owed ≡ length seat.sent + length items
  pub released : owed.released ≤ seat.seen
  pub seen : seat.seen ≤ length seat.sent

-- ---- laws

-- what has left is a beginning of the output of the records that are seen to be durable
abbrev pub OutputIsDurable : Type 0
OutputIsDurable = (r : GuestRecorder) (out : List (ℕ × ℕ))
    → r.seat.seen ≤ length r.seat.sent → HasPut r out → IsOutput out (take r.seat.seen (made r))

-- of a settled recorder all output has left
abbrev pub SettledHasPutAll : Type 0
SettledHasPutAll = (r : GuestRecorder) (out : List (ℕ × ℕ)) → IsSettled r → HasPut r out
    → (chunks : List Chunk) × ItemsPut (items_of (made r)) chunks × (out ≡ spread chunks)

-- Once its group has ended, it is a beginning of the output of its guest's committed records.
abbrev pub OutputIsCommitted : Type 0
OutputIsCommitted = (r : GuestRecorder) (out : List (ℕ × ℕ)) (f : FlusherValue) (sent committed seen : ℕ)
    → HasRecorded r → HasPut r out → HasEnded f sent committed seen (record r.seat { has_left = true })
    → IsOutput out (of_guest (base f.first_guest + r.seat.guest) f.committed)
