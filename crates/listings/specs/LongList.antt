-- What `list --long` tells of a guest: what its records add up to once they are replayed.
use Rattle.std.specs.Prelude.{◌≡◌, ◌↔◌, ℕ, zero, suc, ◌+◌, ◌-◌, ◌^◌, ◌≤◌, ◌==◌, max, min, if◌then◌else◌, List, [], ◌∷◌, ◌++◌, length, take, slice_get, codes, Option, Some, None, Contains}
use Rattle.std.specs.Fmt.{decimal}
use Rattle.std.specs.Int.{w32, from_be_bytes}
use Rattle.std.specs.List.Sorted.{IsStrictlyIncreasing}
use Rattle.sha2.specs.Sha256.{sha256}
use Rattle.rrv_model.specs.declared.machine.GuestEnd.{GuestEnd}
use Rattle.rrv_model.specs.declared.machine.GuestEnd.TheVariants as guest_ends
use Rattle.rrv_model.specs.declared.machine.Thread.{Thread}
use Rattle.rrv_model.specs.declared.record.CallRecord.{CallRecord}
use Rattle.rrv_model.specs.declared.record.End.{End}
use Rattle.rrv_model.specs.declared.record.Frame.{Frame}
use Rattle.rrv_model.specs.declared.record.Item.{Item}
use Rattle.rrv_model.specs.declared.record.Item.TheVariants as items
use Rattle.rrv_model.specs.declared.record.Record.{Record}
use Rattle.rrv_model.specs.Ends.{call_in, guest_end_name, is_preempt}
use Rattle.rrv_model.specs.Recording.{EndsIn, items_of}
use Rattle.rrv_model.specs.RecordText.{fault_number}
use Rattle.rrv_model.specs.Recovered.{of_guest}
use Rattle.rrv_model.specs.State.{State, register, thread_at}
use Rattle.faults.specs.declared.replay.VerifyFault.{VerifyFault}
use Rattle.trace_text.specs.Lines.{word_text, written_len}
use Rattle.listings.specs.declared.long_list.Summary.{Summary}
use Rattle.listings.specs.declared.long_list.Told.{Told}
use Rattle.listings.specs.declared.long_list.Told.TheVariants as told
use Rattle.listings.specs.declared.tally.Tally.{Tally}
use Rattle.listings.specs.Printed.{first_file, guest_line}
use Rattle.line_io.specs.Printed.{with_newline}
use Rattle.line_io.specs.declared.refusal.Refusal.{Refusal}
use Rattle.line_io.specs.declared.refusal.Refusal.TheVariants as refusals
use Rattle.line_io.specs.Stores.{IsFailed}
use Rattle.listings.specs.Turns.{RefusesTurns}

-- ---- what frames add up to

-- the number of read(2)
abbrev pub read_number : ℕ
read_number = 63

-- how many bytes a thread's call read: what it wrote, if its number is that of read, which is still in a7
abbrev pub read_by : Option CallRecord → Option Thread → ℕ
read_by None thread = 0
read_by (Some r) None = 0
read_by (Some r) (Some t) = if register t.regs 17 == read_number then written_len r else 0

abbrev pub no_tally : Tally
no_tally = record { turns = 0; input = 0 }

-- how long a turn was that ended since its quantum was used
abbrev pub turn_of : End → ℕ → ℕ
turn_of end count = if is_preempt end then count else 0

-- with a frame more, whose thread is this one behind it
abbrev pub with_frame : Tally → Frame → Option Thread → Tally
with_frame t f thread = record {
  turns = max t.turns (turn_of f.end f.count);
  input = min (t.input + read_by (call_in f.end) thread) (2 ^ 64 - 1);
}

-- with an item more, behind which this is the state
abbrev pub with_item : Tally → Item → State → Tally
with_item t (items.Opening o) s = t
with_item t (items.Frame f) s = with_frame t f (thread_at s f.tid)
with_item t (items.Part p) s = t

-- what the first n records add up to
abbrev pub AddsUpTo : List Record → (n : ℕ) → Tally → Type 0
AddsUpTo records zero tally = tally ≡ no_tally
AddsUpTo records (suc n) tally =
    (before : Tally) × (r : Record) × (s : State) × AddsUpTo records n before × (slice_get records n ≡ Some r)
    × EndsIn (items_of (take (suc n) records)) s × (tally ≡ with_item before r.item s)

-- ---- guests

-- The state that the records end in, with how many threads were made; what the frames add up to; and how long the program is, and the
-- first four bytes of its digest.
pub record IsSummary (records : List Record) (summary : Summary) : Type 0 where
  pub state : State
  pub ends : EndsIn (items_of records) state
  pub end_is : summary.end ≡ state.ended
  pub threads_are : summary.threads ≡ state.next_tid - 1
  pub tally_is : AddsUpTo records (length records) summary.tally
  pub length_is : summary.program.length ≡ length (first_file records)
  pub digest_is : summary.program.digest ≡ from_be_bytes w32 (sha256 (first_file records))

-- a guest's records are a recording, which is summed up, or are refused as such
abbrev pub IsTold : List Record → Told → Type 0
IsTold records (told.Whole summary) = IsSummary records summary
IsTold records told.Refused = (fault : VerifyFault) × RefusesTurns (refusals.Verify fault) records

-- why a guest isn't summed up: its records are no recording, or the device failed, or there was no memory
abbrev pub RefusesSummary : Refusal → List Record → Type 0
RefusesSummary (refusals.Verify fault) records = RefusesTurns (refusals.Verify fault) records
RefusesSummary e records = IsFailed e

-- ---- their text

abbrev pub end_number : GuestEnd → List ℕ
end_number (guest_ends.Exited status) = codes ":" ++ decimal status
end_number (guest_ends.Faulted kind) = codes ":" ++ decimal (fault_number kind)
end_number _ = []

-- as in `exited:5`
abbrev pub end_value : Option GuestEnd → List ℕ
end_value None = codes "none"
end_value (Some end) = guest_end_name end ++ end_number end

-- as in ` end=exited:1 threads=3 turns=500 input=0 elf=2040:9f3c71aa`
abbrev pub summary_text : Summary → List ℕ
summary_text s =
    codes " end=" ++ (end_value s.end ++ (codes " threads=" ++ (decimal s.threads ++ (codes " turns=" ++ (decimal s.tally.turns
    ++ (codes " input=" ++ (decimal s.tally.input ++ (codes " elf=" ++ (decimal s.program.length
    ++ (codes ":" ++ word_text s.program.digest))))))))))

abbrev pub told_text : Told → List ℕ
told_text (told.Whole summary) = summary_text summary
told_text told.Refused = codes " refused"

-- ---- the list

-- the lines of these guests, in order
abbrev pub AreLines : List Record → (guests : List ℕ) → List ℕ → Type 0
AreLines records [] text = text ≡ []
AreLines records (guest ∷ guests) text =
    (tells : Told) × (rest : List ℕ) × IsTold (of_guest guest records) tells × AreLines records guests rest
    × (text ≡ with_newline (guest_line guest (of_guest guest records) ++ told_text tells) ++ rest)

-- the lines of all guests with records among these, by rising number
pub record IsLongList (records : List Record) (text : List ℕ) : Type 0 where
  pub guests : List ℕ
  pub rising : IsStrictlyIncreasing guests
  pub each : (guest : ℕ) → Contains guests guest ↔ (1 ≤ length (of_guest guest records))
  pub lines : AreLines records guests text
