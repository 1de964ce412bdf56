-- What is printed of records that are replayed, one after another.
use Rattle.std.specs.Prelude.{◌≡◌, ℕ, zero, suc, ◌≤◌, List, [], ◌++◌, length, take, slice_get, Option, Some}
use Rattle.std.specs.Io.KnownBytes.{Appends}
use Rattle.command_line.specs.declared.request.DumpForm.{DumpForm}
use Rattle.command_line.specs.declared.request.DumpForm.TheVariants as forms
use Rattle.rrv_model.specs.declared.record.Record.{Record}
use Rattle.rrv_model.specs.Recording.{EndsIn, frames_of, items_of}
use Rattle.rrv_model.specs.State.{State}
use Rattle.rrv_model.specs.StateAt.{total}
use Rattle.faults.specs.declared.replay.VerifyFault.TheVariants as verify_faults
use Rattle.replayer.specs.Refusals.{RefusesVerify}
use Rattle.trace_text.specs.Lines.{record_line}
use Rattle.turn_text.specs.Records.{event_text, events_end, places_line}
use Rattle.line_io.specs.declared.refusal.Refusal.{Refusal}
use Rattle.line_io.specs.declared.refusal.Refusal.TheVariants as refusals
use Rattle.line_io.specs.Printed.{with_newline}

-- what is printed of a record, before and behind which so many instructions ran, and behind which this is the state
abbrev pub turn_text : DumpForm → Record → (from to : ℕ) → State → List ℕ
turn_text forms.Lines r from to s = with_newline (record_line r)
turn_text forms.Places r from to s = with_newline (places_line r from to s)
turn_text forms.TraceEvents r from to s = event_text r from s

-- how many instructions the first n records count
abbrev pub count_before : List Record → ℕ → ℕ
count_before records n = total (frames_of (items_of (take n records)))

-- the texts of the first n records
abbrev pub AreTurns : DumpForm → List Record → (n : ℕ) → List ℕ → Type 0
AreTurns form records zero text = text ≡ []
AreTurns form records (suc n) text =
    (before : List ℕ) × (r : Record) × (s : State) × AreTurns form records n before × (slice_get records n ≡ Some r)
    × EndsIn (items_of (take (suc n) records)) s
    × (text ≡ before ++ turn_text form r (count_before records n) (count_before records (suc n)) s)

-- a writer took the texts of the first n records
abbrev pub PrintsTurns : DumpForm → List Record → (n : ℕ) → (old new : Option (List ℕ)) → Type 0
PrintsTurns form records n old new = (text : List ℕ) × AreTurns form records n text × Appends old new text

-- what ends the text of all records
abbrev pub dump_end : DumpForm → List ℕ
dump_end forms.Lines = []
dump_end forms.Places = []
dump_end forms.TraceEvents = events_end

-- a writer took the text of all records
abbrev pub IsDumped : DumpForm → List Record → (old new : Option (List ℕ)) → Type 0
IsDumped form records old new =
    (text : List ℕ) × AreTurns form records (length records) text × Appends old new (text ++ dump_end form)

-- why records aren't printed that are replayed: those before the one that is named are a recording, and with it they are none
abbrev pub RefusesTurns : Refusal → List Record → Type 0
RefusesTurns refusals.NoSuchGuest records = records ≡ []
RefusesTurns (refusals.Verify verify_faults.BadOpening) records = RefusesVerify verify_faults.BadOpening (take 1 records)
RefusesTurns (refusals.Verify (verify_faults.Mismatch index)) records =
    RefusesVerify (verify_faults.Mismatch index) (take (suc index) records)
RefusesTurns (refusals.Verify (verify_faults.BadCheckpoint index)) records =
    RefusesVerify (verify_faults.BadCheckpoint index) (take (suc index) records)
RefusesTurns refusals.DeviceFailed records = 1 ≤ length records
RefusesTurns refusals.Memory records = 1 ≤ length records
RefusesTurns refusals.OutputFailed records = 1 ≤ length records
RefusesTurns _ records = ⊥
