-- Where a question leads from a place, and what is printed there.
use Rattle.std.specs.Prelude.{◌≡◌, ℕ, ◌+◌, ◌<◌, ◌≤◌, Bool, true, false, List, ◌++◌, Option, Some, None, codes}
use Rattle.std.specs.Io.KnownBytes.{Appends}
use Rattle.command_line.specs.declared.asked.Inquiry.{Inquiry}
use Rattle.command_line.specs.declared.asked.Inquiry.TheVariants as inquiries
use Rattle.end_text.specs.Ends.{where_line}
use Rattle.reverse_step.specs.Changes.{IsLastChange, IsNextChange}
use Rattle.reverse_step.specs.Cursors.{CursorValue}
use Rattle.faults.specs.declared.seek.SeekFault.{SeekFault}
use Rattle.faults.specs.declared.seek.SeekFault.TheVariants as seek_faults
use Rattle.rrv_model.specs.declared.record.Frame.{Frame}
use Rattle.rrv_model.specs.declared.record.Opening.{Opening}
use Rattle.rrv_model.specs.State.{State}
use Rattle.rrv_model.specs.StateAt.{StateAt, total}
use Rattle.trace_text.specs.MemoryText.{memory_lines}
use Rattle.trace_text.specs.States.{newline, state_lines, threads_lines}
use Rattle.line_io.specs.declared.refusal.Refusal.{Refusal}
use Rattle.line_io.specs.declared.refusal.Refusal.TheVariants as refusals
use Rattle.asking.specs.Places.{RunsNext, place_in, shown_place}

-- ---- where it leads

-- to a place that is found, and nowhere if there is none
abbrev pub LeadsTo : (Option ℕ → Type 0) → (from : ℕ) → (is_found : Bool) → (to : ℕ) → Type 0
LeadsTo IsFound from true to = IsFound (Some to)
LeadsTo IsFound from false to = IsFound None × (to ≡ from)

-- from a place to another, or it finds none
abbrev pub Goes : Opening → List Frame → Inquiry → (from : ℕ) → (is_found : Bool) → (to : ℕ) → Type 0
Goes o frames (inquiries.At place) from is_found to = (is_found ≡ true) × (to ≡ place_in (total frames) place)
Goes o frames (inquiries.Back count) from is_found to = (is_found ≡ true) × (to + count ≡ from)
Goes o frames (inquiries.Forward count) from is_found to = (is_found ≡ true) × (to ≡ from + count)
Goes o frames (inquiries.Last address) from is_found to = LeadsTo (IsLastChange o frames address from) from is_found to
Goes o frames (inquiries.Next address) from is_found to = LeadsTo (IsNextChange o frames address from) from is_found to
Goes o frames _ from is_found to = (is_found ≡ true) × (to ≡ from)

-- the same of a cursor, whose recording stays
abbrev pub Leads : Inquiry → (old new : CursorValue) → (is_found : Bool) → Type 0
Leads inquiry old new is_found = Goes old.verified.opening old.verified.frames inquiry old.place is_found new.place

-- to a place of a recording of so many instructions, or to a change, if there is one
abbrev pub IsWithin : Inquiry → (total from : ℕ) → Type 0
IsWithin (inquiries.At place) total from = place_in total place ≤ total
IsWithin (inquiries.Back count) total from = count ≤ from
IsWithin (inquiries.Forward count) total from = from + count ≤ total
IsWithin _ total from = Unit {0}

-- why it leads nowhere in a recording of so many instructions; there was no memory only if it leads somewhere
abbrev pub Refuses : SeekFault → Inquiry → (total from : ℕ) → Type 0
Refuses seek_faults.BeforeStart (inquiries.Back count) total from = from < count
Refuses seek_faults.PastEnd (inquiries.At place) total from = total < place_in total place
Refuses seek_faults.PastEnd (inquiries.Forward count) total from = total < from + count
Refuses seek_faults.Memory inquiry total from = IsWithin inquiry total from
Refuses _ inquiry total from = ⊥

-- ---- what is printed

-- of a place, of so many, at which this is the state, and the thread of this tid comes next
abbrev pub text_at : (place total tid : ℕ) → State → Inquiry → List ℕ
text_at place total tid s (inquiries.Memory range) = memory_lines s.memory range.address range.length
text_at place total tid s inquiries.Threads = threads_lines s
text_at place total tid s inquiries.Where = where_line place total tid s
text_at place total tid s _ = state_lines place total s

-- The question whose text is printed for one. If moves are quiet, a move prints what `where` prints.
abbrev pub printed_for : (is_quiet : Bool) → Inquiry → Inquiry
printed_for true (inquiries.Memory range) = inquiries.Memory range
printed_for true inquiries.Threads = inquiries.Threads
printed_for true _ = inquiries.Where
printed_for false inquiry = inquiry

abbrev pub unchanged_text : List ℕ
unchanged_text = codes "unchanged" ++ newline

-- the same, or that there is no change
abbrev pub found_text : (is_found : Bool) → (place total tid : ℕ) → State → Inquiry → List ℕ
found_text true place total tid s inquiry = text_at place total tid s inquiry
found_text false place total tid s inquiry = unchanged_text

-- ---- an answer

-- a question leads a cursor on, and a writer took its text over the state that the recording has there
pub record Answers (is_quiet : Bool) (inquiry : Inquiry) (old new : CursorValue) (before after : Option (List ℕ)) : Type 0 where
  pub is_found : Bool
  pub goes : Leads inquiry old new is_found
  pub state : State
  pub is_at : StateAt new.verified.opening new.verified.frames new.place state
  pub tid : ℕ
  pub next : 0 < total new.verified.frames → RunsNext new.verified.frames (shown_place (total new.verified.frames) new.place) tid
  pub none : total new.verified.frames ≡ 0 → tid ≡ 0
  pub printed : Appends before after (found_text is_found new.place (total new.verified.frames) tid state (printed_for is_quiet inquiry))

-- why a question has no answer: it leads nowhere, or there was no memory, and the cursor stays; or there was no reader, and the cursor is
-- where the question leads
abbrev pub Stays : Inquiry → (old new : CursorValue) → Refusal → Type 0
Stays inquiry old new (refusals.Seek seek_faults.Memory) = ⊥
Stays inquiry old new (refusals.Seek fault) = Refuses fault inquiry (total old.verified.frames) old.place × (new ≡ old)
Stays inquiry old new refusals.Memory = IsWithin inquiry (total old.verified.frames) old.place × (new ≡ old)
Stays inquiry old new refusals.OutputFailed = (is_found : Bool) × Leads inquiry old new is_found
Stays inquiry old new _ = ⊥
