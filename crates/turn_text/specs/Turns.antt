-- The text of frames with their places, and as events of a trace (Chrome's trace-event format). Neither has a newline.
-- The thread is the frame's, in the state after it, and None if it is gone by then.
use Rattle.std.specs.Prelude.{◌≡◌, ℕ, ◌==◌, if◌then◌else◌, List, [], ◌++◌, codes, Option, Some, None}
use Rattle.std.specs.Fmt.{decimal}
use Rattle.rrv_model.specs.declared.machine.FaultKind.{FaultKind}
use Rattle.rrv_model.specs.declared.machine.Thread.{Thread}
use Rattle.rrv_model.specs.declared.record.CallRecord.{CallRecord}
use Rattle.rrv_model.specs.declared.record.End.{End}
use Rattle.rrv_model.specs.declared.record.End.TheVariants as ends
use Rattle.rrv_model.specs.RecordText.{fault_number}
use Rattle.rrv_model.specs.State.{State, register, thread_at}
use Rattle.rrv_model.specs.FrameStep.{FrameStep}
use Rattle.rrv_model.specs.CallRows.{call_name}
use Rattle.rrv_model.specs.Ends.{call_in, end_kind, fault_in, runs_thread, kind_name}
use Rattle.trace_text.specs.Lines.{fault_name, word_text, written_len}

-- ---- places

-- where the thread goes on
abbrev pub next_text : Option Thread → List ℕ
next_text None = codes " pc=none"
next_text (Some t) = codes " pc=" ++ word_text t.regs.pc

-- the instructions before the frame, and up to its end
abbrev pub from_and_to : (from to : ℕ) → List ℕ
from_and_to from to = codes " from=" ++ (decimal from ++ (codes " to=" ++ decimal to))

-- and where the frame's thread goes on, if one ran
abbrev pub places_text : End → (from to : ℕ) → Option Thread → List ℕ
places_text end from to thread =
    if runs_thread end then from_and_to from to ++ next_text thread else from_and_to from to

-- ---- names

-- the name of a number if it has one
abbrev pub name_or_number : ℕ → Option (List ℕ) → List ℕ
name_or_number n None = codes "call " ++ decimal n
name_or_number n (Some name) = name

-- The number of the call that the thread made: it is still in a7, since a call sets no register but a0. Only exit
-- leaves no thread.
abbrev pub call_number : Option Thread → ℕ
call_number None = 93
call_number (Some t) = register t.regs 17

-- ---- events

-- the name of the fault, if there is one
abbrev pub fault_text : Option FaultKind → List ℕ
fault_text None = []
fault_text (Some kind) = codes " " ++ fault_name kind

-- the name of the call, or the word of the end where there is none
abbrev pub name_by : Option CallRecord → End → Option Thread → List ℕ
name_by (Some r) end thread = name_or_number (call_number thread) (call_name (call_number thread))
name_by None end thread = kind_name (end_kind end) ++ fault_text (fault_in end)

abbrev pub event_name : End → Option Thread → List ℕ
event_name end thread = name_by (call_in end) end thread

-- what came of a call, or of a fault
abbrev pub call_outcome : Option CallRecord → List ℕ
call_outcome None = []
call_outcome (Some r) =
    codes ",\"result\":\"" ++ (word_text r.result ++ (codes "\",\"written\":" ++ decimal (written_len r)))

abbrev pub fault_outcome : Option FaultKind → List ℕ
fault_outcome None = []
fault_outcome (Some kind) = codes ",\"kind\":" ++ decimal (fault_number kind)

-- what came of the last instruction
abbrev pub outcome_text : End → List ℕ
outcome_text end = call_outcome (call_in end) ++ fault_outcome (fault_in end)

-- where the thread goes on
abbrev pub next_member : Option Thread → List ℕ
next_member None = codes ",\"pc\":null"
next_member (Some t) = codes ",\"pc\":\"" ++ (word_text t.regs.pc ++ codes "\"")

-- the run of a thread: when it began, how long it was, and of which guest and thread
abbrev pub run_members : (from count guest tid : ℕ) → List ℕ
run_members from count guest tid =
    codes "\",\"ph\":\"X\",\"ts\":" ++ (decimal from ++ (codes ",\"dur\":" ++ (decimal count
    ++ (codes ",\"pid\":" ++ (decimal guest ++ (codes ",\"tid\":" ++ decimal tid))))))

-- the arguments of an event: the record's index, what came of the last instruction, and where the thread goes on
unfoldable pub run_arguments : (index : ℕ) → End → Option Thread → List ℕ
run_arguments index end thread =
    codes ",\"args\":{\"record\":" ++ (decimal index ++ (outcome_text end ++ (next_member thread ++ codes "}}")))

-- the event of a run
unfoldable pub run_event : (guest index : ℕ) → End → (from tid count : ℕ) → Option Thread → List ℕ
run_event guest index end from tid count thread =
    codes "{\"name\":\"" ++ (event_name end thread
    ++ (run_members from count guest tid ++ run_arguments index end thread))

-- the event of a frame in which no thread ran, which takes no time
abbrev pub instant_event : (guest index : ℕ) → End → (from tid : ℕ) → List ℕ
instant_event guest index end from tid =
    codes "{\"name\":\"" ++ (kind_name (end_kind end) ++ (codes "\",\"ph\":\"i\",\"ts\":" ++ (decimal from
    ++ (codes ",\"pid\":" ++ (decimal guest ++ (codes ",\"tid\":" ++ (decimal tid
    ++ (codes ",\"s\":\"p\",\"args\":{\"record\":" ++ (decimal index ++ codes "}}")))))))))

-- the event of a frame
abbrev pub event_line : (guest index : ℕ) → End → (from tid count : ℕ) → Option Thread → List ℕ
event_line guest index end from tid count thread =
    if runs_thread end then run_event guest index end from tid count thread else instant_event guest index end from tid

-- ---- laws

-- if a frame ends in a call, the state after it tells the number that its thread had in a7 at the ECALL
abbrev pub CallNumbersAreKept : Type 0
CallNumbersAreKept =
    (old : State) (tid count : ℕ) (r : CallRecord) (new : State)
    (step : FrameStep old (record { tid = tid; count = count; end = ends.Call r }) new) →
    call_number (thread_at new tid) ≡ register step.goes.answered.thread.regs 17
