-- The printed lines, without their newline. Words in hexadecimal have eight lower-case digits. Other numbers are
-- decimal.
use Rattle.std.specs.Prelude.{ℕ, ◌-◌, ◌^◌, Bool, if◌then◌else◌, List, [], ◌++◌, length, replicate, flat_map, sum_by, min, codes, Option, Some, None, false}
use Rattle.std.specs.Fmt.{decimal, digits}
use Rattle.std.specs.Char.{encode_utf8}
use Rattle.rrv_model.specs.declared.machine.FaultKind.{FaultKind}
use Rattle.rrv_model.specs.declared.machine.FaultKind.TheVariants as faults
use Rattle.rrv_model.specs.declared.machine.GuestEnd.{GuestEnd}
use Rattle.rrv_model.specs.declared.machine.GuestEnd.TheVariants as guest_ends
use Rattle.rrv_model.specs.declared.record.CallRecord.{CallRecord}
use Rattle.rrv_model.specs.declared.record.End.{End}
use Rattle.rrv_model.specs.declared.record.Item.{Item}
use Rattle.rrv_model.specs.declared.record.Item.TheVariants as items
use Rattle.rrv_model.specs.declared.record.Opening.{Opening}
use Rattle.rrv_model.specs.declared.record.Part.{Part}
use Rattle.rrv_model.specs.declared.record.Record.{Record}
use Rattle.rrv_model.specs.declared.record.CheckpointRest.{CheckpointRest}
use Rattle.rrv_model.specs.Ends.{call_in, end_kind, fault_in, guest_end_name, runs_thread, is_expiry, kind_name}
use Rattle.rrv_model.specs.FrameStep.{timed_out}
use Rattle.rrv_model.specs.RecordText.{fault_number}

-- the number behind the word of an end, if it has one
abbrev pub end_number : GuestEnd → List ℕ
end_number (guest_ends.Exited status) = codes " " ++ decimal status
end_number (guest_ends.Faulted kind) = codes " " ++ decimal (fault_number kind)
end_number _ = []

abbrev pub end_text : Option GuestEnd → List ℕ
end_text None = codes "end none"
end_text (Some end) = codes "end " ++ (guest_end_name end ++ end_number end)

-- the name of a kind of fault
abbrev pub fault_name : FaultKind → List ℕ
fault_name faults.BadInstruction = codes "bad instruction"
fault_name faults.Breakpoint = codes "breakpoint"
fault_name faults.MisalignedTarget = codes "misaligned target"
fault_name faults.MisalignedAtomic = codes "misaligned atomic"
fault_name faults.Fetch = codes "fetch"
fault_name faults.Load = codes "load"
fault_name faults.Store = codes "store"

abbrev pub word_text : ℕ → List ℕ
word_text n = replicate (8 - length (digits 16 false n)) 48 ++ digits 16 false n

-- how many bytes a call wrote in all its ranges, as far as 64 bits go
abbrev pub written_len : CallRecord → ℕ
written_len r = min (sum_by (λ w. length w.bytes) r.written) (2 ^ 64 - 1)

-- the characters of a name
abbrev pub name_text : List ℕ → List ℕ
name_text name = flat_map encode_utf8 name

abbrev pub opening_line : Opening → List ℕ
opening_line o = codes "opening name=" ++ (name_text o.name ++ (codes " elf=" ++ decimal (length o.elf)))

abbrev pub thread_and_count : ℕ → ℕ → List ℕ
thread_and_count tid count = codes " tid=" ++ (decimal tid ++ (codes " count=" ++ decimal count))

abbrev pub run_text : Bool → ℕ → ℕ → List ℕ
run_text thread tid count = if thread then thread_and_count tid count else []

abbrev pub call_text : Option CallRecord → List ℕ
call_text None = []
call_text (Some r) = codes " result=" ++ (word_text r.result ++ (codes " written=" ++ decimal (written_len r)))

abbrev pub fault_text : Option FaultKind → List ℕ
fault_text None = []
fault_text (Some kind) = codes " kind=" ++ decimal (fault_number kind)

-- the thread of a wait whose time was over, and its result
abbrev pub thread_and_result : ℕ → List ℕ
thread_and_result tid = codes " tid=" ++ (decimal tid ++ (codes " result=" ++ word_text timed_out))

abbrev pub expiry_text : Bool → ℕ → List ℕ
expiry_text expiry tid = if expiry then thread_and_result tid else []

-- the word of the end, the thread's run if a thread ran, the wait that ended if one did, and what its call or its fault tells,
-- if it ends in one
abbrev pub frame_line : End → ℕ → ℕ → List ℕ
frame_line end tid count =
    kind_name (end_kind end) ++ (run_text (runs_thread end) tid count ++ (expiry_text (is_expiry end) tid
    ++ (call_text (call_in end) ++ fault_text (fault_in end))))

abbrev pub last_text : Option CheckpointRest → List ℕ
last_text None = codes "no"
last_text (Some r) = codes "yes"

abbrev pub part_line : Part → List ℕ
part_line p = codes "part pages=" ++ (decimal (length p.pages) ++ (codes " last=" ++ last_text p.rest))

abbrev pub item_line : Item → List ℕ
item_line (items.Opening o) = opening_line o
item_line (items.Frame f) = frame_line f.end f.tid f.count
item_line (items.Part p) = part_line p

abbrev pub record_line : Record → List ℕ
record_line r = decimal r.index ++ (codes " " ++ item_line r.item)

abbrev pub verify_line : ℕ → ℕ → Option GuestEnd → List ℕ
verify_line records instructions end =
    codes "ok records=" ++ (decimal records
    ++ (codes " instructions=" ++ (decimal instructions ++ (codes " " ++ end_text end))))

abbrev pub list_line : ℕ → List ℕ → ℕ → ℕ → ℕ → List ℕ
list_line guest name records frames instructions =
    decimal guest ++ (codes " " ++ (name_text name
    ++ (codes " records=" ++ (decimal records ++ (codes " frames=" ++ (decimal frames
    ++ (codes " instructions=" ++ decimal instructions)))))))

abbrev pub report_line : List ℕ → Option GuestEnd → ℕ → List ℕ
report_line name end records =
    name_text name ++ (codes ": " ++ (end_text end ++ (codes ", records " ++ decimal records)))
