-- Ends: the kinds of records, and what is asked of how a frame ended, and a guest. Others go by these words, and have no arm for each end.
use Rattle.std.specs.Prelude.{ℕ, ◌==◌, Bool, true, false, if◌then◌else◌, List, codes, Option, Some, None}
use Rattle.rrv_model.specs.declared.machine.FaultKind.{FaultKind}
use Rattle.rrv_model.specs.declared.machine.GuestEnd.{GuestEnd}
use Rattle.rrv_model.specs.declared.machine.GuestEnd.TheVariants as guest_ends
use Rattle.rrv_model.specs.declared.machine.Version.TheVariants.{One, Two}
use Rattle.rrv_model.specs.declared.record.CallRecord.{CallRecord}
use Rattle.rrv_model.specs.declared.record.End.{End}
use Rattle.rrv_model.specs.declared.record.End.TheVariants as ends
use Rattle.rrv_model.specs.declared.record.Item.{Item}
use Rattle.rrv_model.specs.declared.record.Item.TheVariants as items
use Rattle.rrv_model.specs.declared.record.Kind.{Kind}
use Rattle.rrv_model.specs.declared.record.Kind.TheVariants as kinds

-- ---- kinds of records

-- the byte of a kind
abbrev pub kind_number : Kind → ℕ
kind_number (kinds.Opening One) = 0
kind_number (kinds.Opening Two) = 8
kind_number kinds.Preempt = 1
kind_number kinds.Call = 2
kind_number kinds.Fault = 3
kind_number kinds.Stuck = 4
kind_number kinds.Part = 5
kind_number kinds.Expire = 6

-- the kind of a byte; 7 is in the first record of a newer version
abbrev pub kind_from : ℕ → Option Kind
kind_from n =
    if n == 0 then Some (kinds.Opening One)
    else if n == 1 then Some kinds.Preempt
    else if n == 2 then Some kinds.Call
    else if n == 3 then Some kinds.Fault
    else if n == 4 then Some kinds.Stuck
    else if n == 5 then Some kinds.Part
    else if n == 6 then Some kinds.Expire
    else if n == 8 then Some (kinds.Opening Two)
    else None

-- the word that is printed of a kind
abbrev pub kind_name : Kind → List ℕ
kind_name (kinds.Opening version) = codes "opening"
kind_name kinds.Preempt = codes "preempt"
kind_name kinds.Call = codes "call"
kind_name kinds.Fault = codes "fault"
kind_name kinds.Stuck = codes "stuck"
kind_name kinds.Part = codes "part"
kind_name kinds.Expire = codes "expire"

-- the kind of a frame's record
abbrev pub end_kind : End → Kind
end_kind ends.Preempt = kinds.Preempt
end_kind (ends.Call r) = kinds.Call
end_kind (ends.Fault kind) = kinds.Fault
end_kind ends.Stuck = kinds.Stuck
end_kind ends.Expire = kinds.Expire

-- the kind of an item's record
abbrev pub item_kind : Item → Kind
item_kind (items.Opening o) = kinds.Opening o.version
item_kind (items.Frame f) = end_kind f.end
item_kind (items.Part p) = kinds.Part

-- whether a record of this kind may stand before a store's Mark: no opening of version 2, and no expire
abbrev pub is_old : Kind → Bool
is_old (kinds.Opening One) = true
is_old (kinds.Opening Two) = false
is_old kinds.Preempt = true
is_old kinds.Call = true
is_old kinds.Fault = true
is_old kinds.Stuck = true
is_old kinds.Part = true
is_old kinds.Expire = false

-- ---- how a frame ended

-- the call that it ends in, if it ends in one
abbrev pub call_in : End → Option CallRecord
call_in (ends.Call r) = Some r
call_in ends.Preempt = None
call_in (ends.Fault kind) = None
call_in ends.Stuck = None
call_in ends.Expire = None

-- the fault that it ends in, if it ends in one
abbrev pub fault_in : End → Option FaultKind
fault_in (ends.Fault kind) = Some kind
fault_in ends.Preempt = None
fault_in (ends.Call r) = None
fault_in ends.Stuck = None
fault_in ends.Expire = None

-- whether a thread ran in a frame that ended so
abbrev pub runs_thread : End → Bool
runs_thread ends.Preempt = true
runs_thread (ends.Call r) = true
runs_thread (ends.Fault kind) = true
runs_thread ends.Stuck = false
runs_thread ends.Expire = false

-- whether its thread was preempted
abbrev pub is_preempt : End → Bool
is_preempt ends.Preempt = true
is_preempt (ends.Call r) = false
is_preempt (ends.Fault kind) = false
is_preempt ends.Stuck = false
is_preempt ends.Expire = false

-- whether the time of a wait was over
abbrev pub is_expiry : End → Bool
is_expiry ends.Preempt = false
is_expiry (ends.Call r) = false
is_expiry (ends.Fault kind) = false
is_expiry ends.Stuck = false
is_expiry ends.Expire = true

-- the guest's end where the frame, and not its call, ends the guest
abbrev pub guest_end : End → Option GuestEnd
guest_end ends.Preempt = None
guest_end (ends.Call r) = None
guest_end (ends.Fault kind) = Some (guest_ends.Faulted kind)
guest_end ends.Stuck = Some guest_ends.Stuck
guest_end ends.Expire = None

-- ---- how a guest ended

-- the word that is printed of it
abbrev pub guest_end_name : GuestEnd → List ℕ
guest_end_name (guest_ends.Exited status) = codes "exited"
guest_end_name (guest_ends.Faulted kind) = codes "faulted"
guest_end_name guest_ends.Stuck = codes "stuck"
