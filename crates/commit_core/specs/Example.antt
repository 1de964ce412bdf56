-- A start and events for it, after which a byte has left: one guest, which writes the first byte of its file and exits.
use Rattle.std.specs.Prelude.{◌≢◌, ℕ, false, List, [], ◌∷◌, ◌++◌, replicate}
use Rattle.rrv_model.specs.declared.machine.Version.TheVariants.{One}
use Rattle.rrv_model.specs.declared.record.End.TheVariants as ends
use Rattle.rrv_model.specs.declared.record.Frame.{Frame}
use Rattle.rrv_model.specs.declared.record.Opening.{Opening}
use Rattle.rrv_model.specs.declared.record.Record.{Record}
use Rattle.store_model.specs.CrashModel.{IsCrash}
use Rattle.store_model.specs.DiskCalls.{after_sync}
use Rattle.rrv_model.specs.State.{State}
use Rattle.rrv_model.specs.Opening.{opening_state}
use Rattle.rrv_model.specs.Recording.{frame_record}
use Rattle.store_model.specs.StoreText.{segment, IsSound}
use Rattle.rrv_model.specs.Recovered.{body_text, IsRecovered}
use Rattle.commit_core.specs.World.{World, Recorder, opening_record, store_text, closed_store, nothing_done}
use Rattle.commit_core.specs.Events.{Event}
use Rattle.commit_core.specs.Events.Event.{Slice, Push, Look, Release, LookHalt, Leave, Pop, WriteBody, Sync1, OpenGate, Sync2, Publish, Halt, LookLeft}
use Rattle.commit_core.specs.Sessions.{Session, fresh_disk}
use Rattle.commit_core.specs.Sessions.Session.{Ran}

-- ---- the guest

-- An ELF file of 112 bytes, loaded at 0x10000: li a0, 1; lui a1, 0x10; li a2, 1; li a7, 64; ecall; li a7, 93; ecall
abbrev pub example_elf : List ℕ
example_elf =
    0x7F ∷ 0x45 ∷ 0x4C ∷ 0x46 ∷ 1 ∷ 1 ∷ 1 ∷ 0 ∷ 0 ∷ 0 ∷ 0 ∷ 0 ∷ 0 ∷ 0 ∷ 0 ∷ 0
    ∷ 2 ∷ 0 ∷ 0xF3 ∷ 0 ∷ 1 ∷ 0 ∷ 0 ∷ 0 ∷ 0x54 ∷ 0 ∷ 1 ∷ 0 ∷ 52 ∷ 0 ∷ 0 ∷ 0
    ∷ 0 ∷ 0 ∷ 0 ∷ 0 ∷ 0 ∷ 0 ∷ 0 ∷ 0 ∷ 52 ∷ 0 ∷ 32 ∷ 0 ∷ 1 ∷ 0 ∷ 0 ∷ 0
    ∷ 0 ∷ 0 ∷ 0 ∷ 0 ∷ 1 ∷ 0 ∷ 0 ∷ 0 ∷ 0 ∷ 0 ∷ 0 ∷ 0 ∷ 0 ∷ 0 ∷ 1 ∷ 0
    ∷ 0 ∷ 0 ∷ 1 ∷ 0 ∷ 112 ∷ 0 ∷ 0 ∷ 0 ∷ 112 ∷ 0 ∷ 0 ∷ 0 ∷ 5 ∷ 0 ∷ 0 ∷ 0
    ∷ 0 ∷ 0x10 ∷ 0 ∷ 0 ∷ 0x13 ∷ 0x05 ∷ 0x10 ∷ 0 ∷ 0xB7 ∷ 0x05 ∷ 0x01 ∷ 0 ∷ 0x13 ∷ 0x06 ∷ 0x10 ∷ 0
    ∷ 0x93 ∷ 0x08 ∷ 0 ∷ 0x04 ∷ 0x73 ∷ 0 ∷ 0 ∷ 0 ∷ 0x93 ∷ 0x08 ∷ 0xD0 ∷ 0x05 ∷ 0x73 ∷ 0 ∷ 0 ∷ 0 ∷ []

abbrev pub example_opening : Opening
example_opening = record { version = One; elf = example_elf; name = 97 ∷ []; random = replicate 16 0 }

abbrev pub example_state : State
example_state = opening_state example_opening.version example_opening.elf example_opening.name example_opening.random

-- five instructions, of which the last is the call that puts the byte out
abbrev pub write_frame : Frame
write_frame = record { tid = 1; count = 5; end = ends.Call (record { result = 1; written = [] }) }

-- and two, of which the last is the call that ends it
abbrev pub exit_frame : Frame
exit_frame = record { tid = 1; count = 2; end = ends.Call (record { result = 0; written = [] }) }

abbrev pub opened : Record
opened = opening_record 0 example_opening

abbrev pub wrote : Record
wrote = frame_record 0 1 write_frame

abbrev pub exited : Record
exited = frame_record 0 2 exit_frame

abbrev pub all_three : List Record
all_three = opened ∷ wrote ∷ exited ∷ []

-- ---- the start

-- a recorder of this guest, with this number
abbrev pub example_recorder : ℕ → Recorder
example_recorder number = record {
  sent = [];
  backlog = opening_record number example_opening ∷ [];
  states = example_state ∷ [];
  seen = 0;
  out = [];
  knows_halt = false;
  left = false;
}

-- one guest with this number, and a store with these bodies that was opened
abbrev pub start_on : List (List ℕ) → ℕ → World
start_on bodies number = record {
  guests = 1;
  first_guest = number;
  bodies = bodies;
  recorders = λ g. example_recorder number;
  queue = [];
  words = λ k. 0;
  flusher = nothing_done;
  disk = after_sync (fresh_disk (closed_store bodies));
}

abbrev pub example_start : World
example_start = start_on [] 0

-- ---- the events

-- the guest runs to its end, by way of these states; its records are sent and received
abbrev pub up_to_received : State → State → List Event
up_to_received written ended =
    Slice 0 wrote written ∷ Slice 0 exited ended
    ∷ Push 0 opened (wrote ∷ exited ∷ []) ∷ Push 0 wrote (exited ∷ []) ∷ Push 0 exited []
    ∷ Pop opened (wrote ∷ exited ∷ []) ∷ Pop wrote (exited ∷ []) ∷ Pop exited [] ∷ []

-- and they are written up to the gate
abbrev pub up_to_gate : State → State → List Event
up_to_gate written ended = up_to_received written ended ++ WriteBody 3 ∷ Sync1 ∷ OpenGate ∷ []

-- the commit is finished and published, the recorder looks, and puts the byte out; at a halt it leaves, and the flusher
-- sees it
abbrev pub from_gate_on : List Event
from_gate_on =
    Sync2 ∷ Publish 0 ∷ Look 0 ∷ Release 0 ((1, 0x7F) ∷ []) ∷ Halt ∷ LookHalt 0 ∷ Leave 0 ∷ LookLeft 0 ∷ []

abbrev pub up_to_release : State → State → List Event
up_to_release written ended = up_to_gate written ended ++ from_gate_on

-- ---- a crash in the write of the gate

-- the store with this byte as its gate, and behind it the segment of the records and a closed gate
abbrev pub torn_at_gate : ℕ → List ℕ
torn_at_gate gate = store_text [] ++ gate ∷ (segment 0 (body_text all_three) ++ 0 ∷ [])

-- a crash now may leave these bytes, from which these records are recovered
pub record CrashLeaves (w : World) (content : List ℕ) (records : List Record) : Type 0 where
  pub crash : IsCrash w.disk.pending content
  pub bodies : List (List ℕ)
  pub sound : IsSound content bodies
  pub recovered : IsRecovered bodies records

-- any byte may be left there: nothing is recovered, or all records where the byte opens the gate
pub record GateMayTear (w : World) : Type 0 where
  pub without : (gate : ℕ) → gate ≢ 0xA5 → CrashLeaves w (torn_at_gate gate) []
  pub with_all : CrashLeaves w (torn_at_gate 0xA5) all_three

-- ---- two sessions

-- one that is stopped in the write of the gate, and one that finds its records there, and is stopped before it does
-- anything
abbrev pub two_sessions : State → State → List Session
two_sessions written ended =
    Ran [] example_start [] (up_to_gate written ended)
    ∷ Ran (body_text all_three ∷ []) (start_on (body_text all_three ∷ []) 1) all_three [] ∷ []
