-- The Mark: a session is stopped within its commit; the next one commits it, and then the opening of a guest of
-- version 2; the last one finds both.
use Rattle.std.specs.Prelude.{List, [], ◌∷◌}
use Rattle.rrv_model.specs.declared.machine.Version.TheVariants.{Two}
use Rattle.rrv_model.specs.declared.record.Opening.{Opening}
use Rattle.rrv_model.specs.declared.record.Record.{Record}
use Rattle.store_model.specs.CrashModel.{DiskState}
use Rattle.store_model.specs.DiskCalls.{after_sync}
use Rattle.store_model.specs.StoreCalls.{after_disk_calls}
use Rattle.rrv_model.specs.State.{State}
use Rattle.rrv_model.specs.Opening.{opening_state}
use Rattle.rrv_model.specs.Recovered.{body_text, mark}
use Rattle.commit_core.specs.World.{World, Recorder, opening_record, closed_store}
use Rattle.commit_core.specs.Events.{Event}
use Rattle.commit_core.specs.Events.Event.{Push, Pop, WriteBody, Sync1, OpenGate, Sync2}
use Rattle.commit_core.specs.Sessions.{Session, fresh_disk, mark_calls}
use Rattle.commit_core.specs.Sessions.Session.{Marked, OnlyOpened, Ran}
use Rattle.commit_core.specs.Example.{example_opening, example_recorder, start_on}

-- the example's guest, of version 2
abbrev pub new_opening : Opening
new_opening = record example_opening { version = Two }

abbrev pub new_state : State
new_state = opening_state new_opening.version new_opening.elf new_opening.name new_opening.random

abbrev pub new_record : Record
new_record = opening_record 0 new_opening

abbrev pub new_recorder : Recorder
new_recorder = record (example_recorder 0) { backlog = new_record ∷ []; states = new_state ∷ [] }

-- a store without bodies, once it is opened and the Mark committed
abbrev pub marked_disk : DiskState
marked_disk = after_disk_calls (after_sync (fresh_disk (closed_store []))) (mark_calls [])

abbrev pub marked_start : World
marked_start = record (start_on (mark ∷ []) 0) { recorders = λ g. new_recorder; disk = marked_disk }

-- the opening is sent, received and committed
abbrev pub new_events : List Event
new_events = Push 0 new_record [] ∷ Pop new_record [] ∷ WriteBody 1 ∷ Sync1 ∷ OpenGate ∷ Sync2 ∷ []

abbrev pub mark_sessions : List Session
mark_sessions =
    Marked [] [] ∷ Ran [] marked_start [] new_events
    ∷ OnlyOpened (mark ∷ body_text (new_record ∷ []) ∷ []) (new_record ∷ []) ∷ []
