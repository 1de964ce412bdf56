-- A session that begins with a repair: the first one's byte has left, and it is stopped in the write of its second
-- gate; the next one is stopped within its opening.
use Rattle.std.specs.Prelude.{◌≡◌, ℕ, ◌+◌, List, [], ◌∷◌, ◌++◌, length}
use Rattle.rrv_model.specs.declared.record.Record.{Record}
use Rattle.store_model.specs.CrashModel.{DiskState, IsCrash}
use Rattle.rrv_model.specs.State.{State}
use Rattle.store_model.specs.StoreText.{segment}
use Rattle.store_model.specs.StoreCalls.{after_disk_calls}
use Rattle.store_model.specs.StoreCalls.DiskCall.{Write, Cut, Sync}
use Rattle.rrv_model.specs.Recovered.{body_text}
use Rattle.commit_core.specs.World.{World, store_text, closed_store}
use Rattle.commit_core.specs.Events.{Event, run}
use Rattle.commit_core.specs.Events.Event.{Look, Release, WriteBody, Sync1, OpenGate, Sync2, Publish}
use Rattle.commit_core.specs.Sessions.{Session, AreSessions, fresh_disk}
use Rattle.commit_core.specs.Sessions.Session.{StoppedOpening, Ran}
use Rattle.commit_core.specs.Example.{start_on, example_start, opened, wrote, exited, up_to_received}

abbrev pub first_two : List Record
first_two = opened ∷ wrote ∷ []

abbrev pub first_body : List (List ℕ)
first_body = body_text first_two ∷ []

-- the first two records are committed and the byte put out; the third is written up to the gate
abbrev pub up_to_second_gate : State → State → List Event
up_to_second_gate written ended =
    up_to_received written ended
    ++ WriteBody 2 ∷ Sync1 ∷ OpenGate ∷ Sync2 ∷ Publish 0 ∷ Look 0 ∷ Release 0 ((1, 0x7F) ∷ [])
    ∷ WriteBody 1 ∷ Sync1 ∷ OpenGate ∷ []

-- the store with its first body, a gate that is neither closed nor open, and behind it the second segment and a closed
-- gate
abbrev pub torn_store : List ℕ
torn_store = store_text first_body ++ 0x21 ∷ (segment 1 (body_text (exited ∷ [])) ++ 0 ∷ [])

-- once it is repaired: a sync, the gate closed and synced, what stands behind it cut off and synced
abbrev pub repaired_disk : DiskState
repaired_disk =
    let place = length (store_text first_body) in
    after_disk_calls (fresh_disk torn_store) (Sync ∷ Write place (0 ∷ []) ∷ Sync ∷ Cut (place + 1) ∷ Sync ∷ [])

abbrev pub repaired_start : World
repaired_start = record (start_on first_body 1) { disk = repaired_disk }

-- the last session finds the first two records, and is stopped before it does anything
abbrev pub repair_sessions : State → State → List Session
repair_sessions written ended =
    Ran [] example_start [] (up_to_second_gate written ended) ∷ StoppedOpening
    ∷ Ran first_body repaired_start first_two [] ∷ []

pub record IsRepaired (written ended : State) : Type 0 where
  pub out : ((run example_start (up_to_second_gate written ended)).recorders 0).out ≡ (1, 0x7F) ∷ []
  pub crash : IsCrash (run example_start (up_to_second_gate written ended)).disk.pending torn_store
  pub sessions : AreSessions (fresh_disk (closed_store [])) (repair_sessions written ended) repaired_disk
  pub rest : repaired_disk.content ≡ closed_store first_body
