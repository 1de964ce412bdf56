-- Each of the four calls of the example's commit fails.
use Rattle.std.specs.Prelude.{ℕ, ◌+◌, ◌≤◌, List, [], ◌∷◌, ◌++◌, length}
use Rattle.store_model.specs.CrashModel.{DiskState}
use Rattle.store_model.specs.DiskCalls.{pending_write}
use Rattle.rrv_model.specs.State.{State}
use Rattle.commit_core.specs.World.{World, closed_store}
use Rattle.commit_core.specs.Events.{Event, run, IsSchedule, gate_place, behind_gate}
use Rattle.commit_core.specs.Events.Event.{WriteBody, WriteBodyFails, Sync1, Sync1Fails, OpenGateFails, Sync2Fails}
use Rattle.commit_core.specs.Example.{example_start, up_to_received, up_to_gate, torn_at_gate}

-- after a write of so many bytes at this place that failed, and left this content
abbrev pub torn_disk : DiskState → ℕ → ℕ → List ℕ → DiskState
torn_disk disk place count content = record {
  content = content;
  pending = pending_write disk.pending place count;
  past = disk.pending ∷ disk.past;
}

-- the write behind the closed gate fails, and leaves these bytes there
abbrev pub write_fails : World → List ℕ → Event
write_fails w behind =
    WriteBodyFails 3 (torn_disk w.disk (gate_place w + 1) (length (behind_gate w 3)) (closed_store [] ++ behind))

-- the write of the gate fails, and leaves this byte there
abbrev pub gate_fails : World → ℕ → Event
gate_fails w gate = OpenGateFails (torn_disk w.disk (gate_place w) 1 (torn_at_gate gate))

abbrev pub all_received : State → State → World
all_received written ended = run example_start (up_to_received written ended)

abbrev pub up_to_synced : State → State → List Event
up_to_synced written ended = up_to_received written ended ++ WriteBody 3 ∷ Sync1 ∷ []

-- a failed write leaves any bytes in its range, and no more than it was to write
pub record EachCallFails (written ended : State) : Type 0 where
  pub write : (behind : List ℕ) → length behind ≤ length (behind_gate (all_received written ended) 3) →
      IsSchedule example_start (up_to_received written ended ++ write_fails (all_received written ended) behind ∷ [])
  pub sync1 : IsSchedule example_start (up_to_received written ended ++ WriteBody 3 ∷ Sync1Fails ∷ [])
  pub gate : (gate : ℕ) →
      let events = up_to_synced written ended in
      IsSchedule example_start (events ++ gate_fails (run example_start events) gate ∷ [])
  pub sync2 : IsSchedule example_start (up_to_gate written ended ++ Sync2Fails ∷ [])
