-- A session starts: the log that was opened, the seats of a new group and its new recorders stand for a world at its start.
use Rattle.std.specs.Prelude.{◌≡◌, ℕ, ◌+◌, ◌<◌, ◌≤◌, List, [], ◌∷◌}
use Rattle.rrv_model.specs.declared.limits.TheConstants.{MAX_GUESTS, MAX_NUMBER}
use Rattle.rrv_model.specs.declared.record.Opening.{Opening}
use Rattle.rrv_model.specs.declared.record.Record.{Record}
use Rattle.rrv_model.specs.Opening.{Opens}
use Rattle.rrv_model.specs.RecordText.{HasText}
use Rattle.rrv_model.specs.Recovered.{next_guest}
use Rattle.rrv_model.specs.State.{State}
use Rattle.trace_disk.specs.Devices.{Device}
use Rattle.trace_log.specs.Kept.{LogValue}
use Rattle.commit_core.specs.World.{World, IsStart, opening_record}
use Rattle.commit_group.specs.Seats.{FlusherValue, GroupId, new_flusher_seat, new_seat}
use Rattle.commit_group.specs.Steps.{StandsForRecorder}
use Rattle.commit_group.specs.Worlds.{StandsFor}
use Rattle.recorder.specs.Recorders.{GuestRecorder, HasPut, HasRecorded, made}
use Rattle.recorder.specs.RecorderWorlds.{StandsForGuest}
use Rattle.session.specs.Sessions.{IsLeft}

-- the guest at a place can be recorded: it opens in this state, and its Opening has a text
pub record IsReadyAt (g : ℕ) (opening : Opening) (state : State) : Type 0 where
  pub opens : Opens opening state
  pub has_text : HasText (opening_record g opening)

-- A new group's flusher, for whose guests there are numbers from this one on, and whose guests can be recorded.
pub record IsNewGroup (first : ℕ) (flusher : FlusherValue) (openings : ℕ → Opening) : Type 0 where
  pub some : 1 ≤ flusher.group.guests
  pub few : flusher.group.guests ≤ MAX_GUESTS
  pub room : first + flusher.group.guests ≤ MAX_NUMBER + 1
  pub flusher_is : flusher ≡ new_flusher_seat flusher.group
  pub states : ℕ → State
  pub ready : (g : ℕ) → g < flusher.group.guests → IsReadyAt g (openings g) (states g)

-- a recorder as it is made for the new seat at a place: it made this Opening and nothing else
pub record IsNew (group : GroupId) (g : ℕ) (opening : Opening) (r : GuestRecorder) : Type 0 where
  pub seat : r.seat ≡ new_seat group g
  pub made_is : made r ≡ opening_record g opening ∷ []
  pub recorded : HasRecorded r
  pub has_put : HasPut r []

-- The flusher's seat and the log stand for a world, and so does each new seat. So does a new recorder, of which nothing has
-- left: where there was no memory for it, the seat alone stands.
pub record StandForAll {D : Type 0} (device : Device D) (log : LogValue D) (flusher : FlusherValue)
    (openings : ℕ → Opening) (w : World) : Type 0 where
  pub flusher_stands : StandsFor device.state log.next_guest flusher log w
  pub seats : (g : ℕ) → g < w.guests → StandsForRecorder (new_seat flusher.group g) w
  pub recorders : (g : ℕ) → g < w.guests → (r : GuestRecorder) → IsNew flusher.group g (openings g) r
      → StandsForGuest r [] w

-- Of the log `open` says this, if the disk is honest.
abbrev pub StartsAreWorlds : {D : Type 0} → Device D → Type 0
StartsAreWorlds {D = D} device =
    (log : LogValue D) (bodies : List (List ℕ)) (earlier : List Record)
    (flusher : FlusherValue) (openings : ℕ → Opening)
    → IsLeft device log bodies earlier → log.next_guest ≡ next_guest earlier
    → IsNewGroup log.next_guest flusher openings
    → (w : World) × IsStart w earlier × (w.bodies ≡ bodies) × StandForAll device log flusher openings w
