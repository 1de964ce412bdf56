-- Two guests at once: each runs the example's file up to its write, one body has records of both, and a byte of each
-- leaves.
use Rattle.std.specs.Prelude.{◌≡◌, ℕ, List, [], ◌∷◌}
use Rattle.rrv_model.specs.declared.record.Record.{Record}
use Rattle.rrv_model.specs.State.{State}
use Rattle.rrv_model.specs.Recording.{frame_record}
use Rattle.commit_core.specs.World.{World, opening_record}
use Rattle.commit_core.specs.Events.{Event}
use Rattle.commit_core.specs.Events.Event.{Slice, Push, Look, Release, Pop, WriteBody, Sync1, OpenGate, Sync2, Publish}
use Rattle.commit_core.specs.Example.{example_opening, example_recorder, start_on, write_frame}

abbrev pub pair_start : World
pair_start = record (start_on [] 0) { guests = 2; recorders = example_recorder }

abbrev pub opened_by : ℕ → Record
opened_by number = opening_record number example_opening

abbrev pub wrote_by : ℕ → Record
wrote_by number = frame_record number 1 write_frame

-- the records of both, as they are sent
abbrev pub of_both : List Record
of_both = opened_by 0 ∷ opened_by 1 ∷ wrote_by 1 ∷ wrote_by 0 ∷ []

-- each guest makes its two records, and sends them between those of the other; its state is then this
abbrev pub pair_events : State → List Event
pair_events written =
    Slice 0 (wrote_by 0) written ∷ Slice 1 (wrote_by 1) written
    ∷ Push 0 (opened_by 0) (wrote_by 0 ∷ []) ∷ Push 1 (opened_by 1) (wrote_by 1 ∷ [])
    ∷ Push 1 (wrote_by 1) [] ∷ Push 0 (wrote_by 0) []
    ∷ Pop (opened_by 0) (opened_by 1 ∷ wrote_by 1 ∷ wrote_by 0 ∷ []) ∷ Pop (opened_by 1) (wrote_by 1 ∷ wrote_by 0 ∷ [])
    ∷ Pop (wrote_by 1) (wrote_by 0 ∷ []) ∷ Pop (wrote_by 0) []
    ∷ WriteBody 4 ∷ Sync1 ∷ OpenGate ∷ Sync2 ∷ Publish 0 ∷ Publish 1
    ∷ Look 1 ∷ Release 1 ((1, 0x7F) ∷ []) ∷ Look 0 ∷ Release 0 ((1, 0x7F) ∷ []) ∷ []

-- one body is finished, with the records of both, and of each guest a byte has left
pub record BothLeave (w : World) : Type 0 where
  pub body : w.flusher.finished ≡ of_both ∷ []
  pub first_out : (w.recorders 0).out ≡ (1, 0x7F) ∷ []
  pub second_out : (w.recorders 1).out ≡ (1, 0x7F) ∷ []
