-- What is kept of a recording: its frames, and its complete checkpoints.
use Rattle.std.specs.Prelude.{◌≡◌, ℕ, ◌+◌, ◌≤◌, nat_le, if◌then◌else◌, List, [], ◌∷◌, ◌++◌, length, map, take, Option, Some, None}
use Rattle.rrv_model.specs.declared.record.Frame.{Frame}
use Rattle.rrv_model.specs.declared.record.CheckpointRest.{CheckpointRest}
use Rattle.rrv_model.specs.declared.record.Part.{Part}
use Rattle.rrv_model.specs.declared.record.Opening.{Opening}
use Rattle.rrv_model.specs.declared.record.Item.{Item}
use Rattle.rrv_model.specs.declared.record.Item.TheVariants as items
use Rattle.rrv_model.specs.State.{State}
use Rattle.rrv_model.specs.Opening.{Opens}
use Rattle.rrv_model.specs.StateAt.{StateAtFrom, total}
use Rattle.rrv_model.specs.Checkpoint.{Describes}
use Rattle.rrv_model.specs.declared.record.Record.{Record}
use Rattle.rrv_model.specs.Recording.{IsRecording, frames_of, items_of, row_after}
use Rattle.replayer.specs.declared.recording.Mark.{Mark}
use Rattle.replayer.specs.declared.recording.Track.{Track}
use Rattle.replayer.specs.Verified.{VerifiedValue}

-- the mark that a part makes behind so many frames and steps: one where it is flagged
abbrev pub new_marks : Option CheckpointRest → Mark → List Mark
new_marks None m = []
new_marks (Some rest) m = m ∷ []

-- the complete checkpoints among the items, behind so many frames and steps, with the row of parts before them
abbrev pub marks_of : List Part → ℕ → ℕ → List Item → List Mark
marks_of row frames steps [] = []
marks_of row frames steps (items.Opening o ∷ rest) = marks_of row frames steps rest
marks_of row frames steps (items.Frame f ∷ rest) = marks_of [] (frames + 1) (steps + f.count) rest
marks_of row frames steps (items.Part p ∷ rest) =
    new_marks p.rest (record { frames = frames; at = steps; parts = row ++ p ∷ [] })
    ++ marks_of (row_after p.rest (row ++ p ∷ [])) frames steps rest

-- the place of the last complete checkpoint at or before t, else the one given; the places rise
abbrev pub last_place : ℕ → List Mark → ℕ → ℕ
last_place place [] t = place
last_place place (m ∷ marks) t = if nat_le m.at t then last_place m.at marks t else place

-- the marks, from a base on: each describes, against the state of the one before it, the state behind its frames
abbrev pub AreMarks : State → List Frame → State → List Mark → Type 0
AreMarks s frames base [] = Unit {0}
AreMarks s frames base (m ∷ marks) =
    (at : State) × StateAtFrom s (take m.frames frames) m.at at × (m.at ≡ total (take m.frames frames))
    × (m.frames ≤ length frames) × Describes base m.parts at × AreMarks s frames at marks

-- the frames and marks of a guest that opens so
pub record AreKept (o : Opening) (frames : List Frame) (marks : List Mark) : Type 0 where
  pub first : State
  pub opens : Opens o first
  pub last : State
  pub ends : StateAtFrom first frames (total frames) last
  pub are_marks : AreMarks first frames first marks

-- the instructions that an item counts
abbrev pub instructions_in : Item → ℕ
instructions_in (items.Opening o) = 0
instructions_in (items.Frame f) = f.count
instructions_in (items.Part p) = 0

-- what is kept of an item, behind a row of parts
abbrev pub KeepsOn : Item → List Part → List Frame → List Mark → ℕ → List Frame → List Mark → ℕ → Type 0
KeepsOn (items.Opening o) row frames marks steps frames' marks' steps' = ⊥
KeepsOn (items.Frame f) row frames marks steps frames' marks' steps' =
    (frames' ≡ frames ++ f ∷ []) × (marks' ≡ marks) × (steps' ≡ steps + f.count)
KeepsOn (items.Part p) row frames marks steps frames' marks' steps' =
    (frames' ≡ frames)
    × (marks' ≡ marks ++ new_marks p.rest (record { frames = length frames; at = steps; parts = row ++ p ∷ [] }))
    × (steps' ≡ steps)

-- what is kept of items behind an opening, and what goes on behind them
pub record KeepsAll (items : List Item) (row : List Part) (frames : List Frame) (marks : List Mark) (steps : ℕ)
    : Type 0 where
  pub frames_are : (rest : List Item) → frames_of (items ++ rest) ≡ frames ++ frames_of rest
  pub marks_are : (rest : List Item) →
      marks_of [] 0 0 (items ++ rest) ≡ marks ++ marks_of row (length frames) steps rest
  pub steps_are : steps ≡ total frames

-- this is kept of just these items, of which the first is an opening
abbrev pub IsKeptOf : List Item → Opening → List Frame → List Mark → Type 0
IsKeptOf [] o frames marks = ⊥
IsKeptOf (items.Opening p ∷ rest) o frames marks = (o ≡ p) × (frames ≡ frames_of rest) × (marks ≡ marks_of [] 0 0 rest)
IsKeptOf (items.Frame f ∷ rest) o frames marks = ⊥
IsKeptOf (items.Part p ∷ rest) o frames marks = ⊥

-- the row of parts behind an item
abbrev pub RowIs : Item → List Part → List Part → Type 0
RowIs (items.Opening o) row row' = ⊥
RowIs (items.Frame f) row row' = row' ≡ []
RowIs (items.Part p) row row' = row' ≡ row_after p.rest (row ++ p ∷ [])

-- ---- of a verified recording

abbrev pub verified_of : Track → ℕ → VerifiedValue
verified_of track len = record {
  opening = track.opening;
  frames = track.frames;
  checkpoints = map (λ m. m.at) track.marks;
  len = len;
}

-- it is kept of just these records, which are a recording
pub record IsTrackOf (track : Track) (len : ℕ) (records : List Record) : Type 0 where
  pub recording : IsRecording records
  pub kept : IsKeptOf (items_of records) track.opening track.frames track.marks
  pub len_is : len ≡ length records

-- there are records that it is kept of
abbrev pub IsTrack : Track → ℕ → Type 0
IsTrack track len = (records : List Record) × IsTrackOf track len records
