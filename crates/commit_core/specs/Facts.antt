-- What holds after every event, and what every crash leaves.
use Rattle.std.specs.Prelude.{◌≡◌, ◌≢◌, ◌↔◌, ◌⊎◌, ℕ, suc, ◌+◌, ◌-◌, ◌<◌, ◌≤◌, true, List, [], ◌∷◌, ◌++◌, length, take, Some, slice_get, IsSomeAnd}
use Rattle.rrv_model.specs.declared.record.Record.{Record}
use Rattle.rrv_model.specs.State.{State}
use Rattle.store_model.specs.CrashModel.{Leaves}
use Rattle.rrv_model.specs.Recording.{IsRecording, IsNumbered, EndsIn, items_of}
use Rattle.store_model.specs.StoreText.{IsSound}
use Rattle.rrv_model.specs.Recovered.{body_text, of_guest, IsRecovered}
use Rattle.commit_core.specs.Runs.{IsBeginning, IsOutput, IsAt, total_of}
use Rattle.commit_core.specs.World.{World, made, received, committed_count, stored_bodies, flag, left_word}

-- ---- the six facts

-- queue law: received, followed by queued, is what each guest sent, which is a beginning of what it made
pub record QueueLaw (w : World) : Type 0 where
  pub sent : (g : ℕ) → g < w.guests →
      of_guest (w.first_guest + g) (received w.flusher ++ w.queue) ≡ (w.recorders g).sent
  pub made : (g : ℕ) → g < w.guests → IsBeginning (w.recorders g).sent (made (w.recorders g))

-- word law: the words say what their writers' views say, and what their readers saw is no more
pub record WordLaw (w : World) : Type 0 where
  pub counts : (g : ℕ) → g < w.guests → w.words g ≡ w.flusher.told g
  pub seen : (g : ℕ) → g < w.guests → (w.recorders g).seen ≤ w.words g
  pub halt : w.words w.guests ≡ flag w.flusher.halted
  pub halt_known : (g : ℕ) → g < w.guests → (w.recorders g).knows_halt ≡ true → w.flusher.halted ≡ true
  pub left : (g : ℕ) → g < w.guests → w.words (w.guests + 1 + g) ≡ left_word (w.recorders g)
  pub totals : (g : ℕ) → g < w.guests → (w.flusher.totals g ≡ 0) ⊎ (w.flusher.totals g ≡ left_word (w.recorders g))

-- told law: no more is told than is committed
abbrev pub ToldLaw : World → Type 0
ToldLaw w = (g : ℕ) → g < w.guests → w.flusher.told g ≤ committed_count (w.first_guest + g) w.flusher

-- disk law: every crash leaves sound bytes with the committed bodies, or with these and the body in hand
abbrev pub IsSoundStore : World → List ℕ → Type 0
IsSoundStore w bytes =
    IsSound bytes (stored_bodies w) ⊎ IsSound bytes (stored_bodies w ++ body_text w.flusher.hand ∷ [])

abbrev pub DiskLaw : World → Type 0
DiskLaw w = Leaves (IsSoundStore w) w.disk.pending

-- output law: what left is a beginning of the output of the records that were seen to be durable
abbrev pub OutputLaw : World → Type 0
OutputLaw w = (g : ℕ) → g < w.guests → IsOutput (w.recorders g).out (take (w.recorders g).seen (made (w.recorders g)))

-- the state after the first so many records is the one that stands at that place
abbrev pub HadStates : List Record → List State → Type 0
HadStates records states =
    (k : ℕ) → k < length records → IsSomeAnd (slice_get states k) (EndsIn (items_of (take (suc k) records)))

-- the records of a guest are a recording, and it was in these states behind each of them
pub record IsRun (number : ℕ) (records : List Record) (states : List State) : Type 0 where
  pub recording : IsRecording records
  pub numbered : IsNumbered number 0 records
  pub length_is : length states ≡ length records
  pub had : HadStates records states

-- recording law: what was made is a recording, and the guest was in the state behind it each time
abbrev pub RecordingLaw : World → Type 0
RecordingLaw w = (g : ℕ) → g < w.guests → IsRun (w.first_guest + g) (made (w.recorders g)) (w.recorders g).states

pub record Facts (w : World) : Type 0 where
  pub queue : QueueLaw w
  pub words : WordLaw w
  pub told : ToldLaw w
  pub disk : DiskLaw w
  pub output : OutputLaw w
  pub recording : RecordingLaw w

-- ---- what recovery gives

-- Replaying records, which aren't none and are a beginning of those of a whole run: they are a recording; below their
-- total the states are those of the run; at their total it is the state that the guest had when just these had been
-- made.
pub record Replays (records whole : List Record) (states : List State) : Type 0 where
  pub recording : IsRecording records
  pub there : (t : ℕ) → t < total_of (items_of records) → (s : State) × IsAt (items_of records) t s
  pub below : (t : ℕ) (s : State) → t < total_of (items_of records) →
      IsAt (items_of records) t s ↔ IsAt (items_of whole) t s
  pub at_total : (s : State) →
      IsAt (items_of records) (total_of (items_of records)) s ↔ slice_get states (length records - 1) ≡ Some s

-- From the bodies each guest's records are recovered up to some place behind every record of which an output byte has
-- left, and of earlier guests the records of before.
pub record RecoversFrom (w : World) (old : List Record) (bodies : List (List ℕ)) : Type 0 where
  pub records : List Record
  pub recovered : IsRecovered bodies records
  pub beginning : (g : ℕ) → g < w.guests → IsBeginning (of_guest (w.first_guest + g) records) (made (w.recorders g))
  pub seen : (g : ℕ) → g < w.guests → (w.recorders g).seen ≤ length (of_guest (w.first_guest + g) records)
  pub output : (g : ℕ) → g < w.guests → IsOutput (w.recorders g).out (of_guest (w.first_guest + g) records)
  pub none_above : (number : ℕ) → w.first_guest + w.guests ≤ number → of_guest number records ≡ []
  pub kept : (number : ℕ) → number < w.first_guest → of_guest number records ≡ of_guest number old
  pub replays : (g : ℕ) → g < w.guests → of_guest (w.first_guest + g) records ≢ [] →
      Replays (of_guest (w.first_guest + g) records) (made (w.recorders g)) (w.recorders g).states

-- the bytes are sound, with bodies from which all that is recovered
pub record Recovers (w : World) (old : List Record) (content : List ℕ) : Type 0 where
  pub bodies : List (List ℕ)
  pub sound : IsSound content bodies
  pub from : RecoversFrom w old bodies
