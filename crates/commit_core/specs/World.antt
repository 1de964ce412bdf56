-- The world of a recording: the recorders, the queue, the words, the flusher and the disk, each kept by its holder.
use Rattle.std.specs.Prelude.{◌≡◌, ℕ, ◌+◌, ◌<◌, ◌≤◌, Bool, false, if◌then◌else◌, List, [], ◌∷◌, ◌++◌, length, map, flat_map}
use Rattle.std.specs.List.{AllByRecursion}
use Rattle.rrv_model.specs.declared.limits.TheConstants.{MAX_GUESTS, MAX_NUMBER}
use Rattle.store_model.specs.declared.limits.TheConstants.{MAX_SEGMENTS}
use Rattle.rrv_model.specs.declared.record.Opening.{Opening}
use Rattle.rrv_model.specs.declared.record.Item.TheVariants as items
use Rattle.rrv_model.specs.declared.record.Record.{Record}
use Rattle.store_model.specs.CrashModel.{DiskState, all_synced}
use Rattle.rrv_model.specs.State.{State}
use Rattle.rrv_model.specs.Opening.{Opens}
use Rattle.rrv_model.specs.RecordText.{HasText}
use Rattle.store_model.specs.StoreText.{header, segments, IsBody}
use Rattle.rrv_model.specs.Recovered.{body_text, of_guest, next_guest, IsRecovered}

-- ---- the holders

-- What one recorder keeps. What it made is what it sent and then its backlog.
pub record Recorder : Type 0 where
  pub sent : List Record
  pub backlog : List Record
  -- the guest's state after each record that it made
  pub states : List State
  -- how many of its records it has seen to be durable
  pub seen : ℕ
  -- the bytes that its sink took, each with its descriptor
  pub out : List (ℕ × ℕ)
  pub knows_halt : Bool
  pub left : Bool

abbrev pub made : Recorder → List Record
made r = r.sent ++ r.backlog

-- where the flusher stands in its commit
pub data Stage : Type 0 where
  Idle Written Synced Opened Broken : Stage

-- What the flusher keeps. What it received is the finished bodies' records, those in hand, and those that wait.
pub record Flusher : Type 0 where
  pub finished : List (List Record)
  pub hand : List Record
  pub waiting : List Record
  -- by guest: the count that it published last, and the word of a guest that left, as far as it looked
  pub told : ℕ → ℕ
  pub totals : ℕ → ℕ
  pub halted : Bool
  pub stage : Stage

abbrev pub joined : List (List Record) → List Record
joined batches = flat_map (λ batch. batch) batches

abbrev pub received : Flusher → List Record
received f = joined f.finished ++ f.hand ++ f.waiting

pub record World : Type 0 where
  -- how many guests are recorded, the number of the first, and the bodies of the store before
  pub guests : ℕ
  pub first_guest : ℕ
  pub bodies : List (List ℕ)
  pub recorders : ℕ → Recorder
  pub queue : List Record
  -- below guests: the counts of durable records; at guests: the halt; above: of each guest that left, one more than it
  -- sent
  pub words : ℕ → ℕ
  pub flusher : Flusher
  pub disk : DiskState

-- how many records of the guest at this place stand in finished bodies
abbrev pub committed_count : ℕ → Flusher → ℕ
committed_count number f = length (of_guest number (joined f.finished))

-- the bodies that the store holds
abbrev pub stored_bodies : World → List (List ℕ)
stored_bodies w = w.bodies ++ map body_text w.flusher.finished

-- ---- texts of the store

-- up to the last gate, and with that gate closed
unfoldable pub store_text : List (List ℕ) → List ℕ
store_text bodies = header ++ segments 0 bodies

abbrev pub closed_store : List (List ℕ) → List ℕ
closed_store bodies = store_text bodies ++ 0 ∷ []

-- a read gives these bytes, and so does every crash
pub record IsAtRest (disk : DiskState) (bytes : List ℕ) : Type 0 where
  pub read : disk.content ≡ bytes
  pub synced : disk.pending ≡ all_synced bytes

-- ---- words

abbrev pub flag : Bool → ℕ
flag b = if b then 1 else 0

-- what the word of a recorder says once it has left
abbrev pub left_word : Recorder → ℕ
left_word r = if r.left then length r.sent + 1 else 0

-- ---- how it begins

abbrev pub opening_record : ℕ → Opening → Record
opening_record number o = record { guest = number; index = 0; item = items.Opening o }

-- a recorder that has made its Opening and nothing else
pub record IsReady (number : ℕ) (r : Recorder) : Type 0 where
  pub opening : Opening
  pub state : State
  pub opens : Opens opening state
  pub has_text : HasText (opening_record number opening)
  pub is : r ≡ record {
    sent = [];
    backlog = opening_record number opening ∷ [];
    states = state ∷ [];
    seen = 0;
    out = [];
    knows_halt = false;
    left = false;
  }

abbrev pub nothing_done : Flusher
nothing_done = record {
  finished = [];
  hand = [];
  waiting = [];
  told = λ g. 0;
  totals = λ g. 0;
  halted = false;
  stage = Idle;
}

-- The store holds bodies from which these records are recovered, and every crash leaves just that; some recorders are
-- ready.
pub record IsStart (w : World) (old : List Record) : Type 0 where
  pub some : 1 ≤ w.guests
  pub few : w.guests ≤ MAX_GUESTS
  pub recovered : IsRecovered w.bodies old
  pub next : w.first_guest ≡ next_guest old
  pub room : w.first_guest + w.guests ≤ MAX_NUMBER + 1
  pub are_bodies : AllByRecursion IsBody w.bodies
  pub count : length w.bodies ≤ MAX_SEGMENTS
  pub disk : IsAtRest w.disk (closed_store w.bodies)
  pub ready : (g : ℕ) → g < w.guests → IsReady (w.first_guest + g) (w.recorders g)
  pub queue : w.queue ≡ []
  pub words : (k : ℕ) → w.words k ≡ 0
  pub flusher : w.flusher ≡ nothing_done
