-- What is so after every event, with what its proof needs besides.
use Rattle.std.proofs.Common.{◌≡◌, ◌⊎◌, ℕ, ◌+◌, ◌<◌, ◌≤◌, Bool, true, List, ◌++◌, length, take}
use Rattle.std.specs.List.{AllByRecursion}
use Rattle.rrv_model.specs.declared.record.Record.{Record}
use Rattle.rrv_model.specs.State.{State}
use Rattle.rrv_model.specs.RecordText.{HasText}
use Rattle.store_model.specs.StoreText.{IsBody}
use Rattle.rrv_model.specs.Recovered.{body_text, MayFollow, of_guest, next_guest, IsRecovered, OpensAtZero}
use Rattle.commit_core.specs.Runs.{IsOutput}
use Rattle.commit_core.specs.World.{World, Recorder, Flusher, made, received, committed_count, stored_bodies, joined, flag, left_word}
use Rattle.commit_core.specs.Facts.{IsRun}
use Rattle.commit_core.proofs.Stages.{DiskAt}

-- everything sent, in the order of the queue
abbrev pub total : World → List Record
total w = received w.flusher ++ w.queue

-- a record of a guest of the group
pub record IsOwn (first_guest guests : ℕ) (r : Record) : Type 0 where
  pub low : first_guest ≤ r.guest
  pub high : r.guest < first_guest + guests
  pub has_text : HasText r
  pub opens : OpensAtZero r

-- what one recorder made: records that have texts, and that are a run of its guest
pub record RecordingInvariant (number : ℕ) (records : List Record) (states : List State) : Type 0 where
  pub texts : AllByRecursion HasText records
  pub run : IsRun number records states

-- it has seen no more than its word says, and than it sent
pub record SeenInvariant (seen word : ℕ) (sent : List Record) : Type 0 where
  pub in_word : seen ≤ word
  pub in_sent : seen ≤ length sent

-- its word of having left, and what the flusher knows of it
pub record LeftInvariant (says word heard : ℕ) : Type 0 where
  pub told : word ≡ says
  pub known : (heard ≡ 0) ⊎ (heard ≡ says)

-- one recorder, with the shared parts as they are
pub record RecorderInvariant (first_guest guests : ℕ) (sent_by_all : List Record) (words : ℕ → ℕ) (halted : Bool) (totals : ℕ → ℕ) (k : ℕ)
    (r : Recorder) : Type 0 where
  pub sent : of_guest (first_guest + k) sent_by_all ≡ r.sent
  pub recording : RecordingInvariant (first_guest + k) (made r) r.states
  pub seen : SeenInvariant r.seen (words k) r.sent
  pub halt_known : r.knows_halt ≡ true → halted ≡ true
  pub left : LeftInvariant (left_word r) (words (guests + 1 + k)) (totals k)
  pub output : IsOutput r.out (take r.seen (made r))

-- what the flusher wrote, or is about to
abbrev pub written : Flusher → List Record
written f = joined f.finished ++ f.hand

-- the bodies of before, and those that are stored; and the records that are written behind the former
pub record StoreInvariant (before : List (List ℕ)) (first_guest : ℕ) (old : List Record) (bodies : List (List ℕ)) (records : List Record)
    : Type 0 where
  pub recovered : IsRecovered before old
  pub next : first_guest ≡ next_guest old
  pub sizes : AllByRecursion IsBody bodies
  pub few : length bodies ≤ 4294967295
  pub follow : MayFollow before records

-- the words that the flusher writes
pub record WordInvariant (guests : ℕ) (words told : ℕ → ℕ) (halted : Bool) : Type 0 where
  pub counts : (k : ℕ) → k < guests → words k ≡ told k
  pub halt : words guests ≡ flag halted

-- no more is told than the finished bodies have
abbrev pub ToldInvariant : ℕ → ℕ → (ℕ → ℕ) → Flusher → Type 0
ToldInvariant first_guest guests told f = (k : ℕ) → k < guests → told k ≤ committed_count (first_guest + k) f

pub record Invariant (w : World) (old : List Record) : Type 0 where
  pub store : StoreInvariant w.bodies w.first_guest old (stored_bodies w) (written w.flusher)
  pub words : WordInvariant w.guests w.words w.flusher.told w.flusher.halted
  pub told : ToldInvariant w.first_guest w.guests w.flusher.told w.flusher
  pub own : AllByRecursion (IsOwn w.first_guest w.guests) (total w)
  pub each : (k : ℕ) → k < w.guests →
      RecorderInvariant w.first_guest w.guests (total w) w.words w.flusher.halted w.flusher.totals k (w.recorders k)
  pub disk : DiskAt w.flusher.stage w.disk (stored_bodies w) (body_text w.flusher.hand)
