-- What each session has at each of its moments, and what later ones find of it.
use Rattle.std.specs.Prelude.{◌≡◌, ℕ, ◌+◌, ◌<◌, List, [], ◌∷◌, ◌++◌, take}
use Rattle.rrv_model.specs.declared.record.Record.{Record}
use Rattle.store_model.specs.CrashModel.{DiskState, IsCrash}
use Rattle.rrv_model.specs.Recovered.{of_guest, next_guest, IsRecovered}
use Rattle.commit_core.specs.Runs.{IsBeginning, IsOutput}
use Rattle.commit_core.specs.World.{World, made}
use Rattle.commit_core.specs.Events.{Event, run}
use Rattle.commit_core.specs.Facts.{Facts, RecoversFrom, Recovers}
use Rattle.commit_core.specs.Sessions.{Session, GrowsTo, IsFoundLater}
use Rattle.commit_core.specs.Sessions.Session.{StoppedOpening, Marked, OnlyOpened, Ran}

-- ---- at each moment

-- the six facts, and recovery of what a read gives and of every content that a crash leaves
pub record IsSafe (w : World) (old : List Record) : Type 0 where
  pub facts : Facts w
  pub read : Recovers w old w.disk.content
  pub crash : (content : List ℕ) → IsCrash w.disk.pending content → Recovers w old content

-- a session that ran is safe after each beginning of its events
abbrev pub IsSafeThroughout : Session → Type 0
IsSafeThroughout StoppedOpening = Unit {0}
IsSafeThroughout (Marked bodies old) = Unit {0}
IsSafeThroughout (OnlyOpened bodies old) = Unit {0}
IsSafeThroughout (Ran reported start old events) =
    (front rest : List Event) → events ≡ front ++ rest → IsSafe (run start front) old

-- ---- later

-- What later sessions find of one that came to this world, where sessions since then came to these.
pub record KeepsSession (w : World) (old : List Record) (since : List World) (bodies : List (List ℕ)) : Type 0 where
  -- the bodies begin with some from which the session is recovered, and what follows belongs to guests of later numbers
  pub left : List (List ℕ)
  pub from : RecoversFrom w old left
  pub grows : GrowsTo (record { bodies = left; first_guest = next_guest from.records }) since bodies
  -- what is recovered from all of them: up to the greatest number of which a record was left, just what was left
  pub records : List Record
  pub recovered : IsRecovered bodies records
  pub same : (number : ℕ) → number < next_guest from.records → of_guest number records ≡ of_guest number from.records
  -- of each guest every record that was seen to be durable, and so every record of which an output byte has left
  pub seen : (g : ℕ) → g < w.guests →
      IsBeginning (take (w.recorders g).seen (made (w.recorders g))) (of_guest (w.first_guest + g) records)
  pub output : (g : ℕ) → g < w.guests → IsOutput (w.recorders g).out (of_guest (w.first_guest + g) records)

-- each session that ran is kept from then on
abbrev pub AreKept : List Session → DiskState → Type 0
AreKept [] end = Unit {0}
AreKept (StoppedOpening ∷ sessions) end = AreKept sessions end
AreKept (Marked bodies old ∷ sessions) end = AreKept sessions end
AreKept (OnlyOpened bodies old ∷ sessions) end = AreKept sessions end
AreKept (Ran reported start old events ∷ sessions) end =
    IsFoundLater (KeepsSession (run start events) old) [] sessions end × AreKept sessions end
