-- What a recording of programs leaves in its store.
use Rattle.std.specs.Prelude.{◌≡◌, ℕ, ◌+◌, List, [], ◌∷◌, ◌++◌, length}
use Rattle.rrv_model.specs.declared.record.Record.{Record}
use Rattle.rrv_model.specs.Recovered.{IsRecovered, of_guest}
use Rattle.rrv_model.specs.State.{State}
use Rattle.host.specs.Stream.{opening_bytes}
use Rattle.recorder.specs.Recorded.{opening_of}
use Rattle.trace_log.specs.Kept.{Keeps, LogValue}
use Rattle.session.specs.declared.report.GuestReport.{GuestReport}
use Rattle.trace_disk.specs.Devices.{Device}
use Rattle.session.specs.Works.{IsRecordedFrom}
use Rattle.recording.specs.Jobs.{Terms}
use Rattle.recording.specs.Names.{name_by}

-- the opening of the program at a place of the line, as the guest of this number
abbrev pub opening_at : Terms → ℕ → ℕ → List ℕ → Record
opening_at terms place number file = opening_of number terms.version file (name_by terms.names place) (opening_bytes terms.seed place)

-- Of the program at this place of the line, the records under this number are a recording that begins with its opening, and the
-- report says how many there are, and the end of the state that they end in.
pub record IsKept (terms : Terms) (place number : ℕ) (file : List ℕ) (records : List Record) (report : GuestReport) : Type 0 where
  pub state : State
  pub recorded : IsRecordedFrom (opening_at terms place number file) number (of_guest number records) state
  pub report_is : report ≡ record { number = number; records = length (of_guest number records); end = state.ended }

-- so of each program from this place of the line on, whose numbers go up from this one
abbrev pub AreKept : Terms → ℕ → ℕ → (files : List (List ℕ)) → List Record → List GuestReport → Type 0
AreKept terms place number [] records [] = Unit {0}
AreKept terms place number (file ∷ files) records (report ∷ reports) =
    IsKept terms place number file records report × AreKept terms (place + 1) (number + 1) files records reports
AreKept terms place number _ records _ = ⊥

-- The log kept these bodies, from which these records are recovered. It keeps more behind them then, and of all records that
-- are recovered from these, those of each program are as its report says.
pub record HasRecorded {D : Type 0} (device : Device D) (terms : Terms) (files : List (List ℕ)) (log log' : LogValue D)
    (reports : List GuestReport) (bodies : List (List ℕ)) (earlier : List Record) : Type 0 where
  pub more : List (List ℕ)
  pub committed : List Record
  pub keeps : Keeps device.state log' (bodies ++ more)
  pub recovered : IsRecovered (bodies ++ more) (earlier ++ committed)
  pub kept : AreKept terms 0 log.next_guest files (earlier ++ committed) reports
