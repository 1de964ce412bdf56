-- What a session gives.
use Rattle.std.specs.Prelude.{◌≡◌, ◌⊎◌, ℕ, ◌+◌, ◌<◌, ◌≤◌, max, true, false, List, [], ◌∷◌, ◌++◌, length, slice_get, Option, None, Some, Result, Ok, Err, IfErr, IfOk, IsErrAnd, Vec, vec_items}
use Rattle.std.specs.List.{AllByRecursion}
use Rattle.std.specs.declared.alloc.Global.{Global}
use Rattle.rrv_model.specs.declared.record.Record.{Record}
use Rattle.outcomes.specs.Failures.{HasFailed}
use Rattle.rrv_model.specs.Recording.{IsNumbered, IsRecording}
use Rattle.rrv_model.specs.Recovered.{next_guest, of_guest, IsRecovered}
use Rattle.guest_calls.specs.Guest.{GuestValue}
use Rattle.trace_disk.specs.Devices.{Device}
use Rattle.trace_log.specs.Kept.{HoldsMark, Keeps, LogValue}
use Rattle.commit_core.specs.Runs.{IsOutput}
use Rattle.commit_group.specs.Numbers.{IsPlaced}
use Rattle.recorder.specs.Recorded.{IsFirst}
use Rattle.faults.specs.declared.session.SessionFault.{SessionFault}
use Rattle.faults.specs.declared.session.SessionFault.TheVariants as faults
use Rattle.session.specs.declared.job.Job.{Job}
use Rattle.session.specs.declared.report.GuestReport.{GuestReport}
use Rattle.session.specs.declared.report.SessionReport.{SessionReport}
use Rattle.session.specs.declared.task.Worked.{Worked}
use Rattle.session.specs.Faults.{IsLowest, IsNoLater, IsSessions, told_of}
use Rattle.session.specs.Gains.{HasGained, IsFull}
use Rattle.session.specs.Chosen.{HasChosen, HasChosenOn, LeavesChooser}
use Rattle.session.specs.Openings.{IsFirstBad, IsFirstNew, OneWantsMemory}
use Rattle.session.specs.Tasks.{all_met}
use Rattle.session.specs.Works.{AreMet, Choosers, FaultTellsSink, Sinks, HasChosenAll, IsBehind, IsSameJob, IsToItsEnd, Takes, opening_for}

-- there is no record, or they are a recording of this guest, its opening's first
abbrev pub IsRecordingOrNone : Record → ℕ → List Record → Type 0
IsRecordingOrNone opening guest records =
    (records ≡ []) ⊎ (IsFirst opening records × IsRecording records × IsNumbered guest 0 records)

-- What is committed under this number is nothing, or a recording of the job's opening, whose frames the job's chooser
-- chose. The job's sink took a beginning of what these records put out.
pub record HasRecorded {C O S : Type 0} (choosers : Choosers C) (sinks : Sinks S) (number : ℕ) (committed : List Record)
    (old new : Job C O S) : Type 0 where
  pub job : IsSameJob old new
  pub records : IsRecordingOrNone (opening_for number old) number (of_guest number committed)
  pub chosen : HasChosen choosers.chooses old (of_guest number committed) (λ _ _. Unit {0})
  pub put : List (ℕ × ℕ)
  pub takes : Takes sinks old.sink new.sink put
  pub output : IsOutput put (of_guest number committed)

-- What is committed under this number is a recording of the job's opening to the guest's end, as it is reported. Its frames
-- are all that the job's chooser chose, and the job's sink took all of its output.
pub record IsReported {C O S : Type 0} (choosers : Choosers C) (sinks : Sinks S) (number : ℕ) (committed : List Record)
    (old new : Job C O S) (report : GuestReport) : Type 0 where
  pub number_is : report.number ≡ number
  pub count : report.records ≡ length (of_guest number committed)
  pub put : List (ℕ × ℕ)
  pub takes : Takes sinks old.sink new.sink put
  pub whole : IsToItsEnd choosers (opening_for number old) number (of_guest number committed) put report.end new
  pub chosen : HasChosenAll choosers old new (of_guest number committed) report.end

-- so of each job, under the numbers from this one on
abbrev pub AreRecorded : {C O S : Type 0} → Choosers C → Sinks S → List Record → ℕ → (jobs jobs' : List (Job C O S)) → Type 0
AreRecorded choosers sinks committed number [] [] = Unit {0}
AreRecorded choosers sinks committed number [] (new ∷ news) = ⊥
AreRecorded choosers sinks committed number (old ∷ olds) [] = ⊥
AreRecorded choosers sinks committed number (old ∷ olds) (new ∷ news) =
    HasRecorded choosers sinks number committed old new × AreRecorded choosers sinks committed (number + 1) olds news

abbrev pub AreReported : {C O S : Type 0} → Choosers C → Sinks S → List Record → ℕ → (jobs jobs' : List (Job C O S))
    → List GuestReport → Type 0
AreReported choosers sinks committed number [] [] [] = Unit {0}
AreReported choosers sinks committed number (old ∷ olds) (new ∷ news) (report ∷ reports) =
    IsReported choosers sinks number committed old new report
    × AreReported choosers sinks committed (number + 1) olds news reports
AreReported choosers sinks committed number _ _ _ = ⊥

-- each job's guest is in the state behind what is committed under its number, which go up from this one
abbrev pub AreLeft : {C O S : Type 0} → List Record → ℕ → (jobs : List (Job C O S)) → List GuestValue → Type 0
AreLeft committed number [] [] = Unit {0}
AreLeft committed number (job ∷ jobs) (guest ∷ guests) =
    IsBehind (of_guest number committed) guest × AreLeft committed (number + 1) jobs guests
AreLeft committed number _ _ = ⊥

-- ---- the log

-- The log keeps these bodies, and the Mark is one if it says so. From them these records are recovered, and its next
-- guest is above all of theirs.
pub record IsLeft {D : Type 0} (device : Device D) (log : LogValue D) (bodies : List (List ℕ)) (earlier : List Record)
    : Type 0 where
  pub is_honest : device.honest log.disk
  pub keeps : Keeps device.state log bodies
  pub marked : HoldsMark log bodies
  pub recovered : IsRecovered bodies earlier
  pub above : next_guest earlier ≤ log.next_guest

-- These records were committed, whatever bodies the log kept before: of each job what was recorded so far, and no others. So
-- are these with the batch in hand, in a body that a call of the disk failed to commit. The log's next guest is one above
-- the greatest number committed, and as before where nothing was. It tells the Mark as before.
pub record HasRun {C O S D : Type 0} (choosers : Choosers C) (sinks : Sinks S) (device : Device D)
    (committed : List Record) (log log' : LogValue D) (jobs jobs' : List (Job C O S)) : Type 0 where
  pub batch : List Record
  pub gained : (bodies : List (List ℕ)) (earlier : List Record)
      → IsLeft device log bodies earlier → HasGained device committed batch log log' bodies earlier
  pub next : log'.next_guest ≡ max log.next_guest (next_guest committed)
  pub marked : log'.marked ≡ log.marked
  pub only : AllByRecursion (IsPlaced log.next_guest (length jobs)) (committed ++ batch)
  pub recorded : AreRecorded choosers sinks committed log.next_guest jobs jobs'
  pub in_hand : AreRecorded choosers sinks (committed ++ batch) log.next_guest jobs jobs'

-- ---- faults

-- more than 16, or their numbers would pass the greatest
abbrev pub AreTooMany : {C O S D : Type 0} → LogValue D → List (Job C O S) → Type 0
AreTooMany log jobs = (16 < length jobs) ⊎ (4294967295 < log.next_guest + length jobs)

-- nothing was recorded
abbrev pub AreUntouched : {C O S D : Type 0} → (log log' : LogValue D) → (jobs jobs' : Vec (Job C O S) Global) → Type 0
AreUntouched log log' jobs jobs' = (log' ≡ log) × (jobs' ≡ jobs)

-- What each fault tells of the log and the jobs: a failed call of the disk alone breaks the log. That the Mark is missing is told before
-- anything is recorded, of the first job that needs it.
abbrev pub RefusesSession : {C O S D : Type 0} → (log log' : LogValue D) → (jobs jobs' : Vec (Job C O S) Global)
    → SessionFault → Type 0
RefusesSession log log' jobs jobs' faults.DeviceFailed = log'.is_broken ≡ true
RefusesSession log log' jobs jobs' (faults.SinkFailed guest) =
    (guest < length (vec_items jobs)) × (log'.is_broken ≡ false)
RefusesSession log log' jobs jobs' (faults.Held guest) =
    (guest < length (vec_items jobs)) × (log'.is_broken ≡ false)
RefusesSession log log' jobs jobs' faults.Memory = log'.is_broken ≡ false
RefusesSession log log' jobs jobs' faults.TooManyGuests =
    AreTooMany log (vec_items jobs) × AreUntouched log log' jobs jobs'
RefusesSession log log' jobs jobs' faults.StoreFull = (log'.is_broken ≡ false) × IsFull log'
RefusesSession log log' jobs jobs' (faults.BadOpening guest) =
    IsFirstBad (vec_items jobs) guest × AreUntouched log log' jobs jobs'
RefusesSession log log' jobs jobs' (faults.NeedsMark guest) =
    (log.marked ≡ false) × IsFirstNew (vec_items jobs) guest × AreUntouched log log' jobs jobs'

-- How many calls of the disk had failed before and after: one that is reported failed, and no other.
abbrev pub TellsDevice : {T : Type 0} → Result T SessionFault → ℕ → ℕ → Type 0
TellsDevice (Ok report) old new = new ≡ old
TellsDevice (Err faults.DeviceFailed) old new = HasFailed old new
TellsDevice (Err (faults.SinkFailed guest)) old new = new ≡ old
TellsDevice (Err (faults.Held guest)) old new = new ≡ old
TellsDevice (Err faults.Memory) old new = new ≡ old
TellsDevice (Err faults.TooManyGuests) old new = new ≡ old
TellsDevice (Err faults.StoreFull) old new = new ≡ old
TellsDevice (Err (faults.BadOpening guest)) old new = new ≡ old
TellsDevice (Err (faults.NeedsMark guest)) old new = new ≡ old

-- The sink of the job at this place refused nothing, or it refused once and that is reported, or a fault before that; and
-- where that is reported it refused.
pub record TellsSink {T : Type 0} (result : Result T SessionFault) (guest old new : ℕ) : Type 0 where
  pub rises : (new ≡ old)
      ⊎ (HasFailed old new × IsErrAnd result (λ fault. IsNoLater fault (faults.SinkFailed guest)))
  pub failed : IfErr result (λ fault. fault ≡ faults.SinkFailed guest → HasFailed old new)

-- so of the sink of each job, by its place
abbrev pub TellsSinks : {C O S T : Type 0} → Sinks S → Result T SessionFault → (jobs jobs' : List (Job C O S)) → Type 0
TellsSinks {C = C} {O = O} {S = S} sinks result jobs jobs' =
    (guest : ℕ) (old new : Job C O S) → slice_get jobs guest ≡ Some old → slice_get jobs' guest ≡ Some new
    → TellsSink result guest (sinks.faults old.sink) (sinks.faults new.sink)

-- The first job of a guest of version 2 is reported, unless there are too many guests.
abbrev pub TellsNewJob : {C O S D T : Type 0} → Result T SessionFault → LogValue D → List (Job C O S) → ℕ → Type 0
TellsNewJob result log jobs guest = IsErrAnd result (λ fault. (fault ≡ faults.NeedsMark guest)
    ⊎ ((fault ≡ faults.TooManyGuests) × AreTooMany log jobs))

-- a job of a guest of version 2 is reported, since the log doesn't hold the Mark
abbrev pub LacksMark : {C O S D : Type 0} → LogValue D → List (Job C O S) → SessionFault → Type 0
LacksMark log jobs fault = (log.marked ≡ false) × (place : ℕ) × IsFirstNew jobs place × (fault ≡ faults.NeedsMark place)

-- The first job that starts no guest is reported, unless there are too many guests, one lacks the Mark, or there was no memory
-- to look at it or at one before it.
abbrev pub TellsBadJob : {C O S D T : Type 0} → Result T SessionFault → LogValue D → List (Job C O S) → ℕ → Type 0
TellsBadJob result log jobs guest = IsErrAnd result (λ fault. (fault ≡ faults.BadOpening guest)
    ⊎ (((fault ≡ faults.Memory) × OneWantsMemory jobs guest) ⊎ (((fault ≡ faults.TooManyGuests) × AreTooMany log jobs)
    ⊎ LacksMark log jobs fault)))

-- What the worker of the guest at this place met: a fault of its own, with a refusal of its sink if it is that, or none.
-- Then the guest is recorded to its end, unless the session met a fault that is no worker's. Its job's chooser comes back
-- as the frames left it that were made, committed or not; a choice is lost only for want of memory.
pub record HasMet {C O S : Type 0} (choosers : Choosers C) (sinks : Sinks S) (others : List SessionFault)
    (committed : List Record) (first place : ℕ) (old new : Job C O S) (met : Option SessionFault) : Type 0 where
  pub is_own : AreMet place met
  pub sink : FaultTellsSink met (sinks.faults old.sink) (sinks.faults new.sink)
  pub whole : met ≡ None → others ≡ []
      → (report : GuestReport) × IsReported choosers sinks (first + place) committed old new report
  pub chosen : HasChosenOn choosers.chooses old (of_guest (first + place) committed)
      (LeavesChooser choosers.chooses met new.chooser)

-- so each worker, of the jobs from this place on
abbrev pub HaveMet : {C O S : Type 0} → Choosers C → Sinks S → List SessionFault → List Record → ℕ → ℕ
    → (jobs jobs' : List (Job C O S)) → List (Option SessionFault) → Type 0
HaveMet choosers sinks others committed first place [] [] [] = Unit {0}
HaveMet choosers sinks others committed first place (old ∷ olds) (new ∷ news) (met ∷ mets) =
    HasMet choosers sinks others committed first place old new met
    × HaveMet choosers sinks others committed first (place + 1) olds news mets
HaveMet choosers sinks others committed first place _ _ _ = ⊥

-- Of the faults that the workers met, and the others of the session, the first is told: by its kind, and then of the
-- lowest guest.
pub record TellsFirst {C O S T : Type 0} (choosers : Choosers C) (sinks : Sinks S) (committed : List Record) (first : ℕ)
    (result : Result T SessionFault) (jobs jobs' : List (Job C O S)) : Type 0 where
  pub others : List SessionFault
  pub others_are : AllByRecursion IsSessions others
  pub met : List (Option SessionFault)
  pub each : HaveMet choosers sinks others committed first 0 jobs jobs' met
  pub lowest : IsLowest (others ++ all_met met) (told_of result)

-- What a session came to: what was committed, of which there are reports after Ok, and which fault is told.
abbrev pub HasEnded : {C O S D : Type 0} → Choosers C → Sinks S → Device D → (log log' : LogValue D)
    → (jobs jobs' : List (Job C O S)) → Result SessionReport SessionFault → Type 0
HasEnded choosers sinks device log log' jobs jobs' result =
    (committed : List Record) × HasRun choosers sinks device committed log log' jobs jobs'
    × IfOk result (λ r. AreReported choosers sinks committed log.next_guest jobs jobs' r.guests.items
    × AreLeft committed log.next_guest jobs' r.states.items)
    × TellsFirst choosers sinks committed log.next_guest result jobs jobs'

-- ---- reports

abbrev pub report_of : {C O S : Type 0} → ℕ → Worked C O S → GuestReport
report_of first worked = record {
  number = first + worked.seat.guest;
  records = length worked.seat.sent;
  end = worked.end;
}

-- of each, where the guest at place 0 has this number
abbrev pub reports_of : {C O S : Type 0} → ℕ → List (Worked C O S) → List GuestReport
reports_of first [] = []
reports_of first (worked ∷ rest) = report_of first worked ∷ reports_of first rest

-- the guest has a number
abbrev pub HasNumber : {C O S : Type 0} → ℕ → Worked C O S → Type 0
HasNumber first worked = first + worked.seat.guest ≤ 4294967295
