-- What is copied of a guest, and what a copy does to the log that gets it.
use Rattle.std.specs.Prelude.{◌≡◌, ◌⊎◌, ◌≤◌, ℕ, Bool, List, [], ◌∷◌, ◌++◌, length, map, Result, OnErr, OnOk, IfErr, true, false}
use Rattle.std.specs.List.{AllByRecursion}
use Rattle.store_model.specs.declared.limits.TheConstants.{MAX_BODY}
use Rattle.rrv_model.specs.declared.record.Record.{Record}
use Rattle.store_model.specs.CrashModel.{LeavesOnly}
use Rattle.store_model.specs.Settled.{IsBefore, IsBeforeOrAfter, IsClosed}
use Rattle.rrv_model.specs.RecordText.{HasText}
use Rattle.rrv_model.specs.Recording.{IsNumbered}
use Rattle.rrv_model.specs.Recovered.{next_guest, of_guest, AreOld, IsRecovered, OpensAtZero}
use Rattle.recover.specs.declared.spot.Spot.{Spot}
use Rattle.recover.specs.Spots.{records_of, StandOn}
use Rattle.trace_disk.specs.Devices.{Device}
use Rattle.trace_log.specs.Committed.{HasCommitted}
use Rattle.trace_log.specs.Kept.{HoldsMark, IsPastLimit, Keeps, LogValue}
use Rattle.copying.specs.declared.fault.CopyFault.{CopyFault}
use Rattle.copying.specs.declared.fault.CopyFault.TheVariants as faults

-- the record, of the guest of this number
abbrev pub numbered : ℕ → Record → Record
numbered number r = record { guest = number; index = r.index; item = r.item }

abbrev pub renumbered : ℕ → List Record → List Record
renumbered number records = map (numbered number) records

-- a guest's records of a store, under this number
abbrev pub copies_of : ℕ → ℕ → List Spot → List Record
copies_of number guest spots = renumbered number (of_guest guest (records_of spots))

-- records of this number, by their indexes from this one on, with an opening at 0 alone; each has a text; for a store that holds the Mark
-- or doesn't
pub record AreCopies (marked : Bool) (number from : ℕ) (records : List Record) : Type 0 where
  pub numbered : IsNumbered number from records
  pub opened : AllByRecursion OpensAtZero records
  pub texts : AllByRecursion HasText records
  pub old : marked ≡ false → AreOld records

-- the list begins with these records
pub record IsBeginning (first all : List Record) : Type 0 where
  pub rest : List Record
  pub all_is : all ≡ first ++ rest

-- ---- the log

-- The log keeps bodies from which these records are recovered, the Mark among them if it says so, and its next number is above
-- all of theirs.
pub record KeepsRecords {D : Type 0} (device : Device D) (log : LogValue D) (records : List Record) : Type 0 where
  pub bodies : List (List ℕ)
  pub is_honest : device.honest log.disk
  pub keeps : Keeps device.state log bodies
  pub marked : HoldsMark log bodies
  pub recovered : IsRecovered bodies records
  pub above : next_guest records ≤ log.next_guest

-- after these bodies a gate may be torn; from them and the body that then stands after it earlier records are recovered and, after them,
-- a beginning of the copies
pub record IsTornBefore (bodies : List (List ℕ)) (earlier copies : List Record) (bytes : List ℕ) : Type 0 where
  pub body : List ℕ
  pub first : List Record
  pub beginning : IsBeginning first copies
  pub before : IsBefore bodies body bytes
  pub recovered : IsRecovered (bodies ++ body ∷ []) (earlier ++ first)

-- sound bytes, from which earlier records are recovered and, after them, a beginning of the copies
pub record HoldsBeginning (earlier copies : List Record) (bytes : List ℕ) : Type 0 where
  pub bodies : List (List ℕ)
  pub first : List Record
  pub beginning : IsBeginning first copies
  pub recovered : IsRecovered bodies (earlier ++ first)
  pub holds : IsClosed bodies bytes ⊎ IsTornBefore bodies earlier copies bytes

-- the log keeps earlier records and, after them, a beginning of the copies
pub record KeepsBeginning {D : Type 0} (device : Device D) (log : LogValue D) (earlier copies : List Record) : Type 0
  where
    pub first : List Record
    pub beginning : IsBeginning first copies
    pub keeps : KeepsRecords device log (earlier ++ first)

-- Of a log that kept earlier records: after Ok it keeps these and, after them, the copies; else a beginning of the copies, unless it is
-- broken. A crash at any moment in between leaves the earlier ones and a beginning of the copies.
pub record Copies {D T E : Type 0} (device : Device D) (result : Result T E) (log log' : LogValue D)
    (earlier copies : List Record) : Type 0 where
  pub all : OnOk result (KeepsRecords device log' (earlier ++ copies))
  pub beginning : OnErr result (log'.is_broken ≡ false → KeepsBeginning device log' earlier copies)
  pub any_moment : LeavesOnly (device.state log.disk) (device.state log'.disk) (HoldsBeginning earlier copies)

-- What was read of the source is what is copied. If the source's records stand on an honest disk, it is a beginning of the guest's, and all
-- of them after Ok.
pub record HasCopied {S D T : Type 0} (source_device : Device S) (device : Device D) (result : Result T CopyFault)
    (spots : List Spot) (guest number : ℕ) (source : S) (log log' : LogValue D) : Type 0 where
  pub read : List Record
  pub are : AreCopies log.marked number 0 read
  pub first : StandOn source_device.honest source_device.state source spots
      → IsBeginning read (copies_of number guest spots)
  pub all : StandOn source_device.honest source_device.state source spots
      → OnOk result (read ≡ copies_of number guest spots)
  pub copies : (earlier : List Record) → next_guest earlier ≤ number → KeepsRecords device log earlier
      → Copies device result log log' earlier read

-- with some body more, no longer than one may be, the store would pass a limit
abbrev pub IsFull : {D : Type 0} → LogValue D → Type 0
IsFull log = (body : List ℕ) × (1 ≤ length body) × (length body ≤ MAX_BODY) × IsPastLimit log body

-- ---- one body

-- a body was not committed for this: after a failure of the device the log is broken, and else it is as it was
abbrev pub RefusesBody : {D : Type 0} → LogValue D → LogValue D → List ℕ → CopyFault → Type 0
RefusesBody log log' body faults.DeviceFailed = log' ≡ record log { disk = log'.disk; is_broken = true }
RefusesBody log log' body faults.StoreFull = (log' ≡ log) × IsPastLimit log body
RefusesBody log log' body faults.Memory = (log' ≡ log) × (IsPastLimit log body → ⊥)
RefusesBody log log' body _ = ⊥

-- the body is committed, or there is a reason why it isn't
pub record CommitsBody {D T : Type 0} (device : Device D) (result : Result T CopyFault) (log log' : LogValue D)
    (body : List ℕ) : Type 0 where
  pub committed : OnOk result (HasCommitted device log log' body)
  pub refused : IfErr result (RefusesBody log log' body)
  pub any_moment : (bodies : List (List ℕ)) → device.honest log.disk → Keeps device.state log bodies
      → LeavesOnly (device.state log.disk) (device.state log'.disk) (IsBeforeOrAfter bodies body)
