-- What is found in a store, and why it isn't.
use Rattle.std.specs.Prelude.{◌≡◌, ◌⊎◌, ℕ, false, List, Result, IfErr, IfOk}
use Rattle.recover.specs.declared.fault.OpenFault.{OpenFault}
use Rattle.recover.specs.declared.spot.Spot.{Spot}
use Rattle.recover.specs.Opened.{IsFailure, IsFaultOf}
use Rattle.recover.specs.Spots.{StandOn}
use Rattle.faults.specs.declared.session.SessionFault.TheVariants as session_faults
use Rattle.trace_log.specs.Kept.{IsPastLimit, LogValue, mark}
use Rattle.line_io.specs.declared.refusal.Refusal.{Refusal}
use Rattle.line_io.specs.declared.refusal.Refusal.TheVariants as refusals
use Rattle.line_io.specs.Told.{open_told}
use Rattle.trace_disk.specs.Devices.{Device}

-- the bytes are no store that can be opened, or the device failed, or there was no memory
abbrev pub RefusesStore : List ℕ → Refusal → Type 0
RefusesStore bytes e =
    (fault : OpenFault) × (e ≡ open_told fault) × (IsFailure fault ⊎ IsFaultOf bytes fault)

-- the device failed, or there was no memory
abbrev pub IsFailed : Refusal → Type 0
IsFailed e = (e ≡ refusals.DeviceFailed) ⊎ (e ≡ refusals.Memory)

-- The Mark isn't there. It would pass a limit of the store; or it wouldn't, and the device failed, or there was no memory.
abbrev pub RefusesMark : {D : Type 0} → LogValue D → Refusal → Type 0
RefusesMark log (refusals.Session session_faults.StoreFull) = (log.marked ≡ false) × IsPastLimit log mark
RefusesMark log refusals.DeviceFailed = (log.marked ≡ false) × (IsPastLimit log mark → ⊥)
RefusesMark log refusals.Memory = (log.marked ≡ false) × (IsPastLimit log mark → ⊥)
RefusesMark log _ = ⊥

-- What is read of a store is so where its records stand on an honest disk, on which they then stand still; else the device failed, or there
-- was no memory.
pub record ReadsStore {D T : Type 0} (device : Device D) (spots : List Spot) (result : Result T Refusal) (old new : D)
    (IsRead : T → Type 0) : Type 0 where
  pub read : StandOn device.honest device.state old spots → IfOk result IsRead
  pub refused : StandOn device.honest device.state old spots → IfErr result IsFailed
  pub on : StandOn device.honest device.state old spots → StandOn device.honest device.state new spots

-- why lines aren't printed
abbrev pub RefusesPrint : Refusal → Type 0
RefusesPrint e = (e ≡ refusals.Memory) ⊎ (e ≡ refusals.OutputFailed)

-- why lines of what a disk holds aren't printed
abbrev pub RefusesList : Refusal → Type 0
RefusesList e = (e ≡ refusals.DeviceFailed) ⊎ RefusesPrint e
