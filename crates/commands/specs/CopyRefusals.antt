-- Why a guest is not copied, or not whole.
use Rattle.std.specs.Prelude.{◌≡◌, ◌<◌, false, List}
use Rattle.rrv_model.specs.declared.limits.TheConstants.{MAX_NUMBER}
use Rattle.rrv_model.specs.declared.record.Record.{Record}
use Rattle.rrv_model.specs.Recovered.{AreOld}
use Rattle.trace_log.specs.Kept.{LogValue}
use Rattle.copying.specs.Copied.{IsFull}
use Rattle.copying.specs.declared.fault.CopyFault.TheVariants as copy_faults
use Rattle.line_io.specs.declared.refusal.Refusal.{Refusal}
use Rattle.line_io.specs.declared.refusal.Refusal.TheVariants as refusals

-- There is no next number, the store is full, it lacks the Mark that some of the copies want, a device failed, there
-- was no memory, or its line was not taken.
abbrev pub RefusesCopy : {D : Type 0} → (copies : List Record) → (old new : LogValue D) → Refusal → Type 0
RefusesCopy copies old new (refusals.Copy copy_faults.TooManyGuests) = MAX_NUMBER < old.next_guest
RefusesCopy copies old new (refusals.Copy copy_faults.StoreFull) = IsFull new
RefusesCopy copies old new (refusals.Copy copy_faults.NeedsMark) = (old.marked ≡ false) × (AreOld copies → ⊥)
RefusesCopy copies old new refusals.DeviceFailed = Unit {0}
RefusesCopy copies old new refusals.Memory = Unit {0}
RefusesCopy copies old new refusals.OutputFailed = Unit {0}
RefusesCopy copies old new _ = ⊥
