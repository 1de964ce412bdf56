-- A disk of which one call fails.
use Rattle.std.specs.Prelude.{◌≡◌, ◌≢◌, ◌↔◌, ℕ, ◌-◌, Bool, true, Result, IsErr}
use Rattle.store_model.specs.DiskCalls.{counted_if}
use Rattle.outcomes.specs.Failures.{IsCounted}
use Rattle.trace_disk.specs.Devices.{Device}

-- The disk, how many device calls are left up to the one that fails, that one counted (0: none fails any more), and
-- whether it has failed.
pub record FailingDisk (D : Type 0) : Type 0 where
  pub disk : D
  pub calls_left : ℕ
  pub has_failed : Bool

-- the failures of the disk, and its own
abbrev pub failures_of : {D : Type 0} → (D → ℕ) → FailingDisk D → ℕ
failures_of faults failing = counted_if failing.has_failed (faults failing.disk)

-- One device call: the one that is due fails and leaves the disk alone, and any other fails only where the disk does.
-- The disk is as honest as before, and a call that failed has been counted.
pub record IsOneCall {D T E : Type 0} (device : Device D) (old new : FailingDisk D) (result : Result T E) : Type 0 where
  pub due : old.calls_left ≡ 1 → IsErr result × (new.disk ≡ old.disk) × (new.has_failed ≡ true)
  pub passes : old.calls_left ≢ 1
      → IsCounted result (device.faults old.disk) (device.faults new.disk) × (new.has_failed ≡ old.has_failed)
  pub one_less : new.calls_left ≡ old.calls_left - 1
  pub honest : device.honest new.disk ↔ device.honest old.disk
  pub counted : IsCounted result (failures_of device.faults old) (failures_of device.faults new)
