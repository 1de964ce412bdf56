-- What a type of disks says of each of them.
use Rattle.std.specs.Prelude.{◌≡◌, ◌↔◌, ℕ, List, Result, IfOk}
use Rattle.outcomes.specs.Failures.{IsCounted}
use Rattle.trace_disk.specs.declared.disk.Disk.{Ghosts}

-- whether it is honest, its length, its state, and how many of its calls have failed
abbrev pub Device : Type 0 → Type 1
Device D = Ghosts D

-- what only reads leaves a disk as it was, but for how many calls have failed
pub record IsOnlyRead {D : Type 0} (device : Device D) (old new : D) : Type 0 where
  pub state : device.honest old → device.state new ≡ device.state old
  pub honest : device.honest new ↔ device.honest old
  pub size : device.size new ≡ device.size old

-- what only reads, after which so many calls have failed
pub record OnlyReads {D : Type 0} (device : Device D) (old new : D) (failures : ℕ) : Type 0 where
  pub kept : IsOnlyRead device old new
  pub failed : device.faults new ≡ failures

-- What looks at a disk only reads it: a call that fails is counted, and what is seen is so in an honest disk's content.
pub record Looks {D T E : Type 0} (device : Device D) (result : Result T E) (old new : D) (IsSeen : List ℕ → T → Type 0)
    : Type 0 where
  pub kept : IsOnlyRead device old new
  pub counted : IsCounted result (device.faults old) (device.faults new)
  pub seen : device.honest old → IfOk result (IsSeen (device.state old).content)
