-- Why something of a recording is not printed.
use Rattle.std.specs.Prelude.{◌≡◌, ◌⊎◌, ℕ, ◌+◌, ◌<◌, ◌≤◌, Result, IfErr, IfOk, OnOk}
use Rattle.rrv_model.specs.StateAt.{total}
use Rattle.replayer.specs.Verified.{VerifiedValue}
use Rattle.reverse_step.specs.Cursors.{CursorValue}
use Rattle.faults.specs.declared.seek.SeekFault.TheVariants as seek_faults
use Rattle.line_io.specs.declared.refusal.Refusal.{Refusal}
use Rattle.line_io.specs.declared.refusal.Refusal.TheVariants as refusals

-- why the state so many instructions before a place isn't printed
abbrev pub RefusesPlace : Refusal → (total from count : ℕ) → Type 0
RefusesPlace (refusals.Seek seek_faults.PastEnd) total from count = total < from
RefusesPlace (refusals.Seek seek_faults.BeforeStart) total from count = (from ≤ total) × (from < count)
RefusesPlace refusals.Memory total from count = Unit {0}
RefusesPlace refusals.OutputFailed total from count = Unit {0}
RefusesPlace _ total from count = ⊥

-- the place is within, from which so many instructions can be gone back; or it is refused
pub record Reaches {T : Type 0} (result : Result T Refusal) (total from count : ℕ) : Type 0 where
  pub within : OnOk result (from ≤ total)
  pub refused : IfErr result (λ e. RefusesPlace e total from count)

-- a cursor over a recording stands so many instructions before a place
pub record GoesBack (verified : VerifiedValue) (result : Result CursorValue Refusal) (from count : ℕ) : Type 0 where
  pub verified_is : IfOk result (λ cursor. cursor.verified ≡ verified)
  pub at : IfOk result (λ cursor. cursor.place + count ≡ from)
  pub reaches : Reaches result (total verified.frames) from count

-- why a core file isn't written
abbrev pub RefusesCore : Refusal → Type 0
RefusesCore e = (e ≡ refusals.Memory) ⊎ (e ≡ refusals.CannotWriteCore)

-- or isn't made
abbrev pub RefusesCoreFile : Refusal → Type 0
RefusesCoreFile e = RefusesCore e ⊎ (e ≡ refusals.CannotMakeCore)
