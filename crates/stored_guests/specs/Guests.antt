-- Why a guest of a store isn't verified.
use Rattle.std.specs.Prelude.{◌≡◌, ◌≤◌, List, [], length}
use Rattle.faults.specs.declared.replay.VerifyFault.TheVariants as verify_faults
use Rattle.rrv_model.specs.declared.record.Record.{Record}
use Rattle.replayer.specs.Sourced.{RefusesSource}
use Rattle.line_io.specs.declared.refusal.Refusal.{Refusal}
use Rattle.line_io.specs.declared.refusal.Refusal.TheVariants as refusals

-- a guest has no records, or some that are no recording, and then the first bad one is named, or one that was not read, or
-- there was no memory
abbrev pub RefusesGuest : Refusal → List Record → Type 0
RefusesGuest refusals.NoSuchGuest records = records ≡ []
RefusesGuest refusals.Memory records = 1 ≤ length records
RefusesGuest (refusals.Verify verify_faults.Memory) records = ⊥
RefusesGuest (refusals.Verify fault) records = (1 ≤ length records) × RefusesSource fault records
RefusesGuest _ records = ⊥
