-- Why what a store holds of a guest is not printed.
use Rattle.std.specs.Prelude.{◌≡◌, ◌≤◌, List, [], length}
use Rattle.rrv_model.specs.declared.record.Record.{Record}
use Rattle.line_io.specs.declared.refusal.Refusal.{Refusal}
use Rattle.line_io.specs.declared.refusal.Refusal.TheVariants as refusals

-- why the lines of a guest's records aren't printed
abbrev pub RefusesDump : Refusal → List Record → Type 0
RefusesDump refusals.NoSuchGuest records = records ≡ []
RefusesDump refusals.DeviceFailed records = 1 ≤ length records
RefusesDump refusals.Memory records = 1 ≤ length records
RefusesDump refusals.OutputFailed records = 1 ≤ length records
RefusesDump _ records = ⊥
