-- Why no guest starts from an opening.
use Rattle.std.specs.Prelude.{◌≡◌, ◌≤◌, ℕ, List, None, length}
use Rattle.rrv_model.specs.declared.limits.TheConstants.{MAX_ELF}
use Rattle.rrv_model.specs.declared.machine.Version.{Version}
use Rattle.rrv_model.specs.declared.record.Opening.{Opening}
use Rattle.rrv_model.specs.Elf.{refusal}
use Rattle.rrv_model.specs.State.{State}
use Rattle.rrv_model.specs.Opening.{IsName, Opens}
use Rattle.elf_load.specs.Refusals.{IsPastRefusal}
use Rattle.guest_calls.specs.declared.fault.OpeningFault.{OpeningFault}
use Rattle.guest_calls.specs.declared.fault.OpeningFault.TheVariants as faults

-- the opening of these
abbrev pub opening_of : Version → (file name random : List ℕ) → Opening
opening_of version file name random = record { version = version; elf = file; name = name; random = random }

-- A file is refused for a guest of a name if it or the name breaks a rule. Memory is taken for it only if the name is one, and
-- the file is refused by none of the first twelve tests and is within its limit.
abbrev pub RefusesFile : OpeningFault → (name file : List ℕ) → Type 0
RefusesFile faults.BadOpening name file = IsName name → refusal file ≡ None → ⊥
RefusesFile faults.Memory name file = IsName name × IsPastRefusal 12 file × (length file ≤ MAX_ELF)

-- An opening is refused if no state is its opening state.
abbrev pub RefusesOpening : OpeningFault → Opening → Type 0
RefusesOpening faults.BadOpening o = (s : State) → Opens o s → ⊥
RefusesOpening faults.Memory o = RefusesFile faults.Memory o.name o.elf
