-- What parts are put onto a state, and what comes of it.
use Rattle.std.specs.Prelude.{◌<◌, List}
use Rattle.rrv_model.specs.declared.limits.TheConstants.{MAX_PAGES}
use Rattle.rrv_model.specs.declared.record.Part.{Part}
use Rattle.rrv_model.specs.Checkpoint.{DescribesWithoutLimit}
use Rattle.rrv_model.specs.Memory.{page_count}
use Rattle.rrv_model.specs.State.{State}
use Rattle.guest_calls.specs.declared.fault.SetRestFault.{SetRestFault}
use Rattle.guest_calls.specs.declared.fault.SetRestFault.TheVariants as rest_faults
use Rattle.checkpoint.specs.declared.fault.ApplyFault.{ApplyFault}
use Rattle.checkpoint.specs.declared.fault.ApplyFault.TheVariants as faults

abbrev pub apply_told : SetRestFault → ApplyFault
apply_told rest_faults.NoState = faults.BadPart
apply_told rest_faults.Memory = faults.Memory

-- why the parts are not put onto this state
abbrev pub RefusesApply : State → List Part → ApplyFault → Type 0
RefusesApply base parts faults.BadPart = (s : State) → ¬ DescribesWithoutLimit base parts s
RefusesApply base parts faults.TooManyPages =
    (s : State) × DescribesWithoutLimit base parts s × (MAX_PAGES < page_count s.memory)
RefusesApply base parts faults.Memory = (s : State) × DescribesWithoutLimit base parts s
