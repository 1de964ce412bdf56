-- Pages of a checkpoint, put into a memory one after the other: first those that it unmaps, then all others.
use Rattle.std.specs.Prelude.{◌≡◌, ℕ, ◌/◌, ◌%◌, ◌<◌, ◌==◌, if◌then◌else◌, List, [], ◌∷◌, Option, Some, None, Result, OnOk, IfErr}
use Rattle.rrv_model.specs.declared.limits.TheConstants.{MAX_PAGES}
use Rattle.page_permissions.specs.declared.page.Permissions.{Permissions}
use Rattle.rrv_model.specs.declared.record.PagePart.{PagePart}
use Rattle.rrv_model.specs.declared.record.Part.{Part}
use Rattle.rrv_model.specs.CallRows.{with_memory}
use Rattle.rrv_model.specs.Checkpoint.{patched_byte}
use Rattle.rrv_model.specs.Memory.{Memory, Cell, page_bytes, page_count}
use Rattle.rrv_model.specs.State.{State}
use Rattle.guest_calls.specs.Carries.{KeepsRest}
use Rattle.guest_calls.specs.Guest.{GuestValue, state_of}
use Rattle.checkpoint.specs.declared.fault.ApplyFault.{ApplyFault}
use Rattle.checkpoint.specs.declared.fault.ApplyFault.TheVariants as faults

-- a cell of a page that the checkpoint unmaps is gone
abbrev pub cleared_cell : Option Permissions → Option Cell → Option Cell
cleared_cell None old = None
cleared_cell (Some permissions) old = old

abbrev pub cleared : PagePart → Memory → Memory
cleared p m a = if p.number == a / page_bytes then cleared_cell p.permissions (m a) else m a

-- a cell of a page that the checkpoint maps is what its entry says
abbrev pub set_cell : PagePart → Option Permissions → Option Cell → ℕ → Option Cell
set_cell p None old a = old
set_cell p (Some permissions) old a = Some (record { byte = patched_byte p old (a % page_bytes); permissions = permissions })

abbrev pub set : PagePart → Memory → Memory
set p m a = if p.number == a / page_bytes then set_cell p p.permissions (m a) a else m a

-- pages in a row, each put in so
abbrev pub each_put : (PagePart → Memory → Memory) → List PagePart → Memory → Memory
each_put put [] m = m
each_put put (p ∷ pages) m = each_put put pages (put p m)

abbrev pub all_cleared : List PagePart → Memory → Memory
all_cleared pages m = each_put cleared pages m

abbrev pub all_set : List PagePart → Memory → Memory
all_set pages m = each_put set pages m

-- a state with one page, or some, put into its memory
abbrev pub with_all_cleared : List PagePart → State → State
with_all_cleared pages s = with_memory (all_cleared pages s.memory) s

abbrev pub with_all_set : List PagePart → State → State
with_all_set pages s = with_memory (all_set pages s.memory) s

-- so of all parts
abbrev pub with_parts_cleared : List Part → State → State
with_parts_cleared [] s = s
with_parts_cleared (part ∷ parts) s = with_parts_cleared parts (with_all_cleared part.pages s)

abbrev pub with_parts_set : List Part → State → State
with_parts_set [] s = s
with_parts_set (part ∷ parts) s = with_parts_set parts (with_all_set part.pages s)

-- why pages are not set that a guest may have, where this memory would come of it
abbrev pub RefusesPages : ApplyFault → Memory → Type 0
RefusesPages faults.BadPart m = ⊥
RefusesPages faults.TooManyPages m = MAX_PAGES < page_count m
RefusesPages faults.Memory m = Unit {0}

-- so it is where the pages are put in, and all else that shows of the guest is as before; a refusal is one of the memory
-- that would come of it
pub record BecomesOrRefuses {T : Type 0} (result : Result T ApplyFault) (after : State) (old new : GuestValue) : Type 0 where
  pub state : OnOk result (state_of new ≡ after)
  pub refused : IfErr result (λ fault. RefusesPages fault after.memory)
  pub keeps : KeepsRest old new
  pub put : new.put ≡ old.put
