-- What the loading of an image does to a memory.
use Rattle.std.specs.Prelude.{◌≡◌, ℕ, true, false, ◌/◌, ◌||◌, if◌then◌else◌, List, take, drop, Some, Result, OnOk}
use Rattle.page_permissions.specs.declared.page.Permissions.{Permissions}
use Rattle.rrv_model.specs.Memory.{Memory, mapped, page_bytes}
use Rattle.rrv_model.specs.CallRows.{has_flag}
use Rattle.rrv_model.specs.Elf.{Header, touches}
use Rattle.guest_pages.specs.Mapping.{covered_cell}
use Rattle.guest_pages.specs.Space.{SpaceValue, memory_of, snapshots_of}

-- what a load's flags allow: X 1, W 2, R 4, and R with W
abbrev pub load_permissions : Header → Permissions
load_permissions h = record {
  read = has_flag h.flags 4 || has_flag h.flags 2;
  write = has_flag h.flags 2;
  execute = has_flag h.flags 1;
}

-- the pages that the load touches are covered by what its flags allow
abbrev pub covered_load : Header → Memory → Memory
covered_load h m a = if touches (a / page_bytes) h then Some (covered_cell (load_permissions h) (m a)) else m a

-- the load's bytes in the file
abbrev pub file_bytes : List ℕ → Header → List ℕ
file_bytes file h = take h.file_len (drop h.offset file)

-- with the stack's pages
abbrev pub with_stack : Memory → Memory
with_stack m = mapped 0x7FF00000 0x100000 (record { read = true; write = true; execute = false }) m

-- the memory is this where the call isn't refused, and no snapshot changes
pub record BecomesOnOk {T E : Type 0} (result : Result T E) (m : Memory) (old new : SpaceValue) : Type 0 where
  pub memory : OnOk result (memory_of new ≡ m)
  pub snapshots : snapshots_of new ≡ snapshots_of old
