-- Parts of an image: some of its loads, some of their pages.
use Rattle.std.proofs.Common.{ℕ, ◌/◌, ◌&&◌, if◌then◌else◌, List, [], Some}
use Rattle.std.specs.Prelude.{nat_le, nat_lt}
use Rattle.page_permissions.specs.declared.page.Permissions.{Permissions}
use Rattle.rrv_model.specs.Memory.{Memory, stored, page_bytes}
use Rattle.rrv_model.specs.Elf.{Header, loads}
use Rattle.guest_pages.specs.Mapping.{covered_cell}
use Rattle.guest_opening.specs.Loading.{covered_load, file_bytes}

-- the pages from one up to another are covered
abbrev pub covered_pages : ℕ → ℕ → Permissions → Memory → Memory
covered_pages from to permissions m a =
    if nat_le from (a / page_bytes) && nat_lt (a / page_bytes) to then Some (covered_cell permissions (m a)) else m a

abbrev pub with_load : List ℕ → Header → Memory → Memory
with_load file h m = stored h.address (file_bytes file h) (covered_load h m)
