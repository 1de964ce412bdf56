-- A whole page put into a memory.
use Rattle.std.specs.Prelude.{ℕ, ◌/◌, ◌%◌, ◌<◌, ◌≤◌, ◌==◌, if◌then◌else◌, Option, Some, None, IsTrue, slice_index}
use Rattle.rrv_model.specs.Memory.{Memory, Cell, page_bytes}
use Rattle.page_tables.specs.Contents.{PageValue}
use Rattle.guest_pages.specs.declared.page.PageView.{PageView}

-- cell k of a page; nothing where it isn't mapped
abbrev pub cell_of : Option PageView → ℕ → Option Cell
cell_of None k = None
cell_of (Some v) k = Some (record { byte = slice_index v.bytes.now k; permissions = v.permissions })

-- the cells of page n are those given; all others stay
abbrev pub with_page : ℕ → Option PageView → Memory → Memory
with_page n page m a = if n == a / page_bytes then cell_of page (a % page_bytes) else m a

-- a guest may have this as page n: pages lie from 0x1000 up to 0x7FFFFFFF, and one with W has R; any may be unmapped
abbrev pub MayHave : ℕ → Option PageView → Type 0
MayHave n None = Unit {0}
MayHave n (Some v) = (1 ≤ n) × (n < 0x80000) × (IsTrue v.permissions.write → IsTrue v.permissions.read)

-- a page with these permissions and bytes
abbrev pub page_of : PageView → PageValue
page_of v = record { permissions = v.permissions; bytes = v.bytes.now }
