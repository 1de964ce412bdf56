-- The least page from a number on.
use Rattle.std.proofs.Common.{◌∙◌, ℕ, Option, Some, None, is_some, ap}
use Rattle.page_tables.specs.Changes.{IsNext}
use Rattle.guest_pages.specs.Space.{PageMap, memory_in}
use Rattle.guest_pages.specs.Snapshots.{IsNextPage}
use Rattle.guest_pages.proofs.Facts.{is_mapped_in}

pub next_mapped : (pages : PageMap) (least : ℕ) (r : Option ℕ) → IsNext pages least r → IsNextPage (memory_in pages) least r
next_mapped pages least None h = λ q from. is_mapped_in pages q ∙ ap is_some (h q from)
next_mapped pages least (Some n) h =
    (h.0, h.1, is_mapped_in pages n ∙ h.2, λ q from below. is_mapped_in pages q ∙ ap is_some (h.3 q from below))
