-- How many instructions lie between two checkpoints at the least.
use Rattle.std.specs.Prelude.{ℕ, ◌+◌, ◌*◌, List, sum_by, min, max, count_ones}
use Rattle.rrv_model.specs.declared.record.PagePart.{PagePart}
use Rattle.rrv_model.specs.declared.record.Part.{Part}
use Rattle.rrv_model.specs.Checkpoint.{all_pages}
use Rattle.recorder.specs.declared.every.Every.{Every}
use Rattle.recorder.specs.declared.every.Every.TheVariants as everys

-- before the first checkpoint
abbrev pub first_gap : Every → ℕ
first_gap (everys.Instructions n) = n
first_gap everys.Auto = 1048576

-- what a page of a checkpoint costs, with its lines
abbrev pub cost_of_page : PagePart → ℕ
cost_of_page p = 550 + 280 * count_ones p.mask

-- what a checkpoint of these parts costs, of a guest with so many mapped pages
abbrev pub cost_of : List Part → (mapped : ℕ) → ℕ
cost_of parts mapped = 11 * mapped + sum_by cost_of_page (all_pages parts)

-- behind a checkpoint of these parts, of a guest with so many mapped pages: if it goes by the cost, ten times that
abbrev pub gap_behind : Every → List Part → (mapped : ℕ) → ℕ
gap_behind (everys.Instructions n) parts mapped = n
gap_behind everys.Auto parts mapped = max 1048576 (min (10 * cost_of parts mapped) 4294967295)
