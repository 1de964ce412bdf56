use Rattle.std.proofs.Common.{◌≡◌, ◌+◌, take}
use Rattle.std.specs.Prelude.{min, sum_by}
use Rattle.recorder.specs.Gaps.{cost_of_page}
use Rattle.recorder.proofs.every.with_pages.Given as goal

abbrev pub invariant-loop-page : goal.invariant-loop-page
invariant-loop-page l = l.cost ≡ min (l.fn.cost + sum_by cost_of_page (take l.page-index l.pages)) 4294967295
