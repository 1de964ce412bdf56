use Rattle.std.proofs.Common.{◌≡◌, ◌+◌, ◌*◌, take}
use Rattle.std.specs.Prelude.{min, sum_by}
use Rattle.rrv_model.specs.Checkpoint.{all_pages}
use Rattle.recorder.specs.Gaps.{cost_of_page}
use Rattle.recorder.proofs.every.cost_of.Given as goal

abbrev pub invariant-loop-part : goal.invariant-loop-part
invariant-loop-part l = l.cost ≡ min (11 * l.mapped + sum_by cost_of_page (all_pages (take l.part-index l.parts))) 4294967295
