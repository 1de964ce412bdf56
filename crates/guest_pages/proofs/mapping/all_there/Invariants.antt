use Rattle.std.proofs.Common.{◌≡◌, ◌-◌, true}
use Rattle.rrv_model.specs.Memory.{all_mapped}
use Rattle.guest_pages.specs.Space.{memory_of}
use Rattle.guest_pages.proofs.mapping.all_there.Given as goal

abbrev pub invariant-loop-number : goal.invariant-loop-number
invariant-loop-number l = all_mapped (memory_of l.tables) l.first (l.number - l.first) ≡ true
