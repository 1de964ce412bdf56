use Rattle.std.proofs.Common.{◌≡◌, ℕ, ◌<◌, ◌≤◌, false}
use Rattle.rrv_model.specs.Memory.{is_mapped}
use Rattle.guest_pages.specs.Space.{memory_of}
use Rattle.guest_pages.proofs.mapping.first_there.Given as goal

abbrev pub invariant-loop-number : goal.invariant-loop-number
invariant-loop-number l = (q : ℕ) → l.first ≤ q → q < l.number → is_mapped (memory_of l.tables) q ≡ false
