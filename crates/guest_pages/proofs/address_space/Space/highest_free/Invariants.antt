use Rattle.std.proofs.Common.{◌≡◌, ◌≤◌}
use Rattle.rrv_model.specs.Memory.{highest_free_up_to}
use Rattle.guest_pages.specs.Space.{memory_of}
use Rattle.guest_pages.proofs.address_space.Space.highest_free.Given as goal

abbrev pub invariant-loop-page : goal.invariant-loop-page
invariant-loop-page l = record {
  low : l.page ≤ l.up_to;
  same : highest_free_up_to l.up_to (memory_of l.self-inside.tables) l.count
      ≡ highest_free_up_to l.page (memory_of l.self-inside.tables) l.count;
}

abbrev pub decreases-loop-page : goal.decreases-loop-page
decreases-loop-page l = l.page
