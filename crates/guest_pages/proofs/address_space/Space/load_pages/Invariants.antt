use Rattle.std.proofs.Common.{◌≡◌, ℕ, ◌+◌, ◌-◌, ◌<◌, ◌≤◌, length, slice_index}
use Rattle.rrv_model.specs.Memory.{byte_or_zero}
use Rattle.guest_pages.specs.Space.{memory_of}
use Rattle.guest_pages.proofs.address_space.Space.load_pages.Given as goal

abbrev pub invariant-loop-done : goal.invariant-loop-done
invariant-loop-done l = record {
  within : l.done ≤ length l.into;
  bytes : (k : ℕ) → k < l.done → slice_index l.into k ≡ byte_or_zero (memory_of l.self (l.address + k));
}

abbrev pub decreases-loop-done : goal.decreases-loop-done
decreases-loop-done l = length l.initial.into - l.done
