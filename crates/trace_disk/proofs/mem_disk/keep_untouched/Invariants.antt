use Rattle.std.proofs.Common.{◌≡◌, ◌⊎◌, ◌<◌, ◌≤◌, ℕ, get_or}
use Rattle.store_model.specs.CrashModel.{IsTouched}
use Rattle.trace_disk.proofs.mem_disk.keep_untouched.Given as goal

abbrev pub invariant-loop-place : goal.invariant-loop-place
invariant-loop-place l = record {
  kept : (k : ℕ) → k < l.place → ¬ (IsTouched l.touched k) → get_or l.bytes k 0 ≡ get_or l.content k 0;
  free : (k : ℕ) → ((l.place ≤ k) ⊎ IsTouched l.touched k) → get_or l.bytes k 0 ≡ get_or l.initial.bytes k 0;
}
