use Rattle.std.proofs.Common.{◌≡◌, length, take}
use Rattle.recording.specs.Misfits.{misfits_from}
use Rattle.recording.proofs.misfits.misfits_of.Given as goal

abbrev pub invariant-loop-place : goal.invariant-loop-place
invariant-loop-place g l = (l.place-end ≡ length l.jobs) × (l.misfits.items ≡ misfits_from 0 (take l.place l.jobs))
