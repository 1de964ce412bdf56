use Rattle.std.proofs.Common.{◌≡◌, take}
use Rattle.std.specs.Prelude.{filter}
use Rattle.elf_load.specs.Refusals.{has_memory}
use Rattle.elf_load.proofs.overlap.with_memory.Given as goal

abbrev pub invariant-loop-load : goal.invariant-loop-load
invariant-loop-load l = l.kept.items ≡ filter has_memory (take l.load-index l.found)
