use Rattle.std.proofs.Common.{◌≡◌, ◌≤◌, drop}
use Rattle.std.specs.Prelude.{fold}
use Rattle.elf_load.specs.Refusals.{higher_end, highest_end}
use Rattle.elf_load.proofs.loads.highest_end.Given as goal

-- the loads from this one on lead to the highest end
abbrev pub invariant-loop-load : goal.invariant-loop-load
invariant-loop-load l = record {
  value : fold higher_end l.highest (drop l.load-index l.found) ≡ highest_end l.found;
  within : l.highest ≤ 0x70000000;
}
