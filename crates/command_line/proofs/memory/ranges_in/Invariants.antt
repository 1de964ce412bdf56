use Rattle.std.proofs.Common.{map, take}
use Rattle.std.specs.List.{AllZip}
use Rattle.command_line.specs.Values.{IsMemoryRange}
use Rattle.command_line.proofs.memory.ranges_in.Given as goal

abbrev pub invariant-loop-text : goal.invariant-loop-text
invariant-loop-text l = AllZip IsMemoryRange (map (λ s. s.now) (take l.text-index l.texts)) l.ranges.items
