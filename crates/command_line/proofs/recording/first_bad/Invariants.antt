use Rattle.std.proofs.Common.{map, take}
use Rattle.std.specs.List.{AllByRecursion}
use Rattle.command_line.specs.Values.{IsNameWithin}
use Rattle.command_line.proofs.recording.first_bad.Given as goal

abbrev pub invariant-loop-text : goal.invariant-loop-text
invariant-loop-text l = AllByRecursion (IsNameWithin l.most) (map (λ s. s.now) (take l.text-index l.texts))
