use Rattle.std.proofs.Common.{◌≡◌, Some, map, take}
use Rattle.choices.specs.ChoiceText.{lines_say}
use Rattle.choices.proofs.text.choices_in.Given as goal

abbrev pub invariant-loop-index : goal.invariant-loop-index
invariant-loop-index l = lines_say (take l.index (map (λ x. x.now) l.line-items)) ≡ Some l.choices.items
