use Rattle.choices.proofs.OwnSlices.{choices_tell_slices}
use Rattle.choices.proofs.laws.choices_tell_slices.Goals as goal

pub returns : goal.returns
returns c = choices_tell_slices
