use Rattle.turn_text.proofs.CallNumbers.{call_numbers_are_kept}
use Rattle.turn_text.proofs.laws.call_numbers_are_kept.Goals as goal

pub returns : goal.returns
returns c = call_numbers_are_kept
