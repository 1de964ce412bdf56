use Rattle.escapes.proofs.Printed.{nothing_is_controlled}
use Rattle.escapes.proofs.laws.nothing_is_controlled.Goals as goal

pub returns : goal.returns
returns c = nothing_is_controlled
