use Rattle.std.proofs.Common.{arith, false, rules}
use Rattle.std.proofs.lemmas.Fmt.{hex_byte}
use Rattle.escapes.proofs.escaped.write_digits.Goals as goal

pub returns : goal.returns
returns g c = rw (← hex_byte false c.args.byte (omega arith)) (search rules)
