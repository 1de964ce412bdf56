use Rattle.std.proofs.Common.{rules}
use Rattle.trace_text.proofs.Words.{padded_byte}
use Rattle.changes.proofs.change_line.write_byte.Goals as goal

pub returns : goal.returns
returns g c = rw (← padded_byte c.args.byte) (search rules)
