use Rattle.std.proofs.Common.{rules}
use Rattle.trace_text.proofs.Words.{padded_word}
use Rattle.trace_text.proofs.memory_lines.write_address.Goals as goal

pub returns : goal.returns
returns g c = rw (← padded_word c.args.address) (search rules)
