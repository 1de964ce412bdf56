use Rattle.guest_calls.proofs.ThreadParts.{set_above_zero}
use Rattle.guest_calls.proofs.changes.with_register.Goals as goal

pub returns-clause-value : goal.returns-clause-value
returns-clause-value c = set_above_zero c.args.register c.args.value c.args.regs c.requires.register.0
