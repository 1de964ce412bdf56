use Rattle.std.proofs.Common.{arith}
use Rattle.group_tests.proofs.tests.machine.next_item.Goals as goal

pub returns-in_default : goal.returns-in_default
returns-in_default c = record {
  room = omega arith;
  has_text = record { guest = omega arith; index = omega arith; item = c.preempted.ensures.text };
  opens = ((λ e. absurd (omega arith)), λ o. absurd (c.preempted.ensures.opens o));
}
