use Rattle.std.proofs.Common.{refl, rules}
use Rattle.rrv_model.specs.CallRows.{waits}
use Rattle.guest_calls.proofs.CallParts.{makes_after}
use Rattle.guest_calls.proofs.guest.Guest.begin_wait.Goals as goal

pub returns : goal.returns
returns c = record {
  makes = makes_after 0 0 (waits c.args.tid c.args.wait) c.args.tid c.args.self.now _ _ _ refl
      c.in_ok-wait.ensures.state c.wait.ensures.keeps c.answer.ensures.makes;
  memory = search rules;
  refused = search rules;
}
