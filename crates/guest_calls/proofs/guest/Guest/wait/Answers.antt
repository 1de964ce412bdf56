use Rattle.std.proofs.Common.{◌∙◌, ap, rules}
use Rattle.rrv_model.specs.CallRows.{waits}
use Rattle.guest_calls.specs.contracts.guest.Guest.{the_view}
use Rattle.guest_calls.specs.Guest.{GuestValue, state_of}
use Rattle.guest_calls.proofs.guest.Guest.wait.Goals as goal

pub returns : goal.returns
returns c = record {
  state = c.in-Ok.ensures.waits (state_of (the_view c.self.inside))
      ∙ ap (λ (v : GuestValue). waits c.args.tid c.args.wait (state_of v)) c.self.view_is;
  refused = search rules;
  keeps = search rules;
  put = search rules;
}
