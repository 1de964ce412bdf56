use Rattle.std.proofs.Common.{◌∙◌, ap, length, rules}
use Rattle.rrv_model.specs.CallRows.{waiters, wakes}
use Rattle.guest_calls.specs.contracts.guest.Guest.{the_view}
use Rattle.guest_calls.specs.Guest.{GuestValue, state_of}
use Rattle.guest_calls.proofs.guest.Guest.wake.Goals as goal

pub returns-clause-count : goal.returns-clause-count
returns-clause-count c =
    c.wake.ensures.count (state_of (the_view c.self.inside))
    ∙ ap (λ (v : GuestValue). length (waiters (state_of v) c.args.address c.args.count)) c.self.view_is

pub returns-clause-wakes : goal.returns-clause-wakes
returns-clause-wakes c = record {
  state = c.wake.ensures.wakes (state_of (the_view c.self.inside))
      ∙ ap (λ (v : GuestValue). wakes c.args.address c.args.count (state_of v)) c.self.view_is;
  keeps = search rules;
  put = search rules;
}
