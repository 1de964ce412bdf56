use Rattle.std.proofs.Common.{◌∙◌, ap, rules}
use Rattle.rrv_model.specs.CallRows.{change_thread}
use Rattle.guest_calls.specs.contracts.guest.Guest.{the_view}
use Rattle.guest_calls.specs.Guest.{GuestValue, state_of}
use Rattle.guest_calls.proofs.guest.Guest.set_clear.Goals as goal

pub returns : goal.returns
returns c =
    record {
      state = c.set_clear.ensures (state_of (the_view c.self.inside))
          ∙ ap (λ (v : GuestValue). change_thread c.args.tid (λ t. record t { clear = c.args.address }) (state_of v)) c.self.view_is;
      keeps = search rules;
      put = search rules;
    }
