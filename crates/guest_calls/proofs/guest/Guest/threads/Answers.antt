use Rattle.std.proofs.Common.{subst}
use Rattle.rrv_model.specs.State.{IsState}
use Rattle.guest_calls.specs.Guest.{GuestValue, state_of}
use Rattle.guest_calls.proofs.guest.Guest.threads.Goals as goal

pub returns-clause-is_state : goal.returns-clause-is_state
returns-clause-is_state c =
    let own = c.self.invariant in
    let memory = c.page_count.ensures.is_memory in
    subst (λ (v : GuestValue). IsState (state_of v)) c.self.view_is (record {
      rules = record {
        memory = memory.pages;
        threads = c.live.ensures.rules;
        opening = own.1;
        breaks = (own.2, own.3);
        reservation = c.are_numbers.ensures.reservation;
        ended = c.are_numbers.ensures.ended;
      };
      limit = memory.limit;
    })
