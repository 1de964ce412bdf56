use Rattle.std.proofs.Common.{sym, ◌∙◌, ap, rules}
use Rattle.std.proofs.lemmas.Bool.{false≢true}
use Rattle.rrv_model.specs.CallRows.{leaves}
use Rattle.guest_threads.specs.Threads.{with_threads}
use Rattle.guest_calls.specs.contracts.guest.Guest.{the_view}
use Rattle.guest_calls.specs.Guest.{GuestValue, state_of}
use Rattle.guest_calls.proofs.ThreadParts.{last_left, others_left}
use Rattle.guest_calls.proofs.guest.Guest.leave.Goals as goal

pub returns-then-is_empty : goal.returns-then-is_empty
returns-then-is_empty c =
    let s = state_of (the_view c.self.inside) in
    record {
      state = c.end.ensures.state
          ∙ last_left c.args.tid c.args.status s (with_threads c.exit.new.self s) (c.in-Ok.ensures.leaves s)
          (c.is_empty.ensures.0 c.if-is_empty.true)
          ∙ ap (λ (v : GuestValue). leaves c.args.tid c.args.status (state_of v)) c.self.view_is;
      keeps = search rules;
      put = search rules;
    }

pub returns-else-is_empty : goal.returns-else-is_empty
returns-else-is_empty c =
    let s = state_of (the_view c.self.inside) in
    record {
      state = others_left c.args.tid c.args.status s (with_threads c.exit.new.self s) (c.in-Ok.ensures.leaves s)
          (λ e. false≢true (sym c.if-is_empty.false ∙ c.is_empty.ensures.1 e))
          ∙ ap (λ (v : GuestValue). leaves c.args.tid c.args.status (state_of v)) c.self.view_is;
      keeps = search rules;
      put = search rules;
    }
