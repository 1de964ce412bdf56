use Rattle.std.proofs.Common.{◌∙◌, sym, ap, rules}
use Rattle.rrv_model.specs.declared.machine.Regs.{Regs}
use Rattle.rrv_model.specs.declared.machine.Thread.{Thread}
use Rattle.rrv_model.specs.State.{thread_at}
use Rattle.rrv_model.specs.CallRows.{set_register}
use Rattle.rrv_model.specs.Calls.{results}
use Rattle.guest_calls.specs.contracts.guest.Guest.{the_view}
use Rattle.guest_calls.specs.Guest.{GuestValue, state_of}
use Rattle.guest_calls.proofs.CallParts.{changed_nowhere}
use Rattle.guest_calls.proofs.ThreadParts.{regs_changed}
use Rattle.guest_calls.proofs.guest.Guest.set_result.Goals as goal

pub returns-in-Some : goal.returns-in-Some
returns-in-Some c =
    let s = state_of (the_view c.self.inside) in
    let t = c.in-Some.thread in
    record {
      state = c.set_regs.ensures s
          ∙ regs_changed c.args.tid (set_register 10 c.args.value) s t c.with_register.result (sym c.get.ensures.value ∙ c.in-Some.is)
          (ap (λ (r : Regs). let u : Thread = record t { regs = r } in u) c.with_register.ensures.value)
          ∙ ap (λ (v : GuestValue). results c.args.tid c.args.value (state_of v)) c.self.view_is;
      keeps = search rules;
      put = search rules;
    }

pub returns-in_default : goal.returns-in_default
returns-in_default c =
    record {
      state = sym (changed_nowhere c.args.tid (set_register 10 c.args.value) (state_of c.args.self.now)
          (ap (λ (v : GuestValue). thread_at (state_of v) c.args.tid) (sym c.self.view_is) ∙ sym c.get.ensures.value ∙ c.in_default.is));
      keeps = search rules;
      put = search rules;
    }
