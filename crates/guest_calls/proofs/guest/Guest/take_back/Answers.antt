use Rattle.std.proofs.Common.{◌≡◌, Some, ◌∙◌, ap, refl, rules}
use Rattle.rrv_model.specs.Words.{minus}
use Rattle.rrv_model.specs.State.{AreRegs, thread_at}
use Rattle.guest_calls.specs.contracts.guest.Guest.{the_view}
use Rattle.guest_calls.specs.Guest.{GuestValue, state_of}
use Rattle.guest_calls.specs.Runs.{before_call}
use Rattle.guest_calls.proofs.ThreadParts.{regs_changed}
use Rattle.rrv_model.specs.declared.machine.Version.TheVariants.{One}
use Rattle.guest_calls.proofs.guest.Guest.take_back.Goals as goal

pub returns-clause-state : goal.returns-clause-state
returns-clause-state c =
    let s = state_of (the_view c.self.inside) in
    let t = c.running_thread.result in
    let there : thread_at s c.args.tid ≡ Some t =
    ap (λ (v : GuestValue). thread_at (state_of v) c.args.tid) c.self.view_is ∙ c.running_thread.ensures.there in
    c.set_regs.ensures s
    ∙ regs_changed c.args.tid (λ t. record t { regs = record t.regs { pc = minus t.regs.pc 4 } }) s t _ there refl
    ∙ ap (λ (v : GuestValue). before_call c.args.tid (state_of v)) c.self.view_is

pub set_regs-requires : goal.set_regs-requires
set_regs-requires c = let is : AreRegs c.running_thread.result.regs = (c.running_thread.ensures.runs.fits One).regs in search rules
