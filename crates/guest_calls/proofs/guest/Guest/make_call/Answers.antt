-- A call comes to what its row makes, whether it asks or not.
use Rattle.std.proofs.Common.{ℕ, Result, sym, subst}
use Rattle.rrv_model.specs.declared.machine.Thread.{Thread}
use Rattle.rrv_model.specs.declared.record.CallRecord.{CallRecord}
use Rattle.rrv_model.specs.declared.refusal.Memory.{Memory as Refusal}
use Rattle.rrv_model.specs.declared.syscall.Syscall.{Syscall}
use Rattle.rrv_model.specs.CallRows.{row_of}
use Rattle.rrv_model.specs.Calls.{Answer}
use Rattle.rrv_model.specs.Output.{puts}
use Rattle.guest_calls.specs.Guest.{GuestValue, state_of}
use Rattle.guest_calls.specs.Asking.{Asks, Question}
use Rattle.guest_calls.specs.Carries.{ComesTo}
use Rattle.guest_calls.specs.Growth.{MayGrow}
use Rattle.guest_calls.proofs.Inquiries.{alike, quiet}
use Rattle.guest_calls.proofs.guest.Guest.make_call.Goals as goal

abbrev CallComesTo : {O : Type 0} → (O → Question → Answer → O → Type 0) → ℕ → Thread → GuestValue → Result CallRecord Refusal →
    GuestValue → O → O → Syscall → Type 0
CallComesTo gives tid t old result new before after call =
    ComesTo gives (row_of call tid (state_of old) t) (puts call (state_of old).memory t) (MayGrow call tid (state_of old) t) tid t old
    result new before after

pub returns-in-Some : goal.returns-in-Some
returns-in-Some g c =
    let s = state_of c.args.self.now in
    let t = c.args.thread.now in
    let asked = c.in-Some.ensures in
    subst (CallComesTo g.O.Outside.gives c.args.tid t c.args.self.now c.ask.result c.ask.new.self c.args.outside.now c.ask.new.outside)
    c.syscall_of-call.ensures
    (alike c.ask.result (asked.row c.args.tid s) (asked.puts s.memory)
    (λ asks. asked.grows c.args.tid s (subst Asks (sym (asked.row c.args.tid s)) asks)) (c.ask.ensures t asked.clock))

pub returns-in-None : goal.returns-in-None
returns-in-None g c =
    let made = c.make_quiet_call.ensures in
    subst (CallComesTo g.O.Outside.gives c.args.tid c.args.thread.now c.args.self.now c.make_quiet_call.result c.make_quiet_call.new.self
    c.args.outside.now c.args.outside.now)
    c.syscall_of-call.ensures (quiet c.make_quiet_call.result made.makes made.memory made.refused)
