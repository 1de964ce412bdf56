use Rattle.std.proofs.Common.{List, refl, ◌∙◌, ap, arith, rules}
use Rattle.rrv_model.specs.declared.record.Written.{Written}
use Rattle.rrv_model.specs.declared.record.CallRecord.{CallRecord}
use Rattle.rrv_model.specs.CallRows.{argument, change_thread}
use Rattle.guest_calls.specs.Guest.{state_of}
use Rattle.guest_calls.proofs.CallParts.{text_none, carries_answer}
use Rattle.guest_calls.proofs.guest.Guest.set_tid_address.Goals as goal

pub returns : goal.returns
returns c =
    let made : List Written → CallRecord = λ written. record { result = c.args.tid; written = written } in
    let none = c.from_vec.ensures ∙ c.new.ensures.items in
    record {
      makes = record {
        carries = carries_answer c.args.tid (change_thread c.args.tid (λ t. record t { clear = argument c.args.thread.now 0 })) c.args.tid
            (state_of c.args.self.now) (state_of c.set_clear.new.self) _ _
            (ap made none) c.set_clear.ensures.state (ap state_of c.self.view_is ∙ c.set_result.ensures.state);
        text = text_none c.args.tid (c.from_vec.result) (omega arith) none;
        puts = refl;
        keeps = search rules;
      };
    }
