use Rattle.std.proofs.Common.{List, refl, ◌∙◌, ap, arith, rules}
use Rattle.rrv_model.specs.declared.record.Written.{Written}
use Rattle.rrv_model.specs.declared.record.CallRecord.{CallRecord}
use Rattle.rrv_model.specs.CallRows.{argument, ends}
use Rattle.guest_calls.specs.Guest.{state_of}
use Rattle.guest_calls.proofs.CallParts.{text_none, carries_end}
use Rattle.guest_calls.proofs.guest.Guest.exit_group.Goals as goal

pub returns : goal.returns
returns c =
    let made : List Written → CallRecord = λ written. record { result = 0; written = written } in
    let none = c.from_vec.ensures ∙ c.new.ensures.items in
    record {
      makes = record {
        carries = carries_end (ends (argument c.args.thread.now 0)) c.args.tid (state_of c.args.self.now) _ _
            (ap made none) (ap state_of c.self.view_is ∙ c.end.ensures.state);
        text = text_none 0 (c.from_vec.result) (omega arith) none;
        puts = refl;
        keeps = search rules;
      };
    }
