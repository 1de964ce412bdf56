use Rattle.std.proofs.Common.{List, refl, sym, ◌∙◌, ap, arith, rules}
use Rattle.rrv_model.specs.declared.record.Written.{Written}
use Rattle.rrv_model.specs.declared.record.CallRecord.{CallRecord}
use Rattle.rrv_model.specs.CallRows.{argument, leaves}
use Rattle.guest_calls.specs.Guest.{state_of}
use Rattle.guest_calls.proofs.CallParts.{text_none, carries_end, carries_exit}
use Rattle.guest_calls.proofs.guest.Guest.exit.Goals as goal

pub returns : goal.returns
returns c =
    let made : List Written → CallRecord = λ written. record { result = 0; written = written } in
    let none = c.from_vec.ensures ∙ c.new.ensures.items in
    record {
      makes = record {
        carries = carries_exit c.args.tid (state_of c.args.self.now) c.args.thread.now _ _ (sym c.clears.ensures ∙ c.if-clears.false)
            (carries_end (leaves c.args.tid (argument c.args.thread.now 0)) c.args.tid (state_of c.args.self.now) _ _
            (ap made none) (ap state_of c.self.view_is ∙ c.leave.ensures.state));
        text = text_none 0 (c.from_vec.result) (omega arith) none;
        puts = refl;
        keeps = search rules;
      };
      memory = search rules;
      refused = search rules;
    }
