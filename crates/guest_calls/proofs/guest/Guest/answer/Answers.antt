use Rattle.std.proofs.Common.{List, refl, ◌∙◌, ap, arith, rules}
use Rattle.rrv_model.specs.declared.record.Written.{Written}
use Rattle.rrv_model.specs.declared.record.CallRecord.{CallRecord}
use Rattle.rrv_model.specs.CallRows.{unchanged}
use Rattle.guest_calls.specs.Guest.{state_of}
use Rattle.guest_calls.proofs.CallParts.{text_none, carries_answer}
use Rattle.guest_calls.proofs.guest.Guest.answer.Goals as goal

pub returns-clause-makes : goal.returns-clause-makes
returns-clause-makes c =
    let made : List Written → CallRecord = λ written. record { result = c.args.value; written = written } in
    let none = c.from_vec.ensures ∙ c.new.ensures.items in
    record {
      carries = carries_answer c.args.value unchanged c.args.tid (state_of c.args.self.now) (state_of c.args.self.now) _ _
          (ap made none) refl (ap state_of c.self.view_is ∙ c.set_result.ensures.state);
      text = text_none c.args.value (c.from_vec.result) (omega arith) none;
      puts = refl;
      keeps = search rules;
    }
