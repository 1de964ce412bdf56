use Rattle.std.proofs.Common.{List, All, ◌<◌, ap, subst, arith}
use Rattle.rrv_model.specs.declared.record.Written.{Written}
use Rattle.rrv_model.specs.declared.record.CallRecord.{CallRecord}
use Rattle.guest_calls.proofs.Inquiries.{text_range}
use Rattle.guest_calls.proofs.guest.Guest.write_answer.Goals as goal

pub returns-clause-text : goal.returns-clause-text
returns-clause-text c =
    let made : List Written → CallRecord = λ written. record { result = c.args.value; written = written } in
    let small : All (λ b. b < 256) c.args.room.bytes.items = subst (All (λ b. b < 256)) c.deref.ensures.value c.has_bytes.ensures in
    λ most. text_range c.args.value c.args.address c.args.room.bytes.items _ (omega arith) (omega arith) most small
    (ap made c.into_written.ensures)
