use Rattle.std.proofs.Common.{◌≡◌, ◌<◌, ℕ, subst}
use Rattle.std.proofs.lemmas.Result.{err_from_is_err_and}
use Rattle.std.specs.Io.KnownBytes.{Appends}
use Rattle.command_line.specs.declared.asked.Inquiry.{Inquiry}
use Rattle.guest_calls.specs.Guest.{state_of}
use Rattle.replayer.specs.Verified.{VerifiedValue}
use Rattle.rrv_model.specs.StateAt.{total}
use Rattle.asking.specs.Answers.{found_text}
use Rattle.asking.specs.Places.{RunsNext, shown_place}
use Rattle.asking.proofs.Leads.{stays}
use Rattle.asking.proofs.answers.answer.Goals as goal

pub returns-clause-answered : goal.returns-clause-answered
returns-clause-answered g c =
    let contents = g.W.Write.contents in
    let new = c.go.new.cursor in
    let tid = c.first_thread-tid.result in
    record {
      is_found = c.in_ok-is_found.is_found;
      goes = c.in_ok-is_found.ensures.goes;
      state = state_of new.guest;
      is_at = c.print_found.ensures.state;
      tid = tid;
      next = subst (λ (v : VerifiedValue). 0 < total v.frames → RunsNext v.frames (shown_place (total v.frames) new.place) tid)
          c.verified.ensures
          (subst (λ (n : ℕ). 0 < total c.verified.result.now.frames
          → RunsNext c.verified.result.now.frames (shown_place (total c.verified.result.now.frames) n) tid)
          c.place.ensures.place c.first_thread-tid.ensures.shown);
      none = subst (λ (v : VerifiedValue). total v.frames ≡ 0 → tid ≡ 0) c.verified.ensures c.first_thread-tid.ensures.none;
      printed =
          subst (λ (i : Inquiry). Appends (contents c.args.out.now) (contents c.print_found.new.out)
          (found_text c.in_ok-is_found.is_found new.place (total new.verified.frames) tid (state_of new.guest) i))
          c.printed_for-printed.ensures c.in_ok-print_found.ensures.printed;
    }

pub returns-in_err-is_found-clause-stays : goal.returns-in_err-is_found-clause-stays
returns-in_err-is_found-clause-stays g c =
    let p = err_from_is_err_and c.from_residual.result c.from_residual.ensures.1 in
    rw (p.1, p.2) (stays c.in_err-is_found.field-0.0 c.args.inquiry c.args.cursor.now c.go.new.cursor c.in_err-is_found.ensures.refused
    c.in_err-is_found.ensures.stays)

-- there was no reader, and the cursor is where the question leads
pub returns-in_err-print_found-clause-stays : goal.returns-in_err-print_found-clause-stays
returns-in_err-print_found-clause-stays g c =
    let p = err_from_is_err_and c.from_residual-in_err-print_found.result c.from_residual-in_err-print_found.ensures.1 in
    rw (p.1, p.2) (c.in_ok-is_found.is_found, c.in_ok-is_found.ensures.goes)
