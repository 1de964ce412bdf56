use Rattle.std.proofs.Common.{◌≢◌, ap, rules, true≢false}
use Rattle.command_line.specs.declared.asked.Asked.TheVariants as asks
use Rattle.line_io.specs.declared.refusal.Refusal.TheVariants as refusals
use Rattle.answers.proofs.Asked.{quit_is_answered, refused_line}
use Rattle.answers.proofs.ask.answer_line.Goals as goal

pub returns-in-Err-clause-ends : goal.returns-in-Err-clause-ends
returns-in-Err-clause-ends g c = ((λ h. absurd (true≢false h)), (λ q. absurd (c.in-Err.ensures.none asks.Quit q)))

pub returns-in_ok-print_refused-in-Err-answer_asked : goal.returns-in_ok-print_refused-in-Err-answer_asked
returns-in_ok-print_refused-in-Err-answer_asked g c =
    let contents = g.W.Write.contents in
    let line = c.args.line.now in
    let e = c.in-Err-answer_asked.refusal in
    let asked = c.in-Ok.ensures.found in
    let refuses = c.in-Err-answer_asked.ensures.refused in
    let other : e ≢ refusals.OutputFailed = search rules in
    record {
      verified = c.answer_asked.ensures.verified;
      answered =
          refused_line line _ c.args.dialogue.now c.answer_asked.new.dialogue (contents c.args.out.now) (contents c.answer_asked.new.out)
          (contents c.print_refused-in-Err-answer_asked.new.out) e asked refuses c.answer_asked.ensures.form other
          (ap contents (c.in-Err-answer_asked.ensures.quiet other))
          c.in_ok-print_refused-in-Err-answer_asked.ensures.told;
      ends = (
        (λ h. absurd (true≢false h)),
        (λ q. absurd (quit_is_answered line _ c.args.dialogue.now.cursor c.answer_asked.new.dialogue.cursor e asked refuses q)),
      );
    }
