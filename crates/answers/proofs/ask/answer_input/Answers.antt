use Rattle.std.proofs.Common.{refl, subst, sym}
use Rattle.answers.specs.declared.input_lines.InputLine.{InputLine}
use Rattle.answers.specs.Asking.{AnswersInput}
use Rattle.answers.proofs.ask.answer_input.Goals as goal

pub returns-in_ok-print_refused-in-TooLong-clause-answered : goal.returns-in_ok-print_refused-in-TooLong-clause-answered
returns-in_ok-print_refused-in-TooLong-clause-answered g c =
    let contents = g.W.Write.contents in
    subst (λ (l : InputLine). AnswersInput l c.args.dialogue.now c.args.dialogue.now (contents c.args.out.now)
    (contents c.print_refused.new.out)) (sym c.in-TooLong.is)
    (refl, c.in_ok-print_refused-in-TooLong.ensures.told)
