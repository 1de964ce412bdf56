use Rattle.std.proofs.Common.{◌≡◌, ◌∙◌, Bool, ap, rules, subst, true}
use Rattle.answers.specs.Asking.{GoesOnAfter}
use Rattle.answers.proofs.Asked.{answered_and_on, answered_on}
use Rattle.answers.proofs.ask.answer_lines.Goals as goal

pub returns-then-not-goes_on-clause-answered : goal.returns-then-not-goes_on-clause-answered
returns-then-not-goes_on-clause-answered g c = λ quiet.
    let contents = g.W.Write.contents in
    answered_on c.args.dialogue.now c.loop.dialogue c.answer_input.new.dialogue (contents c.args.out.now) (contents c.loop.out)
    (contents c.prompt.new.out) (contents c.answer_input.new.out) (contents c.end_answer.new.out) _ (c.loop.invariant.ran quiet)
    (ap contents (c.prompt.ensures.quiet quiet)) c.in_ok-goes_on.ensures.answered c.in_ok-end_answer.ensures.ended

pub loop-preserved : goal.loop-preserved
loop-preserved g c = record {
  same = c.in_ok-goes_on.ensures.verified ∙ c.loop.invariant.same;
  ran = λ quiet.
      let contents = g.W.Write.contents in
      let on : c.in_ok-goes_on.goes_on ≡ true = search rules in
      answered_and_on c.args.dialogue.now c.loop.dialogue c.answer_input.new.dialogue (contents c.args.out.now) (contents c.loop.out)
      (contents c.prompt.new.out) (contents c.answer_input.new.out) (contents c.end_answer.new.out) _ (c.loop.invariant.ran quiet)
      (ap contents (c.prompt.ensures.quiet quiet)) c.in_ok-goes_on.ensures.answered c.in_ok-end_answer.ensures.ended
      (subst (λ (b : Bool). GoesOnAfter c.in-Some.line b) on c.in_ok-goes_on.ensures.ends);
}
