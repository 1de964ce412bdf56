use Rattle.std.proofs.Common.{◌≡◌, false}
use Rattle.answers.specs.Asking.{IsRunOn}
use Rattle.answers.proofs.ask.answer_lines.Given as goal

abbrev pub invariant-loop : goal.invariant-loop
invariant-loop g l = record {
  same : l.dialogue.cursor.verified ≡ l.fn.dialogue.cursor.verified;
  ran : l.prompts ≡ false → IsRunOn l.fn.dialogue l.dialogue (g.W.Write.contents l.fn.out) (g.W.Write.contents l.out);
}
