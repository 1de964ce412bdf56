use Rattle.std.proofs.Common.{refl}
use Rattle.std.specs.Prelude.{codes}
use Rattle.std.proofs.lemmas.Result.{on_ok_weaker}
use Rattle.line_io.specs.Printed.{with_newline}
use Rattle.end_text.proofs.Printed.{appends_on}
use Rattle.answers.proofs.Asked.{no_memory_why}
use Rattle.answers.proofs.ask.print_refused.Goals as goal

pub returns-in-Err : goal.returns-in-Err
returns-in-Err g c = record {
  told =
      let contents = g.W.Write.contents in
      on_ok_weaker c.print_line-in-Err.result
      (λ printed. (
        codes "out of memory",
        no_memory_why _,
        appends_on (contents c.args.out.now) (contents c.print_text.new.out) (contents c.print_line-in-Err.new.out) (codes "rrv: ")
            (with_newline (codes "out of memory")) (codes "rrv: out of memory\n") c.in_ok-print_text.ensures.printed printed refl,
      ))
      c.print_line-in-Err.ensures.printed;
}
