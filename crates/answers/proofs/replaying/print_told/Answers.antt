use Rattle.std.proofs.Common.{rules}
use Rattle.answers.proofs.Printing.{end_printed_long}
use Rattle.answers.proofs.replaying.print_told.Goals as goal

pub returns : goal.returns
returns g c =
    let end = c.args.end.now in
    let lines = c.new-lines.result in
    record {
      printed = end_printed_long c.print_text.result c.args.is_long end.len end.total lines.place end.last lines.last end.guest
          lines.guest.now _ _ _
          (search rules) (search rules) (search rules) (search rules) c.in_ok-print_end.ensures.printed c.print_text.ensures.printed;
    }
