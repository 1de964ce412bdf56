use Rattle.std.proofs.Common.{rules, ◌∙◌}
use Rattle.recording.proofs.ReportTexts.{report_alone, report_long}
use Rattle.recording.proofs.reports.print_report.Goals as goal

pub returns-then-has_left : goal.returns-then-has_left
returns-then-has_left g c = record {
  printed = report_alone c.has_left.result c.args.report.now c.args.guest.now c.args.last _ _ _ _ _ _ (search rules) c.has_left.ensures
      c.new-line.ensures.name c.new-line.ensures.end (c.new-line.ensures.records ∙ c.from.ensures) c.in_ok-print_line.ensures.printed;
}

pub returns : goal.returns
returns g c =
    let lines = c.new-lines.result in
    record {
      printed = report_long c.print_text.result c.has_left.result c.args.report.now c.args.guest.now lines.guest.now c.args.last lines.last
          lines.place _ _ _ _ _ _ _ (search rules) c.has_left.ensures c.new-line.ensures.name c.new-line.ensures.end
          (c.new-line.ensures.records ∙ c.from.ensures)
          (search rules) (search rules) (search rules) c.in_ok-print_line.ensures.printed c.print_text.ensures.printed;
    }
