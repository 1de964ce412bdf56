use Rattle.std.proofs.Common.{subst}
use Rattle.std.specs.Io.KnownBytes.{Appends}
use Rattle.rrv_model.specs.declared.record.Record.{Record}
use Rattle.rrv_model.specs.Recovered.{of_guest}
use Rattle.trace_text.specs.Lines.{record_line}
use Rattle.recover.specs.Spots.{records_of}
use Rattle.line_io.specs.Printed.{with_newline}
use Rattle.end_text.proofs.Printed.{printed_on}
use Rattle.listings.proofs.guests.print_records.Goals as goal

pub loop-index-preserved : goal.loop-index-preserved
loop-index-preserved g c =
    let before = c.loop-index.invariant in
    let contents = g.W.Write.contents in
    let now = subst (λ (r : Record). Appends (contents c.loop-index.out) (contents c.print_line.new.out) (with_newline (record_line r)))
    c.new.ensures c.in_ok-print_line.ensures.printed in (
      before.0,
      λ on. printed_on (λ (r : Record). with_newline (record_line r)) (of_guest c.in_ok-guest.guest (records_of c.args.lists.now))
          c.loop-index.index c.in_ok-entry.entry _ _ _ (c.in_ok-entry.ensures.read.read (before.2 on)) (before.1 on) now,
      λ on. c.in_ok-entry.ensures.read.on (before.2 on),
    )
