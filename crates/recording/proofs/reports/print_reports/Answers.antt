use Rattle.std.proofs.Common.{arith, None, ◌∙◌}
use Rattle.std.proofs.lemmas.Option.{slice_get-get_or}
use Rattle.session.proofs.Openings.{get_is}
use Rattle.recording.specs.Names.{name_by}
use Rattle.recording.proofs.ReportTexts.{guests_on}
use Rattle.recording.proofs.reports.print_reports.Goals as goal

pub loop-place-preserved : goal.loop-place-preserved
loop-place-preserved g c =
    let before = c.loop-place.invariant in
    let i = c.loop-place.place in
    let within = c.loop-place-test.true in (
      before.0,
      guests_on (name_by c.args.names) i c.args.reports.now c.args.guests.now c.args.lasts.now _ _ _ _ _ _ _
          (slice_get-get_or _ i (record { number = 0; records = 0; end = None }) within)
          (get_is _ i _ (omega (arith, within, c.requires.guests)) c.index-guests-place.is)
          (slice_get-get_or _ i 0 (omega (arith, within, c.requires.lasts)))
          (c.as_bytes.ensures.value ∙ c.in_ok-name.ensures.name) before.1 c.in_ok-print_report.ensures.printed,
    )
