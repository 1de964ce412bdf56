use Rattle.std.proofs.Common.{get_or}
use Rattle.std.proofs.lemmas.Option.{slice_get-get_or}
use Rattle.recording.specs.declared.misfits.GuestMisfit.{GuestMisfit}
use Rattle.recording.specs.Misfits.{misfit_text}
use Rattle.recording.specs.Names.{name_by}
use Rattle.line_io.specs.Printed.{with_newline}
use Rattle.end_text.proofs.Printed.{printed_on}
use Rattle.recording.proofs.misfits.print_misfits.Goals as goal

pub loop-misfit-preserved : goal.loop-misfit-preserved
loop-misfit-preserved g c =
    let misfits = c.args.misfits.now in
    let i = c.loop-misfit.misfit-index in
    let none : GuestMisfit = record { place = 0; misfit = record { index = 0; tid = 0 } } in
    printed_on (λ (m : GuestMisfit). with_newline (misfit_text (name_by c.args.names m.place) m.misfit)) misfits i (get_or misfits i none)
    _ _ _
    (slice_get-get_or misfits i none c.loop-misfit-test.true) c.loop-misfit.invariant c.in_ok-print_misfit.ensures.printed
