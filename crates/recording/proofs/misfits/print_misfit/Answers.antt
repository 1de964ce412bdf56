use Rattle.std.proofs.Common.{List, ℕ, subst, ◌∙◌}
use Rattle.std.specs.Io.KnownBytes.{Appends}
use Rattle.recording.specs.Misfits.{misfit_text}
use Rattle.line_io.specs.Printed.{with_newline}
use Rattle.recording.proofs.misfits.print_misfit.Goals as goal

pub returns-clause-printed : goal.returns-clause-printed
returns-clause-printed g c =
    subst (λ (name : List ℕ). Appends (g.W.Write.contents c.args.out.now) (g.W.Write.contents c.print_line.new.out)
    (with_newline (misfit_text name c.args.misfit.misfit)))
    (c.as_str.ensures.value ∙ c.in_ok-name.ensures.name) c.in_ok-print_line.ensures.printed
