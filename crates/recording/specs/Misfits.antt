-- The choices of a recording that didn't fit its run.
use Rattle.std.specs.Prelude.{ℕ, ◌+◌, List, [], ◌∷◌, ◌++◌, Option, Some, None, codes, flat_map}
use Rattle.std.specs.Fmt.{decimal}
use Rattle.choices.specs.declared.schedule.Misfit.{Misfit}
use Rattle.session.specs.declared.job.Job.{Job}
use Rattle.recording.specs.declared.misfits.GuestMisfit.{GuestMisfit}
use Rattle.recording.specs.Limits.{Limit}
use Rattle.line_io.specs.Printed.{with_newline}

-- as in `g0: choice 3 doesn't fit: thread 9 does not run`
abbrev pub misfit_text : (name : List ℕ) → Misfit → List ℕ
misfit_text name m =
    name ++ (codes ": choice " ++ (decimal m.index ++ (codes " doesn't fit: thread " ++ (decimal m.tid ++ codes " does not run"))))

-- the line of each of them, whose guests are named so by their places
abbrev pub misfit_lines : (naming : ℕ → List ℕ) → List GuestMisfit → List ℕ
misfit_lines naming misfits = flat_map (λ m. with_newline (misfit_text (naming m.place) m.misfit)) misfits

abbrev pub misfit_at : ℕ → Option Misfit → List GuestMisfit
misfit_at place None = []
misfit_at place (Some misfit) = record { place = place; misfit = misfit } ∷ []

-- of the jobs from the one at this place of the line on, each one that didn't fit
abbrev pub misfits_from : {O S : Type 0} → ℕ → List (Job Limit O S) → List GuestMisfit
misfits_from place [] = []
misfits_from place (job ∷ jobs) = misfit_at place job.chooser.plan.misfit ++ misfits_from (place + 1) jobs
