-- The choices that didn't fit, job by job.
use Rattle.std.proofs.Common.{◌≡◌, ℕ, ◌+◌, List, [], ◌∷◌, ◌++◌, length, take, Some, None, ap, arith, sym, ◌∙◌}
use Rattle.std.specs.Prelude.{slice_get}
use Rattle.std.proofs.lemmas.List.{append-nil, append_assoc}
use Rattle.choices.specs.declared.schedule.Misfit.{Misfit}
use Rattle.recording.specs.declared.misfits.GuestMisfit.{GuestMisfit}
use Rattle.session.specs.declared.job.Job.{Job}
use Rattle.recording.specs.Limits.{Limit}
use Rattle.recording.specs.Misfits.{misfit_at, misfits_from}
use Rattle.end_text.proofs.Printed.{take_next}

module _ {O S : Type 0} where
  misfits_behind : (place : ℕ) (jobs : List (Job Limit O S)) (job : Job Limit O S)
      → misfits_from place (jobs ++ job ∷ []) ≡ misfits_from place jobs ++ misfit_at (place + length jobs) job.chooser.plan.misfit
  misfits_behind place [] job =
      let here : place ≡ place + 0 = omega arith in
      append-nil (misfit_at place job.chooser.plan.misfit) ∙ ap (λ n. misfit_at n job.chooser.plan.misfit) here
  misfits_behind place (first ∷ rest) job =
      let there : place + 1 + length rest ≡ place + length (first ∷ rest) = omega arith in
      let own = misfit_at place first.chooser.plan.misfit in
      ap (λ l. own ++ l) (misfits_behind (place + 1) rest job)
      ∙ ap (λ n. own ++ (misfits_from (place + 1) rest ++ misfit_at n job.chooser.plan.misfit)) there
      ∙ sym (append_assoc own _ _)

  pub misfits_on : (jobs : List (Job Limit O S)) (i : ℕ) (job : Job Limit O S) → slice_get jobs i ≡ Some job → length (take i jobs) ≡ i
      → misfits_from 0 (take (i + 1) jobs) ≡ misfits_from 0 (take i jobs) ++ misfit_at i job.chooser.plan.misfit
  misfits_on jobs i job is len =
      let place : 0 + length (take i jobs) ≡ i = omega (arith, len) in
      ap (misfits_from 0) (take_next jobs i job is) ∙ misfits_behind 0 (take i jobs) job
      ∙ ap (λ n. misfits_from 0 (take i jobs) ++ misfit_at n job.chooser.plan.misfit) place

  -- one more that didn't fit, or none
  pub misfits_more : (jobs : List (Job Limit O S)) (i : ℕ) (job : Job Limit O S) (m : Misfit) (old new : List GuestMisfit)
      → new ≡ old ++ record { place = i; misfit = m } ∷ [] → old ≡ misfits_from 0 (take i jobs) → job.chooser.plan.misfit ≡ Some m
      → misfits_from 0 (take (i + 1) jobs) ≡ misfits_from 0 (take i jobs) ++ misfit_at i job.chooser.plan.misfit →
      new ≡ misfits_from 0 (take (i + 1) jobs)
  misfits_more jobs i job m old new more before some on =
      more ∙ ap (λ l. l ++ record { place = i; misfit = m } ∷ []) before
      ∙ ap (λ o. misfits_from 0 (take i jobs) ++ misfit_at i o) (sym some) ∙ sym on

  pub misfits_same : (jobs : List (Job Limit O S)) (i : ℕ) (job : Job Limit O S) (old new : List GuestMisfit)
      → new ≡ old → old ≡ misfits_from 0 (take i jobs) → job.chooser.plan.misfit ≡ None
      → misfits_from 0 (take (i + 1) jobs) ≡ misfits_from 0 (take i jobs) ++ misfit_at i job.chooser.plan.misfit →
      new ≡ misfits_from 0 (take (i + 1) jobs)
  misfits_same jobs i job old new same before none on =
      same ∙ before ∙ sym (append-nil _) ∙ ap (λ o. misfits_from 0 (take i jobs) ++ misfit_at i o) (sym none) ∙ sym on
