-- As many reports as guests and jobs.
use Rattle.std.proofs.Common.{◌≡◌, ℕ, ◌+◌, suc, List, [], ◌∷◌, length, refl, ap, sym, subst, ◌∙◌}
use Rattle.std.specs.Prelude.{map, IfOk, Result, Ok}
use Rattle.std.proofs.lemmas.List.{length-map}
use Rattle.rrv_model.specs.declared.record.Record.{Record}
use Rattle.guest_calls.specs.Guest.{GuestValue}
use Rattle.session.specs.declared.job.Job.{Job}
use Rattle.session.specs.declared.report.GuestReport.{GuestReport}
use Rattle.session.specs.Sessions.{AreLeft, AreReported}
use Rattle.session.specs.Works.{Choosers, Sinks}

module _ {C O S : Type 0} where
  reported_length : (choosers : Choosers C) (sinks : Sinks S) (committed : List Record) (number : ℕ) (jobs jobs' : List (Job C O S))
      (reports : List GuestReport)
      → AreReported choosers sinks committed number jobs jobs' reports → length jobs' ≡ length reports
  reported_length choosers sinks committed number [] [] [] h = refl
  reported_length choosers sinks committed number [] [] (x ∷ xs) h = absurd h
  reported_length choosers sinks committed number [] (y ∷ ys) xs h = absurd h
  reported_length choosers sinks committed number (z ∷ zs) [] xs h = absurd h
  reported_length choosers sinks committed number (z ∷ zs) (y ∷ ys) [] h = absurd h
  reported_length choosers sinks committed number (z ∷ zs) (y ∷ ys) (x ∷ xs) h =
      ap suc (reported_length choosers sinks committed (number + 1) zs ys xs h.1)

  left_length : (committed : List Record) (number : ℕ) (jobs : List (Job C O S)) (guests : List GuestValue) →
      AreLeft committed number jobs guests → length jobs ≡ length guests
  left_length committed number [] [] h = refl
  left_length committed number [] (x ∷ xs) h = absurd h
  left_length committed number (y ∷ ys) [] h = absurd h
  left_length committed number (y ∷ ys) (x ∷ xs) h = ap suc (left_length committed (number + 1) ys xs h.1)

  -- a guest for each report
  pub guests_length : (choosers : Choosers C) (sinks : Sinks S) (committed : List Record) (number : ℕ) (jobs jobs' : List (Job C O S))
      (reports : List GuestReport) (guests : List GuestValue)
      → AreReported choosers sinks committed number jobs jobs' reports × AreLeft committed number jobs' guests →
      length guests ≡ length reports
  guests_length choosers sinks committed number jobs jobs' reports guests h =
      sym (left_length committed number jobs' guests h.1) ∙ reported_length choosers sinks committed number jobs jobs' reports h.0

  -- and a thread that ran last
  pub lasts_length : (choosers : Choosers C) (sinks : Sinks S) (committed : List Record) (number : ℕ) (jobs jobs' : List (Job C O S))
      (reports : List GuestReport) (guests : List GuestValue)
      (last : Job C O S → ℕ) (lasts : List ℕ)
      → lasts ≡ map last jobs' → AreReported choosers sinks committed number jobs jobs' reports × AreLeft committed number jobs' guests →
      length lasts ≡ length reports
  lasts_length choosers sinks committed number jobs jobs' reports guests last lasts is h =
      ap length is ∙ length-map jobs' last ∙ reported_length choosers sinks committed number jobs jobs' reports h.0

-- what is said of an answer that is Ok
pub ok_is : {A E : Type 0} (P : A → Type 0) (r : Result A E) (x : A) → r ≡ Ok x → IfOk r P → P x
ok_is P r x is h = subst (λ a. IfOk a P) is h
