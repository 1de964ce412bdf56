-- What a recording leaves, program by program.
use Rattle.std.proofs.Common.{◌≡◌, inl, inr, ℕ, ◌+◌, ◌≤◌, cond, List, [], ◌∷◌, ◌++◌, length, false, refl, sym, ap, ◌∙◌, subst, arith}
use Rattle.std.proofs.lemmas.Bool.Decides.{eqb_tells}
use Rattle.rrv_model.specs.declared.record.Record.{Record}
use Rattle.rrv_model.specs.Recovered.{next_guest, of_guest}
use Rattle.rrv_model.proofs.RecoveredLaws.{of_guest-append}
use Rattle.host.specs.Seen.{Seen}
use Rattle.recorder.specs.Recorded.{opening_of}
use Rattle.trace_log.specs.Kept.{LogValue}
use Rattle.session.specs.declared.job.Job.{Job}
use Rattle.session.specs.declared.report.GuestReport.{GuestReport}
use Rattle.trace_disk.specs.Devices.{Device}
use Rattle.session.specs.Sessions.{AreReported, HasRun, IsLeft, IsReported}
use Rattle.session.specs.Works.{Choosers, IsRecordedFrom, Sinks, opening_for}
use Rattle.recording.specs.Limits.{Limit}
use Rattle.recording.specs.Jobs.{AreJobs, IsJob, Terms}
use Rattle.recording.specs.Recorded.{AreKept, HasRecorded, IsKept, opening_at}

-- guests of earlier records have lower numbers
none_earlier : (guest : ℕ) (records : List Record) → next_guest records ≤ guest → of_guest guest records ≡ []
none_earlier guest [] above = refl
none_earlier guest (r ∷ records) above = elim (eqb_tells r.guest guest) [
  | inl same ↦ absurd (let e = same.1 in omega (arith, e, above))
  | inr other ↦
      ap (λ b. cond b (r ∷ of_guest guest records) (of_guest guest records)) other.0 ∙ none_earlier guest records (omega (arith, above))
]

behind_earlier : (guest : ℕ) (earlier committed : List Record) → next_guest earlier ≤ guest →
    of_guest guest committed ≡ of_guest guest (earlier ++ committed)
behind_earlier guest earlier committed above =
    sym (of_guest-append guest earlier committed
    ∙ ap (λ (l : List Record). l ++ of_guest guest committed) (none_earlier guest earlier above))

module _ {S D : Type 0} (choosers : Choosers Limit) (sinks : Sinks S) (device : Device D) (terms : Terms) where
  opening_is : (place number : ℕ) (file : List ℕ) (job : Job Limit Seen S) → IsJob terms place file job →
      opening_for number job ≡ opening_at terms place number file
  opening_is place number file job is = λ i. opening_of number (is.version_is i) (is.file_is i) (is.name_is i) (is.random_is i)

  one_kept : (place number : ℕ) (file : List ℕ) (earlier committed : List Record) (job new : Job Limit Seen S) (report : GuestReport) →
      next_guest earlier ≤ number
      → IsJob terms place file job → IsReported choosers sinks number committed job new report →
      IsKept terms place number file (earlier ++ committed) report
  one_kept place number file earlier committed job new report above is r =
      let same = behind_earlier number earlier committed above in
      let whole = r.whole in record {
        state = whole.state;
        recorded = subst (λ (l : List Record). IsRecordedFrom (opening_at terms place number file) number l whole.state) same
            (subst (λ (o : Record). IsRecordedFrom o number (of_guest number committed) whole.state) (opening_is place number file job is)
            whole.recorded);
        report_is = λ i. record
            { number = r.number_is i; records = (r.count ∙ ap (λ (l : List Record). length l) same) i; end = whole.end_is i };
      }

  all_kept : (place number : ℕ) (files : List (List ℕ)) (earlier committed : List Record) (jobs jobs' : List (Job Limit Seen S))
      (reports : List GuestReport) → next_guest earlier ≤ number
      → AreJobs terms place files jobs → AreReported choosers sinks committed number jobs jobs' reports →
      AreKept terms place number files (earlier ++ committed) reports
  all_kept place number [] earlier committed [] [] [] above are told = tt
  all_kept place number [] earlier committed [] [] (report ∷ reports) above are told = absurd told
  all_kept place number [] earlier committed [] (new ∷ news) reports above are told = absurd told
  all_kept place number [] earlier committed (job ∷ jobs) news reports above are told = absurd are
  all_kept place number (file ∷ files) earlier committed [] news reports above are told = absurd are
  all_kept place number (file ∷ files) earlier committed (job ∷ jobs) [] reports above are told = absurd told
  all_kept place number (file ∷ files) earlier committed (job ∷ jobs) (new ∷ news) [] above are told = absurd told
  all_kept place number (file ∷ files) earlier committed (job ∷ jobs) (new ∷ news) (report ∷ reports) above are told = (
    one_kept place number file earlier committed job new report above are.0 told.0,
    all_kept (place + 1) (number + 1) files earlier committed jobs news reports (omega (arith, above)) are.1 told.1,
  )

  pub has_recorded : (files : List (List ℕ)) (committed : List Record) (log log' : LogValue D) (jobs jobs' : List (Job Limit Seen S))
      (reports : List GuestReport)
      → HasRun choosers sinks device committed log log' jobs jobs' → log'.is_broken ≡ false → AreJobs terms 0 files jobs
      → AreReported choosers sinks committed log.next_guest jobs jobs' reports
      → (bodies : List (List ℕ)) (earlier : List Record) → IsLeft device log bodies earlier →
      HasRecorded device terms files log log' reports bodies earlier
  has_recorded files committed log log' jobs jobs' reports run whole are told bodies earlier left =
      let g = run.gained bodies earlier left in record {
        more = g.more;
        committed = committed;
        keeps = (g.keeps whole).1;
        recovered = g.recovered;
        kept = all_kept 0 log.next_guest files earlier committed jobs jobs' reports left.above are told;
      }
