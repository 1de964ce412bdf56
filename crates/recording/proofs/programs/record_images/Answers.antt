use Rattle.std.proofs.Common.{◌≡◌, ap, false, map, subst, ◌∙◌}
use Rattle.std.specs.Prelude.{OnOk}
use Rattle.recording.specs.Jobs.{terms_of}
use Rattle.recording.proofs.Lengths.{guests_length, lasts_length, ok_is}
use Rattle.recording.proofs.Recorded.{has_recorded}
use Rattle.recording.proofs.programs.record_images.Goals as goal

pub invariant_of-recorded : goal.invariant_of-recorded
invariant_of-recorded g c =
    let r = c.record_all-log.ensures in
    let both = ok_is _ _ _ c.in_ok-report.was r.recorded.2 in
    record {
      guests_are = guests_length _ _ _ _ _ _ _ _ both;
      lasts_are = lasts_length _ _ _ _ _ _ _ _ _ _ (c.in_ok-lasts.ensures.lasts ∙ ap (map _) c.deref-2.ensures.value) both;
    }

pub returns : goal.returns
returns g c =
    let shared = c.args.shared.now in
    let r = c.record_all-log.ensures in
    let told = ok_is _ _ _ c.in_ok-report.was r.recorded.2 in record {
      stored = has_recorded _ _ _ (terms_of shared)
          c.args.images.items _ _ _ _ _ c.in_ok-report.report.guests.items r.recorded.1
          (subst (λ a. OnOk a (c.record_all-log.result.0.is_broken ≡ false)) c.in_ok-report.was r.whole) c.in_ok-jobs.ensures.jobs told.0;
    }
