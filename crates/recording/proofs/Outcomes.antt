-- What a recording came to.
use Rattle.std.proofs.Common.{◌≡◌, Bool, false, true, List, refl}
use Rattle.session.specs.declared.report.GuestReport.{GuestReport}
use Rattle.recording.specs.declared.outcome.Outcome.TheVariants as outcomes
use Rattle.recording.specs.Outcomes.{outcome_of}

pub only_if_told : (tells : Bool) (reports : List GuestReport) → outcome_of tells reports ≡ outcomes.GuestFailed → tells ≡ true
only_if_told false reports is = absurd cc
only_if_told true reports is = refl
