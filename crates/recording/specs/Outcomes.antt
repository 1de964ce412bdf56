-- What a recording came to.
use Rattle.std.specs.Prelude.{◌==◌, ◌&&◌, Bool, false, not, if◌then◌else◌, List, Option, Some}
use Rattle.std.specs.List.{list_any}
use Rattle.rrv_model.specs.declared.machine.GuestEnd.{GuestEnd}
use Rattle.rrv_model.specs.declared.machine.GuestEnd.TheVariants as guest_ends
use Rattle.session.specs.declared.report.GuestReport.{GuestReport}
use Rattle.recording.specs.declared.outcome.Outcome.{Outcome}
use Rattle.recording.specs.declared.outcome.Outcome.TheVariants as outcomes

-- a guest ended by an exit with 0
abbrev pub has_succeeded : Option GuestEnd → Bool
has_succeeded (Some (guest_ends.Exited status)) = status == 0
has_succeeded _ = false

-- it ended otherwise, or not at all
abbrev pub has_failed : GuestReport → Bool
has_failed report = not (has_succeeded report.end)

-- what a recording came to, where it is to be told or not that a guest failed
abbrev pub outcome_of : (tells : Bool) → List GuestReport → Outcome
outcome_of tells reports = if tells && list_any has_failed reports then outcomes.GuestFailed else outcomes.Done
