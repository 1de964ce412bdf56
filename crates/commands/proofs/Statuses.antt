-- Exit statuses.
use Rattle.std.proofs.Common.{◌≡◌, ◌≢◌, ◌≤◌, inl, inr, ℕ, true, arith, refl, subst}
use Rattle.clap.specs.declared.error.kind.ErrorKind.{ErrorKind}
use Rattle.clap.specs.declared.error.kind.ErrorKind.TheVariants as kinds
use Rattle.command_line.specs.declared.request.Recording.{Recording}
use Rattle.command_line.specs.declared.request.Request.{Request}
use Rattle.command_line.specs.declared.request.Request.TheVariants as requests
use Rattle.recording.specs.declared.outcome.Outcome.{Outcome}
use Rattle.recording.specs.declared.outcome.Outcome.TheVariants as outcomes
use Rattle.commands.specs.Status.{IsOutcomeOf, IsStatusFor, IsStatusOf, TellsFailed}

pub mistake_status : (kind : ErrorKind) → kind ≢ kinds.OutOfMemory → kind ≢ kinds.DisplayHelp → kind ≢ kinds.DisplayVersion →
    IsStatusOf kind 2
mistake_status kinds.InvalidValue memory help version = refl
mistake_status kinds.UnknownArgument memory help version = refl
mistake_status kinds.InvalidSubcommand memory help version = refl
mistake_status kinds.NoEquals memory help version = refl
mistake_status kinds.ValueValidation memory help version = refl
mistake_status kinds.TooManyValues memory help version = refl
mistake_status kinds.TooFewValues memory help version = refl
mistake_status kinds.WrongNumberOfValues memory help version = refl
mistake_status kinds.ArgumentConflict memory help version = refl
mistake_status kinds.MissingRequiredArgument memory help version = refl
mistake_status kinds.MissingSubcommand memory help version = refl
mistake_status kinds.DisplayHelp memory help version = absurd (help refl)
mistake_status kinds.DisplayHelpOnMissingArgumentOrSubcommand memory help version = refl
mistake_status kinds.DisplayVersion memory help version = absurd (version refl)
mistake_status kinds.Io memory help version = refl
mistake_status kinds.Format memory help version = refl
mistake_status kinds.OutOfMemory memory help version = absurd (memory refl)

-- ---- what a recording came to

-- that a guest failed is told only where that is asked for

pub of_recording : (recording : Recording) (outcome : Outcome) → (outcome ≡ outcomes.GuestFailed → recording.fail ≡ true) →
    IsOutcomeOf (requests.Record recording) outcome
of_recording recording outcomes.Done told = tt
of_recording recording outcomes.GuestFailed told = told refl

pub status_for : (request : Request) (outcome : Outcome) (status : ℕ) → (outcome ≡ outcomes.Done → status ≡ 0) →
    (outcome ≡ outcomes.GuestFailed → status ≡ 3) → IsOutcomeOf request outcome → IsStatusFor request status
status_for request outcomes.Done status done failed is = inl (done refl)
status_for request outcomes.GuestFailed status done failed is = inr (inr (failed refl, is))

-- no word asks for the demonstration, which has no guest that fails
pub of_no_word : (request : Request) (status : ℕ) → request ≡ requests.Demonstration → IsStatusFor request status → status ≤ 1
of_no_word request status is (inl done) = omega (arith, done)
of_no_word request status is (inr (inl refused)) = omega (arith, refused)
of_no_word request status is (inr (inr told)) = absurd (subst TellsFailed is told.1)
