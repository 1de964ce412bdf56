-- The exit status of a line.
use Rattle.std.specs.Prelude.{◌≡◌, ◌⊎◌, ℕ, true, List, IsSomeAnd}
use Rattle.clap.specs.declared.error.kind.ErrorKind.{ErrorKind}
use Rattle.clap.specs.declared.error.kind.ErrorKind.TheVariants as kinds
use Rattle.clap.specs.Words.{Text, subcommand_of}
use Rattle.command_line.specs.Commands.{Asks, program}
use Rattle.command_line.specs.Lines.{Refuses}
use Rattle.command_line.specs.declared.request.Request.{Request}
use Rattle.command_line.specs.declared.request.Request.TheVariants as requests
use Rattle.recording.specs.declared.outcome.Outcome.{Outcome}
use Rattle.recording.specs.declared.outcome.Outcome.TheVariants as outcomes

-- the exit status of a line that is refused by an error of this kind: 1 also of help that can't be printed
abbrev pub IsStatusOf : ErrorKind → ℕ → Type 0
IsStatusOf kinds.OutOfMemory status = status ≡ 1
IsStatusOf kinds.DisplayHelp status = (status ≡ 0) ⊎ (status ≡ 1)
IsStatusOf kinds.DisplayVersion status = (status ≡ 0) ⊎ (status ≡ 1)
IsStatusOf _ status = status ≡ 2

-- the request is to tell that a guest failed
abbrev pub TellsFailed : Request → Type 0
TellsFailed (requests.Record recording) = recording.fail ≡ true
TellsFailed _ = ⊥

-- what was done of a request: that a guest failed is told only where the request is to tell it
abbrev pub IsOutcomeOf : Request → Outcome → Type 0
IsOutcomeOf request outcomes.Done = Unit {0}
IsOutcomeOf request outcomes.GuestFailed = TellsFailed request

-- the exit status of a request: 0 if it was done, 1 if it was refused, and 3 if it was done, a guest failed, and that is to be told
abbrev pub IsStatusFor : Request → ℕ → Type 0
IsStatusFor request status = (status ≡ 0) ⊎ ((status ≡ 1) ⊎ ((status ≡ 3) × TellsFailed request))

-- the words ask for something, of which this is the exit status
abbrev pub IsDone : List Text → ℕ → Type 0
IsDone words status = (request : Request) × IsSomeAnd (subcommand_of program words) (Asks request) × IsStatusFor request status

-- the exit status of words that are refused
abbrev pub IsTold : List Text → ℕ → Type 0
IsTold words status = (kind : ErrorKind) × Refuses words kind × IsStatusOf kind status

-- The exit status of words: that of what they ask for, and else that of an error by which they are refused. Out of memory is 1.
abbrev pub IsStatus : List Text → ℕ → Type 0
IsStatus words status = IsDone words status ⊎ IsTold words status
