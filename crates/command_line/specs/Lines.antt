-- Why a line of words is refused. `fault_of` has the kinds of error that the parser gives at words, and `subcommand_of` the
-- command that it found, with its values.
use Rattle.std.specs.Prelude.{◌≡◌, ◌⊎◌, ◌≤◌, List, [], IsSomeAnd}
use Rattle.clap.specs.Words.{IsAmong, Text, fault_of, kind_of, subcommand_of}
use Rattle.clap.specs.declared.error.Error.{Error}
use Rattle.clap.specs.declared.error.kind.ErrorKind.{ErrorKind}
use Rattle.clap.specs.declared.error.kind.ErrorKind.TheVariants as kinds
use Rattle.command_line.specs.Commands.{Asks, program}
use Rattle.command_line.specs.declared.request.Request.{Request}
use Rattle.command_line.specs.declared.request.Request.TheVariants as requests

-- the parser takes the words, and some value is none that its argument can have: no request asks for what was found
pub record HasBadValue (words : List Text) : Type 0 where
  pub taken : fault_of program words ≡ []
  pub unasked : (request : Request) → IsSomeAnd (subcommand_of program words) (Asks request) → ⊥

-- an error of this kind refuses the words
abbrev pub Refuses : List Text → ErrorKind → Type 0
Refuses words kind =
    (kind ≡ kinds.OutOfMemory) ⊎ (IsAmong kind (fault_of program words) ⊎ ((kind ≡ kinds.ValueValidation) × HasBadValue words))

abbrev pub IsRefused : List Text → Error → Type 0
IsRefused words e = Refuses words (kind_of e)

-- an error that is help, or out of memory
abbrev pub IsHelp : ErrorKind → Type 0
IsHelp kind = (kind ≡ kinds.DisplayHelp) ⊎ (kind ≡ kinds.OutOfMemory)

-- slices of a recording have 64 instructions or more, and 1,048,576 or fewer
abbrev pub IsWithinLimits : Request → Type 0
IsWithinLimits (requests.Record r) = (64 ≤ r.quantum) × (r.quantum ≤ 1048576)
IsWithinLimits _ = Unit {0}
