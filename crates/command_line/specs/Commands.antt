-- The commands of the program: each with its arguments, in their order, and what it asks for by their values.
use Rattle.std.specs.Prelude.{◌≡◌, ◌⊎◌, List, [], ◌∷◌, ◌++◌, Option, None, Some, codes, false, true}
use Rattle.std.specs.Borrow.{Bor}
use Rattle.clap.specs.Simple.{new_shape}
use Rattle.clap.specs.Words.{App, Row, Rule, Shape, Text, first_of}
use Rattle.command_line.specs.Arguments.{allowed, flag, needed, option, option_or, repeated, several}
use Rattle.command_line.specs.Values.{HasFlag, HasForm, HasMemory, HasNumber, HasNumberIn, HasPlace, HasText, HasWatched, NamesGuest}
use Rattle.command_line.specs.Values.{NamesRecording, texts_of}
use Rattle.command_line.specs.declared.request.Question.{Question}
use Rattle.command_line.specs.declared.request.Question.TheVariants as questions
use Rattle.command_line.specs.declared.request.Request.{Request}
use Rattle.command_line.specs.declared.request.Request.TheVariants as requests

-- ---- their arguments

abbrev pub of_store : Text → List Rule → Shape
of_store name rules = record (new_shape name) { rules = needed (codes "STORE") ∷ rules }

-- a command of a program
abbrev pub of_program : Text → Shape
of_program name = record (new_shape name) { rules = needed (codes "ELF") ∷ [] }

abbrev pub of_guest : Text → List Rule → Shape
of_guest name rules = of_store name (needed (codes "GUEST") ∷ rules)

-- a command that goes back from a place
abbrev pub of_guest_from : Text → List Rule → Shape
of_guest_from name rules = of_guest name (needed (codes "FROM") ∷ rules)

-- whether it is shown how far a command is
abbrev pub shown_progress : List Rule
shown_progress = flag (codes "progress") ∷ []

-- the bytes that are printed beside a state
abbrev pub printed_memory : List Rule
printed_memory = repeated (codes "memory") ∷ shown_progress

-- which bytes are watched, how many of their changes are printed, and how
abbrev pub watched_changes : List Rule
watched_changes =
    flag (codes "word") ∷ option_or (codes "times") (codes "1") ∷ flag (codes "short") ∷ printed_memory

-- the numbers of a recording, what the guests read, their choices, and last the files
abbrev pub recorded : List Rule
recorded =
    option_or (codes "quantum") (codes "50000")
    ∷ option_or (codes "every") (codes "1048576")
    ∷ option (codes "input")
    ∷ option (codes "seed")
    ∷ repeated (codes "name")
    ∷ repeated (codes "choices")
    ∷ option_or (codes "then") (codes "turns")
    ∷ option (codes "limit")
    ∷ flag (codes "fail")
    ∷ flag (codes "upgrade")
    ∷ flag (codes "progress")
    ∷ several 1 16 (codes "ELF")
    ∷ []

-- those that ask something of a guest's recording, which is verified first
abbrev pub asking_commands : List Shape
asking_commands =
    of_guest (codes "replay") (option (codes "at") ∷ printed_memory)
    ∷ of_guest_from (codes "back") (needed (codes "N") ∷ printed_memory)
    ∷ of_guest_from (codes "last") (needed (codes "ADDR") ∷ watched_changes)
    ∷ of_guest (codes "choices") shown_progress
    ∷ of_guest (codes "core") (needed (codes "AT") ∷ needed (codes "FILE") ∷ shown_progress)
    ∷ of_guest (codes "ask") (flag (codes "short") ∷ shown_progress)
    ∷ []

-- that which prints help
abbrev pub of_help : Shape
of_help = record (new_shape (codes "help")) { rules = allowed (codes "COMMAND") ∷ [] }

abbrev pub commands : List Shape
commands =
    of_store (codes "new") []
    ∷ of_store (codes "record") recorded
    ∷ of_program (codes "check")
    ∷ of_store (codes "list") (flag (codes "long") ∷ shown_progress)
    ∷ of_guest (codes "elf") []
    ∷ of_guest (codes "copy") (needed (codes "TO") ∷ [])
    ∷ of_guest (codes "dump") (flag (codes "places") ∷ flag (codes "trace-events") ∷ shown_progress)
    ∷ of_guest (codes "verify") (flag (codes "long") ∷ shown_progress)
    ∷ (asking_commands ++ of_help ∷ [])

-- the words that follow the program's name: some command, but no `help` of the parser's own; there is a version
abbrev pub as_top : Shape → Shape
as_top top = record top {
  has_version = true;
  no_binary_name = true;
  subcommand_required = true;
  disable_help_subcommand = true;
}

abbrev pub bare_program : App
bare_program = record { top = as_top (new_shape (codes "rrv")); subs = [] }

abbrev pub program : App
program = record { top = record bare_program.top { is_leaf = false }; subs = commands }

-- the name is that of one of these
abbrev pub IsNameOf : Text → List Shape → Type 0
IsNameOf name [] = ⊥
IsNameOf name (sub ∷ subs) = (name ≡ sub.name) ⊎ IsNameOf name subs

-- ---- what they ask for

-- the name of a command, or none
abbrev pub HasTopic : List Row → Option (Bor Text) → Type 0
HasTopic rows None = first_of (codes "COMMAND") rows ≡ None
HasTopic rows (Some name) = HasText rows (codes "COMMAND") name.now × IsNameOf name.now commands

-- The values of a question of a command. One row a command, and two for `replay`.
abbrev pub HasQuestion : Question → List Row → Type 0
HasQuestion questions.Output rows = (first_of (codes "at") rows ≡ None) × (texts_of (codes "memory") rows ≡ [])
HasQuestion (questions.State at memory) rows = HasPlace rows (codes "at") at × HasMemory rows memory.items
HasQuestion (questions.Back from count memory) rows =
    HasPlace rows (codes "FROM") from × HasNumber rows (codes "N") count × HasMemory rows memory.items
HasQuestion (questions.Last from watched times short memory) rows =
    HasPlace rows (codes "FROM") from × HasWatched rows watched × HasNumberIn 1 65536 rows (codes "times") times
    × HasFlag rows (codes "short") short × HasMemory rows memory.items
HasQuestion questions.Choices rows = Unit {0}
HasQuestion (questions.Core at file) rows = HasPlace rows (codes "AT") at × HasText rows (codes "FILE") file.now
HasQuestion (questions.Lines short) rows = HasFlag rows (codes "short") short

-- the name of a question's command
abbrev pub question_name : Question → Text
question_name questions.Output = codes "replay"
question_name (questions.State at memory) = codes "replay"
question_name (questions.Back from count memory) = codes "back"
question_name (questions.Last from watched times short memory) = codes "last"
question_name questions.Choices = codes "choices"
question_name (questions.Core at file) = codes "core"
question_name (questions.Lines short) = codes "ask"

-- The values of a request of a command. One row a command.
abbrev pub HasValues : Request → List Row → Type 0
HasValues requests.Demonstration rows = ⊥
HasValues (requests.Help command) rows = HasTopic rows command
HasValues (requests.New store) rows = HasText rows (codes "STORE") store.now
HasValues (requests.Record recording) rows = NamesRecording rows recording
HasValues (requests.Check file) rows = HasText rows (codes "ELF") file.now
HasValues (requests.List store replays progress) rows =
    HasText rows (codes "STORE") store.now × HasFlag rows (codes "long") replays × HasFlag rows (codes "progress") progress
HasValues (requests.Elf guest) rows = NamesGuest rows guest
HasValues (requests.Copy guest to) rows = NamesGuest rows guest × HasText rows (codes "TO") to.now
HasValues (requests.Dump guest form progress) rows =
    NamesGuest rows guest × HasForm rows form × HasFlag rows (codes "progress") progress
HasValues (requests.Verify guest long progress) rows =
    NamesGuest rows guest × HasFlag rows (codes "long") long × HasFlag rows (codes "progress") progress
HasValues (requests.Ask guest question progress) rows =
    NamesGuest rows guest × HasQuestion question rows × HasFlag rows (codes "progress") progress

-- the name of a request's command
abbrev pub name_of : Request → Text
name_of requests.Demonstration = codes ""
name_of (requests.Help command) = codes "help"
name_of (requests.New store) = codes "new"
name_of (requests.Record recording) = codes "record"
name_of (requests.Check file) = codes "check"
name_of (requests.List store replays progress) = codes "list"
name_of (requests.Elf guest) = codes "elf"
name_of (requests.Copy guest to) = codes "copy"
name_of (requests.Dump guest form progress) = codes "dump"
name_of (requests.Verify guest long progress) = codes "verify"
name_of (requests.Ask guest question progress) = question_name question

-- a request asks for what was found
abbrev pub Asks : Request → Text × List Row → Type 0
Asks request found = (found.0 ≡ name_of request) × HasValues request found.1

-- a question is that of what was found
abbrev pub IsQuestionOf : Question → Text × List Row → Type 0
IsQuestionOf question found = (found.0 ≡ question_name question) × HasQuestion question found.1
