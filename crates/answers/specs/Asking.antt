-- What a line of `ask` comes to.
use Rattle.std.specs.Prelude.{◌≡◌, ◌≢◌, ◌⊎◌, ◌↔◌, ℕ, Bool, true, false, List, [], ◌∷◌, ◌++◌, Option, Some, None, IfSome, codes, string_bytes}
use Rattle.std.specs.Fmt.{decimal}
use Rattle.std.specs.Io.KnownBytes.{Appends}
use Rattle.clap.specs.Words.{Text}
use Rattle.choices.specs.Recorded.{choices_text}
use Rattle.command_line.specs.Asked.{IsAsked}
use Rattle.command_line.specs.declared.asked.Asked.{Asked}
use Rattle.command_line.specs.declared.asked.Asked.TheVariants as asks
use Rattle.reverse_step.specs.Cursors.{CursorValue}
use Rattle.asking.specs.Answers.{Answers, Stays}
use Rattle.line_io.specs.declared.refusal.Refusal.{Refusal}
use Rattle.line_io.specs.declared.refusal.Refusal.TheVariants as refusals
use Rattle.line_io.specs.Printed.{with_newline}
use Rattle.answers.specs.declared.ask.TheConstants.{HELP}
use Rattle.answers.specs.declared.dialogue.Dialogue.{Dialogue}
use Rattle.answers.specs.declared.input_lines.InputLine.{InputLine}
use Rattle.answers.specs.declared.input_lines.InputLine.TheVariants as lines
use Rattle.answers.specs.declared.input_lines.TheConstants.{MAX_LINE}
use Rattle.answers.specs.Refused.{RefusesCoreFile}

-- a writer took why a line has no answer: this, if it is known, or that there was no memory for its text
abbrev pub PrintsRefusal : (known before after : Option (List ℕ)) → Type 0
PrintsRefusal known before after =
    (why : List ℕ) × IfSome known (λ text. (why ≡ text) ⊎ (why ≡ codes "out of memory"))
    × Appends before after (with_newline (codes "rrv: " ++ why))

-- a writer took the answer to what is asked
abbrev pub AnswersAsked : Asked → (old new : Dialogue) → (before after : Option (List ℕ)) → Type 0
AnswersAsked (asks.Of inquiry) old new before after = Answers old.is_quiet inquiry old.cursor new.cursor before after
AnswersAsked asks.Choices old new before after =
    (new.cursor ≡ old.cursor) × Appends before after (choices_text old.cursor.verified.frames)
AnswersAsked asks.Help old new before after = (new.cursor ≡ old.cursor) × Appends before after HELP.now
AnswersAsked _ old new before after = (new.cursor ≡ old.cursor) × (after ≡ before)

-- whether moves are quiet after what is asked: `quiet` and `full` say so, and all else leaves it as it was
abbrev pub quiet_after : Asked → Bool → Bool
quiet_after asks.Quiet is_quiet = true
quiet_after asks.Full is_quiet = false
quiet_after _ is_quiet = is_quiet

-- why what is asked has no answer: a question about a place leads out of the recording, a core file isn't written, or there was no memory, or
-- no reader
abbrev pub RefusesAsked : Asked → (old new : CursorValue) → Refusal → Type 0
RefusesAsked (asks.Of inquiry) old new e = Stays inquiry old new e
RefusesAsked asks.Choices old new refusals.OutputFailed = new ≡ old
RefusesAsked asks.Help old new refusals.OutputFailed = new ≡ old
RefusesAsked (asks.Core file) old new e = RefusesCoreFile e × (new ≡ old)
RefusesAsked _ old new _ = ⊥

-- what a line asks is refused, and the cursor stays, and whether moves are quiet
pub record IsRefused (line : Text) (old new : Dialogue) (before after : Option (List ℕ)) : Type 0 where
  pub asked : Asked
  pub is_asked : IsAsked line asked
  pub refusal : Refusal
  pub refuses : RefusesAsked asked old.cursor new.cursor refusal
  pub form_stays : new.is_quiet ≡ old.is_quiet
  pub not_output : refusal ≢ refusals.OutputFailed
  pub told : PrintsRefusal None before after

-- a line asks nothing, and all stays
pub record AsksNothing (line : Text) (old new : Dialogue) (before after : Option (List ℕ)) : Type 0 where
  pub none : (asked : Asked) → IsAsked line asked → ⊥
  pub stays : new ≡ old
  pub told : PrintsRefusal None before after

-- a line asks something that is answered, or that is refused, or nothing
abbrev pub AnswersLine : Text → (old new : Dialogue) → (before after : Option (List ℕ)) → Type 0
AnswersLine line old new before after =
    ((asked : Asked) × IsAsked line asked × AnswersAsked asked old new before after
    × (new.is_quiet ≡ quiet_after asked old.is_quiet))
    ⊎ (IsRefused line old new before after ⊎ AsksNothing line old new before after)

-- ---- lines

abbrev pub long_text : List ℕ
long_text = codes "line is longer than " ++ (decimal MAX_LINE ++ codes " bytes")

-- a line that is no text, or too long, leaves all as it was
abbrev pub AnswersInput : InputLine → (old new : Dialogue) → (before after : Option (List ℕ)) → Type 0
AnswersInput (lines.Text line) old new before after = AnswersLine (string_bytes line) old new before after
AnswersInput lines.TooLong old new before after = (new ≡ old) × PrintsRefusal (Some long_text) before after
AnswersInput lines.NotText old new before after = (new ≡ old) × PrintsRefusal (Some (codes "line is not UTF-8")) before after

-- whether more lines are wanted after one: `quit` alone ends
abbrev pub GoesOnAfterText : Text → Bool → Type 0
GoesOnAfterText line goes_on = (goes_on ≡ false) ↔ IsAsked line asks.Quit

abbrev pub GoesOnAfter : InputLine → Bool → Type 0
GoesOnAfter (lines.Text line) goes_on = GoesOnAfterText (string_bytes line) goes_on
GoesOnAfter lines.TooLong goes_on = goes_on ≡ true
GoesOnAfter lines.NotText goes_on = goes_on ≡ true

-- after each of these more are wanted
abbrev pub GoesOnAfterAll : List InputLine → Type 0
GoesOnAfterAll [] = Unit {0}
GoesOnAfterAll (line ∷ earlier) = GoesOnAfter line true × GoesOnAfterAll earlier

-- what ends an answer
abbrev pub point_line : List ℕ
point_line = with_newline (codes ".")

-- lines were answered, each from where the one before it left the dialogue, and none after `quit`; the last comes first
abbrev pub AnswersAll : List InputLine → (start now : Dialogue) → (before after : Option (List ℕ)) → Type 0
AnswersAll [] start now before after = (now ≡ start) × (after ≡ before)
AnswersAll (line ∷ earlier) start now before after =
    (there : Dialogue) × (told answered : Option (List ℕ)) × AnswersAll earlier start there before told
    × GoesOnAfterAll earlier × AnswersInput line there now told answered × Appends answered after point_line

-- so were some lines
abbrev pub IsRun : (start now : Dialogue) → (before after : Option (List ℕ)) → Type 0
IsRun start now before after = (lines : List InputLine) × AnswersAll lines start now before after

-- so were some, after each of which more are wanted
abbrev pub IsRunOn : (start now : Dialogue) → (before after : Option (List ℕ)) → Type 0
IsRunOn start now before after = (lines : List InputLine) × AnswersAll lines start now before after × GoesOnAfterAll lines
