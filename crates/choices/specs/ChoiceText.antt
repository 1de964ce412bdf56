-- What a text of choices says. Its lines are ended by newlines, which the last may lack. From a `#` on a line is a
-- comment. Before it a line is blank, or has the tid and the quantum of a choice, in decimal digits with any zeros
-- before them, with spaces and tabs between and around them. A carriage return may end a line.
use Rattle.std.specs.Prelude.{◌≡◌, ℕ, ◌+◌, Bool, ◌==◌, ◌||◌, ◌&&◌, nat_le, if◌then◌else◌, List, [], ◌∷◌, ◌++◌, length, not, Option, Some, None, IsSome}
use Rattle.std.specs.Char.{is_ascii_digit}
use Rattle.std.specs.List.{before_first, filter, list_all, slice_split}
use Rattle.std.specs.Str.Lines.{strip_carriage_return}
use Rattle.std.specs.Str.Parse.{digits_value}
use Rattle.rrv_model.specs.declared.limits.TheConstants.{MAX_QUANTUM, MAX_TID, MIN_QUANTUM}
use Rattle.rrv_model.specs.declared.record.Choice.{Choice}

abbrev pub lines_of : List ℕ → List (List ℕ)
lines_of text = slice_split (λ b. b == 10) text

-- what stands before a comment, and before a carriage return at the end
abbrev pub said_in : List ℕ → List ℕ
said_in line = before_first (λ b. b == 35) (strip_carriage_return line)

abbrev pub is_blank : ℕ → Bool
is_blank b = (b == 32) || (b == 9)

-- what stands between blanks
abbrev pub fields_of : List ℕ → List (List ℕ)
fields_of line = filter (λ field. not (length field == 0)) (slice_split is_blank line)

abbrev pub within : ℕ → ℕ → ℕ → Option ℕ
within least most n = if nat_le least n && nat_le n most then Some n else None

-- the number within the bounds that decimal digits write
abbrev pub number_in : ℕ → ℕ → List ℕ → Option ℕ
number_in least most field =
    if list_all is_ascii_digit field then within least most (digits_value 10 field) else None

abbrev pub choice_by : Option ℕ → Option ℕ → Option (List Choice)
choice_by (Some tid) (Some quantum) = Some (record { tid = tid; quantum = quantum } ∷ [])
choice_by (Some tid) None = None
choice_by None quantum = None

-- none, or the one of a tid and a quantum
abbrev pub fields_say : List (List ℕ) → Option (List Choice)
fields_say [] = Some []
fields_say (tid ∷ []) = None
fields_say (tid ∷ quantum ∷ []) = choice_by (number_in 1 MAX_TID tid) (number_in MIN_QUANTUM MAX_QUANTUM quantum)
fields_say (tid ∷ quantum ∷ other ∷ more) = None

abbrev pub line_says : List ℕ → Option (List Choice)
line_says line = fields_say (fields_of (said_in line))

abbrev pub both : Option (List Choice) → Option (List Choice) → Option (List Choice)
both (Some first) (Some second) = Some (first ++ second)
both (Some first) None = None
both None second = None

-- the choices of all lines, in order, where each line says some or none
abbrev pub lines_say : List (List ℕ) → Option (List Choice)
lines_say [] = Some []
lines_say (line ∷ lines) = both (line_says line) (lines_say lines)

-- the choices that a text says, if it is a text of choices
abbrev pub text_says : List ℕ → Option (List Choice)
text_says text = lines_say (lines_of text)

-- the line of this number, counted from 1, is the first that says neither a choice nor nothing
pub record IsFirstBad (text : List ℕ) (number : ℕ) : Type 0 where
  pub before : List (List ℕ)
  pub line : List ℕ
  pub after : List (List ℕ)
  pub lines_are : lines_of text ≡ before ++ line ∷ after
  pub number_is : number ≡ length before + 1
  pub fine : IsSome (lines_say before)
  pub bad : line_says line ≡ None

-- a text with a first bad line says no choices
abbrev pub BadTextsSayNothing : Type 0
BadTextsSayNothing = (text : List ℕ) (number : ℕ) → IsFirstBad text number → text_says text ≡ None
