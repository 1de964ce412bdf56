-- The choices in a file.
use Rattle.std.specs.Prelude.{ℕ, List}
use Rattle.choices.specs.ChoiceText.{IsFirstBad}
use Rattle.line_io.specs.declared.refusal.Refusal.{Refusal}
use Rattle.line_io.specs.declared.refusal.Refusal.TheVariants as refusals

-- why a text of choices is refused: a line of it is none, and the first such is named
abbrev pub RefusesChoices : List ℕ → Refusal → Type 0
RefusesChoices text refusals.Memory = Unit {0}
RefusesChoices text (refusals.BadChoices file line) = IsFirstBad text line
RefusesChoices text _ = ⊥
