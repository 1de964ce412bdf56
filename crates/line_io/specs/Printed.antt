-- What the lines print of stores and of guests.
use Rattle.std.specs.Prelude.{ℕ, List, [], ◌∷◌, ◌++◌}

-- a text, and a newline
abbrev pub with_newline : List ℕ → List ℕ
with_newline text = text ++ 10 ∷ []
