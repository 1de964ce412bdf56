-- The names of a recording's guests.
use Rattle.std.specs.Prelude.{ℕ, zero, suc, ◌==◌, if◌then◌else◌, List, [], ◌∷◌, ◌++◌, codes, map}
use Rattle.std.specs.Fmt.{decimal}
use Rattle.recording.specs.declared.names.Names.{Names}

-- the name of the guest at a place of the line, where none is given
abbrev pub name_at : ℕ → List ℕ
name_at place = codes "g" ++ decimal place

-- the text at a place, if there is one
abbrev pub text_at : List (List ℕ) → ℕ → List ℕ
text_at [] place = []
text_at (text ∷ texts) zero = text
text_at (text ∷ texts) (suc place) = text_at texts place

-- The name of the guest at a place of a line of so many programs: of several names its own; the only one of several guests, and its place;
-- `g` and its place.
abbrev pub guest_name : (names : List (List ℕ)) → (count place : ℕ) → List ℕ
guest_name [] count place = name_at place
guest_name (name ∷ []) count place = if count == 1 then text_at (name ∷ []) place else name ++ decimal place
guest_name (name ∷ other ∷ names) count place = text_at (name ∷ other ∷ names) place

abbrev pub name_by : Names → ℕ → List ℕ
name_by names place = guest_name (map (λ s. s.now) names.given.now) names.count place
