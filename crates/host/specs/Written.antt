-- What a put leaves in a stream.
use Rattle.std.specs.Prelude.{ℕ, List, take, Option, Result, MatchResult}
use Rattle.std.specs.Io.KnownBytes.{Appends}

-- A stream whose bytes are known has gained as many of these as were answered. Where the put failed, it gained some
-- beginning of them.
abbrev pub Gains : {E : Type 0} → (old new : Option (List ℕ)) → Result ℕ E → (bytes : List ℕ) → Type 0
Gains old new result bytes =
    MatchResult result
    (λ count. Appends old new (take count bytes))
    (λ _. (count : ℕ) × Appends old new (take count bytes))
