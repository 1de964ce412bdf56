-- Counts of failures. A device and a sink count each call that failed; the count stays at the greatest number of 64 bits.
use Rattle.std.specs.Prelude.{◌≡◌, ℕ, ◌+◌, ◌-◌, ◌^◌, min, Result, MatchResult}

abbrev pub one_more : ℕ → ℕ
one_more count = min (count + 1) (2 ^ 64 - 1)

-- a call that failed has been counted, and no other
abbrev pub IsCounted : {T E : Type 0} → Result T E → ℕ → ℕ → Type 0
IsCounted result old new = MatchResult result (λ _. new ≡ old) (λ _. new ≡ one_more old)

-- One call failed in between, and no other: at the greatest number the count can't show it.
abbrev pub HasFailed : ℕ → ℕ → Type 0
HasFailed old new = new ≡ one_more old
