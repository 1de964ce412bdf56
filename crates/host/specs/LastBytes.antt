-- The last bytes of what guests put out, by which it is told whether they left a line open.
use Rattle.std.specs.Prelude.{◌≡◌, ℕ, ◌-◌, ◌==◌, Bool, not, if◌then◌else◌, List, slice_index, Result, MatchResult}
use Rattle.host.specs.declared.streams.LastBytes.{LastBytes}

-- before the first
abbrev pub none_put : LastBytes
none_put = record { error = 10; either = 10 }

-- with a byte that was put to the stream of a descriptor
abbrev pub with_last : LastBytes → (descriptor byte : ℕ) → LastBytes
with_last last descriptor byte = record { error = if descriptor == 2 then byte else last.error; either = byte }

-- behind a put it is the last byte that was written; a put that failed doesn't count
abbrev pub KeepsLast : {E : Type 0} → (old : LastBytes) → (descriptor : ℕ) → (bytes : List ℕ) → Result ℕ E → (new : LastBytes) → Type 0
KeepsLast old descriptor bytes result new =
    MatchResult result (λ count. new ≡ with_last old descriptor (slice_index bytes (count - 1))) (λ _. new ≡ old)

-- no newline was put last to the errors' stream, or, where both lead to one place, to either
abbrev pub is_open : LastBytes → Bool → Bool
is_open last is_one_place = not ((if is_one_place then last.either else last.error) == 10)
