-- What the environment answered to a recorded call.
use Rattle.std.specs.Prelude.{◌≡◌, ℕ, ◌^◌, ◌<◌, ◌≤◌, not, ◌||◌, ◌==◌, nat_le, if◌then◌else◌, List, [], ◌∷◌, ◌++◌, length, drop, Option, Some, None}
use Rattle.std.specs.Int.{w64, from_le_bytes, to_le_bytes}
use Rattle.rrv_model.specs.declared.record.Written.{Written}
use Rattle.rrv_model.specs.Calls.{Answer, Bytes, Time}
use Rattle.guest_calls.specs.Asking.{Question, Input, Random, Clock}

-- the bytes that were written first
abbrev pub answered : List Written → List ℕ
answered [] = []
answered (w ∷ written) = w.bytes

-- the bytes that tell a moment (clock_gettime(2))
pub record IsMoment (bytes : List ℕ) (seconds nanoseconds : ℕ) : Type 0 where
  pub seconds_low : seconds < 2 ^ 63
  pub nanoseconds_low : nanoseconds < 10 ^ 9
  pub are : bytes ≡ to_le_bytes w64 seconds ++ to_le_bytes w64 nanoseconds

-- the moment that bytes tell, if they tell one
abbrev pub moment_in : List ℕ → Option (ℕ × ℕ)
moment_in bytes =
    let seconds = from_le_bytes w64 bytes in
    let nanoseconds = from_le_bytes w64 (drop 8 bytes) in
    if not (length bytes == 16) then None
    else if nat_le (2 ^ 63) seconds || nat_le (10 ^ 9) nanoseconds then None
    else Some (seconds, nanoseconds)

-- the answer to a question is the one that these bytes tell, where they tell one to it
abbrev pub Recalls : List ℕ → Question → Answer → Type 0
Recalls bytes (Input most) answer = length bytes ≤ most → answer ≡ Bytes bytes
Recalls bytes (Random count) answer = length bytes ≡ count → answer ≡ Bytes bytes
Recalls bytes (Clock id) answer =
    (seconds nanoseconds : ℕ) → IsMoment bytes seconds nanoseconds → answer ≡ Time seconds nanoseconds
