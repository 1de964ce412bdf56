-- What a call asks the outside, and what it is answered.
use Rattle.std.specs.Prelude.{◌≡◌, ℕ, ◌^◌, ◌<◌, List, ◌++◌, Option, Some, None}
use Rattle.std.specs.Int.{w64, to_le_bytes}
use Rattle.rrv_model.specs.declared.machine.Thread.{Thread}
use Rattle.rrv_model.specs.declared.record.CallRecord.{CallRecord}
use Rattle.rrv_model.specs.State.{State}
use Rattle.rrv_model.specs.CallRows.{Row, Returns, NoResult, AsksInput, AsksRandom, AsksTime, argument}
use Rattle.rrv_model.specs.Calls.{Answer, Time, HasRecord, call_row}

-- what the outside is asked
pub data Question : Type 0 where
  -- the next bytes of the input, so many at most (read(2))
  Input : (most : ℕ) → Question
  -- just so many random bytes (getrandom(2))
  Random : (count : ℕ) → Question
  -- the time of a clock (clock_gettime(2))
  Clock : (id : ℕ) → Question

-- an outside that gives answers so was asked what the row asks, once, and gave this answer; where the row asks nothing,
-- the outside is as before
abbrev pub IsGiven : {O : Type 0} → (O → Question → Answer → O → Type 0) → Row → Thread → Answer → O → O → Type 0
IsGiven gives (Returns result written change) t answer before after = after ≡ before
IsGiven gives (NoResult written change) t answer before after = after ≡ before
IsGiven gives (AsksInput a count) t answer before after = gives before (Input count) answer after
IsGiven gives (AsksRandom a count) t answer before after = gives before (Random count) answer after
IsGiven gives (AsksTime a) t answer before after = gives before (Clock (argument t 0)) answer after

-- the record is that of an answer that the outside gave
pub record IsAnswered {O : Type 0} (gives : O → Question → Answer → O → Type 0) (row : Row) (t : Thread)
    (r : CallRecord) (before after : O) : Type 0 where
  pub answer : Answer
  pub given : IsGiven gives row t answer before after
  pub records : HasRecord row answer r

-- so is that of the call that the thread makes
abbrev pub CallIsAnswered : {O : Type 0} → (O → Question → Answer → O → Type 0) → State → ℕ → Option Thread →
    CallRecord → O → O → Type 0
CallIsAnswered gives s tid None r before after = ⊥
CallIsAnswered gives s tid (Some t) r before after = IsAnswered gives (call_row s tid t) t r before after

-- the bytes are those of a moment that the outside gave for a clock (clock_gettime(2))
pub record TellsMoment {O : Type 0} (gives : O → Question → Answer → O → Type 0) (clock : ℕ) (bytes : List ℕ)
    (before after : O) : Type 0 where
  pub seconds : ℕ
  pub nanoseconds : ℕ
  pub seconds_low : seconds < 2 ^ 63
  pub nanoseconds_low : nanoseconds < 10 ^ 9
  pub are : bytes ≡ to_le_bytes w64 seconds ++ to_le_bytes w64 nanoseconds
  pub given : gives before (Clock clock) (Time seconds nanoseconds) after

-- the row looks at the outside
abbrev pub Asks : Row → Type 0
Asks (Returns result written change) = ⊥
Asks (NoResult written change) = ⊥
Asks (AsksInput a count) = Unit {0}
Asks (AsksRandom a count) = Unit {0}
Asks (AsksTime a) = Unit {0}

-- the call that the thread makes looks at the outside
abbrev pub CallAsks : State → ℕ → Option Thread → Type 0
CallAsks s tid None = ⊥
CallAsks s tid (Some t) = Asks (call_row s tid t)
