-- What a guest may be answered by its host.
use Rattle.std.specs.Prelude.{◌≡◌, ◌≢◌, ℕ, ◌+◌, ◌/◌, ◌%◌, ◌^◌, ◌≤◌, List, take, drop}
use Rattle.rrv_model.specs.Calls.{Answer, Bytes, Time}
use Rattle.guest_calls.specs.Asking.{Question, Input, Random, Clock}
use Rattle.host.specs.Stream.{AreNext}

-- what a guest's environment has
pub record Seen : Type 0 where
  -- the input that the guest has not read
  pub input : List ℕ
  -- what its random bytes come from
  pub seed : List ℕ
  pub guest : ℕ
  -- the place of its next random byte, below 2 ^ 37, behind which the stream begins again
  pub place : ℕ
  -- the last moment that it was told of the monotonic clock, in nanoseconds since the start; 0 at first
  pub last : ℕ

-- the next random bytes, which are used up
pub record GivesRandom (before : Seen) (count : ℕ) (answer : Answer) (after : Seen) : Type 0 where
  pub bytes : List ℕ
  pub answers : answer ≡ Bytes bytes
  pub next : AreNext before.seed before.guest before.place count bytes
  pub moves : after ≡ record before { place = (before.place + count) % 2 ^ 37 }

-- a moment: of the real clock (0) any, of the monotonic one none before the last
pub record GivesMoment (before : Seen) (id : ℕ) (answer : Answer) (after : Seen) : Type 0 where
  pub real : id ≡ 0 → after ≡ before
  pub moment : id ≢ 0 → answer ≡ Time (after.last / 1_000_000_000) (after.last % 1_000_000_000)
  pub later : before.last ≤ after.last
  pub same : after ≡ record before { last = after.last }

-- the next input, as much as there is and is asked for, which is used up; the next random bytes; a moment
abbrev pub Gives : Seen → Question → Answer → Seen → Type 0
Gives before (Input most) answer after =
    (answer ≡ Bytes (take most before.input)) × (after ≡ record before { input = drop most before.input })
Gives before (Random count) answer after = GivesRandom before count answer after
Gives before (Clock id) answer after = GivesMoment before id answer after
