-- What a call asks of the outside, and the rows that ask so.
use Rattle.std.specs.Prelude.{◌≡◌, ℕ, ◌≤◌, ◌==◌, if◌then◌else◌, not, List, Result, Ok, Err, length}
use Rattle.rrv_model.specs.declared.limits.TheConstants.{MAX_TRANSFER}
use Rattle.rrv_model.specs.declared.machine.Thread.{Thread}
use Rattle.rrv_model.specs.Memory.{writable}
use Rattle.rrv_model.specs.State.{State}
use Rattle.rrv_model.specs.CallRows.{Row, AsksInput, AsksRandom, AsksTime, argument, fails, only_returns}
use Rattle.rrv_model.specs.Calls.{Answer, Bytes}
use Rattle.guest_calls.specs.declared.request.Request.{Request}
use Rattle.guest_calls.specs.declared.request.Wanted.{Wanted}
use Rattle.guest_calls.specs.declared.request.Wanted.TheVariants as wants
use Rattle.guest_calls.specs.Asking.{Question, Input, Random, TellsMoment}

-- the row that asks for this, to be written at an address
abbrev pub asking_row : Wanted → (a count : ℕ) → Row
asking_row wants.Input a count = AsksInput a count
asking_row wants.Random a count = AsksRandom a count
asking_row (wants.Moment clock) a count = AsksTime a

-- the row of a request: where no byte is wanted nobody is asked, and nobody where the bytes can't be written
abbrev pub request_row : State → Request → Row
request_row s q =
    if q.count == 0 then only_returns 0
    else if not (writable s.memory q.address q.count) then fails 14
    else asking_row q.wanted q.address q.count

-- so where the arguments may be refused with an error number
abbrev pub requested_row : State → Result Request ℕ → Row
requested_row s (Ok q) = request_row s q
requested_row s (Err errno) = fails errno

-- a clock that is asked for is the one that the thread names
abbrev pub IsClockOf : Thread → Wanted → Type 0
IsClockOf t wants.Input = Unit {0}
IsClockOf t wants.Random = Unit {0}
IsClockOf t (wants.Moment clock) = clock ≡ argument t 0

-- so much room is just enough for a moment; input and random bytes take any
abbrev pub HasRoom : Wanted → ℕ → Type 0
HasRoom wants.Input room = Unit {0}
HasRoom wants.Random room = Unit {0}
HasRoom (wants.Moment clock) room = room ≡ 16

-- what may be requested
pub record IsRequest (q : Request) : Type 0 where
  pub most : q.count ≤ MAX_TRANSFER
  pub room : HasRoom q.wanted q.count

-- so where the arguments may be refused
abbrev pub IsRequested : Result Request ℕ → Type 0
IsRequested (Ok q) = IsRequest q
IsRequested (Err errno) = 1 ≤ errno

-- so of a request, if there is one
abbrev pub NamesClock : Thread → Result Request ℕ → Type 0
NamesClock t (Ok q) = IsClockOf t q.wanted
NamesClock t (Err errno) = Unit {0}

-- by the row of its call, a thread requests this, or is refused with an error number
pub record Requests (row_in : State → Thread → Row) (t : Thread) (requested : Result Request ℕ) : Type 0 where
  pub row : (s : State) → row_in s t ≡ requested_row s requested
  pub fits : IsRequested requested
  pub clock : NamesClock t requested

-- the outside gave these bytes where there was so much room, and the call then returns this value
abbrev pub Takes : {O : Type 0} → (O → Question → Answer → O → Type 0)
    → Wanted → (room value : ℕ) → List ℕ → O → O → Type 0
Takes gives wants.Input room value bytes before after =
    (value ≡ length bytes) × (length bytes ≤ room) × gives before (Input room) (Bytes bytes) after
Takes gives wants.Random room value bytes before after =
    (value ≡ room) × (length bytes ≡ room) × gives before (Random room) (Bytes bytes) after
Takes gives (wants.Moment clock) room value bytes before after =
    (value ≡ 0) × (length bytes ≡ room) × TellsMoment gives clock bytes before after
