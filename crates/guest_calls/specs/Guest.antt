-- What a guest stands for.
use Rattle.std.specs.Prelude.{ℕ, ◌+◌, ◌^◌, ◌-◌, min, List, [], ◌∷◌, Option, Some, None}
use Rattle.rrv_model.specs.declared.machine.GuestEnd.{GuestEnd}
use Rattle.rrv_model.specs.State.{State, thread_at, IsRunning, IsTimed}
use Rattle.rrv_model.specs.Output.{Chunk}
use Rattle.guest_pages.specs.Space.{SpaceValue, memory_of}
use Rattle.guest_calls.specs.declared.put.Put.{Put}
use Rattle.guest_threads.specs.Threads.{ThreadsValue, thread_map}

-- a guest as contracts see it: the parts of its state, its steps so far, and what its last call put out
pub record GuestValue : Type 0 where
  pub space : SpaceValue
  -- with the version, the waiting order and the next tid
  pub threads : ThreadsValue
  pub opening_break : ℕ
  pub program_break : ℕ
  pub reservation : Option ℕ
  pub ended : Option GuestEnd
  -- the steps since it was opened
  pub ran : ℕ
  -- the steps before the last ECALL
  pub ran_before_call : ℕ
  pub put : Option Put

-- the plain state
abbrev pub state_of : GuestValue → State
state_of g = record {
  version = g.threads.version;
  memory = memory_of g.space;
  threads = thread_map g.threads.threads;
  waiting = g.threads.waiting;
  next_tid = g.threads.next_tid;
  opening_break = g.opening_break;
  program_break = g.program_break;
  reservation = g.reservation;
  ended = g.ended;
}

-- the steps are counted up to 2 ^ 64 - 1
abbrev pub counted : ℕ → ℕ → ℕ
counted ran steps = min (ran + steps) (2 ^ 64 - 1)

-- what a call put out, as the definition of a run's output has it
abbrev pub chunks_of : Option Put → List Chunk
chunks_of None = []
chunks_of (Some p) = record { descriptor = p.descriptor; bytes = p.bytes } ∷ []

-- some thread runs
abbrev pub HasRunning : State → Type 0
HasRunning s = (tid : ℕ) × IsRunning (thread_at s tid)

-- some thread waits with a timeout
abbrev pub HasTimed : State → Type 0
HasTimed s = (tid : ℕ) × IsTimed (thread_at s tid)
