-- The threads of a guest: by tid, with the waiting order and the next tid.
use Rattle.std.specs.Prelude.{◌≡◌, ℕ, ◌+◌, ◌-◌, ◌^◌, Bool, false, ◌||◌, nat_lt, nat_le, is_none, is_some, IsSome, IsTrue, List, filter, Option, Some, None}
use Rattle.std.specs.Map.{keys_of}
use Rattle.std.specs.Ordering.{nat_cmp}
use Rattle.std.specs.FinMap.{FinMap, from_entries, get, remove, len}
use Rattle.rrv_model.specs.declared.machine.Thread.{Thread}
use Rattle.rrv_model.specs.declared.machine.FutexWait.{FutexWait}
use Rattle.rrv_model.specs.declared.machine.Version.{Version}
use Rattle.rrv_model.specs.Memory.{no_memory}
use Rattle.rrv_model.specs.State.{State, IsRunning, IsTimed, AreThreads, live_threads, with_thread}
use Rattle.guest_threads.specs.declared.fault.ThreadFault.{ThreadFault}
use Rattle.guest_threads.specs.declared.fault.ThreadFault.TheVariants.{TooMany, NotThere, Memory, NotTimed}

-- threads as contracts see them
pub record ThreadsValue : Type 0 where
  -- the version of their guest
  pub version : Version
  -- by rising tid
  pub threads : List (ℕ × Thread)
  -- the tids of the waiting threads, in the waiting order
  pub waiting : List ℕ
  pub next_tid : ℕ

-- what the entries have at each tid
abbrev pub thread_map : List (ℕ × Thread) → FinMap nat_cmp Thread
thread_map entries = from_entries entries

-- the state with these threads
abbrev pub with_threads : ThreadsValue → State → State
with_threads v s =
    record s { version = v.version; threads = thread_map v.threads; waiting = v.waiting; next_tid = v.next_tid }

-- a state of these threads and nothing else
abbrev pub alone : ThreadsValue → State
alone v = record {
  version = v.version;
  memory = no_memory;
  threads = thread_map v.threads;
  waiting = v.waiting;
  next_tid = v.next_tid;
  opening_break = 0;
  program_break = 0;
  reservation = None;
  ended = None;
}

abbrev pub thread_in : ThreadsValue → ℕ → Option Thread
thread_in v tid = get (thread_map v.threads) tid

-- how many threads live
abbrev pub live_count : ThreadsValue → ℕ
live_count v = len (thread_map v.threads)

-- ---- the rules

-- the threads keep the rules of a state
abbrev pub KeepRules : ThreadsValue → Type 0
KeepRules v = AreThreads v.version (thread_map v.threads) v.waiting v.next_tid

-- ---- what changes

-- a thread is made, under the next tid
abbrev pub spawned : Thread → State → State
spawned t s = with_thread s.next_tid t (record s { next_tid = s.next_tid + 1 })

-- a thread leaves the list
abbrev pub without_thread : ℕ → State → State
without_thread tid s = record s { threads = remove s.threads tid }

-- ---- refusals

-- as many threads live as may, or no tid is left
abbrev pub is_full : ThreadsValue → Bool
is_full v = nat_le (live_threads v.version) (live_count v) || nat_lt (2 ^ 31 - 1) v.next_tid

-- why a thread isn't made
abbrev pub IsSpawnRefusal : ThreadFault → ThreadsValue → Type 0
IsSpawnRefusal TooMany v = IsTrue (is_full v)
IsSpawnRefusal NotThere v = ⊥
IsSpawnRefusal Memory v = ¬ IsTrue (is_full v)
IsSpawnRefusal NotTimed v = ⊥

-- why this thread doesn't wait
abbrev pub IsWaitRefusal : ThreadFault → Option Thread → Type 0
IsWaitRefusal TooMany o = ⊥
IsWaitRefusal NotThere o = ¬ IsRunning o
IsWaitRefusal Memory o = IsRunning o
IsWaitRefusal NotTimed o = ⊥

-- why this thread's wait doesn't expire
abbrev pub IsExpireRefusal : ThreadFault → Option Thread → Type 0
IsExpireRefusal TooMany o = ⊥
IsExpireRefusal NotThere o = o ≡ None
IsExpireRefusal Memory o = ⊥
IsExpireRefusal NotTimed o = IsSome o × ¬ IsTimed o

-- ---- the threads that run

abbrev pub runs : Thread → Bool
runs t = is_none t.wait

-- the thread waits with a timeout
abbrev pub timed_of : Option FutexWait → Bool
timed_of None = false
timed_of (Some w) = is_some w.timeout

abbrev pub is_timed : Thread → Bool
is_timed t = timed_of t.wait

-- the tids of the threads that run
abbrev pub running_in : List (ℕ × Thread) → List ℕ
running_in entries = keys_of (filter (λ e. runs e.1) entries)
