-- Threads as a checkpoint tells them: in a list by rising tid, with the waiting order and the next tid.
use Rattle.std.specs.Prelude.{ℕ, ◌<◌, ◌≤◌, ◌==◌, nat_lt, Bool, true, false, ◌&&◌, not, is_some, List, [], ◌∷◌, map, find, Option, Some, None, IsSome, Contains}
use Rattle.std.specs.List.{list_any}
use Rattle.std.specs.List.Sorted.{IsStrictlyIncreasing}
use Rattle.std.specs.FinMap.{from_entries}
use Rattle.rrv_model.specs.declared.machine.Thread.{Thread}
use Rattle.rrv_model.specs.declared.machine.Version.{Version}
use Rattle.rrv_model.specs.declared.record.ThreadPart.{ThreadPart}
use Rattle.rrv_model.specs.State.{State, IsThread, AreThreads}
use Rattle.guest_threads.specs.declared.fault.PartsFault.{PartsFault}
use Rattle.guest_threads.specs.declared.fault.PartsFault.TheVariants.{NoState, Memory}
use Rattle.guest_threads.specs.Threads.{thread_map}

-- each thread under its tid
abbrev pub entries_of : List ThreadPart → List (ℕ × Thread)
entries_of parts = map (λ p. (p.tid, p.thread)) parts

-- the state with these threads, this waiting order and this next tid
abbrev pub with_parts : Version → List ThreadPart → List ℕ → ℕ → State → State
with_parts version parts order next s =
    record s { version = version; threads = from_entries (entries_of parts); waiting = order; next_tid = next }

-- a state may have these threads, told by rising tid, with this waiting order and this next tid
pub record MakeThreads (version : Version) (parts : List ThreadPart) (order : List ℕ) (next : ℕ) : Type 0 where
  pub tids_rising : IsStrictlyIncreasing (map (λ p. p.tid) parts)
  pub rules : AreThreads version (thread_map (entries_of parts)) order next

-- why no threads are made of these
abbrev pub IsPartsRefusal : PartsFault → Version → List ThreadPart → List ℕ → ℕ → Type 0
IsPartsRefusal NoState version parts order next = ¬ MakeThreads version parts order next
IsPartsRefusal Memory version parts order next = MakeThreads version parts order next

-- ---- the tests

-- its tid is below that of the next one, if any
abbrev pub is_below : ℕ → List ThreadPart → Bool
is_below tid [] = true
is_below tid (p ∷ parts) = nat_lt tid p.tid

abbrev pub tids_rise : List ThreadPart → Bool
tids_rise [] = true
tids_rise (p ∷ parts) = is_below p.tid parts && tids_rise parts

-- one of the threads: its tid is at least 1 and below the next, and where it waits, the order names it
pub record Fits (version : Version) (order : List ℕ) (next : ℕ) (p : ThreadPart) : Type 0 where
  pub tid : (1 ≤ p.tid) × (p.tid < next)
  pub thread : IsThread version p.thread
  pub named : IsSome p.thread.wait → Contains order p.tid

-- the thread is there and waits
abbrev pub waits_in : Option ThreadPart → Bool
waits_in None = false
waits_in (Some p) = is_some p.thread.wait

-- each of these tids is that of a waiting thread, and none stands twice
abbrev pub order_fits : List ThreadPart → List ℕ → Bool
order_fits parts [] = true
order_fits parts (tid ∷ order) =
    waits_in (find (λ p. p.tid == tid) parts) && not (list_any (λ other. other == tid) order) && order_fits parts order
