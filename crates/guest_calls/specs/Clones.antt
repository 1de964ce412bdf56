-- A clone that makes a thread.
use Rattle.std.specs.Prelude.{◌≡◌, ℕ, ◌+◌, ◌≤◌, true, false, List, None, flat_map, length}
use Rattle.std.specs.Int.{w32, to_le_bytes}
use Rattle.rrv_model.specs.declared.machine.Thread.{Thread}
use Rattle.rrv_model.specs.declared.machine.Version.{Version}
use Rattle.rrv_model.specs.declared.record.Written.{Written}
use Rattle.rrv_model.specs.State.{State, with_thread, IsThread}
use Rattle.rrv_model.specs.CallRows.{Row, Returns, all_writable, child_of, range, with_memory}
use Rattle.guest_pages.specs.Stores.{stored_at_each}
use Rattle.guest_threads.specs.Threads.{is_full, spawned}
use Rattle.guest_calls.specs.Guest.{GuestValue, state_of}

-- a word, written at each place
abbrev pub words_at : List ℕ → ℕ → List Written
words_at places word = flat_map (λ a. range a (to_le_bytes w32 word)) places

-- the last case of a clone: the child stands under the next tid, which is written at these places
abbrev pub makes_child : State → Thread → List ℕ → Row
makes_child s t places = Returns s.next_tid (words_at places s.next_tid)
    (λ s'. with_thread s.next_tid (child_of t) (record s' { next_tid = s.next_tid + 1 }))

-- the child is there under the next tid, which stands at these places
abbrev pub with_child_at : List ℕ → Thread → State → State
with_child_at places t s =
    with_memory (stored_at_each places (to_le_bytes w32 s.next_tid) s.memory) (spawned (child_of t) s)

-- a thread that runs, in a guest of whatever version
pub record IsRunningThread (t : Thread) : Type 0 where
  pub fits : (version : Version) → IsThread version t
  pub running : t.wait ≡ None

-- the thread may have a child, whose tid is written at two places at most
pub record MayHaveChild (g : GuestValue) (t : Thread) (places : List ℕ) : Type 0 where
  pub parent : IsRunningThread t
  pub room : is_full g.threads ≡ false
  pub few : length places ≤ 2
  pub allowed : all_writable (state_of g).memory places ≡ true
