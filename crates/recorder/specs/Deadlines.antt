-- The deadlines of the waits of a guest that have a timeout: of each a tid and a moment, by rising tid. A moment is a number
-- of nanoseconds of the monotonic clock.
use Rattle.std.specs.Prelude.{◌≡◌, ◌↔◌, ◌⊎◌, ℕ, ◌+◌, ◌-◌, ◌*◌, ◌^◌, ◌<◌, ◌≤◌, ◌==◌, nat_lt, nat_le, not, min, Bool, if◌then◌else◌, is_some, List, [], ◌∷◌, ◌++◌, filter, Contains, Option, Some, None}
use Rattle.std.specs.List.{AllByRecursion}
use Rattle.rrv_model.specs.declared.machine.FutexWait.{FutexWait}
use Rattle.rrv_model.specs.declared.machine.GuestEnd.{GuestEnd}
use Rattle.rrv_model.specs.declared.machine.Thread.{Thread}
use Rattle.rrv_model.specs.declared.machine.Timeout.{Timeout}
use Rattle.rrv_model.specs.State.{State, thread_at, IsTimed}

-- ---- moments

abbrev pub moment_of : ℕ → ℕ → ℕ
moment_of seconds nanoseconds = seconds * 10 ^ 9 + nanoseconds

-- how long a timeout is
abbrev pub length_of : Timeout → ℕ
length_of t = moment_of t.seconds t.nanoseconds

-- ---- which there are

-- the tids rise
abbrev pub AreRising : List (ℕ × ℕ) → Type 0
AreRising [] = Unit {0}
AreRising (d ∷ ds) = AllByRecursion (λ e. d.0 < e.0) ds × AreRising ds

-- the thread has one
abbrev pub HasDeadline : List (ℕ × ℕ) → ℕ → Type 0
HasDeadline [] tid = ⊥
HasDeadline (d ∷ ds) tid = (d.0 ≡ tid) ⊎ HasDeadline ds tid

-- there is one of each thread that waits with a timeout, and no other
pub record AreDeadlinesOf (s : State) (ds : List (ℕ × ℕ)) : Type 0 where
  pub rising : AreRising ds
  pub each : (tid : ℕ) → HasDeadline ds tid ↔ IsTimed (thread_at s tid)

-- ---- the earliest

-- it is the thread's, and none comes before it: by moment, and of equal ones by tid
pub record IsEarliest (ds : List (ℕ × ℕ)) (tid at : ℕ) : Type 0 where
  pub there : Contains ds (tid, at)
  pub first : AllByRecursion (λ d. (at < d.1) ⊎ ((at ≡ d.1) × (tid ≤ d.0))) ds

abbrev pub comes_before : ℕ × ℕ → ℕ × ℕ → Bool
comes_before d e = if d.1 == e.1 then nat_lt d.0 e.0 else nat_lt d.1 e.1

abbrev pub earlier : ℕ × ℕ → ℕ × ℕ → ℕ × ℕ
earlier d e = if comes_before e d then e else d

abbrev pub earliest_from : ℕ × ℕ → List (ℕ × ℕ) → ℕ × ℕ
earliest_from d [] = d
earliest_from d (e ∷ ds) = earliest_from (earlier d e) ds

abbrev pub earliest : List (ℕ × ℕ) → Option (ℕ × ℕ)
earliest [] = None
earliest (d ∷ ds) = Some (earliest_from d ds)

-- ---- who is due

-- the thread of this deadline, if it is at or before now
abbrev pub due_by : Option (ℕ × ℕ) → ℕ → Option ℕ
due_by None now = None
due_by (Some d) now = if nat_le d.1 now then Some d.0 else None

-- who has come due: the thread of the earliest deadline, the least of equal ones, if that is at or before now
abbrev pub due : List (ℕ × ℕ) → Option ℕ → Option ℕ
due ds None = None
due ds (Some now) = due_by (earliest ds) now

-- the thread has come due: its deadline is the earliest, and at or before now
pub record IsDueNow (ds : List (ℕ × ℕ)) (now tid : ℕ) : Type 0 where
  pub at : ℕ
  pub earliest : IsEarliest ds tid at
  pub come : at ≤ now

-- how many nanoseconds are left to this deadline: 0 where it has passed, and 2^64 - 1 at most
abbrev pub left_to : Option (ℕ × ℕ) → ℕ → Option ℕ
left_to None now = None
left_to (Some d) now = Some (min (d.1 - now) (2 ^ 64 - 1))

-- to the earliest
abbrev pub time_left : List (ℕ × ℕ) → ℕ → Option ℕ
time_left ds now = left_to (earliest ds) now

-- to the earliest of a guest, which has none any more where it has ended
abbrev pub guest_left : Option GuestEnd → List (ℕ × ℕ) → ℕ → Option ℕ
guest_left None ds now = time_left ds now
guest_left (Some end) ds now = None

-- ---- changes

abbrev pub without : ℕ → List (ℕ × ℕ) → List (ℕ × ℕ)
without tid ds = filter (λ d. not (d.0 == tid)) ds

-- those of lesser tids, and of greater ones
abbrev pub below : ℕ → List (ℕ × ℕ) → List (ℕ × ℕ)
below tid ds = filter (λ d. nat_lt d.0 tid) ds

abbrev pub above : ℕ → List (ℕ × ℕ) → List (ℕ × ℕ)
above tid ds = filter (λ d. nat_lt tid d.0) ds

-- the thread's is at this moment, and the others are as before
abbrev pub put : ℕ → ℕ → List (ℕ × ℕ) → List (ℕ × ℕ)
put tid at ds = below tid ds ++ (tid, at) ∷ above tid ds

abbrev pub timeout_in : Option FutexWait → Option Timeout
timeout_in None = None
timeout_in (Some w) = w.timeout

-- the timeout with which a thread waits
abbrev pub timeout_of : Option Thread → Option Timeout
timeout_of None = None
timeout_of (Some t) = timeout_in t.wait

-- those of threads that wait with a timeout
abbrev pub kept : State → List (ℕ × ℕ) → List (ℕ × ℕ)
kept s ds = filter (λ d. is_some (timeout_of (thread_at s d.0))) ds
