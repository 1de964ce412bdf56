-- Which of the faults of a session is told.
use Rattle.std.specs.Prelude.{◌≡◌, ◌⊎◌, ℕ, ◌<◌, ◌≤◌, List, [], ◌∷◌, Contains, Option, Some, None, Result, Ok, Err}
use Rattle.std.specs.List.{AllByRecursion}
use Rattle.commit_group.specs.declared.fault.FlushFault.{FlushFault}
use Rattle.commit_group.specs.declared.fault.FlushFault.TheVariants as flushes
use Rattle.faults.specs.declared.session.SessionFault.{SessionFault}
use Rattle.faults.specs.declared.session.SessionFault.TheVariants as faults

-- the places of their kinds
abbrev pub rank : SessionFault → ℕ
rank faults.DeviceFailed = 1
rank (faults.SinkFailed guest) = 2
rank (faults.Held guest) = 3
rank faults.Memory = 4
rank faults.TooManyGuests = 5
rank faults.StoreFull = 6
rank (faults.BadOpening guest) = 7
rank (faults.NeedsMark guest) = 8

-- the guest that a fault tells of, or 0
abbrev pub guest_of : SessionFault → ℕ
guest_of faults.DeviceFailed = 0
guest_of (faults.SinkFailed guest) = guest
guest_of (faults.Held guest) = guest
guest_of faults.Memory = 0
guest_of faults.TooManyGuests = 0
guest_of faults.StoreFull = 0
guest_of (faults.BadOpening guest) = guest
guest_of (faults.NeedsMark guest) = guest

-- by kind, and then by guest
abbrev pub IsNoLater : SessionFault → SessionFault → Type 0
IsNoLater a b = (rank a < rank b) ⊎ ((rank a ≡ rank b) × (guest_of a ≤ guest_of b))

-- the first of these faults; there is none where there are no faults
abbrev pub IsLowest : List SessionFault → Option SessionFault → Type 0
IsLowest met None = met ≡ []
IsLowest met (Some fault) = Contains met fault × AllByRecursion (IsNoLater fault) met

-- the first of two faults, if there is one
abbrev pub IsLower : Option SessionFault → Option SessionFault → Option SessionFault → Type 0
IsLower None second lower = lower ≡ second
IsLower (Some a) None lower = lower ≡ Some a
IsLower (Some a) (Some b) lower =
    ((lower ≡ Some a) × IsNoLater a b) ⊎ ((lower ≡ Some b) × IsNoLater b a)

-- the fault that is told, if one is
abbrev pub told_of : {T : Type 0} → Result T SessionFault → Option SessionFault
told_of (Ok report) = None
told_of (Err fault) = Some fault

-- the session may meet it beside its workers
abbrev pub IsSessions : SessionFault → Type 0
IsSessions faults.DeviceFailed = Unit {0}
IsSessions (faults.SinkFailed guest) = ⊥
IsSessions (faults.Held guest) = ⊥
IsSessions faults.Memory = Unit {0}
IsSessions faults.TooManyGuests = Unit {0}
IsSessions faults.StoreFull = Unit {0}
IsSessions (faults.BadOpening guest) = Unit {0}
IsSessions (faults.NeedsMark guest) = Unit {0}

-- How a refusal of the flusher is told. It finds the group halted only where no thread could be made for a worker.
abbrev pub flush_told : FlushFault → SessionFault
flush_told flushes.DeviceFailed = faults.DeviceFailed
flush_told flushes.Halted = faults.Memory
flush_told flushes.TooLong = faults.StoreFull
flush_told flushes.NeedsMark = faults.NeedsMark 0
flush_told flushes.Memory = faults.Memory

-- the fault that the flusher met, if it met one
abbrev pub flusher_met : Result Unit FlushFault → List SessionFault
flusher_met (Ok done) = []
flusher_met (Err fault) = flush_told fault ∷ []
