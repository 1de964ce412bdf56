-- A call that fails is the last one.
use Rattle.std.proofs.Common.{◌≡◌, List, [], ◌∷◌, ◌++◌, refl, ◌∙◌}
use Rattle.std.specs.List.{AllByRecursion}
use Rattle.commit_core.specs.World.{World, Stage}
use Rattle.commit_core.specs.World.Stage.{Idle, Written, Synced, Opened, Broken}
use Rattle.commit_core.specs.Events.{Event, after, run, May, IsSchedule}
use Rattle.commit_core.specs.Events.Event.{WriteBody, WriteBodyFails, Sync1, Sync1Fails, OpenGate, OpenGateFails, Sync2, Sync2Fails}
use Rattle.commit_core.specs.FailedCalls.{IsCall, IsFailedCall, IsLastCall}

not_idle : (s : Stage) → s ≡ Broken → s ≡ Idle → ⊥
not_idle s broken is = cc

not_written : (s : Stage) → s ≡ Broken → s ≡ Written → ⊥
not_written s broken is = cc

not_synced : (s : Stage) → s ≡ Broken → s ≡ Synced → ⊥
not_synced s broken is = cc

not_opened : (s : Stage) → s ≡ Broken → s ≡ Opened → ⊥
not_opened s broken is = cc

-- where a call failed an event is no call, and leaves the disk and the stage
record LeavesDisk (w : World) (e : Event) : Type 0 where
  pub no_call : ¬ (IsCall e)
  pub broken : (after w e).flusher.stage ≡ Broken
  pub disk : (after w e).disk ≡ w.disk

leaves_disk : (w : World) (e : Event) → w.flusher.stage ≡ Broken → May w e → LeavesDisk w e
leaves_disk w (WriteBody count) broken may = absurd (not_idle w.flusher.stage broken may.idle)
leaves_disk w (WriteBodyFails count disk) broken may = absurd (not_idle w.flusher.stage broken may.0.idle)
leaves_disk w Sync1 broken may = absurd (not_written w.flusher.stage broken may)
leaves_disk w Sync1Fails broken may = absurd (not_written w.flusher.stage broken may)
leaves_disk w OpenGate broken may = absurd (not_synced w.flusher.stage broken may)
leaves_disk w (OpenGateFails disk) broken may = absurd (not_synced w.flusher.stage broken may.0)
leaves_disk w Sync2 broken may = absurd (not_opened w.flusher.stage broken may)
leaves_disk w Sync2Fails broken may = absurd (not_opened w.flusher.stage broken may)
leaves_disk w _ broken may = record { no_call = λ call. call; broken = broken; disk = refl }

none_later : (w : World) (later : List Event) → w.flusher.stage ≡ Broken → IsSchedule w later
    → AllByRecursion (λ (e : Event). ¬ (IsCall e)) later × ((run w later).disk ≡ w.disk)
none_later w [] broken schedule = (tt, refl)
none_later w (e ∷ later) broken schedule =
    let here = leaves_disk w e broken schedule.0 in
    let rest = none_later (after w e) later here.broken schedule.1 in
    ((here.no_call, rest.0), rest.1 ∙ here.disk)

breaks : (w : World) (failed : Event) → IsFailedCall failed → (after w failed).flusher.stage ≡ Broken
breaks w (WriteBodyFails count disk) fails = refl
breaks w Sync1Fails fails = refl
breaks w (OpenGateFails disk) fails = refl
breaks w Sync2Fails fails = refl
breaks w _ fails = absurd fails

pub last_call : (start : World) (before : List Event) (failed : Event) (later : List Event) → IsFailedCall failed →
    IsSchedule start (before ++ failed ∷ later)
    → IsLastCall start before failed later
last_call start [] failed later fails schedule =
    let rest = none_later (after start failed) later (breaks start failed fails) schedule.1 in
    record { none = rest.0; disk = rest.1 }
last_call start (e ∷ before) failed later fails schedule =
    let rest = last_call (after start e) before failed later fails schedule.1 in
    record { none = rest.none; disk = rest.disk }
