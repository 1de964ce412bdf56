-- Each session has what every schedule has.
use Rattle.std.proofs.Common.{inl, inr, refl, List, [], ◌∷◌, subst}
use Rattle.std.specs.List.{AllByRecursion}
use Rattle.rrv_model.specs.declared.record.Record.{Record}
use Rattle.store_model.specs.CrashModel.{DiskState}
use Rattle.commit_core.specs.World.{World, IsStart}
use Rattle.commit_core.specs.Events.{Event, run, IsSchedule}
use Rattle.commit_core.specs.Sessions.{Session, AreSessions}
use Rattle.commit_core.specs.Sessions.Session.{StoppedOpening, Marked, OnlyOpened, Ran}
use Rattle.commit_core.specs.Headline.{IsSafe, IsSafeThroughout}
use Rattle.commit_core.proofs.Events.{schedule_front}
use Rattle.commit_core.proofs.Invariant.{Invariant}
use Rattle.commit_core.proofs.Schedules.{invariant_at_start, invariant_of_run, facts}
use Rattle.commit_core.proofs.Recovery.{recovers}

pub safe_after : (start : World) (old : List Record) (events : List Event) → IsStart start old → IsSchedule start events →
    IsSafe (run start events) old
safe_after start old events is schedule =
    let w = run start events in
    let invariant : Invariant w old = invariant_of_run start old events (invariant_at_start start old is) schedule in
    record {
      facts = facts w old invariant;
      read = recovers w old invariant w.disk.content (inl refl);
      crash = λ content crash. recovers w old invariant content (inr crash);
    }

pub each_is_safe : (disk : DiskState) (sessions : List Session) (end : DiskState) → AreSessions disk sessions end →
    AllByRecursion IsSafeThroughout sessions
each_is_safe disk [] end are = tt
each_is_safe disk (StoppedOpening ∷ sessions) end (stop, next, session, stopped, rest) = (tt, each_is_safe next sessions end rest)
each_is_safe disk (Marked bodies old ∷ sessions) end (stop, next, session, stopped, rest) = (tt, each_is_safe next sessions end rest)
each_is_safe disk (OnlyOpened bodies old ∷ sessions) end (stop, next, session, stopped, rest) = (tt, each_is_safe next sessions end rest)
each_is_safe disk (Ran reported start old events ∷ sessions) end (stop, next, session, stopped, rest) = (
  λ front behind is. safe_after start old front session.1 (schedule_front start front behind (subst (IsSchedule start) is session.2)),
  each_is_safe next sessions end rest,
)
