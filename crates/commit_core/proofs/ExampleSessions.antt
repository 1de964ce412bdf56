-- The example's two sessions.
use Rattle.std.proofs.Common.{◌≡◌, inl, inr, ℕ, ◌≤◌, List, [], ◌∷◌, ◌++◌, length, refl, arith}
use Rattle.std.specs.List.{AllByRecursion}
use Rattle.rrv_model.specs.declared.record.Record.{Record}
use Rattle.store_model.specs.CrashModel.{DiskState}
use Rattle.rrv_model.specs.State.{State}
use Rattle.store_model.specs.StoreText.{header, segments, IsBody, IsStore}
use Rattle.rrv_model.specs.Recovered.{body_text}
use Rattle.commit_core.specs.World.{IsStart, store_text, closed_store}
use Rattle.commit_core.specs.Events.{Event, run, IsSchedule}
use Rattle.commit_core.specs.Sessions.{IsSession, AreSessions, CanOpen, fresh_disk}
use Rattle.commit_core.specs.Sessions.Session.{Ran}
use Rattle.commit_core.specs.Example.{start_on, example_start, all_three, up_to_gate, two_sessions}
use Rattle.commit_core.proofs.ExampleGuest.{guest_ends}
use Rattle.commit_core.proofs.ExampleWorld.{starts, starts_on, nothing_recovered, gate_schedule}
use Rattle.commit_core.proofs.ExampleCrash.{is_body, finds_all, may_leave_all}

pub closed_text : (bodies : List (List ℕ)) → closed_store bodies ≡ (header ++ segments 0 bodies) ++ 0 ∷ []
unfolding store_text
closed_text bodies = refl

-- a store with these bodies, whose gate is closed and has nothing behind it
module _ (bodies : List (List ℕ)) (sizes : AllByRecursion IsBody bodies) (few : length bodies ≤ 2) where
  abbrev pub closed_at_end : IsStore (closed_store bodies) bodies
  closed_at_end =
      record {
        gate = 0;
        behind = [];
        text = closed_text bodies;
        not_open = λ e. absurd (omega (arith, e));
        each = sizes;
        count = omega (arith, few);
      }

  pub session_on : (number : ℕ) (old : List Record) (events : List Event) → IsStart (start_on bodies number) old →
      IsSchedule (start_on bodies number) events →
      IsSession (fresh_disk (closed_store bodies)) (Ran bodies (start_on bodies number) old events)
      (run (start_on bodies number) events).disk
  session_on number old events is schedule = ((closed_at_end, inl (refl, refl)), is, schedule, refl)

pub first_opens : CanOpen (closed_store [])
first_opens = record { bodies = []; store = closed_at_end [] tt (omega arith); are = ([], nothing_recovered); next = inl refl }

pub sessions_follow : (written ended : State) × (end : DiskState) ×
    AreSessions (fresh_disk (closed_store [])) (two_sessions written ended) end
sessions_follow =
    let guest = guest_ends in
    let bodies : List (List ℕ) = body_text all_three ∷ [] in
    let schedule : IsSchedule example_start (up_to_gate guest.written guest.ended) = gate_schedule guest in
    let stop : DiskState = (run example_start (up_to_gate guest.written guest.ended)).disk in
    let next : DiskState = fresh_disk (closed_store bodies) in
    let again : IsStart (start_on bodies 1) all_three =
    starts_on bodies 1 all_three (omega arith) (finds_all guest) refl (is_body guest, tt) (omega arith) in
    let end : DiskState = (start_on bodies 1).disk in (
      guest.written,
      guest.ended,
      end,
      (
        stop,
        next,
        session_on [] tt (omega arith) 0 [] (up_to_gate guest.written guest.ended) starts schedule,
        inr (closed_store bodies, may_leave_all guest, refl),
        (end, end, session_on bodies (is_body guest, tt) (omega arith) 1 all_three [] again tt, inl refl, refl),
      ),
    )
