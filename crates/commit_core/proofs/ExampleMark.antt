-- The example's sessions with the Mark.
use Rattle.std.proofs.Common.{◌≡◌, inl, inr, ℕ, zero, suc, ◌+◌, ◌<◌, ◌≤◌, List, [], ◌∷◌, ◌++◌, length, refl, sym, ◌∙◌, ap, subst, arith, length-append}
use Rattle.std.specs.List.{AllByRecursion}
use Rattle.store_model.specs.CrashModel.{Pending, DiskState, IsCrash, all_synced}
use Rattle.store_model.specs.DiskCalls.{after_write}
use Rattle.rrv_model.specs.RecordText.{HasText, record_text, payload, opening_text}
use Rattle.store_model.specs.StoreText.{segment, IsBody, IsStore}
use Rattle.rrv_model.specs.Opening.{Opens}
use Rattle.rrv_model.specs.Recovered.{body_text, mark, IsRecovered}
use Rattle.commit_core.specs.World.{World, IsStart, IsReady, IsAtRest, store_text, closed_store}
use Rattle.commit_core.specs.Events.{CanWrite, run, IsSchedule}
use Rattle.commit_core.specs.Events.Event.{Push, Pop}
use Rattle.commit_core.specs.Sessions.{CanMark, IsSession, AreSessions, fresh_disk, opened_disk}
use Rattle.commit_core.specs.Sessions.Session.{Marked, OnlyOpened, Ran}
use Rattle.commit_core.specs.ExampleMark.{new_opening, new_state, new_record, new_recorder, marked_disk, marked_start, new_events, mark_sessions}
use Rattle.commit_core.proofs.ExampleGuest.{opens}
use Rattle.commit_core.proofs.ExampleWorld.{gate_len, starts_with, nothing_recovered}
use Rattle.commit_core.proofs.ExampleSessions.{closed_at_end}
use Rattle.commit_core.proofs.ExampleRepair.{segment_len}
use Rattle.commit_core.proofs.Invariant.{Invariant}
use Rattle.commit_core.proofs.Schedules.{invariant_at_start, invariant_of_run}
use Rattle.commit_core.proofs.Recovery.{stored_recovered}
use Rattle.commit_core.proofs.Stages.{store_text-push}
use Rattle.rrv_model.proofs.RecoveredLaws.{mark_adds_none}
use Rattle.commit_core.proofs.Sessions.{mark_end}

-- ---- the start

new_opens : Opens new_opening new_state
new_opens = record {
  accepted = opens.accepted;
  file_bytes = opens.file_bytes;
  is_name = opens.is_name;
  sixteen = refl;
  random_bytes = opens.random_bytes;
  state_is = refl;
}

new_has_text : HasText new_record
new_has_text = record {
  guest = omega arith;
  index = omega arith;
  item = record {
    elf = omega arith;
    elf_bytes = opens.file_bytes;
    name = opens.is_name;
    random = refl;
    random_bytes = opens.random_bytes;
  };
}

ready : (g : ℕ) → g < 1 → IsReady (0 + g) new_recorder
ready zero one = record { opening = new_opening; state = new_state; opens = new_opens; has_text = new_has_text; is = refl }
ready (suc g) one = absurd (omega (arith, one))

can_mark : CanMark []
can_mark = record { none = λ there. omega (arith, there.1); number = omega arith; store = omega arith }

abbrev empty_store : IsStore (closed_store []) []
empty_store = closed_at_end [] tt (omega arith)

rests : IsAtRest marked_disk (closed_store (mark ∷ []))
rests = mark_end (fresh_disk (closed_store [])) [] empty_store can_mark

starts : IsStart marked_start []
starts = starts_with (mark ∷ []) 0 1 (λ g. new_recorder) marked_disk [] (omega arith) (omega arith) (omega arith)
    (mark_adds_none [] [] can_mark.none nothing_recovered) refl ((omega arith, omega arith), tt) (omega arith) rests ready

-- ---- its events

new_len : length (body_text (new_record ∷ [])) ≤ 1000
unfolding record_text payload opening_text
new_len = omega arith

mark_len : length (store_text (mark ∷ [])) ≡ 74
mark_len =
    let behind = segment_len 0 mark (omega arith) (omega arith) in
    let more = length-append (segment 0 mark) (0 ∷ []) in
    let size = ap length (store_text-push [] mark) ∙ length-append (store_text []) (0xA5 ∷ segment 0 mark) in
    omega (arith, behind, more, size, gate_len)

can_write : CanWrite (run marked_start (Push 0 new_record [] ∷ Pop new_record [] ∷ [])) 1
can_write = record {
  idle = refl;
  some = omega arith;
  few = omega arith;
  there = omega arith;
  body = omega (arith, new_len);
  number = omega arith;
  store = omega (arith, new_len, mark_len);
  old = inl (0, omega arith, refl);
}

schedule : IsSchedule marked_start new_events
schedule = (
  record { guest = omega arith; next = refl; room = omega arith; here = refl },
  (refl, (can_write, (refl, (refl, (refl, tt))))),
)

abbrev world : World
world = run marked_start new_events

invariant : Invariant world []
invariant = invariant_of_run marked_start [] new_events (invariant_at_start marked_start [] starts) schedule

-- ---- the sessions

abbrev both : List (List ℕ)
both = mark ∷ body_text (new_record ∷ []) ∷ []

found : IsRecovered both (new_record ∷ [])
found = stored_recovered world [] invariant

sizes : AllByRecursion IsBody both
sizes = invariant.store.sizes

committed : IsAtRest world.disk (closed_store both)
committed = invariant.disk.0

-- what is synced may be left as it is
same_crash : (bytes : List ℕ) → IsCrash (all_synced bytes) bytes
same_crash bytes = record { no_shorter = omega arith; no_longer = omega arith; kept = λ place low outside. refl }

may_leave : IsCrash world.disk.pending (closed_store both)
may_leave = subst (λ (p : Pending). IsCrash p (closed_store both)) (sym committed.synced) (same_crash (closed_store both))

-- the Mark is written behind the closed gate, and nothing of that is left
abbrev writing : DiskState
writing = after_write (opened_disk (fresh_disk (closed_store [])) [] empty_store) 17 (segment 0 mark ++ 0 ∷ [])

marks : IsSession (fresh_disk (closed_store [])) (Marked [] []) writing
marks = (empty_store, nothing_recovered, can_mark, inr (inr (inl refl)))

nothing_left : IsCrash writing.pending (closed_store [])
nothing_left = record { no_shorter = omega arith; no_longer = omega arith; kept = λ place low outside. refl }

records : IsSession (fresh_disk (closed_store [])) (Ran [] marked_start [] new_events) world.disk
records = ((empty_store, inr (can_mark, refl, refl)), starts, schedule, refl)

abbrev both_store : IsStore (closed_store both) both
both_store = closed_at_end both sizes (omega arith)

abbrev end : DiskState
end = opened_disk (fresh_disk (closed_store both)) both both_store

finds : IsSession (fresh_disk (closed_store both)) (OnlyOpened both (new_record ∷ [])) end
finds = (both_store, found, refl)

pub mark_is_committed : (end : DiskState) × AreSessions (fresh_disk (closed_store [])) mark_sessions end
mark_is_committed = (
  end,
  (
    writing,
    fresh_disk (closed_store []),
    marks,
    inr (closed_store [], nothing_left, refl),
    (world.disk, fresh_disk (closed_store both), records, inr (closed_store both, may_leave, refl), (end, end, finds, inl refl, refl)),
  ),
)
