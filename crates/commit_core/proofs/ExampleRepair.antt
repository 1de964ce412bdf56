-- The session that begins with a repair.
use Rattle.std.proofs.Common.{◌≡◌, inl, inr, ℕ, ◌+◌, ◌≤◌, List, [], ◌∷◌, ◌++◌, length, refl, sym, ◌∙◌, ap, subst, arith, length-append}
use Rattle.std.specs.List.{AllByRecursion}
use Rattle.store_model.specs.CrashModel.{Pending, DiskState, IsCrash}
use Rattle.store_model.specs.DiskCalls.{after_write, after_sync}
use Rattle.rrv_model.specs.State.{State}
use Rattle.rrv_model.specs.RecordText.{record_text, payload, opening_text, call_text}
use Rattle.store_model.specs.StoreText.{segment, IsBody, IsStore}
use Rattle.store_model.specs.StoreCalls.{DiskCall, after_disk_calls, cut_calls, tail_calls}
use Rattle.store_model.specs.StoreCalls.DiskCall.{Write, Sync}
use Rattle.rrv_model.specs.Recovered.{body_text, IsRecovered}
use Rattle.store_model.proofs.StoreLaws.{segment_reads}
use Rattle.commit_core.specs.World.{World, IsStart, IsAtRest, store_text, closed_store}
use Rattle.commit_core.specs.World.Stage.{Opened}
use Rattle.commit_core.specs.Events.{CanWrite, run, IsSchedule}
use Rattle.commit_core.specs.Events.Event.{Look, Release, WriteBody, Sync1, OpenGate, Sync2, Publish}
use Rattle.commit_core.specs.Sessions.{IsSession, AreSessions, fresh_disk, opened_disk}
use Rattle.commit_core.specs.Sessions.Session.{StoppedOpening}
use Rattle.commit_core.specs.Example.{example_start, exited}
use Rattle.commit_core.specs.ExampleRepair.{first_two, first_body, up_to_second_gate, torn_store, repaired_disk, repaired_start, repair_sessions, IsRepaired}
use Rattle.commit_core.proofs.ExampleGuest.{Ended, guest_ends}
use Rattle.commit_core.proofs.ExampleWorld.{gate_len, starts, starts_at, writes_short, all_received, then_schedule, first_put}
use Rattle.commit_core.proofs.ExampleCrash.{any_byte}
use Rattle.commit_core.proofs.ExampleSessions.{session_on}
use Rattle.commit_core.proofs.Invariant.{Invariant}
use Rattle.commit_core.proofs.Schedules.{invariant_at_start, invariant_of_run}
use Rattle.commit_core.proofs.Recovery.{stored_recovered}
use Rattle.commit_core.proofs.Stages.{DiskAt, store_text-push}
use Rattle.commit_core.proofs.Opening.{open_end}

-- ---- texts

two_len : length (body_text first_two) ≡ 176
unfolding record_text payload opening_text call_text
two_len = refl

one_len : length (body_text (exited ∷ [])) ≡ 29
unfolding record_text payload call_text
one_len = refl

pub segment_len : (number : ℕ) (body : List ℕ) → number ≤ 1 → length body ≤ 1000 → length (segment number body ++ 0 ∷ []) ≡ 41 + length body
segment_len number body low short = let size =
    (segment_reads number body (0 ∷ []) (omega (arith, low)) (omega (arith, short))).size in omega (arith, size)

store_len : length (store_text first_body) ≡ 233
store_len =
    let behind = segment_len 0 (body_text first_two) (omega arith) (omega (arith, two_len)) in
    let more = length-append (segment 0 (body_text first_two)) (0 ∷ []) in
    let size = ap length (store_text-push [] (body_text first_two))
    ∙ length-append (store_text []) (0xA5 ∷ segment 0 (body_text first_two)) in
    omega (arith, behind, more, size, gate_len, two_len)

-- ---- the first session

module _ (guest : Ended) where
  can_first : CanWrite (all_received guest) 2
  can_first = writes_short (all_received guest) 2 refl (omega arith) (omega arith) (omega arith) (omega (arith, two_len)) (omega arith)
      (omega (arith, gate_len)) (refl, (refl, tt))

  abbrev one_committed : World
  one_committed = run (all_received guest) (WriteBody 2 ∷ Sync1 ∷ OpenGate ∷ Sync2 ∷ Publish 0 ∷ Look 0 ∷ Release 0 ((1, 0x7F) ∷ []) ∷ [])

  can_second : CanWrite one_committed 1
  can_second =
      writes_short one_committed 1 refl (omega arith) (omega arith) (omega arith) (omega (arith, one_len)) (omega arith)
      (omega (arith, store_len)) (refl, tt)

  schedule : IsSchedule example_start (up_to_second_gate guest.written guest.ended)
  schedule = then_schedule guest
      (WriteBody 2 ∷ Sync1 ∷ OpenGate ∷ Sync2 ∷ Publish 0 ∷ Look 0 ∷ Release 0 ((1, 0x7F) ∷ []) ∷ WriteBody 1 ∷ Sync1 ∷ OpenGate ∷ []) (
        can_first,
        (
          refl,
          (refl, (refl, (omega arith, (omega arith, ((omega arith, first_put guest 0), (can_second, (refl, (refl, tt)))))))),
        ),
      )

  abbrev world : World
  world = run example_start (up_to_second_gate guest.written guest.ended)

  invariant : Invariant world []
  invariant = invariant_of_run example_start [] (up_to_second_gate guest.written guest.ended) (invariant_at_start example_start [] starts)
      schedule

  gate_opened : DiskAt Opened world.disk first_body (body_text (exited ∷ []))
  gate_opened = invariant.disk

  crash : IsCrash world.disk.pending torn_store
  crash = subst (λ (p : Pending). IsCrash p torn_store) (sym gate_opened.1) (any_byte first_body (body_text (exited ∷ [])) 0x21)

  sizes : AllByRecursion IsBody first_body
  sizes = invariant.store.sizes

  found : IsRecovered first_body first_two
  found = stored_recovered world [] invariant

  -- ---- the second session

  store : IsStore torn_store first_body
  unfolding store_text
  store = record {
    gate = 0x21;
    behind = segment 1 (body_text (exited ∷ [])) ++ 0 ∷ [];
    text = refl;
    not_open = λ e. absurd (omega (arith, e));
    each = sizes;
    count = omega arith;
  }

  cuts : (place : ℕ) (behind : List ℕ) → 1 ≤ length behind → cut_calls (place + 1) ≡ tail_calls place behind
  cuts place [] some = absurd (omega (arith, some))
  cuts place (x ∷ behind) some = refl

  repaired_is : repaired_disk ≡ opened_disk (fresh_disk torn_store) first_body store
  unfolding store_text store
  repaired_is =
      let place = length (store_text first_body) in
      let behind = segment 1 (body_text (exited ∷ [])) ++ 0 ∷ [] in
      ap (λ (calls : List DiskCall). after_disk_calls (fresh_disk torn_store) (Sync ∷ Write place (0 ∷ []) ∷ Sync ∷ calls))
      (cuts place behind (omega (arith, segment_len 1 (body_text (exited ∷ [])) (omega arith) (omega (arith, one_len)))))

  rests : IsAtRest repaired_disk (closed_store first_body)
  rests = subst (λ (disk : DiskState). IsAtRest disk (closed_store first_body)) (sym repaired_is)
      (open_end (fresh_disk torn_store) first_body store)

  again : IsStart repaired_start first_two
  again = starts_at first_body 1 repaired_disk first_two (omega arith) found refl sizes (omega arith) rests

  -- the write that closes the gate is stopped, and the gate is torn as it was
  abbrev closing : DiskState
  closing = after_write (after_sync (fresh_disk torn_store)) (length (store_text first_body)) (0 ∷ [])

  stops : IsSession (fresh_disk torn_store) StoppedOpening closing
  unfolding store_text store
  stops = (first_body, store, inr (inr (inr (inr (inl refl)))))

  torn_again : IsCrash closing.pending torn_store
  torn_again = record { no_shorter = omega arith; no_longer = omega arith; kept = λ place low outside. refl }

  sessions : AreSessions (fresh_disk (closed_store [])) (repair_sessions guest.written guest.ended) repaired_disk
  sessions = (
    world.disk,
    fresh_disk torn_store,
    session_on [] tt (omega arith) 0 [] (up_to_second_gate guest.written guest.ended) starts schedule,
    inr (torn_store, crash, refl),
    (
      closing,
      fresh_disk torn_store,
      stops,
      inr (torn_store, torn_again, refl),
      (repaired_disk, repaired_disk, ((store, inl (refl, repaired_is)), again, tt, refl), inl refl, refl),
    ),
  )

pub is_repaired : (written ended : State) × IsRepaired written ended
is_repaired = (
  guest_ends.written,
  guest_ends.ended,
  record { out = refl; crash = crash guest_ends; sessions = sessions guest_ends; rest = (rests guest_ends).read },
)
