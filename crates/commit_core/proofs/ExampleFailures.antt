-- Each of the example's four calls can fail.
use Rattle.std.proofs.Common.{◌≡◌, ℕ, ◌+◌, ◌≤◌, List, [], ◌∷◌, ◌++◌, length, drop, refl, sym, ◌∙◌, ap, subst, arith, append_assoc, length-append}
use Rattle.std.proofs.lemmas.List.{take_at, take_all, drop_at, drop_all}
use Rattle.store_model.specs.CrashModel.{DiskState}
use Rattle.store_model.specs.DiskCalls.{IsTorn, FailsToWrite}
use Rattle.rrv_model.specs.State.{State}
use Rattle.rrv_model.specs.Recovered.{body_text}
use Rattle.commit_core.specs.World.{World, store_text, closed_store}
use Rattle.commit_core.specs.Events.{run, May, gate_place, behind_gate}
use Rattle.commit_core.specs.Events.Event.{WriteBody, Sync1, Sync1Fails, OpenGate, Sync2Fails}
use Rattle.commit_core.specs.Example.{all_three, torn_at_gate}
use Rattle.commit_core.specs.ExampleFailures.{torn_disk, write_fails, gate_fails, EachCallFails}
use Rattle.commit_core.proofs.ExampleGuest.{Ended, guest_ends}
use Rattle.commit_core.proofs.ExampleWorld.{all_received, can_commit, then_schedule}
use Rattle.commit_core.proofs.Stages.{tail, write_gives}

torn_behind : (bodies : List (List ℕ)) (count : ℕ) (behind : List ℕ) → length behind ≤ count →
    IsTorn (length (store_text bodies) + 1) count (closed_store bodies) (closed_store bodies ++ behind)
torn_behind bodies count behind le =
    let place = length (store_text bodies) + 1 in
    let size : length (closed_store bodies) ≡ place = length-append (store_text bodies) (0 ∷ []) in
    let longer = length-append (closed_store bodies) behind in
    record {
      before = take_at (closed_store bodies) behind place size ∙ sym (take_all place (closed_store bodies) (omega (arith, size)));
      after = drop_all (place + count) (closed_store bodies ++ behind) (omega (arith, longer, size, le))
          ∙ sym (drop_all (place + count) (closed_store bodies) (omega (arith, size)));
      no_shorter = omega (arith, longer);
      no_longer = omega (arith, longer, size, le);
    }

torn_gate : (front behind : List ℕ) (old new : ℕ) → IsTorn (length front) 1 (front ++ old ∷ behind) (front ++ new ∷ behind)
torn_gate front behind old new =
    let long = length-append front (old ∷ behind) in
    let same = length-append front (new ∷ behind) in
    record {
      before = take_at front (new ∷ behind) (length front) refl ∙ sym (take_at front (old ∷ behind) (length front) refl);
      after = back new ∙ sym (back old);
      no_shorter = omega (arith, long, same);
      no_longer = omega (arith, long, same);
    }
  where
    back : (gate : ℕ) → drop (length front + 1) (front ++ gate ∷ behind) ≡ behind
    back gate =
        ap (λ (l : List ℕ). drop (length front + 1) l) (sym (append_assoc front (gate ∷ []) behind))
        ∙ drop_at (front ++ gate ∷ []) behind (length front + 1) (length-append front (gate ∷ []))

fails_with : (disk : DiskState) (place count : ℕ) (content : List ℕ) → IsTorn place count disk.content content →
    FailsToWrite place count disk (torn_disk disk place count content)
fails_with disk place count content torn = record {
  content = torn;
  passes = record { later = (torn_disk disk place count content).pending ∷ []; goes_on = refl; each = (λ c crash. crash, tt) };
}

module _ (guest : Ended) where
  abbrev received : World
  received = all_received guest

  abbrev synced : World
  synced = run received (WriteBody 3 ∷ Sync1 ∷ [])

  write_may : (behind : List ℕ) → length behind ≤ length (behind_gate received 3) → May received (write_fails received behind)
  write_may behind le = (
    can_commit guest,
    fails_with received.disk (gate_place received + 1) (length (behind_gate received 3)) (closed_store [] ++ behind)
        (torn_behind [] (length (behind_gate received 3)) behind le),
  )

  gate_may : (gate : ℕ) → May synced (gate_fails synced gate)
  gate_may gate = (
    refl,
    fails_with synced.disk (gate_place synced) 1 (torn_at_gate gate)
        (subst (λ (l : List ℕ). IsTorn (gate_place synced) 1 l (torn_at_gate gate)) (sym (write_gives [] (body_text all_three)))
        (torn_gate (store_text []) (tail [] (body_text all_three)) 0 gate)),
  )

  each_fails : EachCallFails guest.written guest.ended
  each_fails = record {
    write = λ behind le. then_schedule guest (write_fails received behind ∷ []) (write_may behind le, tt);
    sync1 = then_schedule guest (WriteBody 3 ∷ Sync1Fails ∷ []) (can_commit guest, (refl, tt));
    gate = λ gate. then_schedule guest (WriteBody 3 ∷ Sync1 ∷ gate_fails synced gate ∷ []) (can_commit guest, (refl, (gate_may gate, tt)));
    sync2 = then_schedule guest (WriteBody 3 ∷ Sync1 ∷ OpenGate ∷ Sync2Fails ∷ []) (can_commit guest, (refl, (refl, (refl, tt))));
  }

pub calls_fail : (written ended : State) × EachCallFails written ended
calls_fail = (guest_ends.written, guest_ends.ended, each_fails guest_ends)
