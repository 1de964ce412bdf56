-- Two guests at once.
use Rattle.std.proofs.Common.{◌≡◌, ℕ, ◌+◌, [], ◌∷◌, length, refl, subst, arith}
use Rattle.rrv_model.specs.State.{State}
use Rattle.rrv_model.specs.RecordText.{record_text, payload, opening_text, call_text}
use Rattle.rrv_model.specs.Recovered.{body_text}
use Rattle.commit_core.specs.World.{World, IsStart, IsReady}
use Rattle.commit_core.specs.Events.{CanSlice, CanWrite, after, run, IsSchedule}
use Rattle.commit_core.specs.Events.Event.{Slice, Push, Pop}
use Rattle.commit_core.specs.Example.{example_recorder}
use Rattle.commit_core.specs.ExampleGroup.{pair_start, opened_by, wrote_by, of_both, pair_events, BothLeave}
use Rattle.commit_core.proofs.ExampleGuest.{Ended, guest_ends}
use Rattle.commit_core.proofs.ExampleWorld.{gate_len, is_ready, starts_with, writes_short, writes_frame, nothing_recovered, first_put}

pub pair_starts : IsStart pair_start []
pair_starts =
    starts_with [] 0 2 example_recorder pair_start.disk [] (omega arith) (omega arith) (omega arith) nothing_recovered refl tt (omega arith)
    (record { read = refl; synced = refl })
    (λ g two. let same : g ≡ 0 + g = omega arith in
    subst (λ (n : ℕ). IsReady n (example_recorder g)) same (is_ready g (omega (arith, two))))

both_len : length (body_text of_both) ≡ 352
unfolding record_text payload opening_text call_text
both_len = refl

module _ (guest : Ended) where
  first_writes : CanSlice pair_start 0 (wrote_by 0) guest.written
  first_writes = writes_frame guest pair_start 0 (omega arith) (omega arith) refl

  abbrev one_wrote : World
  one_wrote = after pair_start (Slice 0 (wrote_by 0) guest.written)

  second_writes : CanSlice one_wrote 1 (wrote_by 1) guest.written
  second_writes = writes_frame guest one_wrote 1 (omega arith) (omega arith) refl

  abbrev both_received : World
  both_received = run one_wrote (
      Slice 1 (wrote_by 1) guest.written
      ∷ Push 0 (opened_by 0) (wrote_by 0 ∷ []) ∷ Push 1 (opened_by 1) (wrote_by 1 ∷ []) ∷ Push 1 (wrote_by 1) [] ∷ Push 0 (wrote_by 0) []
      ∷ Pop (opened_by 0) (opened_by 1 ∷ wrote_by 1 ∷ wrote_by 0 ∷ []) ∷ Pop (opened_by 1) (wrote_by 1 ∷ wrote_by 0 ∷ [])
      ∷ Pop (wrote_by 1) (wrote_by 0 ∷ []) ∷ Pop (wrote_by 0) [] ∷ [])

  can_commit : CanWrite both_received 4
  can_commit =
      writes_short both_received 4 refl (omega arith) (omega arith) (omega arith) (omega (arith, both_len)) (omega arith)
      (omega (arith, gate_len)) (refl, (refl, (refl, (refl, tt))))

  pair_schedule : IsSchedule pair_start (pair_events guest.written)
  pair_schedule = (
    first_writes,
    (
      second_writes,
      (
        record { guest = omega arith; next = refl; room = omega arith; here = refl },
        (
          record { guest = omega arith; next = refl; room = omega arith; here = refl },
          (
            record { guest = omega arith; next = refl; room = omega arith; here = refl },
            (
              record { guest = omega arith; next = refl; room = omega arith; here = refl },
              (
                refl,
                (
                  refl,
                  (
                    refl,
                    (
                      refl,
                      (
                        can_commit,
                        (
                          refl,
                          (
                            refl,
                            (
                              refl,
                              (
                                omega arith,
                                (
                                  omega arith,
                                  (omega arith, ((omega arith, first_put guest 1), (omega arith, ((omega arith, first_put guest 0), tt)))),
                                ),
                              ),
                            ),
                          ),
                        ),
                      ),
                    ),
                  ),
                ),
              ),
            ),
          ),
        ),
      ),
    ),
  )

pub both_leave : (written : State) × IsSchedule pair_start (pair_events written) × BothLeave (run pair_start (pair_events written))
both_leave = (guest_ends.written, pair_schedule guest_ends, record { body = refl; first_out = refl; second_out = refl })
