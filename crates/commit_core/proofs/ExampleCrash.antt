-- The example's crash in the write of the gate.
use Rattle.std.proofs.Common.{◌≡◌, ◌≢◌, inl, inr, ℕ, zero, suc, List, [], ◌∷◌, ◌++◌, length, get_or, refl, sym, ◌∙◌, ap, subst, arith, append_assoc, length-append}
use Rattle.rrv_model.specs.State.{State}
use Rattle.store_model.specs.CrashModel.{Pending, IsCrash, all_synced}
use Rattle.store_model.specs.DiskCalls.{pending_write}
use Rattle.store_model.specs.StoreText.{segment, IsBody, IsSound}
use Rattle.rrv_model.specs.Recovered.{body_text, IsRecovered}
use Rattle.commit_core.specs.World.{World, store_text, closed_store}
use Rattle.commit_core.specs.World.Stage.{Opened}
use Rattle.commit_core.specs.Events.{run, IsSchedule}
use Rattle.commit_core.specs.Example.{example_start, all_three, up_to_gate, torn_at_gate, GateMayTear}
use Rattle.commit_core.proofs.ExampleGuest.{Ended, guest_ends}
use Rattle.commit_core.proofs.ExampleWorld.{starts, gate_schedule, nothing_recovered}
use Rattle.commit_core.proofs.Invariant.{Invariant}
use Rattle.commit_core.proofs.Schedules.{invariant_at_start, invariant_of_run}
use Rattle.commit_core.proofs.Recovery.{hand_recovered}
use Rattle.commit_core.proofs.Stages.{DiskAt, staged, tail, sound_by, store_text-push}

-- a byte changed leaves the others
same_outside : (front behind : List ℕ) (g h place : ℕ) → place ≢ length front →
    get_or (front ++ g ∷ behind) place 0 ≡ get_or (front ++ h ∷ behind) place 0
same_outside [] behind g h zero differs = absurd (differs refl)
same_outside [] behind g h (suc k) differs = refl
same_outside (x ∷ front) behind g h zero differs = refl
same_outside (x ∷ front) behind g h (suc k) differs = same_outside front behind g h k (λ is. differs (omega (arith, is)))

-- while the gate is written a crash may leave any byte there
pub any_byte : (bodies : List (List ℕ)) (body : List ℕ) (gate : ℕ) →
    IsCrash (pending_write (all_synced (staged bodies body)) (length (store_text bodies)) 1) (store_text bodies ++ gate ∷ tail bodies body)
any_byte bodies body gate =
    let old = length-append (store_text bodies) (0 ∷ tail bodies body) in
    let new = length-append (store_text bodies) (gate ∷ tail bodies body) in
    record {
      no_shorter = omega (arith, old, new);
      no_longer = omega (arith, old, new);
      kept = λ place low outside. same_outside (store_text bodies) (tail bodies body) gate 0 place
          (λ is. outside (inl (omega (arith, is), omega (arith, is))));
    }

module _ (guest : Ended) where
  abbrev world : World
  world = run example_start (up_to_gate guest.written guest.ended)

  invariant : Invariant world []
  invariant = invariant_of_run example_start [] (up_to_gate guest.written guest.ended) (invariant_at_start example_start [] starts)
      (gate_schedule guest)

  gate_opened : DiskAt Opened world.disk [] (body_text all_three)
  gate_opened = invariant.disk

  may_leave : (gate : ℕ) → IsCrash world.disk.pending (torn_at_gate gate)
  may_leave gate = subst (λ (p : Pending). IsCrash p (torn_at_gate gate)) (sym gate_opened.1) (any_byte [] (body_text all_three) gate)

  shut_sound : (gate : ℕ) → gate ≢ 0xA5 → IsSound (torn_at_gate gate) []
  shut_sound gate shut =
      sound_by (torn_at_gate gate) (tail [] (body_text all_three)) gate [] refl shut tt (omega arith)
      (inr (record { few = omega arith; body = body_text all_three; rest = []; text = refl; is_body = gate_opened.2.0 }))

  open_text : torn_at_gate 0xA5 ≡ closed_store (body_text all_three ∷ [])
  open_text =
      sym (append_assoc (store_text []) (0xA5 ∷ segment 0 (body_text all_three)) (0 ∷ []))
      ∙ ap (λ (l : List ℕ). l ++ 0 ∷ []) (sym (store_text-push [] (body_text all_three)))

  pub is_body : IsBody (body_text all_three)
  is_body = gate_opened.2.0

  pub finds_all : IsRecovered (body_text all_three ∷ []) all_three
  finds_all = hand_recovered world [] invariant is_body

  pub may_leave_all : IsCrash world.disk.pending (closed_store (body_text all_three ∷ []))
  may_leave_all = subst (λ (l : List ℕ). IsCrash world.disk.pending l) open_text (may_leave 0xA5)

  open_sound : IsSound (torn_at_gate 0xA5) (body_text all_three ∷ [])
  open_sound =
      sound_by (torn_at_gate 0xA5) [] 0 (body_text all_three ∷ []) open_text (λ e. absurd (omega (arith, e))) (is_body, tt) (omega arith)
      (inl refl)

  tears : GateMayTear world
  tears = record {
    without = λ gate is. record { crash = may_leave gate; bodies = []; sound = shut_sound gate is; recovered = nothing_recovered };
    with_all = record { crash = may_leave 0xA5; bodies = body_text all_three ∷ []; sound = open_sound; recovered = finds_all };
  }

pub crash_in_gate : (written ended : State) × IsSchedule example_start (up_to_gate written ended) ×
    GateMayTear (run example_start (up_to_gate written ended))
crash_in_gate = (guest_ends.written, guest_ends.ended, gate_schedule guest_ends, tears guest_ends)
