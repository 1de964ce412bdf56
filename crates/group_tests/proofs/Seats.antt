-- A recorder's seat stays of its group and guest, whatever came of what it sent.
use Rattle.std.proofs.Common.{◌≡◌, ◌⊎◌, ℕ, zero, suc, List, [], ◌∷◌, Some, Result, Ok, Err, OnOk, IfErr, refl, sym, ap, ◌∙◌, inl, inr, ⊎_elim, set}
use Rattle.std.specs.Prelude.{slice_get}
use Rattle.rrv_model.specs.declared.record.Item.{Item}
use Rattle.commit_group.specs.declared.fault.SubmitFault.{SubmitFault}
use Rattle.commit_group.specs.declared.fault.SubmitFault.TheVariants.{Full, Halted, Left}
use Rattle.commit_group.specs.Seats.{AllOf, GroupId, RecorderValue}
use Rattle.commit_group.specs.Submits.{IsRefused, IsRefusedAtLast, IsSent, IsSentAtLast}

abbrev pub Stays : RecorderValue → RecorderValue → Type 0
Stays old new = (new.group ≡ old.group) × (new.guest ≡ old.guest)

same_stays : (old same new : RecorderValue) → new ≡ same → Stays old same → Stays old new
same_stays old same new is (group, guest) = (ap (λ (r : RecorderValue). r.group) is ∙ group, ap (λ (r : RecorderValue). r.guest) is ∙ guest)

refused_stays : (old new : RecorderValue) (fault : SubmitFault) → IsRefused old new fault → Stays old new
refused_stays old new Left h = same_stays old _ new h.1 (refl, refl)
refused_stays old new Halted h = same_stays old _ new h.1 (refl, refl)
refused_stays old new Full h = same_stays old _ new h.2 (refl, refl)

refused_at_last_stays : (old new : RecorderValue) (fault : SubmitFault) → IsRefusedAtLast old new fault → Stays old new
refused_at_last_stays old new Left h = same_stays old _ new h.1 (refl, refl)
refused_at_last_stays old new Halted h = same_stays old _ new h.2 (refl, refl)
refused_at_last_stays old new Full h = absurd h

pub tried_stays : {X : Type 0} (result : Result X (Item × SubmitFault)) (old new : RecorderValue) (item : Item) →
    OnOk result (IsSent old new item)
    → IfErr result (λ e. (e.0 ≡ item) × IsRefused old new e.1) → Stays old new
tried_stays (Ok done) old new item sent refused = same_stays old _ new sent.sent (refl, refl)
tried_stays (Err e) old new item sent refused = refused_stays old new e.1 refused.1

pub submitted_stays : {X : Type 0} (result : Result X (Item × SubmitFault)) (old new : RecorderValue) (item : Item) →
    OnOk result (IsSentAtLast old new item)
    → IfErr result (λ e. (e.0 ≡ item) × IsRefusedAtLast old new e.1) → Stays old new
submitted_stays (Ok done) old new item sent refused = same_stays old _ new sent.sent (refl, refl)
submitted_stays (Err e) old new item sent refused = refused_at_last_stays old new e.1 refused.1

get_set : {X : Type 0} (xs : List X) (i : ℕ) (x : X) (k : ℕ) (y : X) → slice_get (set xs i x) k ≡ Some y → (slice_get xs k ≡ Some y) ⊎
    ((k ≡ i) × (x ≡ y))
get_set [] i x k y e = inl e
get_set (z ∷ xs) zero x zero y e = inr (refl, cc)
get_set (z ∷ xs) zero x (suc k) y e = inl e
get_set (z ∷ xs) (suc i) x zero y e = inl e
get_set (z ∷ xs) (suc i) x (suc k) y e = ⊎_elim (λ t. inl t) (λ (t : (k ≡ i) × (x ≡ y)). inr (ap suc t.0, t.1)) (get_set xs i x k y e)

-- so all stay when one of them sends
pub all_stay : (group : GroupId) (seats : List RecorderValue) (at : ℕ) (old new : RecorderValue) → AllOf group seats →
    slice_get seats at ≡ Some old
    → Stays old new → AllOf group (set seats at new)
all_stay group seats at old new all there stays k r e =
    ⊎_elim (λ t. all k r t)
    (λ (t : (k ≡ at) × (new ≡ r)).
    let before = all at old there in (
      ap (λ (s : RecorderValue). s.group) (sym t.1) ∙ stays.0 ∙ before.0,
      ap (λ (s : RecorderValue). s.guest) (sym t.1) ∙ stays.1 ∙ before.1 ∙ sym t.0,
    ))
    (get_set seats at new k r e)
