-- Plain steps over which a byte is watched, within a frame.
use Rattle.std.proofs.Common.{◌≡◌, ◌≢◌, ℕ, zero, suc, ◌+◌, ◌<◌, ◌≤◌, ◌⊎◌, inl, inr, List, ◌∷◌, Option, Some, None, refl, sym, ap, subst, arith}
use Rattle.std.proofs.lemmas.Grind.{common_steps}
use Rattle.rrv_model.specs.declared.record.Frame.{Frame}
use Rattle.rrv_model.specs.declared.record.Opening.{Opening}
use Rattle.rrv_model.specs.State.{State}
use Rattle.rrv_model.specs.FrameStep.{Steps}
use Rattle.rrv_model.specs.StateAt.{StateAt}
use Rattle.rv_machine.specs.Watching.{Notes, WatchedSteps}
use Rattle.guest_calls.specs.Runs.{Watched}
use Rattle.guest_calls.proofs.Lift.{steps_then}
use Rattle.replayer.specs.Changes.{IsLastIn, byte_at, place_after}
use Rattle.replayer.specs.Places.{GoesOn}
use Rattle.replayer.proofs.Changed.{change_more, none_yet, same_more}
use Rattle.replayer.proofs.Kept.{frame_part}

pub watched_plain : (a n tid changed : ℕ) (s s' : State) → Watched a n tid s changed s' → Steps n tid s s'
unfolding WatchedSteps
watched_plain a zero tid changed s s' h = h.1
watched_plain a (suc n) tid changed s s' h = steps_then n tid s h.0 s' (watched_plain a n tid h.1 s h.0 h.2) h.3

-- two bytes, or none, are the same or aren't
number_or : (m n : ℕ) → (m ≡ n) ⊎ (m ≢ n)
number_or m n = grind arith

same_or : (x y : Option ℕ) → (x ≡ y) ⊎ (x ≢ y)
same_or None None = inl refl
same_or None (Some n) = inr (λ e. cc)
same_or (Some m) None = inr (λ e. cc)
same_or (Some m) (Some n) = by (number_or m n) where
  by : (m ≡ n) ⊎ (m ≢ n) → (Some m ≡ Some n) ⊎ (Some m ≢ Some n)
  by (inl e) = inl (ap (λ k. Some k) e)
  by (inr differs) = inr (λ e. differs cc)

state_in : (o : Opening) (frames : List Frame) (t : ℕ) (s at : State) (f : Frame) (rest : List Frame) (n : ℕ) →
    GoesOn o frames t s (f ∷ rest) →
    n < f.count → Steps n f.tid s at → StateAt o frames (t + n) at
state_in o frames t s at f rest n on below steps = on.goes n at (frame_part s f at rest n below steps)

place_next : (t n : ℕ) → place_after t (suc n) ≡ Some (t + n)
place_next t n = grind (arith, common_steps)

next_place : (o : Opening) (frames : List Frame) (a t n before changed : ℕ) (s s' : State) →
    IsLastIn o frames a t (t + n) (place_after t before) →
    StateAt o frames (t + n) s → StateAt o frames (t + n + 1) s' → Notes (byte_at s a) (byte_at s' a) (suc n) before changed →
    IsLastIn o frames a t (t + n + 1) (place_after t changed)
next_place o frames a t n before changed s s' last at next notes = by (same_or (byte_at s a) (byte_at s' a)) where
  by : (byte_at s a ≡ byte_at s' a) ⊎ (byte_at s a ≢ byte_at s' a) → IsLastIn o frames a t (t + n + 1) (place_after t changed)
  by (inl same) =
      subst (λ k. IsLastIn o frames a t (t + n + 1) (place_after t k)) (sym (notes.same same))
      (same_more o frames a t (t + n) (place_after t before) s s' last at next same)
  by (inr differs) =
      subst (λ k. IsLastIn o frames a t (t + n + 1) (place_after t k)) (sym (notes.differs differs))
      (subst (λ (found : Option ℕ). IsLastIn o frames a t (t + n + 1) found) (sym (place_next t n))
      (change_more o frames a t (t + n) s s' (omega arith) at next differs))

-- the last of the steps that changes the byte is the last instruction that does
pub watched_last : (o : Opening) (frames : List Frame) (t : ℕ) (s s' : State) (f : Frame) (rest : List Frame) (a n changed : ℕ) →
    GoesOn o frames t s (f ∷ rest) → n < f.count → Watched a n f.tid s changed s' → IsLastIn o frames a t (t + n) (place_after t changed)
unfolding WatchedSteps
watched_last o frames t s s' f rest a zero changed on below h =
    let none : t ≡ t + 0 = omega arith in
    subst (λ k. IsLastIn o frames a t (t + 0) (place_after t k)) (sym h.0)
    (subst (λ i. IsLastIn o frames a t i None) none (none_yet o frames a t))
watched_last o frames t s s' f rest a (suc n) changed on below h =
    let before = watched_last o frames t s h.0 f rest a n h.1 on (omega arith) h.2 in
    let at = state_in o frames t s h.0 f rest n on (omega arith) (watched_plain a n f.tid h.1 s h.0 h.2) in
    let steps = steps_then n f.tid s h.0 s' (watched_plain a n f.tid h.1 s h.0 h.2) h.3 in
    let more : t + suc n ≡ t + n + 1 = omega arith in
    let next = subst (λ i. StateAt o frames i s') more (state_in o frames t s s' f rest (suc n) on below steps) in
    subst (λ i. IsLastIn o frames a t i (place_after t changed)) (sym more)
    (next_place o frames a t n h.1 changed h.0 s' before at next h.4)

notes_most : (n before changed : ℕ) (x y : Option ℕ) → Notes x y (suc n) before changed → before ≤ n → changed ≤ suc n
notes_most n before changed x y notes most = by (same_or x y) where
  by : (x ≡ y) ⊎ (x ≢ y) → changed ≤ suc n
  by (inl same) = omega (arith, notes.same same, most)
  by (inr differs) = omega (arith, notes.differs differs)

-- they are no more than the steps
pub watched_most : (a n tid changed : ℕ) (s s' : State) → Watched a n tid s changed s' → changed ≤ n
unfolding WatchedSteps
watched_most a zero tid changed s s' h = omega (arith, h.0)
watched_most a (suc n) tid changed s s' h =
    notes_most n h.1 changed (byte_at h.0 a) (byte_at s' a) h.4 (watched_most a n tid h.1 s h.0 h.2)
