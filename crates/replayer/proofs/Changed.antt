-- Changes of a byte, one instruction after the other.
use Rattle.std.proofs.Common.{◌≡◌, ◌≢◌, ℕ, ◌+◌, ◌<◌, ◌≤◌, ◌⊎◌, inl, inr, List, Option, Some, None, sym, ◌∙◌, ap, subst, arith}
use Rattle.rrv_model.specs.declared.record.Frame.{Frame}
use Rattle.rrv_model.specs.declared.record.Opening.{Opening}
use Rattle.rrv_model.specs.State.{State}
use Rattle.rrv_model.specs.StateAt.{StateAt, StateAtFrom}
use Rattle.rrv_model.proofs.RunLaws.{one_state_at_from}
use Rattle.replayer.specs.Changes.{IsLastIn, NoneIn, byte_at}

-- there is one state at a count
one_state : (o : Opening) (frames : List Frame) (t : ℕ) (s s' : State) → StateAt o frames t s → StateAt o frames t s' → s ≡ s'
one_state o frames t s s' h k =
    let first : k.0 ≡ h.0 = k.1.state_is ∙ sym h.1.state_is in
    one_state_at_from frames h.0 t s s' h.2 (subst (λ (m : State). StateAtFrom m frames t s') first k.2)

pub none_yet : (o : Opening) (frames : List Frame) (a start : ℕ) → IsLastIn o frames a start start None
none_yet o frames a start = λ t low high change. omega (arith, low, high)

here_or : (u t : ℕ) → u < t + 1 → (u < t) ⊎ (u ≡ t)
here_or u t h = grind (arith, h)

none_more : (o : Opening) (frames : List Frame) (a start t : ℕ) (s s' : State) → NoneIn o frames a start t → StateAt o frames t s →
    StateAt o frames (t + 1) s' →
    byte_at s a ≡ byte_at s' a → NoneIn o frames a start (t + 1)
none_more o frames a start t s s' none at next same u low high change = by (here_or u t high) where
  by : (u < t) ⊎ (u ≡ t) → ⊥
  by (inl below) = none u low below change
  by (inr here) =
      let at' = subst (λ i. StateAt o frames i change.at) here change.is_at in
      let next' = subst (λ i. StateAt o frames (i + 1) change.next) here change.is_next in
      let one = one_state o frames t change.at s at' at in
      let two = one_state o frames (t + 1) change.next s' next' next in
      change.differs (ap (λ (m : State). byte_at m a) one ∙ same ∙ ap (λ (m : State). byte_at m a) (sym two))

-- an instruction that doesn't change it
pub same_more : (o : Opening) (frames : List Frame) (a start t : ℕ) (found : Option ℕ) (s s' : State) → IsLastIn o frames a start t found →
    StateAt o frames t s →
    StateAt o frames (t + 1) s' → byte_at s a ≡ byte_at s' a → IsLastIn o frames a start (t + 1) found
same_more o frames a start t None s s' last at next same = none_more o frames a start t s s' last at next same
same_more o frames a start t (Some u) s s' last at next same =
    (last.0, omega (arith, last.1), last.2, none_more o frames a (u + 1) t s s' last.3 at next same)

-- one that does
pub change_more : (o : Opening) (frames : List Frame) (a start t : ℕ) (s s' : State) → start ≤ t → StateAt o frames t s →
    StateAt o frames (t + 1) s' →
    byte_at s a ≢ byte_at s' a → IsLastIn o frames a start (t + 1) (Some t)
change_more o frames a start t s s' low at next differs = (
  low,
  omega arith,
  record { at = s; next = s'; is_at = at; is_next = next; differs = differs },
  λ u above below change. omega (arith, above, below),
)

below_or : (u t : ℕ) → (u < t) ⊎ (t ≤ u)
below_or u t = grind arith

-- none before, and none behind
pub none_join : (o : Opening) (frames : List Frame) (a start end place : ℕ) → NoneIn o frames a start end → NoneIn o frames a end place →
    NoneIn o frames a start place
none_join o frames a start end place before behind u low high change = by (below_or u end) where
  by : (u < end) ⊎ (end ≤ u) → ⊥
  by (inl below) = before u low below change
  by (inr above) = behind u above high change
