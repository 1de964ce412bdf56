-- The latest of some places, and the last change of some bytes.
use Rattle.std.proofs.Common.{◌≡◌, ◌∙◌, inl, inr, ℕ, ◌+◌, ◌<◌, Bool, true, false, if◌then◌else◌, List, Option, Some, None, length, get_or, nat_lt, ltb-true, ltb-false, refl, sym, ap, subst, arith}
use Rattle.std.specs.Prelude.{IfSome}
use Rattle.command_line.specs.declared.request.Watched.{Watched}
use Rattle.replayer.specs.Changes.{NoneIn}
use Rattle.reverse_step.specs.Changes.{IsLastChange}
use Rattle.rrv_model.specs.declared.record.Frame.{Frame}
use Rattle.rrv_model.specs.declared.record.Opening.{Opening}
use Rattle.changes.specs.Changes.{AreKnown, AreLasts, ChangesSome, IsKnown, IsLastOf, IsLatest, IsUpTo, later}

-- ---- the later of two

own_up_to : (found other : Option ℕ) → IsUpTo other (later found other)
own_up_to None None = tt
own_up_to None (Some u) = omega arith
own_up_to (Some t) None = tt
own_up_to (Some t) (Some u) = by (nat_lt t u) refl where
  by : (b : Bool) → nat_lt t u ≡ b → IsUpTo (Some u) (if b then Some u else Some t)
  by true e = omega arith
  by false e = ltb-false t u e

later_up_to : (x found other : Option ℕ) → IsUpTo x found → IsUpTo x (later found other)
later_up_to None found other up = tt
later_up_to (Some s) None other up = absurd up
later_up_to (Some s) (Some t) None up = up
later_up_to (Some s) (Some t) (Some u) up = by (nat_lt t u) refl where
  by : (b : Bool) → nat_lt t u ≡ b → IsUpTo (Some s) (if b then Some u else Some t)
  by true e = omega (arith, up, ltb-true t u e)
  by false e = up

-- ---- the latest of the first n

abbrev pub IsAmong : List (Option ℕ) → ℕ → Option ℕ → Type 0
IsAmong places n found = IfSome found (λ t. (k : ℕ) × (k < n) × (get_or places k None ≡ Some t))

abbrev pub AreUpTo : List (Option ℕ) → ℕ → Option ℕ → Type 0
AreUpTo places n found = (k : ℕ) → k < n → IsUpTo (get_or places k None) found

pub among_on : (places : List (Option ℕ)) (n : ℕ) (found x : Option ℕ) → get_or places n None ≡ x → IsAmong places n found →
    IsAmong places (n + 1) (later found x)
among_on places n None None is among = tt
among_on places n None (Some u) is among = (n, omega arith, is)
among_on places n (Some t) None is among = (among.0, omega (arith, among.1), among.2)
among_on places n (Some t) (Some u) is among = by (nat_lt t u) where
  by : (b : Bool) → IsAmong places (n + 1) (if b then Some u else Some t)
  by true = (n, omega arith, is)
  by false = (among.0, omega (arith, among.1), among.2)

pub most_on : (places : List (Option ℕ)) (n : ℕ) (found x : Option ℕ) → get_or places n None ≡ x → AreUpTo places n found →
    AreUpTo places (n + 1) (later found x)
most_on places n found x is most k low = by (nat_lt k n) refl where
  by : (b : Bool) → nat_lt k n ≡ b → IsUpTo (get_or places k None) (later found x)
  by true e = later_up_to (get_or places k None) found x (most k (ltb-true k n e))
  by false e =
      let here : k ≡ n = omega (arith, low, ltb-false k n e) in
      subst (λ (y : Option ℕ). IsUpTo y (later found x)) (sym (ap (λ (j : ℕ). get_or places j None) here ∙ is)) (own_up_to found x)

-- ---- the last change of some bytes

none_below : (o : Opening) (frames : List Frame) (a place : ℕ) (x : Option ℕ) → IsUpTo x None → IsLastChange o frames a place x →
    NoneIn o frames a 0 place
none_below o frames a place None up last = last
none_below o frames a place (Some u) up last = absurd up

none_past : (o : Opening) (frames : List Frame) (a place t : ℕ) (x : Option ℕ) → IsUpTo x (Some t) → IsLastChange o frames a place x →
    NoneIn o frames a (t + 1) place
none_past o frames a place t None up last = λ u low high. last u (omega arith) high
none_past o frames a place t (Some s) up last = λ u low high. last.3 u (omega (arith, up, low)) high

known_at : (o : Opening) (frames : List Frame) (a place t : ℕ) (x : Option ℕ) → t < place → IsUpTo x (Some t) →
    IsLastChange o frames a place x → IsKnown o frames a t x
known_at o frames a place t None low up last = inr (λ u from below. last u from (omega (arith, below, low)))
known_at o frames a place t (Some s) low up last = by (nat_lt s t) refl where
  by : (b : Bool) → nat_lt s t ≡ b → IsKnown o frames a t (Some s)
  by true e = inr (omega arith, ltb-true s t e, last.2, λ u from below. last.3 u from (omega (arith, below, low)))
  by false e = let same : s ≡ t = omega (arith, up, ltb-false s t e) in inl (ap (λ (n : ℕ). Some n) same)

there : (o : Opening) (frames : List Frame) (w : Watched) (place t : ℕ) (lasts : List (Option ℕ)) → length lasts ≡ w.count →
    AreLasts o frames w.address place lasts → IsLatest lasts (Some t) → (t < place) × ChangesSome o frames w t
there o frames w place t lasts count are latest =
    let among = latest.among in
    let last = subst (λ (x : Option ℕ). IsLastChange o frames (w.address + among.0) place x) among.2 (are among.0 among.1) in
    (last.1, record { k = among.0; within = omega (arith, among.1, count); changes = last.2 })

-- the latest of the last changes is the last change of one of them
pub last_of : (o : Opening) (frames : List Frame) (w : Watched) (place : ℕ) (lasts : List (Option ℕ)) (found : Option ℕ) →
    length lasts ≡ w.count → AreLasts o frames w.address place lasts → IsLatest lasts found → IsLastOf o frames w place found
last_of o frames w place lasts None count are latest = λ k low.
    let within : k < length lasts = omega (arith, low, count) in
    none_below o frames (w.address + k) place (get_or lasts k None) (latest.most k within) (are k within)
last_of o frames w place lasts (Some t) count are latest =
    let here = there o frames w place t lasts count are latest in (
      here.0,
      here.1,
      λ k low.
          let within : k < length lasts = omega (arith, low, count) in
          none_past o frames (w.address + k) place t (get_or lasts k None) (latest.most k within) (are k within),
    )

-- and below it those that don't change there are still the last ones
pub still_known : (o : Opening) (frames : List Frame) (w : Watched) (place t : ℕ) (lasts : List (Option ℕ)) → length lasts ≡ w.count →
    AreLasts o frames w.address place lasts → IsLatest lasts (Some t) → AreKnown o frames w.address t lasts
still_known o frames w place t lasts count are latest k low =
    let here = there o frames w place t lasts count are latest in
    known_at o frames (w.address + k) place t (get_or lasts k None) here.0 (latest.most k low) (are k low)
