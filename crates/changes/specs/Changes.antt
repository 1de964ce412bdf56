-- The changes of some bytes of a recorded guest, one before the other.
use Rattle.std.specs.Prelude.{◌≡◌, ◌⊎◌, ℕ, ◌+◌, ◌<◌, ◌≤◌, List, [], ◌∷◌, Option, Some, None, if◌then◌else◌, length, get_or, nat_lt, IfSome}
use Rattle.command_line.specs.declared.request.Watched.{Watched}
use Rattle.replayer.specs.Changes.{ChangesAt, NoneIn}
use Rattle.replayer.specs.Verified.{VerifiedValue}
use Rattle.reverse_step.specs.Changes.{IsLastChange}
use Rattle.rrv_model.specs.declared.record.Frame.{Frame}
use Rattle.rrv_model.specs.declared.record.Opening.{Opening}
use Rattle.rrv_model.specs.State.{State}
use Rattle.rrv_model.specs.StateAt.{StateAt}
use Rattle.changes.specs.Texts.{value_text}

-- ---- changes of bytes

-- instruction t changes one of the watched bytes
pub record ChangesSome (o : Opening) (frames : List Frame) (w : Watched) (t : ℕ) : Type 0 where
  pub k : ℕ
  pub within : k < w.count
  pub changes : ChangesAt o frames (w.address + k) t

-- none from a start on and below an end changes one of them
abbrev pub NoneOf : Opening → List Frame → Watched → ℕ → ℕ → Type 0
NoneOf o frames w start end = (k : ℕ) → k < w.count → NoneIn o frames (w.address + k) start end

-- the last instruction below a place that changes one of them, if any
abbrev pub IsLastOf : Opening → List Frame → Watched → ℕ → Option ℕ → Type 0
IsLastOf o frames w place None = NoneOf o frames w 0 place
IsLastOf o frames w place (Some t) = (t < place) × ChangesSome o frames w t × NoneOf o frames w (t + 1) place

-- from a place back to another by these changes, each the last one below the place before it
abbrev pub LeadsBack : Opening → List Frame → Watched → ℕ → List ℕ → ℕ → Type 0
LeadsBack o frames w from [] to = to ≡ from
LeadsBack o frames w from (t ∷ earlier) to = IsLastOf o frames w from (Some t) × LeadsBack o frames w t earlier to

-- the last changes below a place, the last first: so many, or fewer if there are no more
pub record AreLastChanges (o : Opening) (frames : List Frame) (w : Watched) (times from : ℕ) (found : List ℕ) : Type 0 where
  pub to : ℕ
  pub leads : LeadsBack o frames w from found to
  pub most : length found ≤ times
  pub all : length found < times → IsLastOf o frames w to None

-- ---- what a search knows

-- the last change of each byte from an address on, below a place
abbrev pub AreLasts : Opening → List Frame → ℕ → ℕ → List (Option ℕ) → Type 0
AreLasts o frames a place lasts = (k : ℕ) → k < length lasts → IsLastChange o frames (a + k) place (get_or lasts k None)

-- the last change of a byte below a place, or the place itself, below which it is then to be looked for
abbrev pub IsKnown : Opening → List Frame → ℕ → ℕ → Option ℕ → Type 0
IsKnown o frames a place known = (known ≡ Some place) ⊎ IsLastChange o frames a place known

-- so of each byte from an address on
abbrev pub AreKnown : Opening → List Frame → ℕ → ℕ → List (Option ℕ) → Type 0
AreKnown o frames a place lasts = (k : ℕ) → k < length lasts → IsKnown o frames (a + k) place (get_or lasts k None)

-- no place, or one up to another
abbrev pub IsUpTo : Option ℕ → Option ℕ → Type 0
IsUpTo None found = Unit {0}
IsUpTo (Some u) None = ⊥
IsUpTo (Some u) (Some t) = u ≤ t

-- the later of two places
abbrev pub later : Option ℕ → Option ℕ → Option ℕ
later None other = other
later (Some t) None = Some t
later (Some t) (Some u) = if nat_lt t u then Some u else Some t

-- one of these places, the latest, if there is one
pub record IsLatest (places : List (Option ℕ)) (found : Option ℕ) : Type 0 where
  pub among : IfSome found (λ t. (k : ℕ) × (k < length places) × (get_or places k None ≡ Some t))
  pub most : (k : ℕ) → k < length places → IsUpTo (get_or places k None) found

-- the last change below a place was found, at which a cursor then stands, and what is known there of each byte
pub record GoesTo (v : VerifiedValue) (w : Watched) (place at : ℕ) (lasts : List (Option ℕ)) (found : Option ℕ) : Type 0 where
  pub is_last : IsLastOf v.opening v.frames w place found
  pub is_at : IfSome found (λ t. at ≡ t)
  pub known : IfSome found (λ t. AreKnown v.opening v.frames w.address t lasts)

-- a text is the value of the watched bytes after the instruction at a place
pub record AfterIs (v : VerifiedValue) (w : Watched) (place : ℕ) (text : List ℕ) : Type 0 where
  pub state : State
  pub is_at : StateAt v.opening v.frames (place + 1) state
  pub text_is : text ≡ value_text state.memory w
