-- A core file.
use Rattle.std.proofs.Common.{◌≡◌, ℕ, ◌<◌, List, Option, subst}
use Rattle.std.specs.Io.KnownBytes.{Appends}
use Rattle.rrv_model.specs.State.{State}
use Rattle.rrv_model.specs.StateAt.{StateAt, total}
use Rattle.core_file.specs.Core.{core_of}
use Rattle.replayer.specs.Verified.{VerifiedValue}
use Rattle.asking.specs.Places.{RunsNext, shown_place}

pub core_written : (v v' : VerifiedValue) (place at first : ℕ) (s : State) (core : List ℕ) (a b : Option (List ℕ)) → v ≡ v' → at ≡ place
    → (0 < total v'.frames → RunsNext v'.frames (shown_place (total v'.frames) at) first) → StateAt v.opening v.frames place s
    → core ≡ core_of first s → Appends a b core
    → (x : ℕ) × (y : State) × (0 < total v'.frames → RunsNext v'.frames (shown_place (total v'.frames) place) x)
    × StateAt v'.opening v'.frames place y × Appends a b (core_of x y)
core_written v v' place at first s core a b same at_is shown is_at core_is written = (
  first,
  s,
  subst (λ (n : ℕ). 0 < total v'.frames → RunsNext v'.frames (shown_place (total v'.frames) n) first) at_is shown,
  subst (λ (x : VerifiedValue). StateAt x.opening x.frames place s) same is_at,
  subst (λ (l : List ℕ). Appends a b l) core_is written,
)
