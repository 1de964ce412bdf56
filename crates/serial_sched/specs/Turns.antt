-- Whose turn comes next.
use Rattle.std.specs.Prelude.{◌≡◌, ℕ, ◌+◌, ◌^◌, ◌≤◌, nat_lt, if◌then◌else◌, Bool, false, true, List, [], ◌∷◌, slice_index, Option, Some, None, Contains, EachIndex}
use Rattle.rrv_model.specs.declared.record.Choice.{Choice}
use Rattle.serial_sched.specs.Slices.{IsQuantum}

-- the threads above the last one come first, by rising tid, and then the others
abbrev pub turn : ℕ → ℕ → ℕ
turn last tid = if nat_lt last tid then tid else tid + 2 ^ 32

-- the choices of a list that are left, and whether one didn't fit
pub record Listing : Type 0 where
  pub left : List Choice
  pub done : Bool

-- the choice is of a runnable thread, with a quantum within the limits
abbrev pub CanChoose : List ℕ → Choice → Type 0
CanChoose runnable choice = Contains runnable choice.tid × IsQuantum choice.quantum

-- no choice is left, or the next one doesn't fit
abbrev pub IsCutShort : List ℕ → List Choice → Type 0
IsCutShort runnable [] = Unit {0}
IsCutShort runnable (choice ∷ left) = ¬ CanChoose runnable choice

-- the runnable thread whose turn comes first behind the last one, for a quantum
pub record IsTurn (quantum last : ℕ) (runnable : List ℕ) (choice : Choice) : Type 0 where
  pub among : Contains runnable choice.tid
  pub least : EachIndex runnable (λ k. turn last choice.tid ≤ turn last (slice_index runnable k))
  pub quantum_is : choice.quantum ≡ quantum

-- it is this thread's turn, which is the last one then
abbrev pub GivesTurn : (quantum last : ℕ) → List ℕ → Option Choice → (quantum' last' : ℕ) → Type 0
GivesTurn quantum last runnable None quantum' last' = ⊥
GivesTurn quantum last runnable (Some choice) quantum' last' =
    IsTurn quantum last runnable choice × (quantum' ≡ quantum) × (last' ≡ choice.tid)

-- what is chosen of a list: its next choice, or nothing, once that doesn't fit
abbrev pub ChoosesListed : List ℕ → Listing → Option Choice → Listing → Type 0
ChoosesListed runnable old (Some choice) new =
    CanChoose runnable choice × (old ≡ record { left = choice ∷ new.left; done = false }) × (new.done ≡ false)
ChoosesListed runnable old None new =
    (old.done ≡ false → IsCutShort runnable old.left) × (new ≡ record old { done = true })
