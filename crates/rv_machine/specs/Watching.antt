-- Steps over which a byte is watched.
use Rattle.std.specs.Prelude.{◌≡◌, ◌≢◌, ℕ, zero, suc, Option}
use Rattle.std.specs.Option.{option_map}
use Rattle.rrv_model.specs.Memory.{Memory}
use Rattle.rrv_model.specs.Step.{Hart, HartStep, Next}
use Rattle.rv_machine.specs.declared.watching.Watch.{Watch}

-- the byte at an address, if there is one
abbrev pub byte_of : Memory → ℕ → Option ℕ
byte_of m a = option_map (λ c. c.byte) (m a)

-- the steps up to the last that changes a byte, with step n: these and n if it changes the byte, else as many as before
pub record Notes (before after : Option ℕ) (n changed later : ℕ) : Type 0 where
  pub same : before ≡ after → later ≡ changed
  pub differs : before ≢ after → later ≡ n

-- so many steps, and how many of them there are up to the last that changes a byte; 0 if none does
unfoldable pub WatchedSteps : {S : Type 0} → (S → S → Type 0) → (S → Option ℕ) → ℕ → S → ℕ → S → Type 0
WatchedSteps step byte zero old changed new = (changed ≡ 0) × (new ≡ old)
WatchedSteps {S = S} step byte (suc n) old changed new =
    (mid : S) × (before : ℕ) × WatchedSteps step byte n old before mid × step mid new
    × Notes (byte mid) (byte new) (suc n) before changed

-- so of a hart's plain steps
abbrev pub HartWatched : ℕ → ℕ → Hart → ℕ → Hart → Type 0
HartWatched a n old changed new = WatchedSteps (λ h later. HartStep h (Next later)) (λ h. byte_of h.memory a) n old changed new

-- a watch that began at one hart, at another, so many steps on
pub record IsWatched (watch : Watch) (count : ℕ) (first now : Hart) : Type 0 where
  pub steps : HartWatched watch.address count first watch.changed now
  pub byte : watch.byte ≡ byte_of now.memory watch.address

-- a look at a memory after so many steps
pub record Looks (m : Memory) (count : ℕ) (old new : Watch) : Type 0 where
  pub address : new.address ≡ old.address
  pub byte : new.byte ≡ byte_of m old.address
  pub notes : Notes old.byte new.byte count old.changed new.changed
