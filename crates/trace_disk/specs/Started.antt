-- How a disk starts, and what a crash leaves of it.
use Rattle.std.specs.Prelude.{◌≡◌, ◌⊎◌, ◌<◌, ◌≤◌, get_or, ℕ, List, [], length}
use Rattle.store_model.specs.CrashModel.{Pending, DiskState, IsTouched, all_synced}

-- a disk that was started with these bytes, all of them synced
abbrev pub started_with : List ℕ → DiskState
started_with bytes = record { content = bytes; pending = all_synced bytes; past = [] }

abbrev pub empty_disk : DiskState
empty_disk = started_with []

-- A crash leaves so many bytes, of which each that it may change is `fill`.
pub record IsFilledCrash (pending : Pending) (count fill : ℕ) (bytes : List ℕ) : Type 0 where
  pub size : length bytes ≡ count
  pub kept : (place : ℕ) → place < pending.least → ¬ (IsTouched pending.touched place)
      → get_or bytes place 0 ≡ get_or pending.synced place 0
  pub free : (place : ℕ) → place < count → ((pending.least ≤ place) ⊎ IsTouched pending.touched place)
      → get_or bytes place 0 ≡ fill
