-- What contracts see of a guest that follows records, and of what it keeps beside it.
use Rattle.std.specs.Prelude.{◌≡◌, ℕ, Some}
use Rattle.guest_calls.specs.Guest.{GuestValue, state_of}
use Rattle.guest_calls.specs.Snapshots.{guest_snapshots}

-- the guest, and the guest of the last complete checkpoint, or of the opening
pub record PairValue : Type 0 where
  pub guest : GuestValue
  pub base : GuestValue

-- under this token a guest keeps the memory of a base, which has the same version and opening break
pub record KeepsBase (guest base : GuestValue) (token : ℕ) : Type 0 where
  pub memory : guest_snapshots guest token ≡ Some (state_of base).memory
  pub version : (state_of base).version ≡ (state_of guest).version
  pub opening_break : (state_of base).opening_break ≡ (state_of guest).opening_break
