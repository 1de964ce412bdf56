-- What contracts see of a cursor.
use Rattle.std.specs.Prelude.{ℕ}
use Rattle.guest_calls.specs.Guest.{GuestValue}
use Rattle.replayer.specs.Verified.{VerifiedValue}

-- the recording, the place, and the guest there
pub record CursorValue : Type 0 where
  pub verified : VerifiedValue
  pub place : ℕ
  pub guest : GuestValue
