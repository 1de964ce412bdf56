-- What contracts see of a claim.
use Rattle.std.specs.Prelude.{ℕ, List}
use Rattle.rrv_model.specs.declared.record.Part.{Part}
use Rattle.guest_calls.specs.Guest.{GuestValue, state_of}
use Rattle.replayer.specs.Standings.{Standing}

-- what it says of a standing, whose state it doesn't know
pub record ClaimValue : Type 0 where
  pub number : ℕ
  pub len : ℕ
  pub total : ℕ
  pub last : ℕ
  -- a guest in the state of the last checkpoint, or of the opening
  pub base : GuestValue
  pub row : List Part

-- the standing in the state of the last checkpoint
abbrev pub claimed_by : ClaimValue → Standing
claimed_by claim = record {
  number = claim.number;
  len = claim.len;
  total = claim.total;
  last = claim.last;
  base = state_of claim.base;
  row = claim.row;
  state = state_of claim.base;
}
