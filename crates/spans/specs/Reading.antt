-- Records that a source gives, several at a time.
use Rattle.std.specs.Prelude.{◌≡◌, ◌≤◌, ℕ, ◌+◌, List, ◌++◌, length, take, slice_get, Some}
use Rattle.rrv_model.specs.declared.record.Record.{Record}
use Rattle.replayer.specs.Asked.{Sourcing}
use Rattle.replayer.specs.Following.{FollowingValue, standing_of}
use Rattle.replayer.specs.Standings.{IsReached}

-- so many records behind a place are the source's, in order
abbrev pub AreNext : List Record → ℕ → List Record → Type 0
AreNext records from batch = take (from + length batch) records ≡ take from records ++ batch

-- records from a place on, one at least
pub record Reads {S : Type 0} (source : Sourcing S) (from : ℕ) (batch : List Record) (at : S) : Type 0 where
  pub are : source.honest at → AreNext (source.records at) from batch
  pub within : from + length batch ≤ length (source.records at)
  pub some : 1 ≤ length batch

-- all records that a source gave, which are those that it stands for if it is honest: they lead to where a guest stands, and
-- just these are kept
pub record FollowsAll {S K : Type 0} (source : Sourcing S) (IsOf : K → List Record → Type 0) (at : S) (first : Record)
    (end : FollowingValue) (kept : K) : Type 0 where
  pub read : List Record
  pub reached : IsReached (standing_of end) read
  pub keeps : IsOf kept read
  pub all : length read ≡ length (source.records at)
  pub are : source.honest at → slice_get (source.records at) 0 ≡ Some first → read ≡ source.records at
