-- Records that may come to what is kept of those before them.
use Rattle.std.specs.Prelude.{◌≡◌, List, length}
use Rattle.rrv_model.specs.declared.record.Record.{Record}
use Rattle.replayer.specs.Standings.{Standing}
use Rattle.spans.specs.Spans.{LeadAlong}

-- they lead on from where as many records stand as there is something kept of
pub record MayCome (IsOf : List Record → Type 0) (records : List Record) : Type 0 where
  pub read : List Record
  pub kept : IsOf read
  pub x : Standing
  pub y : Standing
  pub lead : LeadAlong records x y
  pub len : x.len ≡ length read
