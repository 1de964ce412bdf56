-- How a replay goes from record to record.
use Rattle.std.specs.Prelude.{◌≡◌, ℕ, List}
use Rattle.rrv_model.specs.declared.record.Part.{Part}
use Rattle.rrv_model.specs.declared.record.Record.{Record}
use Rattle.rrv_model.specs.State.{State}
use Rattle.rrv_model.specs.Recording.{IsNumbered, items_of}
use Rattle.rrv_model.specs.Standing.{Leads, StandsBehind}

-- the records are this guest's, and behind them stand these
pub record Stands (guest : ℕ) (records : List Record) (base : State) (row : List Part) (s : State) : Type 0 where
  pub numbered : IsNumbered guest 0 records
  pub behind : StandsBehind (items_of records) base row s

-- a record leads on: it is this guest's of this index, and its item leads on
pub record LeadsOn (guest index : ℕ) (r : Record) (base : State) (row : List Part) (s base' : State)
    (row' : List Part) (s' : State) : Type 0 where
  pub guest_is : r.guest ≡ guest
  pub index_is : r.index ≡ index
  pub leads : Leads r.item base row s base' row' s'
