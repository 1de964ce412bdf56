-- What asking a source for records leaves of it.
use Rattle.std.specs.Prelude.{◌≡◌, ◌↔◌, ◌||◌, Result, IfErr}
use Rattle.faults.specs.declared.replay.VerifyFault.{VerifyFault}
use Rattle.replayer.specs.declared.source.Source.{Ghosts}
use Rattle.replayer.specs.Sourced.{NamesWithheld, ends_withheld}

-- what a type of sources says of each of them
abbrev pub Sourcing : Type 0 → Type 1
Sourcing S = Ghosts S

-- a record that a source withheld is counted, and named
pub record TellsSource {S X : Type 0} (source : Sourcing S) (result : Result X VerifyFault) (old new : S) : Type 0 where
  pub withheld : source.withheld new ≡ (ends_withheld result || source.withheld old)
  pub names : IfErr result (NamesWithheld source.withheld_at new)

-- so it is by asking a source for a record, which stands for the same records then
pub record AsksSource {S X : Type 0} (source : Sourcing S) (result : Result X VerifyFault) (old new : S) : Type 0 where
  pub records : source.records new ≡ source.records old
  pub honest : source.honest new ↔ source.honest old
  pub told : TellsSource source result old new
