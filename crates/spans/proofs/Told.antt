-- What is told of a source.
use Rattle.std.proofs.Common.{◌≡◌, ◌↔◌, ℕ, List, Result, Ok, Err, Some, false, ◌||◌, refl, sym, ◌∙◌, ap, subst}
use Rattle.std.specs.Prelude.{slice_get}
use Rattle.rrv_model.specs.declared.record.Record.{Record}
use Rattle.faults.specs.declared.replay.VerifyFault.{VerifyFault}
use Rattle.faults.specs.declared.replay.VerifyFault.TheVariants as faults
use Rattle.replayer.specs.Asked.{AsksSource, Sourcing, TellsSource}
use Rattle.replayer.specs.Refusals.{RefusesFirst}
use Rattle.replayer.specs.Sourced.{NamesWithheld, ends_withheld, is_unreadable}
use Rattle.replayer.specs.Standings.{Standing}
use Rattle.spans.specs.Spans.{StopsAlong}

-- records that were read are not withheld
pub stopped_known : (e : VerifyFault) (records : List Record) (x : Standing) → StopsAlong e records x → is_unreadable e ≡ false
stopped_known (faults.Unreadable index) records x stops = absurd stops.refuses
stopped_known (faults.Mismatch index) records x stops = refl
stopped_known (faults.BadCheckpoint index) records x stops = refl
stopped_known faults.BadOpening records x stops = refl
stopped_known faults.Memory records x stops = refl

names_none : {S : Type 0} (withheld_at : S → ℕ → Type 0) (at : S) (e : VerifyFault) → is_unreadable e ≡ false →
    NamesWithheld withheld_at at e
names_none withheld_at at (faults.Unreadable index) known = absurd cc
names_none withheld_at at (faults.Mismatch index) known = tt
names_none withheld_at at (faults.BadCheckpoint index) known = tt
names_none withheld_at at faults.BadOpening known = tt
names_none withheld_at at faults.Memory known = tt

-- a refusal of what was read
pub tells_known : {S X : Type 0} (source : Sourcing S) (e : VerifyFault) (old new : S) → is_unreadable e ≡ false →
    source.withheld new ≡ source.withheld old → TellsSource {X = X} source (Err e) old new
tells_known source e old new known same = record {
  withheld = same ∙ ap (λ b. b || source.withheld old) (sym known);
  names = names_none source.withheld_at new e known;
}

-- what a later call told of a source, from where nothing more was withheld
pub tells_on : {S X Y : Type 0} (source : Sourcing S) (e : VerifyFault) (old mid new : S) → TellsSource {X = X} source (Err e) mid new →
    source.withheld mid ≡ source.withheld old → TellsSource {X = Y} source (Err e) old new
tells_on source e old mid new told same = record {
  withheld = told.withheld ∙ ap (λ b. is_unreadable e || b) same;
  names = told.names;
}

-- the first record was read
pub first_known : (e : VerifyFault) (first : Record) → RefusesFirst e first → is_unreadable e ≡ false
first_known (faults.Unreadable index) first refuses = absurd refuses
first_known (faults.Mismatch index) first refuses = refl
first_known (faults.BadCheckpoint index) first refuses = refl
first_known faults.BadOpening first refuses = refl
first_known faults.Memory first refuses = refl

-- ---- a source that stands for the same records, and has withheld no more

pub record SameSource {S : Type 0} (source : Sourcing S) (old new : S) : Type 0 where
  pub records : source.records new ≡ source.records old
  pub honest : source.honest new ↔ source.honest old
  pub withheld : source.withheld new ≡ source.withheld old

pub same_source : {S : Type 0} (source : Sourcing S) (at : S) → SameSource source at at
same_source source at = record { records = refl; honest = (λ h. h, λ h. h); withheld = refl }

pub same_on : {S : Type 0} (source : Sourcing S) (old mid new : S) → SameSource source old mid → SameSource source mid new →
    SameSource source old new
same_on source old mid new first next = record {
  records = next.records ∙ first.records;
  honest = (λ h. first.honest.0 (next.honest.0 h), λ h. next.honest.1 (first.honest.1 h));
  withheld = next.withheld ∙ first.withheld;
}

-- it gave what it was asked for
pub same_given : {S X : Type 0} (source : Sourcing S) (x : X) (old new : S) → AsksSource source (Ok x) old new → SameSource source old new
same_given source x old new asks = record { records = asks.records; honest = asks.honest; withheld = asks.told.withheld }

pub tells_ok : {S X : Type 0} (source : Sourcing S) (x : X) (old new : S) → SameSource source old new → TellsSource source (Ok x) old new
tells_ok source x old new same = record { withheld = same.withheld; names = tt }

pub asks_ok : {S X : Type 0} (source : Sourcing S) (x : X) (old new : S) → SameSource source old new → AsksSource source (Ok x) old new
asks_ok source x old new same = record { records = same.records; honest = same.honest; told = tells_ok source x old new same }

-- a refusal for which it is not to blame
pub tells_err : {S X : Type 0} (source : Sourcing S) (e : VerifyFault) (old new : S) → is_unreadable e ≡ false →
    SameSource source old new → TellsSource {X = X} source (Err e) old new
tells_err source e old new known same = tells_known source e old new known same.withheld

pub asks_err : {S X : Type 0} (source : Sourcing S) (e : VerifyFault) (old new : S) → is_unreadable e ≡ false →
    SameSource source old new → AsksSource {X = X} source (Err e) old new
asks_err source e old new known same = record {
  records = same.records;
  honest = same.honest;
  told = tells_err source e old new known same;
}

-- what a later call asked of a source that stood for the same records
pub asks_on : {S X Y : Type 0} (source : Sourcing S) (e : VerifyFault) (old mid new : S) → SameSource source old mid →
    AsksSource {X = X} source (Err e) mid new → AsksSource {X = Y} source (Err e) old new
asks_on source e old mid new same asks = record {
  records = asks.records ∙ same.records;
  honest = (λ h. same.honest.0 (asks.honest.0 h), λ h. asks.honest.1 (same.honest.1 h));
  told = tells_on source e old mid new asks.told same.withheld;
}

-- a record of the source is there still
pub still_there : {S : Type 0} (source : Sourcing S) (old new : S) (i : ℕ) (r : Record) → SameSource source old new →
    (source.honest new → slice_get (source.records new) i ≡ Some r) → source.honest old → slice_get (source.records old) i ≡ Some r
still_there source old new i r same there h =
    subst (λ (rs : List Record). slice_get rs i ≡ Some r) same.records (there (same.honest.1 h))

-- what reading a record ahead leaves of a source
pub same_ahead : {S : Type 0} (source : Sourcing S) (old mid new : S) → SameSource source old mid →
    source.records new ≡ source.records mid → source.honest new ↔ source.honest mid → source.withheld new ≡ source.withheld mid →
    SameSource source old new
same_ahead source old mid new same records honest withheld =
    same_on source old mid new same (record { records = records; honest = honest; withheld = withheld })

-- a call that goes on with a source, from where nothing more was withheld
pub told_behind : {S X : Type 0} (source : Sourcing S) (result : Result X VerifyFault) (old mid new : S) →
    SameSource source old mid → TellsSource source result mid new → TellsSource source result old new
told_behind source result old mid new same told = record {
  withheld = told.withheld ∙ ap (λ b. ends_withheld result || b) same.withheld;
  names = told.names;
}
