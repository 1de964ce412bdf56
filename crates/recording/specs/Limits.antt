-- A schedule that ends at a limit of instructions.
use Rattle.std.specs.Prelude.{◌≡◌, ◌⊎◌, ◌≤◌, ℕ, Bool, true, false, List, Option, Some, None}
use Rattle.choices.specs.Schedule.{Chooses, Plan}
use Rattle.rrv_model.specs.declared.machine.Version.{Version}
use Rattle.rrv_model.specs.declared.machine.Version.TheVariants.{One, Two}
use Rattle.rrv_model.specs.declared.record.Choice.{Choice}
use Rattle.serial_sched.specs.Turns.{CanChoose}

-- what contracts see of it: the schedule, the limit if there is one, whether that was reached, whether waits may end because their time is
-- over, and the choice that was given last
pub record Limit : Type 0 where
  pub plan : Plan
  pub limit : Option ℕ
  pub is_over : Bool
  pub expires : Bool
  pub given : Option Choice

-- waits of a guest may end because their time is over
abbrev pub may_expire : Version → Bool
may_expire One = false
may_expire Two = true

-- it has no choice left
abbrev pub IsOver : Limit → Type 0
IsOver l = (l.is_over ≡ true) ⊎ (l.plan.done ≡ true)

-- the limit stays, and whether it was reached
abbrev pub IsSameLimit : Limit → Limit → Type 0
IsSameLimit old new = (new.limit ≡ old.limit) × (new.is_over ≡ old.is_over) × (new.expires ≡ old.expires)

-- with a limit: a choice of the schedule, for as many instructions or for fewer; or nothing, as the schedule, or since the limit is reached
abbrev pub ChoosesUpTo : List ℕ → Limit → Option Choice → Limit → Type 0
ChoosesUpTo runnable old (Some choice) new =
    (whole : Choice) × Chooses runnable old.plan (Some whole) new.plan × (choice.tid ≡ whole.tid) × (choice.quantum ≤ whole.quantum)
    × IsSameLimit old new
ChoosesUpTo runnable old None new =
    (Chooses runnable old.plan None new.plan × IsSameLimit old new) ⊎ (new ≡ record old { is_over = true })

-- what is chosen anew: without a limit just what the schedule chooses
abbrev pub chooses_by : Option ℕ → List ℕ → Limit → Option Choice → Limit → Type 0
chooses_by None runnable old outcome new = Chooses runnable old.plan outcome new.plan × IsSameLimit old new
chooses_by (Some limit) runnable old outcome new = ChoosesUpTo runnable old outcome new

-- the choice that was given last can be given again, if a wait may have ended in its place
pub record IsAgain (runnable : List ℕ) (l : Limit) (choice : Choice) : Type 0 where
  pub expires : l.expires ≡ true
  pub goes_on : l.plan.done ≡ false
  pub given : l.given ≡ Some choice
  pub fits : CanChoose runnable choice

abbrev pub GivesAgain : List ℕ → Limit → Option Choice → Limit → Type 0
GivesAgain runnable old (Some choice) new = IsAgain runnable old choice × (new ≡ old)
GivesAgain runnable old None new = ⊥

-- what is chosen: the last choice again, or what is chosen anew
abbrev pub ChoosesWithin : List ℕ → Limit → Option Choice → Limit → Type 0
ChoosesWithin runnable old outcome new = GivesAgain runnable old outcome new ⊎ chooses_by old.limit runnable old outcome new
