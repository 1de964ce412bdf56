-- A schedule: the choices of a list while they fit, and then turns, or nothing.
use Rattle.std.specs.Prelude.{◌≡◌, ◌⊎◌, ℕ, ◌+◌, ◌<◌, ◌≤◌, ◌^◌, Bool, true, false, List, [], ◌∷◌, length, map, take, drop, Option, Some, None, IfSome, All}
use Rattle.rrv_model.specs.declared.record.Choice.{Choice}
use Rattle.serial_sched.specs.Slices.{IsQuantum}
use Rattle.serial_sched.specs.Turns.{CanChoose, IsCutShort, IsTurn}
use Rattle.choices.specs.declared.schedule.Misfit.{Misfit}

-- What contracts see of a schedule: the choices of the list that are left, how many were taken, the first that didn't
-- fit, the quantum of the turns that go on behind the list, who was chosen last, or 0, and whether nothing is left.
pub record Plan : Type 0 where
  pub left : List Choice
  pub taken : ℕ
  pub misfit : Option Misfit
  pub turns : Option ℕ
  pub last : ℕ
  pub done : Bool

-- what is true of a schedule's fields
pub record IsPlan (list : List Choice) (taken : ℕ) (misfit : Option Misfit) (turns : Option ℕ) (done : Bool) :
    Type 0 where
  pub within : taken ≤ length list
  pub quantum : IfSome turns IsQuantum
  pub nothing : done ≡ true → turns ≡ None
  pub over : done ≡ true → misfit ≡ None → drop taken list ≡ []

-- before the first choice
abbrev pub plan : List Choice → Option ℕ → Plan
plan list turns = record { left = list; taken = 0; misfit = None; turns = turns; last = 0; done = false }

-- the next choice of the list is taken
pub record TakesListed (runnable : List ℕ) (old : Plan) (choice : Choice) (new : Plan) : Type 0 where
  pub unrefused : old.misfit ≡ None
  pub next : old.left ≡ choice ∷ new.left
  pub fits : CanChoose runnable choice
  pub new_is : new ≡ record old { left = new.left; taken = old.taken + 1; last = choice.tid }

-- a choice didn't fit, or none is left that fits
abbrev pub IsOver : List ℕ → Option Misfit → List Choice → Type 0
IsOver runnable None left = IsCutShort runnable left
IsOver runnable (Some misfit) left = Unit {0}

-- the first choice that didn't fit, where the next one doesn't
abbrev pub first_misfit : Option Misfit → List Choice → ℕ → Option Misfit
first_misfit None [] taken = None
first_misfit None (choice ∷ left) taken = Some (record { index = taken; tid = choice.tid })
first_misfit (Some misfit) left taken = Some misfit

abbrev pub refused : Plan → Plan
refused p = record p { misfit = first_misfit p.misfit p.left p.taken }

-- the list is over, and it is this thread's turn
pub record TakesTurn (runnable : List ℕ) (old : Plan) (choice : Choice) (new : Plan) : Type 0 where
  pub over : IsOver runnable old.misfit old.left
  pub turns : IfSome old.turns (λ quantum. IsTurn quantum old.last runnable choice)
  pub some : ¬ (old.turns ≡ None)
  pub new_is : new ≡ record (refused old) { last = choice.tid }

-- the list is over, and no turns go on
pub record TakesNone (runnable : List ℕ) (old new : Plan) : Type 0 where
  pub over : IsOver runnable old.misfit old.left
  pub nothing : old.turns ≡ None
  pub new_is : new ≡ record (refused old) { done = true }

-- what is chosen of the runnable threads, and how the schedule goes on
abbrev pub Chooses : List ℕ → Plan → Option Choice → Plan → Type 0
Chooses runnable old (Some choice) new = TakesListed runnable old choice new ⊎ TakesTurn runnable old choice new
Chooses runnable old None new = TakesNone runnable old new

-- ---- law

-- what is chosen of one set of runnable threads after another
abbrev pub ChoosesInTurn : List (List ℕ) → Plan → List (Option Choice) → Type 0
ChoosesInTurn [] old outcomes = outcomes ≡ []
ChoosesInTurn (runnable ∷ more) old outcomes =
    (outcome : Option Choice) × (new : Plan) × (others : List (Option Choice)) × (outcomes ≡ outcome ∷ others)
    × Chooses runnable old outcome new × ChoosesInTurn more new others

-- one turn after another
abbrev pub AreTurns : ℕ → ℕ → List (List ℕ) → List (Option Choice) → Type 0
AreTurns quantum last [] outcomes = outcomes ≡ []
AreTurns quantum last (runnable ∷ more) outcomes =
    (choice : Choice) × (others : List (Option Choice)) × (outcomes ≡ Some choice ∷ others)
    × IsTurn quantum last runnable choice × AreTurns quantum choice.tid more others

-- what is chosen behind the list
abbrev pub AreBehind : Option ℕ → ℕ → List (List ℕ) → List (Option Choice) → Type 0
AreBehind None last runnables outcomes = outcomes ≡ map (λ _. None) runnables
AreBehind (Some quantum) last runnables outcomes = AreTurns quantum last runnables outcomes

-- the tid of the last choice of a list, or this one where it is empty
abbrev pub last_tid : ℕ → List Choice → ℕ
last_tid last [] = last
last_tid last (choice ∷ left) = last_tid choice.tid left

-- each choice can be chosen of its runnable threads
abbrev pub AllFit : List (List ℕ) → List Choice → Type 0
AllFit runnables [] = Unit {0}
AllFit [] (choice ∷ left) = ⊥
AllFit (runnable ∷ more) (choice ∷ left) = CanChoose runnable choice × AllFit more left

-- the first of these threads, if any, can't be what the list chooses next
abbrev pub StopsAt : List (List ℕ) → List Choice → Type 0
StopsAt [] left = Unit {0}
StopsAt (runnable ∷ more) left = IsCutShort runnable left

-- The outcomes are the list's choices up to the first that doesn't fit, or to the end of the list, and then what comes
-- behind the last of these.
pub record IsSchedule (list : List Choice) (turns : Option ℕ) (last : ℕ) (runnables : List (List ℕ))
    (outcomes : List (Option Choice)) : Type 0 where
  pub count : ℕ
  pub listed : take count outcomes ≡ map Some (take count list)
  pub fit : AllFit runnables (take count list)
  pub stops : StopsAt (drop count runnables) (drop count list)
  pub behind : AreBehind turns (last_tid last (take count list)) (drop count runnables) (drop count outcomes)

abbrev pub SchedulesAreLists : Type 0
SchedulesAreLists =
    (list : List Choice) (turns : Option ℕ) (runnables : List (List ℕ)) (outcomes : List (Option Choice)) →
    ChoosesInTurn runnables (plan list turns) outcomes → IsSchedule list turns 0 runnables outcomes

-- with turns behind it, an empty list is turns from the least tid on
abbrev pub EmptyListIsTurns : Type 0
EmptyListIsTurns =
    (quantum : ℕ) (runnables : List (List ℕ)) (outcomes : List (Option Choice)) →
    ChoosesInTurn runnables (plan [] (Some quantum)) outcomes → AreTurns quantum 0 runnables outcomes

-- no two threads have their turn at once
abbrev pub OneTurn : Type 0
OneTurn =
    (quantum last : ℕ) (runnable : List ℕ) (choice other : Choice) → All (λ tid. tid < 2 ^ 32) runnable →
    IsTurn quantum last runnable choice → IsTurn quantum last runnable other → choice ≡ other
