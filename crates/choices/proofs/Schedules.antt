-- What a schedule gives of one set of runnable threads after another.
use Rattle.std.proofs.Common.{◌≡◌, ◌∙◌, ℕ, zero, suc, ◌<◌, ◌≤◌, ◌^◌, inl, inr, List, [], ◌∷◌, length, take, drop, get_or, Option, Some, None, IfSome, refl, sym, ap, subst, arith}
use Rattle.std.specs.Prelude.{Contains}
use Rattle.std.proofs.lemmas.Bool.Decides.{nat_tests}
use Rattle.rrv_model.specs.declared.record.Choice.{Choice}
use Rattle.serial_sched.specs.Turns.{turn, IsTurn}
use Rattle.choices.specs.declared.schedule.Misfit.{Misfit}
use Rattle.choices.specs.Schedule.{Plan, AreBehind, AreTurns, Chooses, ChoosesInTurn, EmptyListIsTurns, IsOver, IsSchedule, OneTurn, SchedulesAreLists, TakesListed, TakesNone, TakesTurn, first_misfit, last_tid, plan, refused}

-- ---- behind the list

-- nothing more is taken of the list
abbrev pub NoMore : Option Misfit → List Choice → Type 0
NoMore None left = left ≡ []
NoMore (Some misfit) left = Unit {0}

no_more_behind : (misfit : Option Misfit) (left : List Choice) (taken : ℕ) → NoMore (first_misfit misfit left taken) left
no_more_behind None [] taken = refl
no_more_behind None (choice ∷ left) taken = tt
no_more_behind (Some misfit) left taken = tt

refused_no_more : (p : Plan) → NoMore (refused p).misfit (refused p).left
refused_no_more p = no_more_behind p.misfit p.left p.taken

none_taken : (misfit : Option Misfit) (choice : Choice) (left more : List Choice) → NoMore misfit left → misfit ≡ None →
    left ≡ choice ∷ more → ⊥
none_taken None choice left more none unrefused next = cc
none_taken (Some misfit) choice left more none unrefused next = cc

-- what is chosen, but for a choice of the list
abbrev pub Beyond : List ℕ → Plan → Option Choice → Plan → Type 0
Beyond runnable old (Some choice) new = TakesTurn runnable old choice new
Beyond runnable old None new = TakesNone runnable old new

beyond : (runnable : List ℕ) (old : Plan) (outcome : Option Choice) (new : Plan) → NoMore old.misfit old.left →
    Chooses runnable old outcome new →
    Beyond runnable old outcome new
beyond runnable old None new none chosen = chosen
beyond runnable old (Some choice) new none (inl listed) =
    absurd (none_taken old.misfit choice old.left new.left none listed.unrefused listed.next)
beyond runnable old (Some choice) new none (inr turn) = turn

no_more_after : (runnable : List ℕ) (old : Plan) (outcome : Option Choice) (new : Plan) → Beyond runnable old outcome new →
    NoMore new.misfit new.left
no_more_after runnable old None new taken = subst (λ (p : Plan). NoMore p.misfit p.left) (sym taken.new_is) (refused_no_more old)
no_more_after runnable old (Some choice) new taken = subst (λ (p : Plan). NoMore p.misfit p.left) (sym taken.new_is) (refused_no_more old)

same_turns : (runnable : List ℕ) (old : Plan) (outcome : Option Choice) (new : Plan) → Beyond runnable old outcome new →
    new.turns ≡ old.turns
same_turns runnable old None new taken = ap (λ (p : Plan). p.turns) taken.new_is
same_turns runnable old (Some choice) new taken = ap (λ (p : Plan). p.turns) taken.new_is

one_behind : (turns : Option ℕ) (runnable : List ℕ) (more : List (List ℕ)) (old : Plan) (outcome : Option Choice) (new : Plan)
    (others : List (Option Choice)) →
    old.turns ≡ turns → Beyond runnable old outcome new → AreBehind turns new.last more others →
    AreBehind turns old.last (runnable ∷ more) (outcome ∷ others)
one_behind None runnable more old None new others is taken rest = ap (λ (l : List (Option Choice)). None ∷ l) rest
one_behind None runnable more old (Some choice) new others is taken rest = absurd (taken.some is)
one_behind (Some quantum) runnable more old None new others is taken rest = let none = taken.nothing in absurd cc
one_behind (Some quantum) runnable more old (Some choice) new others is taken rest = (
  choice,
  others,
  refl,
  subst (λ (t : Option ℕ). IfSome t (λ q. IsTurn q old.last runnable choice)) is taken.turns,
  subst (λ (tid : ℕ). AreTurns quantum tid more others) (ap (λ (p : Plan). p.last) taken.new_is) rest,
)

none_behind : (turns : Option ℕ) (last : ℕ) (outcomes : List (Option Choice)) → outcomes ≡ [] → AreBehind turns last [] outcomes
none_behind None last outcomes e = e
none_behind (Some quantum) last outcomes e = e

all_behind : (turns : Option ℕ) (runnables : List (List ℕ)) (old : Plan) (outcomes : List (Option Choice)) → old.turns ≡ turns →
    NoMore old.misfit old.left → ChoosesInTurn runnables old outcomes → AreBehind turns old.last runnables outcomes
all_behind turns [] old outcomes is none chosen = none_behind turns old.last outcomes chosen
all_behind turns (runnable ∷ more) old outcomes is none (outcome, new, others, are, first, rest) =
    let taken = beyond runnable old outcome new none first in
    subst (AreBehind turns old.last (runnable ∷ more)) (sym are)
    (one_behind turns runnable more old outcome new others is taken
    (all_behind turns more new others (same_turns runnable old outcome new taken ∙ is) (no_more_after runnable old outcome new taken) rest))

-- ---- from the list on

-- no choice of the list is taken
stopped : (runnable : List ℕ) (more : List (List ℕ)) (old : Plan) (outcome : Option Choice) (new : Plan)
    (others outcomes : List (Option Choice)) →
    old.misfit ≡ None → outcomes ≡ outcome ∷ others → IsOver runnable old.misfit old.left → Beyond runnable old outcome new →
    ChoosesInTurn more new others → IsSchedule old.left old.turns old.last (runnable ∷ more) outcomes
stopped runnable more old outcome new others outcomes unrefused are over taken rest = record {
  count = 0;
  listed = refl;
  fit = tt;
  stops = subst (λ (m : Option Misfit). IsOver runnable m old.left) unrefused over;
  behind =
      subst (AreBehind old.turns old.last (runnable ∷ more)) (sym are)
      (one_behind old.turns runnable more old outcome new others refl taken
      (all_behind old.turns more new others (same_turns runnable old outcome new taken) (no_more_after runnable old outcome new taken)
      rest));
}

-- the next choice of the list is taken
took : (runnable : List ℕ) (more : List (List ℕ)) (old : Plan) (choice : Choice) (new : Plan) (others outcomes : List (Option Choice)) →
    outcomes ≡ Some choice ∷ others → TakesListed runnable old choice new → IsSchedule new.left new.turns new.last more others →
    IsSchedule old.left old.turns old.last (runnable ∷ more) outcomes
took runnable more old choice new others outcomes are listed rest =
    subst (λ (list : List Choice). IsSchedule list old.turns old.last (runnable ∷ more) outcomes) (sym listed.next)
    (subst (IsSchedule (choice ∷ new.left) old.turns old.last (runnable ∷ more)) (sym are) (record {
      count = suc rest.count;
      listed = ap (λ (l : List (Option Choice)). Some choice ∷ l) rest.listed;
      fit = (listed.fits, rest.fit);
      stops = rest.stops;
      behind =
          subst (λ (turns : Option ℕ). AreBehind turns (last_tid choice.tid (take rest.count new.left)) (drop rest.count more)
          (drop rest.count others))
          (ap (λ (p : Plan). p.turns) listed.new_is)
          (subst (λ (tid : ℕ). AreBehind new.turns (last_tid tid (take rest.count new.left)) (drop rest.count more)
          (drop rest.count others))
          (ap (λ (p : Plan). p.last) listed.new_is) rest.behind);
    }))

from_plan : (runnables : List (List ℕ)) (old : Plan) (outcomes : List (Option Choice)) → old.misfit ≡ None →
    ChoosesInTurn runnables old outcomes →
    IsSchedule old.left old.turns old.last runnables outcomes
from_plan [] old outcomes unrefused chosen = record {
  count = 0;
  listed = refl;
  fit = tt;
  stops = tt;
  behind = none_behind old.turns old.last outcomes chosen;
}
from_plan (runnable ∷ more) old outcomes unrefused (None, new, others, are, taken, rest) =
    stopped runnable more old None new others outcomes unrefused are taken.over taken rest
from_plan (runnable ∷ more) old outcomes unrefused (Some choice, new, others, are, inr taken, rest) =
    stopped runnable more old (Some choice) new others outcomes unrefused are taken.over taken rest
from_plan (runnable ∷ more) old outcomes unrefused (Some choice, new, others, are, inl taken, rest) =
    took runnable more old choice new others outcomes are taken
    (from_plan more new others (ap (λ (p : Plan). p.misfit) taken.new_is ∙ unrefused) rest)

pub schedules_are_lists : SchedulesAreLists
schedules_are_lists list turns runnables outcomes chosen = from_plan runnables (plan list turns) outcomes refl chosen

pub empty_list_is_turns : EmptyListIsTurns
empty_list_is_turns quantum runnables outcomes chosen =
    all_behind (Some quantum) runnables (plan [] (Some quantum)) outcomes refl refl chosen

-- ---- one turn

one_tid : (last a b : ℕ) → a < 2 ^ 32 → b < 2 ^ 32 → turn last a ≤ turn last b → turn last b ≤ turn last a → a ≡ b
one_tid last a b low low' first second = grind (arith, nat_tests)

pub get_or_any : (xs : List ℕ) (k d e : ℕ) → k < length xs → get_or xs k d ≡ get_or xs k e
get_or_any [] k d e low = absurd (omega arith)
get_or_any (x ∷ xs) zero d e low = refl
get_or_any (x ∷ xs) (suc k) d e low = get_or_any xs k d e (omega arith)

turn_before : (quantum last : ℕ) (runnable : List ℕ) (choice : Choice) (tid : ℕ) → IsTurn quantum last runnable choice →
    Contains runnable tid →
    turn last choice.tid ≤ turn last tid
turn_before quantum last runnable choice tid is (k, low, at) =
    subst (λ (t : ℕ). turn last choice.tid ≤ turn last t) (get_or_any runnable k 0 tid low ∙ at) (is.least k low)

pub one_turn : OneTurn
one_turn quantum last runnable choice other small is is' =
    let same : choice.tid ≡ other.tid =
    one_tid last choice.tid other.tid (low_at choice is) (low_at other is')
    (turn_before quantum last runnable choice other.tid is is'.among) (turn_before quantum last runnable other choice.tid is' is.among) in
    let quantums : choice.quantum ≡ other.quantum = is.quantum_is ∙ sym is'.quantum_is in
    λ i. record { tid = same i; quantum = quantums i }
  where
    low_at : (c : Choice) → IsTurn quantum last runnable c → c.tid < 2 ^ 32
    low_at c t = let k = t.among in subst (λ (tid : ℕ). tid < 2 ^ 32) k.2 (small k.0 c.tid k.1)
