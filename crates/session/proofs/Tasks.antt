-- Lists of tasks, and of what came of them.
use Rattle.std.proofs.Common.{◌≡◌, ℕ, zero, suc, List, [], ◌∷◌, ◌++◌, map, ◌+◌, refl, sym, ap, ◌∙◌, append_assoc, arith, subst}
use Rattle.std.proofs.lemmas.List.{append-nil, map-append}
use Rattle.std.specs.Prelude.{slice_get, Some, MatchOption, unwrap_or, Option}
use Rattle.std.specs.List.{AllByRecursion}
use Rattle.guest_calls.specs.Guest.{GuestValue}
use Rattle.commit_group.specs.Seats.{AllNew, AllOf, GroupId, RecorderValue, new_seat}
use Rattle.session.specs.declared.task.Task.{Task}
use Rattle.session.specs.declared.task.Worked.{Worked}
use Rattle.session.specs.Pairs.{ArePairs}
use Rattle.session.specs.Openings.{StartsGuest}
use Rattle.session.specs.Tasks.{jobs_of, once, seats_of, seats_worked, states_worked}
use Rattle.session.specs.Works.{Choosers, Sinks, HasWorked, IsFresh}

-- ---- seats of one group

-- the seats are new, of the guests from this place on
abbrev pub AreFrom : ℕ → GroupId → List RecorderValue → Type 0
AreFrom n group seats = (k : ℕ) (r : RecorderValue) → slice_get seats k ≡ Some r → r ≡ new_seat group (n + k)

all_from : (group : GroupId) (seats : List RecorderValue) → AllNew group seats → AreFrom 0 group seats
all_from group seats new k r at = new k r at ∙ ap (λ m. new_seat group m) (omega arith)

from_next : (n : ℕ) (group : GroupId) (seat : RecorderValue) (seats : List RecorderValue) → AreFrom n group (seat ∷ seats) →
    AreFrom (suc n) group seats
from_next n group seat seats new k r at = new (suc k) r at ∙ ap (λ m. new_seat group m) (omega arith)

-- ---- what is passed on one by one

-- one more was passed on
pub one_passed : {X Y : Type 0} (part : X → Y) (front front' : List X) (x : X) (rest rest' all : List Y)
    → map part front ++ rest ≡ all → rest ≡ part x ∷ rest' → front' ≡ front ++ x ∷ [] → map part front' ++ rest' ≡ all
one_passed part front front' x rest rest' all e is now =
    ap (λ l. map part l ++ rest') now ∙ ap (λ l. l ++ rest') (map-append part front (x ∷ []))
    ∙ append_assoc (map part front) (part x ∷ []) rest' ∙ ap (λ l. map part front ++ l) (sym is) ∙ e

-- none is left
pub all_passed : {X Y : Type 0} (parts : List X → List Y) → parts [] ≡ [] → (passed : List Y) (rest : List X) (all : List Y) →
    passed ++ parts rest ≡ all → rest ≡ [] → passed ≡ all
all_passed parts none passed rest all e over = sym (append-nil passed) ∙ ap (λ l. passed ++ l) (sym (ap parts over ∙ none)) ∙ e

module _ {C O S : Type 0} where
  pub states_over : (states states' : List GuestValue) (w : Worked C O S) (rest rest' : List (Worked C O S)) (all : List GuestValue)
      → states ++ states_worked rest ≡ all → rest ≡ w ∷ rest' → states' ≡ states ++ once w.guest → states' ++ states_worked rest' ≡ all
  states_over states states' w rest rest' all e is now =
      ap (λ l. l ++ states_worked rest') now ∙ append_assoc states (once w.guest) (states_worked rest')
      ∙ ap (λ l. states ++ states_worked l) (sym is) ∙ e

  fresh_from : (n : ℕ) (group : GroupId) (tasks : List (Task C O S)) → AreFrom n group (seats_of tasks) →
      AllByRecursion StartsGuest (jobs_of tasks) → AllByRecursion IsFresh tasks
  fresh_from n group [] new starts = tt
  fresh_from n group (task ∷ tasks) new starts =
      let first = new 0 task.seat refl in (
        record {
          sent = ap (λ (r : RecorderValue). r.sent) first;
          seen = ap (λ (r : RecorderValue). r.seen) first;
          here = ap (λ (r : RecorderValue). r.has_left) first;
          accepted = starts.0.accepted;
          is_name = starts.0.named;
        },
        fresh_from (suc n) group tasks (from_next n group task.seat (seats_of tasks) new) starts.1,
      )

  pub all_fresh : (group : GroupId) (tasks : List (Task C O S)) → AllNew group (seats_of tasks) →
      AllByRecursion StartsGuest (jobs_of tasks) → AllByRecursion IsFresh tasks
  all_fresh group tasks new starts = fresh_from 0 group tasks (all_from group (seats_of tasks) new) starts

  module _ (choosers : Choosers C) (sinks : Sinks S) where
    of_from : (n : ℕ) (group : GroupId) (tasks : List (Task C O S)) (done : List (Worked C O S)) → AreFrom n group (seats_of tasks) →
        ArePairs (HasWorked choosers sinks) tasks done
        → (k : ℕ) (r : RecorderValue) → slice_get (seats_worked done) k ≡ Some r → (r.group ≡ group) × (r.guest ≡ n + k)
    of_from n group [] [] new pairs k r at = absurd (subst (λ (o : Option RecorderValue). MatchOption o (Unit {0}) (λ _. ⊥)) at tt)
    of_from n group [] (d ∷ done) new pairs k r at = elim pairs [ ]
    of_from n group (t ∷ tasks) [] new pairs k r at = elim pairs [ ]
    of_from n group (t ∷ tasks) (d ∷ done) new pairs zero r at =
        let same : d.seat ≡ r = ap (λ (o : Option RecorderValue). unwrap_or o r) at in
        let first = new 0 t.seat refl in (
          sym (ap (λ (x : RecorderValue). x.group) same) ∙ pairs.0.group ∙ ap (λ (x : RecorderValue). x.group) first,
          sym (ap (λ (x : RecorderValue). x.guest) same) ∙ pairs.0.guest ∙ ap (λ (x : RecorderValue). x.guest) first,
        )
    of_from n group (t ∷ tasks) (d ∷ done) new pairs (suc k) r at =
        let h = of_from (suc n) group tasks done (from_next n group t.seat (seats_of tasks) new) pairs.1 k r at in
        (h.0, h.1 ∙ omega arith)

    pub all_of : (group : GroupId) (tasks : List (Task C O S)) (done : List (Worked C O S)) → AllNew group (seats_of tasks) →
        ArePairs (HasWorked choosers sinks) tasks done → AllOf group (seats_worked done)
    all_of group tasks done new pairs k r at =
        let h = of_from 0 group tasks done (all_from group (seats_of tasks) new) pairs k r at in
        (h.0, h.1 ∙ omega arith)
