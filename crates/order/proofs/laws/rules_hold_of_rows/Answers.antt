use Rattle.std.proofs.Common.{◌+◌, [], ◌∷◌, refl}
use Rattle.order.specs.Deeds.{is_within}
use Rattle.order.specs.Rows.{flag, load, started, store, word}
use Rattle.order.proofs.Rows.{fails, none_by, none_races, passes, race_by, races}
use Rattle.order.proofs.laws.rules_hold_of_rows.Goals as goal

pub returns-clause-bytes : goal.returns-clause-bytes
returns-clause-bytes c = (races _ _ _ _ 1 refl, none_races _ _ _ refl, none_races _ _ _ refl, none_races _ _ _ refl)

pub returns-clause-plain_writes : goal.returns-clause-plain_writes
returns-clause-plain_writes c = (
  races _ _ _ _ 1 refl,
  races _ _ _ _ 1 refl,
  races _ _ _ _ 1 refl,
  races _ _ _ _ 1 refl,
  none_races _ _ _ refl,
  none_races _ _ _ refl,
  none_races _ _ _ refl,
  none_races _ _ _ refl,
  none_races _ _ _ refl,
  none_races _ _ _ refl,
)

pub returns-clause-starts : goal.returns-clause-starts
returns-clause-starts c = (fails _ refl, none_races _ _ _ refl)

pub returns-clause-wakes : goal.returns-clause-wakes
returns-clause-wakes c = (passes _ refl, fails _ refl, fails _ refl)

pub returns-clause-fences : goal.returns-clause-fences
returns-clause-fences c = (
  passes _ refl,
  fails _ refl,
  fails _ refl,
  fails _ refl,
  fails _ refl,
  fails _ refl,
  fails _ refl,
)

pub returns-clause-fenced_stores : goal.returns-clause-fenced_stores
returns-clause-fenced_stores c = (none_races _ _ _ refl, races _ _ _ _ 1 refl, fails _ refl, passes _ refl)

pub returns-clause-bits : goal.returns-clause-bits
returns-clause-bits c = (passes _ refl, passes _ refl, fails _ refl, fails _ refl, fails _ refl)

pub returns-clause-changes : goal.returns-clause-changes
returns-clause-changes c = (passes _ refl, fails _ refl, fails _ refl)

pub returns-clause-full_atomics : goal.returns-clause-full_atomics
returns-clause-full_atomics c = (
  passes _ refl,
  passes _ refl,
  fails _ refl,
  passes _ refl,
  fails _ refl,
  races _ _ _ _ 1 refl,
)

pub returns-clause-tids : goal.returns-clause-tids
returns-clause-tids c = (
  passes _ refl,
  fails _ refl,
  fails _ refl,
  fails _ refl,
  passes _ refl,
  none_races _ _ _ refl,
  races _ _ _ _ 2 refl,
)

pub returns-clause-lives : goal.returns-clause-lives
returns-clause-lives c = (none_races _ _ _ refl, races _ _ _ _ 2 refl, fails _ refl)

pub returns-clause-declared : goal.returns-clause-declared
returns-clause-declared c = (
  none_by (λ b. is_within flag 4 b) (started (store 1 flag ∷ load 2 flag ∷ [])) 3 flag refl,
  race_by (λ b. is_within flag 4 b) (started (store 1 (flag + 2) ∷ load 2 flag ∷ [])) 2 3 (flag + 2) 1 refl,
  race_by (λ b. is_within flag 4 b) (started (store 1 word ∷ load 2 word ∷ [])) 2 3 word 1 refl,
)
