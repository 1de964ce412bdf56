-- The rows: what the detector finds in them, computed, is what races there.
use Rattle.std.proofs.Common.{◌≡◌, ℕ, ◌+◌, Bool, List, [], ◌∷◌, length, inl, refl, sym, subst}
use Rattle.order.specs.declared.act.Act.{Act}
use Rattle.order.specs.Order.{Race, run_of}
use Rattle.order.specs.declared.entry.Entry.{Entry}
use Rattle.order.specs.Detecting.{found_at}
use Rattle.order.specs.Laws.{Among}
use Rattle.order.specs.Rows.{Fails, NoneRaces, Passes, Races, passing, undeclared, word}
use Rattle.order.proofs.Clocks.{threads}
use Rattle.order.proofs.Found.{found_race, race_found}

-- a chain for each thread
abbrev pub found : (ℕ → Bool) → List Act → (j b : ℕ) → List Entry
found declared acts j b = found_at declared (λ tid. tid) (run_of acts) j b

pub race_by : (declared : ℕ → Bool) (acts : List Act) (i j b tid : ℕ)
    → found declared acts j b ≡ record { line = tid; act = i } ∷ [] → Race declared (run_of acts) i j b
race_by declared acts i j b tid e =
    found_race declared (λ tid. tid) (run_of acts) (threads declared (run_of acts)) j b (record { line = tid; act = i })
    (subst (λ (entries : List Entry). Among (record { line = tid; act = i }) entries) (sym e) (inl refl))

pub none_by : (declared : ℕ → Bool) (acts : List Act) (j b : ℕ) → found declared acts j b ≡ [] → (i : ℕ)
    → ¬ Race declared (run_of acts) i j b
none_by declared acts j b none i race =
    let e = race_found declared (λ tid. tid) (run_of acts) (threads declared (run_of acts)) i j b race in
    subst (λ (entries : List Entry). Among e.0 entries) none e.1

pub races : (acts : List Act) (i j b tid : ℕ) → found undeclared acts j b ≡ record { line = tid; act = i } ∷ [] → Races acts i j b
races acts i j b tid e = record { race = race_by undeclared acts i j b tid e }

pub none_races : (acts : List Act) (j b : ℕ) → found undeclared acts j b ≡ [] → NoneRaces acts j b
none_races acts j b none = record { none = none_by undeclared acts j b none }

pub passes : (between : List Act) → found undeclared (passing between) (3 + length between) word ≡ [] → Passes between
passes between none = record { none = none_races (passing between) (3 + length between) word none }

pub fails : (between : List Act)
    → found undeclared (passing between) (3 + length between) word ≡ record { line = 1; act = 2 } ∷ [] → Fails between
fails between e = record { race = races (passing between) 2 (3 + length between) word 1 e }
