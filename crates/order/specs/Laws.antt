-- The laws of order, races and the detector, as statements.
use Rattle.std.specs.Prelude.{◌≡◌, ◌⊎◌, ◌↔◌, ℕ, ◌<◌, Bool, false, IsTrue, Some, List, [], ◌∷◌}
use Rattle.order.specs.Deeds.{renews_byte, touches_byte}
use Rattle.order.specs.Order.{Run, HappensBefore, Race, is_plain_write, stands_at}
use Rattle.order.specs.declared.entry.Entry.{Entry}
use Rattle.order.specs.Detecting.{AreChains, before_at, found_at}

-- ---- order

abbrev pub OrderGoesForward : Type 0
OrderGoesForward = (declared : ℕ → Bool) (run : Run) (i j : ℕ) → HappensBefore declared run i j → i < j

-- two runs have the same first n acts
abbrev pub Agree : ℕ → Run → Run → Type 0
Agree n one other = (k : ℕ) → k < n → one k ≡ other k

abbrev pub OrderIsSettled : Type 0
OrderIsSettled =
    (declared : ℕ → Bool) (one other : Run) (n i j : ℕ) → Agree n one other → j < n
    → HappensBefore declared one i j → HappensBefore declared other i j

abbrev pub RacesAreSettled : Type 0
RacesAreSettled =
    (declared : ℕ → Bool) (one other : Run) (n i j b : ℕ) → Agree n one other → j < n
    → Race declared one i j b → Race declared other i j b

abbrev pub OrderIsDecided : Type 0
OrderIsDecided =
    (declared : ℕ → Bool) (run : Run) (i j : ℕ) → HappensBefore declared run i j ⊎ (¬ HappensBefore declared run i j)

-- the byte is not renewed between two acts
abbrev pub IsOneLife : Run → (b i j : ℕ) → Type 0
IsOneLife run b i j = (k : ℕ) → i < k → k < j → renews_byte (run k).deed b ≡ false

-- no acts of the run race
abbrev pub IsRaceless : (ℕ → Bool) → Run → Type 0
IsRaceless declared run = (i j b : ℕ) → ¬ Race declared run i j b

-- what touches a byte comes after the plain write that stands there, be it a read or anything else
abbrev pub RacelessReadsAreOrdered : Type 0
RacelessReadsAreOrdered =
    (declared : ℕ → Bool) (run : Run) (w r b : ℕ) → IsRaceless declared run → IsTrue (touches_byte (run r).deed b)
    → stands_at run b r ≡ Some w → IsTrue (is_plain_write declared run w) → HappensBefore declared run w r

-- acts that touch a byte in one life of it, one of them by a plain write, come one before the other
abbrev pub RacelessActsAreOrdered : Type 0
RacelessActsAreOrdered =
    (declared : ℕ → Bool) (run : Run) (i j b : ℕ) → IsRaceless declared run → i < j → IsTrue (touches_byte (run i).deed b)
    → IsTrue (touches_byte (run j).deed b) → IsTrue (is_plain_write declared run i) ⊎ IsTrue (is_plain_write declared run j)
    → IsOneLife run b i j → HappensBefore declared run i j

-- ---- the detector

abbrev pub ThreadsAreChains : Type 0
ThreadsAreChains = (declared : ℕ → Bool) (run : Run) → AreChains declared (λ tid. tid) run

abbrev pub ClocksAreExact : Type 0
ClocksAreExact =
    (declared : ℕ → Bool) (chain : ℕ → ℕ) (run : Run) (i n : ℕ) → AreChains declared chain run
    → (i < before_at declared chain run n (chain (run i).tid)) ↔ HappensBefore declared run i n

-- the entry is in the list
abbrev pub Among : Entry → List Entry → Type 0
Among e [] = ⊥
Among e (x ∷ entries) = (e ≡ x) ⊎ Among e entries

abbrev pub FoundAreRaces : Type 0
FoundAreRaces =
    (declared : ℕ → Bool) (chain : ℕ → ℕ) (run : Run) (n b : ℕ) (e : Entry) → AreChains declared chain run
    → Among e (found_at declared chain run n b) → Race declared run e.act n b

abbrev pub RacesAreFound : Type 0
RacesAreFound =
    (declared : ℕ → Bool) (chain : ℕ → ℕ) (run : Run) (i n b : ℕ) → AreChains declared chain run
    → Race declared run i n b → (e : Entry) × Among e (found_at declared chain run n b)
