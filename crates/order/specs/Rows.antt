-- The rules as small runs: for each rule a run that shows it, and mostly one beside it that lacks just what the rule asks for.
use Rattle.std.specs.Prelude.{ℕ, ◌+◌, Bool, true, false, ◌&&◌, List, [], ◌∷◌, ◌++◌, length}
use Rattle.order.specs.declared.act.Act.{Act}
use Rattle.order.specs.declared.act.Deed.{Deed}
use Rattle.order.specs.declared.act.Deed.TheVariants.{Reads, Writes, Reserves, Changes, Fences, SetsTid, ClearsTid, Starts, Wakes, Renews}
use Rattle.order.specs.Deeds.{is_within}
use Rattle.order.specs.Order.{Race, run_of}

-- ---- acts

abbrev pub by : (tid : ℕ) → Deed → Act
by tid d = record { place = 0; tid = tid; deed = d }

abbrev pub load : (tid a : ℕ) → Act
load tid a = by tid (Reads a 4)

abbrev pub store : (tid a : ℕ) → Act
store tid a = by tid (Writes a 4)

-- aq, rl
abbrev pub reserve : (tid a : ℕ) → (acquires releases : Bool) → Act
reserve tid a acquires releases = by tid (Reserves a acquires releases)

-- an atomic instruction that changes the low byte of its word
abbrev pub atomic : (reads : Bool) → (tid a : ℕ) → (acquires releases : Bool) → Act
atomic reads tid a acquires releases =
    by tid (Changes (record {
      at = a;
      before = 0;
      after = 1;
      reads = reads;
      acquires = acquires;
      releases = releases;
      full = acquires && releases;
    }))

abbrev pub change : (tid a : ℕ) → (acquires releases : Bool) → Act
change tid a acquires releases = atomic true tid a acquires releases

-- what it reads goes nowhere
abbrev pub change_into_x0 : (tid a : ℕ) → (acquires releases : Bool) → Act
change_into_x0 tid a acquires releases = atomic false tid a acquires releases

abbrev pub acquire_fence : (tid : ℕ) → Act
acquire_fence tid = by tid (Fences true false)

abbrev pub release_fence : (tid : ℕ) → Act
release_fence tid = by tid (Fences false true)

-- ---- runs

-- three words
abbrev pub word : ℕ
word = 0x200

abbrev pub flag : ℕ
flag = 0x100

abbrev pub other : ℕ
other = 0x300

-- acts 0 and 1 start two threads
abbrev pub started : List Act → List Act
started acts = by 1 (Starts 2) ∷ by 1 (Starts 3) ∷ acts

abbrev pub undeclared : ℕ → Bool
undeclared b = false

pub record Races (acts : List Act) (i j b : ℕ) : Type 0 where
  pub race : Race undeclared (run_of acts) i j b

-- nothing before act j races with it on the byte
pub record NoneRaces (acts : List Act) (j b : ℕ) : Type 0 where
  pub none : (i : ℕ) → ¬ Race undeclared (run_of acts) i j b

-- act 2, by which thread 1 stores the word; some acts; and the last one, by which thread 2 loads the word
abbrev pub passing : List Act → List Act
passing between = started (store 1 word ∷ between ++ load 2 word ∷ [])

-- those acts order the two
pub record Passes (between : List Act) : Type 0 where
  pub none : NoneRaces (passing between) (3 + length between) word

-- they don't
pub record Fails (between : List Act) : Type 0 where
  pub race : Races (passing between) 2 (3 + length between) word

-- ---- the rules

abbrev pub RowsOfBytes : Type 0
RowsOfBytes =
    Races (started (by 1 (Writes word 4) ∷ by 2 (Reads (word + 2) 1) ∷ [])) 2 3 (word + 2)
    × NoneRaces (started (by 1 (Writes word 4) ∷ by 2 (Reads (word + 2) 1) ∷ [])) 3 (word + 1)
    × NoneRaces (started (by 1 (Writes word 1) ∷ by 2 (Writes (word + 1) 1) ∷ [])) 3 word
    × NoneRaces (started (by 1 (Writes word 1) ∷ by 2 (Writes (word + 1) 1) ∷ [])) 3 (word + 1)

-- one of the two is a plain write; a change touches the bytes that it changes, and an LR none
abbrev pub RowsOfPlainWrites : Type 0
RowsOfPlainWrites =
    Races (started (store 1 word ∷ store 2 word ∷ [])) 2 3 word
    × Races (started (load 1 word ∷ store 2 word ∷ [])) 2 3 word
    × Races (started (store 1 word ∷ change 2 word false false ∷ [])) 2 3 word
    × Races (started (change 1 word false false ∷ store 2 word ∷ [])) 2 3 word
    × NoneRaces (started (change 1 word false false ∷ store 2 word ∷ [])) 3 (word + 1)
    × NoneRaces (started (load 1 word ∷ load 2 word ∷ [])) 3 word
    × NoneRaces (started (change 1 word false false ∷ load 2 word ∷ [])) 3 word
    × NoneRaces (started (load 1 word ∷ change 2 word false false ∷ [])) 3 word
    × NoneRaces (started (change 1 word false false ∷ change 2 word false false ∷ [])) 3 word
    × NoneRaces (started (reserve 1 word false false ∷ store 2 word ∷ [])) 3 word

abbrev pub RowsOfStarts : Type 0
RowsOfStarts = Fails [] × NoneRaces (store 1 word ∷ by 1 (Starts 2) ∷ load 2 word ∷ []) 2 word

abbrev pub RowsOfWakes : Type 0
RowsOfWakes = Passes (by 1 (Wakes 2) ∷ []) × Fails (by 2 (Wakes 1) ∷ []) × Fails (by 1 (Wakes 3) ∷ [])

abbrev pub RowsOfFences : Type 0
RowsOfFences =
    Passes (release_fence 1 ∷ store 1 flag ∷ load 2 flag ∷ acquire_fence 2 ∷ [])
    × Fails (store 1 flag ∷ load 2 flag ∷ acquire_fence 2 ∷ [])
    × Fails (release_fence 1 ∷ store 1 flag ∷ load 2 flag ∷ [])
    × Fails (acquire_fence 1 ∷ store 1 flag ∷ load 2 flag ∷ acquire_fence 2 ∷ [])
    × Fails (release_fence 1 ∷ store 1 flag ∷ load 2 flag ∷ release_fence 2 ∷ [])
    × Fails (store 1 flag ∷ release_fence 1 ∷ load 2 flag ∷ acquire_fence 2 ∷ [])
    × Fails (release_fence 1 ∷ store 1 flag ∷ acquire_fence 2 ∷ load 2 flag ∷ [])

-- the fence stands just before a store; before a change it may stand anywhere
abbrev pub RowsOfFencedStores : Type 0
RowsOfFencedStores =
    NoneRaces (started (release_fence 1 ∷ store 1 flag ∷ load 2 flag ∷ [])) 4 flag
    × Races (started (release_fence 1 ∷ load 1 other ∷ store 1 flag ∷ load 2 flag ∷ [])) 4 5 flag
    × Fails (release_fence 1 ∷ load 1 other ∷ store 1 flag ∷ load 2 flag ∷ acquire_fence 2 ∷ [])
    × Passes (release_fence 1 ∷ load 1 other ∷ change 1 flag false false ∷ load 2 flag ∷ acquire_fence 2 ∷ [])

-- an atomic instruction into x0 reads nothing
abbrev pub RowsOfBits : Type 0
RowsOfBits =
    Passes (change 1 flag false true ∷ change 2 flag true false ∷ [])
    × Passes (change 1 flag false true ∷ reserve 2 flag true false ∷ [])
    × Fails (change 1 flag false true ∷ change 2 flag false false ∷ [])
    × Fails (change 1 flag false false ∷ change 2 flag true false ∷ [])
    × Fails (change 1 flag false true ∷ change_into_x0 2 flag true false ∷ [])

-- a message goes on through a change that reads it, and through no other write
abbrev pub RowsOfChanges : Type 0
RowsOfChanges =
    Passes (change 1 flag false true ∷ change 3 flag false false ∷ change 2 flag true false ∷ [])
    × Fails (change 1 flag false true ∷ change_into_x0 3 flag false false ∷ change 2 flag true false ∷ [])
    × Fails (change 1 flag false true ∷ store 3 flag ∷ change 2 flag true false ∷ [])

-- both bits: what was heard is known after it, and what stands before it is in later messages; it makes no store fenced
abbrev pub RowsOfFullAtomics : Type 0
RowsOfFullAtomics =
    Passes (release_fence 1 ∷ store 1 flag ∷ load 2 flag ∷ reserve 2 other true true ∷ [])
    × Passes (release_fence 1 ∷ store 1 flag ∷ load 2 flag ∷ change 2 other true true ∷ [])
    × Fails (release_fence 1 ∷ store 1 flag ∷ load 2 flag ∷ change 2 other true false ∷ [])
    × Passes (reserve 1 other true true ∷ change 1 flag false false ∷ change 2 flag true false ∷ [])
    × Fails (reserve 1 other false true ∷ change 1 flag false false ∷ change 2 flag true false ∷ [])
    × Races (started (reserve 1 other true true ∷ store 1 flag ∷ load 2 flag ∷ [])) 3 4 flag

-- who reads what an exit cleared comes after all of its thread; the word of a tid carries what a fence has
abbrev pub RowsOfTids : Type 0
RowsOfTids =
    Passes (by 1 (ClearsTid flag) ∷ load 2 flag ∷ [])
    × Fails (by 1 (ClearsTid flag) ∷ [])
    × Fails (by 1 (ClearsTid flag) ∷ store 3 flag ∷ load 2 flag ∷ [])
    × Fails (by 1 (SetsTid flag) ∷ load 2 flag ∷ acquire_fence 2 ∷ [])
    × Passes (release_fence 1 ∷ by 1 (SetsTid flag) ∷ load 2 flag ∷ acquire_fence 2 ∷ [])
    × NoneRaces (started (by 1 (SetsTid flag) ∷ load 2 flag ∷ [])) 3 flag
    × Races (started (by 2 (ClearsTid flag) ∷ store 1 flag ∷ [])) 2 3 flag

-- renewed bytes begin a new life, and have no message
abbrev pub RowsOfLives : Type 0
RowsOfLives =
    NoneRaces (started (store 2 word ∷ by 1 (Renews word 4) ∷ store 1 word ∷ [])) 4 word
    × Races (started (store 2 word ∷ by 1 (Renews (word + 1) 3) ∷ store 1 word ∷ [])) 2 4 word
    × Fails (change 1 flag false true ∷ by 3 (Renews flag 4) ∷ change 2 flag true false ∷ [])

-- of declared bytes plain stores are atomic ones, and of others not
abbrev pub RowsOfDeclaredBytes : Type 0
RowsOfDeclaredBytes =
    ((i : ℕ) → ¬ Race (λ b. is_within flag 4 b) (run_of (started (store 1 flag ∷ load 2 flag ∷ []))) i 3 flag)
    × Race (λ b. is_within flag 4 b) (run_of (started (store 1 (flag + 2) ∷ load 2 flag ∷ []))) 2 3 (flag + 2)
    × Race (λ b. is_within flag 4 b) (run_of (started (store 1 word ∷ load 2 word ∷ []))) 2 3 word
