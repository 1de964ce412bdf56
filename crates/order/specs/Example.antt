-- Two small runs: one in which a store and a load race, and one that hands a word over.
use Rattle.std.specs.Prelude.{ℕ, true, false, List, [], ◌∷◌}
use Rattle.order.specs.declared.act.Act.{Act}
use Rattle.order.specs.declared.act.Deed.{Deed}
use Rattle.order.specs.declared.act.Deed.TheVariants.{Reads, Writes, Fences, Starts}

abbrev pub act_of : (place tid : ℕ) → Deed → Act
act_of place tid d = record { place = place; tid = tid; deed = d }

-- thread 1 starts thread 2 and stores a word, which thread 2 loads
abbrev pub store_and_load : List Act
store_and_load = act_of 0 1 (Starts 2) ∷ act_of 1 1 (Writes 0x100 4) ∷ act_of 2 2 (Reads 0x100 4) ∷ []

-- thread 1 stores a word, and a flag after a release fence; thread 2 loads the flag, and the word after an acquire fence
abbrev pub word_and_flag : List Act
word_and_flag =
    act_of 0 1 (Starts 2) ∷ act_of 1 1 (Writes 0x200 4) ∷ act_of 2 1 (Fences false true) ∷ act_of 3 1 (Writes 0x100 4)
    ∷ act_of 4 2 (Reads 0x100 4) ∷ act_of 5 2 (Fences true false) ∷ act_of 6 2 (Reads 0x200 4) ∷ []
