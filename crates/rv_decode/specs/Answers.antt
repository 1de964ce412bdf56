-- What a word can be.
use Rattle.std.specs.Prelude.{◌≡◌, ℕ, Option, Some}
use Rattle.rrv_model.specs.declared.instr.Instr.{Instr}
use Rattle.rrv_model.specs.Instructions.{Stands, Decodes}

-- a word is not two things: two instructions, or one and none
abbrev pub OneAnswer : Type 0
OneAnswer = (w : ℕ) (o p : Option Instr) → Decodes w o → Decodes w p → o ≡ p

-- whatever is told of the word of an instruction, by what a word can be, is that instruction
abbrev pub EncodedDecodes : Type 0
EncodedDecodes = (w : ℕ) (i : Instr) (o : Option Instr) → Stands w i → Decodes w o → o ≡ Some i
