-- Why the values of a command are not read.
use Rattle.std.specs.Prelude.{IfErr, IfOk, Result}
use Rattle.command_line.specs.declared.unread.Unread.{Unread}
use Rattle.command_line.specs.declared.unread.Unread.TheVariants as unread

-- P, where that is for a value that is missing or bad
abbrev pub OnBad : Unread → Type 0 → Type 0
OnBad unread.Memory P = Unit {0}
OnBad _ P = P

-- What is read is as the values have it, and where one of them is missing or bad they have nothing so. It is said of a value
-- that stands for what is read.
pub record ReadsAs {T V : Type 0} (value_of : T → V) (IsHad : V → Type 0) (result : Result T Unread) : Type 0 where
  pub found : IfOk result (λ read. IsHad (value_of read))
  pub none : IfErr result (λ e. OnBad e ((value : V) → IsHad value → ⊥))

-- so of what is read itself
abbrev pub Reads : {T : Type 0} → (T → Type 0) → Result T Unread → Type 0
Reads = ReadsAs (λ read. read)
