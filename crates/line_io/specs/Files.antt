-- The files that a line reads: their bytes, and what is said of a program.
use Rattle.std.specs.Prelude.{◌≡◌, ℕ, ◌<◌, ◌≤◌, List, length, Option, Some, IfSome, Result, IfErr, IfOk, Vec}
use Rattle.std.specs.declared.alloc.Global.{Global}
use Rattle.elf_load.specs.Fault.{refusal_number}
use Rattle.rrv_model.specs.Elf.{refusal}
use Rattle.line_io.specs.declared.file_fault.FileFault.{FileFault}
use Rattle.line_io.specs.declared.file_fault.FileFault.TheVariants as file_faults

-- why so many bytes at most are not read of a reader: it is longer, a read failed, or there was no memory
abbrev pub IsUnread : (remaining : Option (List ℕ)) → (most : ℕ) → FileFault → Type 0
IsUnread remaining most (file_faults.Unread kind) = Unit {0}
IsUnread remaining most (file_faults.TooLong limit) = (limit ≡ most) × IfSome remaining (λ all. most < length all)
IsUnread remaining most file_faults.Memory = Unit {0}
IsUnread remaining most _ = ⊥

-- all bytes that a reader has are read, where they are known, and so many at most
pub record ReadsWhole (remaining : Option (List ℕ)) (most : ℕ) (result : Result (Vec ℕ Global) FileFault) : Type 0 where
  pub whole : IfOk result (λ bytes. IfSome remaining (λ all. bytes.items ≡ all))
  pub within : IfOk result (λ bytes. length bytes.items ≤ most)
  pub refused : IfErr result (IsUnread remaining most)

-- why a file is no program: the refusal that it has, or there was no memory
abbrev pub IsNoProgram : List ℕ → FileFault → Type 0
IsNoProgram file (file_faults.NoProgram fault target) = refusal file ≡ Some (refusal_number fault)
IsNoProgram file file_faults.Memory = Unit {0}
IsNoProgram file _ = ⊥
