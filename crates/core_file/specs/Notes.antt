-- The notes of a core file (System V ABI, chapter 5 "Note Section"): one NT_PRSTATUS for each thread, as Linux lays out
-- struct elf_prstatus for RV32 (asm/elf.h, linux/elfcore.h). Numbers are little-endian.
use Rattle.std.specs.Prelude.{ℕ, ◌==◌, if◌then◌else◌, List, [], ◌++◌, drop, flat_map, codes}
use Rattle.rrv_model.specs.declared.machine.Thread.{Thread}
use Rattle.rrv_model.specs.RecordText.{number}
use Rattle.core_file.specs.Headers.{zeros}

-- 204 bytes: pr_pid at 24, pr_reg from 72 on, which is pc and x1 to x31; the rest is zero
unfoldable pub prstatus : ℕ → Thread → List ℕ
prstatus tid t =
    zeros 24 ++ number tid ++ zeros 44 ++ number t.regs.pc ++ flat_map number (drop 1 t.regs.registers) ++ zeros 4

-- namesz, descsz, the type, the name with its zeros up to a multiple of 4 bytes, and the description
unfoldable pub note : ℕ → Thread → List ℕ
note tid t = number 5 ++ number 204 ++ number 1 ++ (codes "CORE" ++ zeros 4) ++ prstatus tid t

-- of the thread of this tid, and of each other one
abbrev pub first_note : ℕ → ℕ × Thread → List ℕ
first_note first e = if e.0 == first then note e.0 e.1 else []

abbrev pub other_note : ℕ → ℕ × Thread → List ℕ
other_note first e = if e.0 == first then [] else note e.0 e.1

-- of the thread of this tid, if it is there, and then of the others in order
abbrev pub notes : ℕ → List (ℕ × Thread) → List ℕ
notes first threads = flat_map (first_note first) threads ++ flat_map (other_note first) threads
