-- What is printed of a program.
use Rattle.std.specs.Prelude.{ℕ, List, ◌++◌, replicate, codes}
use Rattle.std.specs.Fmt.{decimal}
use Rattle.rrv_model.specs.Elf.{elf_entry}
use Rattle.rrv_model.specs.Memory.{page_count}
use Rattle.rrv_model.specs.Opening.{image_break, opening_memory}
use Rattle.trace_text.specs.Lines.{word_text}

-- how many pages a guest has at its start, its stack's among them: no name and no random bytes change that
abbrev pub pages_at_start : List ℕ → ℕ
pages_at_start file = page_count (opening_memory file (codes "g0") (replicate 16 0))

-- as in `ok entry=00010054 pages=257 break=00011000`
abbrev pub program_line : (entry pages end : ℕ) → List ℕ
program_line entry pages end =
    codes "ok entry=" ++ (word_text entry ++ (codes " pages=" ++ (decimal pages ++ (codes " break=" ++ word_text end))))

-- what is printed of a program: where its first instruction stands, the pages of its guest, and its break
abbrev pub program_text : List ℕ → List ℕ
program_text file = program_line (elf_entry file) (pages_at_start file) (image_break file)
