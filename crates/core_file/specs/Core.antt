-- A core file of a state (System V ABI, chapters 4 and 5, class ELF32): the headers, a note for each thread, and the
-- pages.
use Rattle.std.specs.Prelude.{◌≡◌, ℕ, ◌+◌, ◌-◌, ◌*◌, ◌^◌, List, ◌++◌, length, take, drop, flat_map}
use Rattle.std.specs.List.{AllByRecursion}
use Rattle.std.specs.FinMap.{entries}
use Rattle.rrv_model.specs.declared.machine.Thread.{Thread}
use Rattle.rrv_model.specs.Memory.{Memory, bytes_at, page_bytes, pages_for}
use Rattle.rrv_model.specs.State.{State, IsState}
use Rattle.core_file.specs.declared.headers.ProgramHeader.{ProgramHeader}
use Rattle.core_file.specs.declared.runs.Run.{Run}
use Rattle.core_file.specs.Headers.{elf_header, header_text, zeros}
use Rattle.core_file.specs.Notes.{notes}
use Rattle.core_file.specs.Runs.{runs_below, runs_of}

-- ---- where the parts stand, with so many program headers and threads

abbrev pub notes_offset : ℕ → ℕ
notes_offset headers = 52 + 32 * headers

abbrev pub notes_end : ℕ → ℕ → ℕ
notes_end headers threads = notes_offset headers + 224 * threads

-- the pages begin at a multiple of a page
abbrev pub pages_offset : ℕ → ℕ → ℕ
pages_offset headers threads = pages_for (notes_end headers threads) * page_bytes

-- ---- the program headers

-- PT_NOTE
abbrev pub note_header : ℕ → ℕ → ProgramHeader
note_header headers threads = record {
  kind = 4;
  offset = notes_offset headers;
  address = 0;
  file_len = 224 * threads;
  memory_len = 0;
  flags = 0;
  align = 4;
}

-- PT_LOAD: a run, whose pages stand in the file from here on, but for the blank ones at its end
abbrev pub load_header : ℕ → Run → ProgramHeader
load_header pages_at r = record {
  kind = 1;
  offset = pages_at + r.before * page_bytes;
  address = r.first * page_bytes;
  file_len = r.filled * page_bytes;
  memory_len = r.pages * page_bytes;
  flags = r.flags;
  align = page_bytes;
}

abbrev pub headers_text : ℕ → ℕ → List Run → List ℕ
headers_text headers threads runs =
    header_text (note_header headers threads)
    ++ flat_map (λ r. header_text (load_header (pages_offset headers threads) r)) runs

-- ---- the file

-- what stands before the pages, where the note of the thread of this tid comes first
abbrev pub head : ℕ → List (ℕ × Thread) → List Run → List ℕ
head first threads runs =
    elf_header (1 + length runs) ++ headers_text (1 + length runs) (length threads) runs ++ notes first threads
    ++ zeros (pages_offset (1 + length runs) (length threads) - notes_end (1 + length runs) (length threads))

abbrev pub run_bytes : Memory → Run → List ℕ
run_bytes m r = bytes_at m (r.first * page_bytes) (r.filled * page_bytes)

-- of a state, where the thread of this tid comes first
abbrev pub core_of : ℕ → State → List ℕ
core_of first s = head first (entries s.threads) (runs_of s.memory) ++ flat_map (run_bytes s.memory) (runs_of s.memory)

-- ---- that the headers are true

-- a file has these bytes where a header tells that they are
abbrev pub Holds : List ℕ → ProgramHeader → List ℕ → Type 0
Holds file h bytes = take h.file_len (drop h.offset file) ≡ bytes

-- the program headers of a core file lead to the notes, and to the pages of each run
pub record TellsParts (first : ℕ) (s : State) : Type 0 where
  pub notes : Holds (core_of first s)
      (note_header (1 + length (runs_of s.memory)) (length (entries s.threads))) (notes first (entries s.threads))
  pub loads : AllByRecursion (λ r. Holds (core_of first s)
      (load_header (pages_offset (1 + length (runs_of s.memory)) (length (entries s.threads))) r)
      (run_bytes s.memory r)) (runs_below (2 ^ 20) s.memory)

abbrev pub HeadersAreTrue : Type 0
HeadersAreTrue = (first : ℕ) (s : State) → IsState s → TellsParts first s
