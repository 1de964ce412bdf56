-- The refusals of a file in three parts, in their order, each of a file that the tests before pass; the ninth stands
-- between the first two.
use Rattle.std.specs.Prelude.{◌≡◌, ◌≢◌, ℕ, ◌+◌, ◌*◌, ◌%◌, ◌<◌, ◌≤◌, Bool, not, ◌&&◌, ◌||◌, ◌==◌, nat_lt, nat_le, max, fold, if◌then◌else◌, List, length, Option, Some, None, slice_index}
use Rattle.std.specs.List.{list_any}
use Rattle.rrv_model.specs.Elf.{Header, load_end, elf_class, elf_data, elf_type, elf_machine, elf_flags, elf_entry, elf_phoff, elf_phnum, bad_table, loads, passes_file, crosses_sizes, leaves_range, any_share, touched_below, is_empty_load, refusal}
use Rattle.rrv_model.specs.declared.limits.TheConstants.{MAX_ELF}
use Rattle.elf_load.specs.declared.limits.TheConstants.{MAX_LOADED_PAGES}
use Rattle.elf_load.specs.declared.header.LoadTest.{LoadTest}
use Rattle.elf_load.specs.declared.header.LoadTest.TheVariants as tests

abbrev pub has_magic : List ℕ → Bool
has_magic file =
    slice_index file 0 == 0x7F
    && (slice_index file 1 == 0x45 && (slice_index file 2 == 0x4C && slice_index file 3 == 0x46))

-- 1 to 8, of the ELF header
unfoldable pub header_refusal : List ℕ → Option ℕ
header_refusal file =
    if nat_lt (length file) 52 then Some 1
    else if not (has_magic file) then Some 2
    else if not (elf_class file == 1) then Some 3
    else if not (elf_data file == 1) then Some 4
    else if not (elf_type file == 2) then Some 5
    else if not (elf_machine file == 243) then Some 6
    else if elf_flags file % 2 == 1 then Some 7
    else if bad_table file then Some 8
    else None

abbrev pub has_memory : Header → Bool
has_memory h = not (is_empty_load h)

-- 10 to 12, of each PT_LOAD by itself
unfoldable pub load_refusal : List ℕ → Option ℕ
load_refusal file =
    if list_any (passes_file file) (loads file) then Some 10
    else if list_any crosses_sizes (loads file) then Some 11
    else if list_any leaves_range (loads file) then Some 12
    else None

-- 13 to 15, of all PT_LOADs together
unfoldable pub limit_refusal : List ℕ → Option ℕ
limit_refusal file =
    if any_share (loads file) then Some 13
    else if nat_lt MAX_ELF (length file) || nat_lt MAX_LOADED_PAGES (touched_below 0x70000 (loads file)) then Some 14
    else if not (list_any has_memory (loads file)) then Some 15
    else None

-- what a test of a PT_LOAD by itself looks for
abbrev pub load_test : LoadTest → List ℕ → Header → Bool
load_test tests.PassesFile file h = passes_file file h
load_test tests.CrossesSizes file h = crosses_sizes h
load_test tests.LeavesRange file h = leaves_range h
load_test tests.HasMemory file h = has_memory h

-- no refusal up to this number is the lowest that applies
abbrev pub IsPastRefusal : ℕ → List ℕ → Type 0
IsPastRefusal last file = (n : ℕ) → n ≤ last → refusal file ≢ Some n

-- the fields are those of the file's header, and the program headers stand in the file
pub record IsHeader (file : List ℕ) (entry table_offset count : ℕ) : Type 0 where
  pub entry_is : entry ≡ elf_entry file
  pub offset_is : table_offset ≡ elf_phoff file
  pub count_is : count ≡ elf_phnum file
  pub within : 0 < count → table_offset + 32 * count ≤ length file

-- the bytes of all program headers are within those of the load
abbrev pub holds_headers : List ℕ → Header → Bool
holds_headers file h =
    nat_le h.offset (elf_phoff file) && nat_le (elf_phoff file + 32 * elf_phnum file) (h.offset + h.file_len)

-- the higher of an end and that of a load with memory
abbrev pub higher_end : ℕ → Header → ℕ
higher_end end h = if h.memory_len == 0 then end else max end (load_end h)

-- the highest end of a load with memory
abbrev pub highest_end : List Header → ℕ
highest_end hs = fold higher_end 0 hs
