-- Opening state: that from which a guest starts, from its ELF file, its name and 16 random bytes
-- (System V ABI, chapter 5 "Program Loading"; the stack as execve(2) leaves it, with the pairs of getauxval(3)).
use Rattle.std.specs.Prelude.{◌≡◌, ℕ, ◌+◌, ◌-◌, ◌*◌, ◌/◌, ◌%◌, ◌<◌, ◌≤◌, max, Bool, ◌&&◌, ◌||◌, nat_le, ◌==◌, if◌then◌else◌, List, [], ◌∷◌, ◌++◌, length, fold, flat_map, replicate, All, Some, None, slice_index, slice_set}
use Rattle.std.specs.List.{list_any}
use Rattle.std.specs.FinMap.{empty, insert}
use Rattle.std.specs.Int.{w32, to_le_bytes}
use Rattle.rrv_model.specs.declared.limits.TheConstants.{MAX_NAME}
use Rattle.page_permissions.specs.declared.page.Permissions.{Permissions}
use Rattle.rrv_model.specs.declared.machine.Thread.{Thread}
use Rattle.rrv_model.specs.declared.machine.Version.{Version}
use Rattle.rrv_model.specs.declared.record.Opening.{Opening}
use Rattle.rrv_model.specs.Memory.{Memory, stored, mapped, is_within, page_bytes, pages_for}
use Rattle.rrv_model.specs.State.{State, IsState}
use Rattle.rrv_model.specs.CallRows.{has_flag}
use Rattle.rrv_model.specs.Elf.{Header, loads, load_end, touches, refusal, elf_entry, elf_phoff, elf_phnum}

-- ---- the loaded ranges

-- flags X 1, W 2, R 4; a page has the union of the permissions of its ranges, and one with W has R
abbrev pub page_has : ℕ → ℕ → List Header → Bool
page_has flag page hs = list_any (λ h. touches page h && has_flag h.flags flag) hs

abbrev pub page_permissions : ℕ → List Header → Permissions
page_permissions page hs = record {
  read = page_has 4 page hs || page_has 2 page hs;
  write = page_has 2 page hs;
  execute = page_has 1 page hs;
}

-- the file's byte at an address, and zero where no range holds one
unfoldable pub loaded_byte : List ℕ → List Header → ℕ → ℕ
loaded_byte file [] a = 0
loaded_byte file (h ∷ hs) a =
    if is_within h.address h.file_len a then slice_index file (h.offset + (a - h.address)) else loaded_byte file hs a

abbrev pub image_memory : List ℕ → Memory
image_memory file a =
    let page = a / page_bytes in
    if list_any (touches page) (loads file)
    then Some (record { byte = loaded_byte file (loads file) a; permissions = page_permissions page (loads file) })
    else None

-- the address at which the first range that holds all program headers puts them, or 0
unfoldable pub headers_address : List ℕ → List Header → ℕ
headers_address file [] = 0
headers_address file (h ∷ hs) =
    if nat_le h.offset (elf_phoff file) && nat_le (elf_phoff file + 32 * elf_phnum file) (h.offset + h.file_len)
    then h.address + (elf_phoff file - h.offset)
    else headers_address file hs

-- the highest loaded end, rounded up to a page
abbrev pub image_break : List ℕ → ℕ
image_break file =
    pages_for (fold (λ end h. if h.memory_len == 0 then end else max end (load_end h)) 0 (loads file)) * page_bytes

-- ---- the stack

-- where the stack begins, and its bytes: it ends with the addresses of a guest
abbrev pub stack_at : ℕ
stack_at = 0x7FF00000

abbrev pub stack_bytes : ℕ
stack_bytes = 0x100000

-- the random bytes are the top 16 of the stack
abbrev pub random_at : ℕ
random_at = 0x7FFFFFF0

-- the name and a zero byte stand just below the random bytes
abbrev pub name_at : List ℕ → ℕ
name_at name = random_at - (length name + 1)

-- the bytes of the 18 words that stand from the stack pointer on
abbrev pub words_bytes : ℕ
words_bytes = 72

-- the stack pointer is a multiple of 16
abbrev pub stack_pointer : List ℕ → ℕ
stack_pointer name = let top = name_at name - words_bytes in top - top % 16

-- argc, argv, its end, the end of the environment, and the pairs PHDR, PHENT, PHNUM, PAGESZ, ENTRY, RANDOM, NULL
abbrev pub stack_words : List ℕ → List ℕ → List ℕ
stack_words file name =
    1 ∷ name_at name ∷ 0 ∷ 0
    ∷ 3 ∷ headers_address file (loads file) ∷ 4 ∷ 32 ∷ 5 ∷ elf_phnum file ∷ 6 ∷ page_bytes
    ∷ 9 ∷ elf_entry file ∷ 25 ∷ random_at ∷ 0 ∷ 0 ∷ []

-- the image and the stack, of zeros
abbrev pub bare_memory : List ℕ → Memory
bare_memory file =
    mapped stack_at stack_bytes (record { read = Bool.true; write = Bool.true; execute = Bool.false })
    (image_memory file)

abbrev pub memory_with_words : List ℕ → List ℕ → Memory
memory_with_words file name =
    stored (stack_pointer name) (flat_map (to_le_bytes w32) (stack_words file name)) (bare_memory file)

abbrev pub memory_with_name : List ℕ → List ℕ → Memory
memory_with_name file name = stored (name_at name) (name ++ 0 ∷ []) (memory_with_words file name)

abbrev pub opening_memory : List ℕ → List ℕ → List ℕ → Memory
opening_memory file name random = stored random_at random (memory_with_name file name)

-- ---- the state

abbrev pub opening_thread : List ℕ → List ℕ → Thread
opening_thread file name = record {
  regs = record { pc = elf_entry file; registers = slice_set (replicate 32 0) 2 (stack_pointer name) };
  wait = None;
  clear = 0;
}

abbrev pub opening_state : Version → List ℕ → List ℕ → List ℕ → State
opening_state version file name random = record {
  version = version;
  memory = opening_memory file name random;
  threads = insert empty 1 (opening_thread file name);
  waiting = [];
  next_tid = 2;
  opening_break = image_break file;
  program_break = image_break file;
  reservation = None;
  ended = None;
}

-- a printed byte that is no space
abbrev pub is_graphic : ℕ → Bool
is_graphic b = nat_le 0x21 b && nat_le b 0x7E

-- a guest's name
abbrev pub IsName : List ℕ → Type 0
IsName name = (1 ≤ length name) × (length name ≤ MAX_NAME) × All (λ b. (0x21 ≤ b) × (b ≤ 0x7E)) name

-- the state from which the guest starts; there is none where the file is refused or the name breaks its limit
pub record Opens (o : Opening) (s : State) : Type 0 where
  pub accepted : refusal o.elf ≡ None
  pub file_bytes : All (λ b. b < 256) o.elf
  pub is_name : IsName o.name
  pub sixteen : length o.random ≡ 16
  pub random_bytes : All (λ b. b < 256) o.random
  pub state_is : s ≡ opening_state o.version o.elf o.name o.random

-- a guest starts in a state
abbrev pub OpeningsAreStates : Type 0
OpeningsAreStates = (o : Opening) (s : State) → Opens o s → IsState s
