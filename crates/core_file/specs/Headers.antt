-- The headers of a core file (System V ABI, chapter 4 "ELF Header" and chapter 5 "Program Header", class ELF32; machine
-- 243 of the RISC-V ELF psABI). Numbers are little-endian.
use Rattle.std.specs.Prelude.{ℕ, List, ◌∷◌, ◌++◌, replicate, codes}
use Rattle.std.specs.Int.{w16, to_le_bytes}
use Rattle.rrv_model.specs.RecordText.{number}
use Rattle.core_file.specs.declared.headers.ProgramHeader.{ProgramHeader}

-- ---- spellings

abbrev pub half : ℕ → List ℕ
half n = to_le_bytes w16 n

abbrev pub zeros : ℕ → List ℕ
zeros count = replicate count 0

-- ---- the ELF header

-- e_ident: the magic number, ELFCLASS32, ELFDATA2LSB, EV_CURRENT, and zeros up to 16 bytes
abbrev pub identification : List ℕ
identification = 0x7F ∷ (codes "ELF" ++ (1 ∷ 1 ∷ 1 ∷ zeros 9))

-- e_type ET_CORE, e_machine EM_RISCV, e_version, e_entry, e_phoff, e_shoff and e_flags
abbrev pub file_fields : List ℕ
file_fields = half 4 ++ half 243 ++ number 1 ++ number 0 ++ number 52 ++ number 0 ++ number 0

-- e_ehsize, e_phentsize, e_phnum, e_shentsize, e_shnum and e_shstrndx
abbrev pub table_fields : ℕ → List ℕ
table_fields count = half 52 ++ half 32 ++ half count ++ half 0 ++ half 0 ++ half 0

-- of a core file with so many program headers
unfoldable pub elf_header : ℕ → List ℕ
elf_header count = identification ++ file_fields ++ table_fields count

-- ---- program headers

-- p_type, p_offset, p_vaddr, p_paddr, p_filesz, p_memsz, p_flags and p_align
unfoldable pub header_text : ProgramHeader → List ℕ
header_text h =
    number h.kind ++ number h.offset ++ number h.address ++ number 0 ++ number h.file_len ++ number h.memory_len
    ++ number h.flags ++ number h.align
