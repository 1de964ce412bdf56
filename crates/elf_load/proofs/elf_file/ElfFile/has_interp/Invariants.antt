use Rattle.std.proofs.Common.{◌≡◌, ◌+◌, ◌-◌, ◌*◌}
use Rattle.std.specs.List.{list_any}
use Rattle.rrv_model.specs.Elf.{headers, headers_from, is_interp}
use Rattle.elf_load.proofs.elf_file.ElfFile.has_interp.Given as goal

-- the headers from this one on decide
abbrev pub invariant-loop-index : goal.invariant-loop-index
invariant-loop-index l =
    list_any is_interp
    (headers_from l.self-inside.bytes.now (l.self-inside.table_offset + 32 * l.index) (l.self-inside.header_count - l.index))
    ≡ list_any is_interp (headers l.self-inside.bytes.now)
