use Rattle.std.proofs.Common.{◌≡◌, ◌+◌, ◌-◌, ◌*◌, ◌++◌}
use Rattle.std.specs.Prelude.{filter}
use Rattle.rrv_model.specs.Elf.{loads, headers_from, is_load}
use Rattle.elf_load.proofs.elf_file.ElfFile.loads.Given as goal

-- what is found, and the loads from this header on
abbrev pub invariant-loop-index : goal.invariant-loop-index
invariant-loop-index l =
    l.found.items
    ++ filter is_load
    (headers_from l.self-inside.bytes.now (l.self-inside.table_offset + 32 * l.index) (l.self-inside.header_count - l.index))
    ≡ loads l.self-inside.bytes.now
