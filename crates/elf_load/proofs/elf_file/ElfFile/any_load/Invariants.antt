use Rattle.std.proofs.Common.{◌≡◌, ◌+◌, ◌-◌, ◌*◌}
use Rattle.std.specs.Prelude.{filter}
use Rattle.std.specs.List.{list_any}
use Rattle.rrv_model.specs.Elf.{loads, headers_from, is_load}
use Rattle.elf_load.specs.Refusals.{load_test}
use Rattle.elf_load.proofs.elf_file.ElfFile.any_load.Given as goal

-- the PT_LOADs from this header on decide
abbrev pub invariant-loop-index : goal.invariant-loop-index
invariant-loop-index l =
    list_any (load_test l.test l.self-inside.bytes.now)
    (filter is_load
    (headers_from l.self-inside.bytes.now (l.self-inside.table_offset + 32 * l.index) (l.self-inside.header_count - l.index)))
    ≡ list_any (load_test l.test l.self-inside.bytes.now) (loads l.self-inside.bytes.now)
