use Rattle.std.proofs.Common.{◌+◌, ◌*◌, arith, ap}
use Rattle.std.specs.Prelude.{filter}
use Rattle.std.proofs.lemmas.Grind.{common_steps}
use Rattle.rrv_model.specs.Elf.{is_load}
use Rattle.elf_load.proofs.Headers.{headers_from-step, headers_from-end}
use Rattle.elf_load.proofs.elf_file.ElfFile.loads.Goals as goal
use Rattle.elf_load.proofs.elf_file.ElfFile.loads.Goals.{then-is_load+in_ok-push, else-is_load}

pub loop-index-preserved : goal.loop-index-preserved
loop-index-preserved c =
    let f = c.self.inside in
    let step = ap (filter is_load) (headers_from-step f.bytes.now f.table_offset f.header_count c.loop-index.index (omega arith)) in
    elim c.if-is_load.branch [
      | then-is_load+in_ok-push w ↦ grind (arith, common_steps)
      | else-is_load w ↦ grind (arith, common_steps)
    ]

pub returns : goal.returns
returns c =
    let f = c.self.inside in
    let none = ap (filter is_load)
    (headers_from-end f.bytes.now (f.table_offset + 32 * c.loop-index.index) f.header_count c.loop-index.index (omega arith)) in
    grind (arith, common_steps)
