use Rattle.std.proofs.Common.{◌+◌, ◌*◌, arith, ap}
use Rattle.std.specs.List.{list_any}
use Rattle.rrv_model.specs.Elf.{is_interp}
use Rattle.elf_load.proofs.Headers.{headers_from-step, headers_from-end}
use Rattle.elf_load.proofs.elf_file.ElfFile.has_interp.Goals as goal

pub returns-then-is_interp : goal.returns-then-is_interp
returns-then-is_interp c =
    let f = c.self.inside in
    let step = ap (list_any is_interp) (headers_from-step f.bytes.now f.table_offset f.header_count c.loop-index.index (omega arith)) in
    grind arith

pub loop-index-preserved : goal.loop-index-preserved
loop-index-preserved c =
    let f = c.self.inside in
    let step = ap (list_any is_interp) (headers_from-step f.bytes.now f.table_offset f.header_count c.loop-index.index (omega arith)) in
    grind arith

pub returns : goal.returns
returns c =
    let f = c.self.inside in
    let none = ap (list_any is_interp)
    (headers_from-end f.bytes.now (f.table_offset + 32 * c.loop-index.index) f.header_count c.loop-index.index (omega arith)) in
    grind arith
