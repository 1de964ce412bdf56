use Rattle.std.proofs.Common.{◌+◌, ◌*◌, List, arith, ap}
use Rattle.std.specs.Prelude.{filter}
use Rattle.std.specs.List.{list_any}
use Rattle.rrv_model.specs.Elf.{Header, is_load}
use Rattle.elf_load.specs.Refusals.{load_test}
use Rattle.elf_load.proofs.Headers.{headers_from-end, any_load-step}
use Rattle.elf_load.proofs.elf_file.ElfFile.any_load.Goals as goal

pub returns-then-is_load_with : goal.returns-then-is_load_with
returns-then-is_load_with c =
    let f = c.self.inside in
    let step = any_load-step c.args.test f.bytes.now f.table_offset f.header_count c.loop-index.index (omega arith) in
    grind arith

pub loop-index-preserved : goal.loop-index-preserved
loop-index-preserved c =
    let f = c.self.inside in
    let step = any_load-step c.args.test f.bytes.now f.table_offset f.header_count c.loop-index.index (omega arith) in
    grind arith

pub returns : goal.returns
returns c =
    let f = c.self.inside in
    let none = ap (λ (hs : List Header). list_any (load_test c.args.test f.bytes.now) (filter is_load hs))
    (headers_from-end f.bytes.now (f.table_offset + 32 * c.loop-index.index) f.header_count c.loop-index.index (omega arith)) in
    grind arith
