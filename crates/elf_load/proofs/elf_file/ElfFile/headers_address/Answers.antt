use Rattle.std.proofs.Common.{arith}
use Rattle.elf_load.proofs.Headers.{headers_address-step, headers_address-end}
use Rattle.elf_load.proofs.elf_file.ElfFile.headers_address.Goals as goal

pub returns-then-is_held_by : goal.returns-then-is_held_by
returns-then-is_held_by c =
    let step = headers_address-step c.args.self.now c.args.found.now c.loop-load.load-index c.load-item.result (omega arith)
    c.load-item.is in
    grind arith

pub loop-load-preserved : goal.loop-load-preserved
loop-load-preserved c =
    let step = headers_address-step c.args.self.now c.args.found.now c.loop-load.load-index c.load-item.result (omega arith)
    c.load-item.is in
    grind arith

pub returns : goal.returns
returns c =
    let none = headers_address-end c.args.self.now c.args.found.now c.loop-load.load-index (omega arith) in
    grind arith
