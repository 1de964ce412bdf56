use Rattle.std.proofs.Common.{◌≡◌, arith}
use Rattle.elf_load.proofs.Pages.{pages_to_end}
use Rattle.elf_load.proofs.limits.pages_to_end.Goals as goal

pub returns-clause-within : goal.returns-clause-within
returns-clause-within c =
    let len : c.from.result ≡ 4096 = grind arith in
    (pages_to_end c.args.found.now c.highest_end-end.result c.from.result c.div_ceil-pages.result
    c.highest_end-end.ensures.value c.highest_end-end.ensures.within len c.div_ceil-pages.ensures).0

pub returns-clause-all : goal.returns-clause-all
returns-clause-all c =
    let len : c.from.result ≡ 4096 = grind arith in
    (pages_to_end c.args.found.now c.highest_end-end.result c.from.result c.div_ceil-pages.result
    c.highest_end-end.ensures.value c.highest_end-end.ensures.within len c.div_ceil-pages.ensures).1
