use Rattle.std.proofs.Common.{◌≡◌, drop}
use Rattle.rrv_model.specs.Opening.{headers_address}
use Rattle.elf_load.proofs.elf_file.ElfFile.headers_address.Given as goal

-- the loads from this one on decide
abbrev pub invariant-loop-load : goal.invariant-loop-load
invariant-loop-load l = headers_address l.self (drop l.load-index l.found) ≡ headers_address l.self l.found
