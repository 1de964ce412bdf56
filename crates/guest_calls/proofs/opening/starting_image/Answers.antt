use Rattle.std.proofs.Common.{arith}
use Rattle.elf_load.proofs.Accepted.{accepted, file_limit}
use Rattle.guest_calls.proofs.opening.starting_image.Goals as goal

pub returns-then-elf-clause-refused : goal.returns-then-elf-clause-refused
returns-then-elf-clause-refused c = λ named none. omega (arith, file_limit c.args.elf.now (accepted c.args.elf.now none))
