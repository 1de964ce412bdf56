use Rattle.std.proofs.Common.{◌^◌, arith}
use Rattle.guest_pages.specs.Space.{memory_of}
use Rattle.core_file.proofs.RunRules.{all_alike, all_fit}
use Rattle.core_file.proofs.core_file.CoreFile.write_to.Goals as goal

pub write_runs-requires-clause-fit : goal.write_runs-requires-clause-fit
write_runs-requires-clause-fit g c =
    rw (c.as_slice-2.ensures.value, c.self.invariant)
    (all_fit (2 ^ 20) (memory_of c.self.inside.guest.now.space) (omega arith) c.page_count.ensures.is_memory.limit)

pub write_runs-requires-clause-there : goal.write_runs-requires-clause-there
write_runs-requires-clause-there g c =
    rw (c.as_slice-2.ensures.value, c.self.invariant, c.space.ensures) (all_alike (memory_of c.self.inside.guest.now.space))
