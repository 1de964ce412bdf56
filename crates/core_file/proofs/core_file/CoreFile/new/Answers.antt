use Rattle.std.proofs.Common.{◌^◌, arith}
use Rattle.guest_pages.specs.Space.{memory_of}
use Rattle.core_file.proofs.RunRules.{all_fit, few_runs}
use Rattle.core_file.proofs.core_file.CoreFile.new.Goals as goal

pub head_of-requires-clause-few : goal.head_of-requires-clause-few
head_of-requires-clause-few c =
    rw (c.as_slice.ensures.value, c.in_ok-runs.ensures, c.space.ensures)
    (few_runs (memory_of c.args.guest.now.space) c.page_count.ensures.is_memory.limit)

pub head_of-requires-clause-fit : goal.head_of-requires-clause-fit
head_of-requires-clause-fit c =
    rw (c.as_slice.ensures.value, c.in_ok-runs.ensures, c.space.ensures)
    (all_fit (2 ^ 20) (memory_of c.args.guest.now.space) (omega arith) c.page_count.ensures.is_memory.limit)
