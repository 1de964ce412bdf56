use Rattle.std.proofs.Common.{ℕ, List, ap}
use Rattle.std.proofs.lemmas.Bool.Decides.{Decides-eqb}
use Rattle.std.proofs.lemmas.Map.Lookups.{btree_map_eq-Decides}
use Rattle.rrv_model.specs.declared.machine.Thread.{Thread}
use Rattle.guest_threads.specs.Threads.{thread_map}
use Rattle.guest_threads.proofs.SameThreads.{same_thread, same_list}
use Rattle.guest_threads.proofs.by_tid.same_threads.Goals as goal

pub returns : goal.returns
returns c =
    let lists = btree_map_eq-Decides Decides-eqb same_thread c.args.threads.now c.args.others.now c.eq.result c.eq.ensures in (
      λ t. ap (λ (es : List (ℕ × Thread)). thread_map es) (lists.0 t),
      λ e. lists.1 (same_list c.args.threads.now c.args.others.now c.len-ordered.ensures.ordered c.len-other_ordered.ensures.ordered e),
    )
