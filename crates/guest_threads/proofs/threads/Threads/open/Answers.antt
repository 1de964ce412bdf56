use Rattle.std.proofs.Common.{◌≡◌, ℕ, [], List, ap, ◌∙◌, arith}
use Rattle.std.specs.FinMap.{empty, insert, len-empty}
use Rattle.std.specs.Ordering.{nat_cmp}
use Rattle.rrv_model.specs.declared.machine.Thread.{Thread}
use Rattle.guest_threads.specs.Threads.{thread_map}
use Rattle.rrv_model.proofs.ThreadRules.{moved, no_threads, few_at_once, keeps_spawned}
use Rattle.guest_threads.proofs.threads.Threads.open.Goals as goal

pub invariant_of-result : goal.invariant_of-result
invariant_of-result c =
    let made : thread_map c.add_thread.new.threads.entries ≡ insert empty 1 c.args.first =
    c.in-Ok.ensures.added ∙ ap (λ (es : List (ℕ × Thread)). insert (thread_map es) 1 c.args.first) c.new-threads.ensures.empty in
    moved made c.new.ensures.items
    (keeps_spawned empty [] 1 c.args.first (no_threads c.args.version) (omega (arith, len-empty nat_cmp Thread, few_at_once c.args.version))
    (omega arith) c.requires.fits c.requires.runs)
