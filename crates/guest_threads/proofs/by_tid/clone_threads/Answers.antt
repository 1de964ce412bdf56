use Rattle.std.proofs.Common.{◌≡◌}
use Rattle.std.proofs.lemmas.Map.Entries.{entries_from_clone}
use Rattle.guest_threads.proofs.by_tid.clone_threads.Goals as goal

pub returns : goal.returns
returns c = entries_from_clone (λ a b. b ≡ a) (λ a b. b ≡ a) (λ a b e. e) (λ a b e. e) c.args.threads.now.entries _
    c.in_ok-clone.ensures.cases
