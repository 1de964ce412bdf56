use Rattle.std.proofs.Common.{◌<◌, ◌∙◌, rules, ap}
use Rattle.std.specs.Prelude.{All}
use Rattle.std.proofs.lemmas.List.Sorted.{IsNonDecreasingBy-from_sort_by_key, All-permutation}
use Rattle.rrv_model.specs.Elf.{Header, any_share}
use Rattle.elf_load.proofs.SharedBytes.{any_share-permutation, any_share-filter, All-has_memory}
use Rattle.elf_load.proofs.overlap.any_share.Goals as goal

pub any_neighbours_share-requires-clause-rising : goal.any_neighbours_share-requires-clause-rising
any_neighbours_share-requires-clause-rising c =
    rw c.deref.ensures.value
    (IsNonDecreasingBy-from_sort_by_key (λ (h : Header). h.address) _ c.in_ok-sort_by_key.ensures.sorted (λ a r q k. search rules))

pub any_neighbours_share-requires-clause-memory : goal.any_neighbours_share-requires-clause-memory
any_neighbours_share-requires-clause-memory c =
    let kept : All (λ (h : Header). 0 < h.memory_len) c.in_ok-ordered.ordered.items =
    rw c.in_ok-ordered.ensures (All-has_memory c.args.found.now) in
    rw c.deref.ensures.value
    (All-permutation (λ (h : Header). 0 < h.memory_len) c.in_ok-ordered.ordered.items c.sort_by_key.new.self.items
    c.in_ok-sort_by_key.ensures.permutation kept)

pub returns : goal.returns
returns c =
    c.any_neighbours_share.ensures ∙ ap any_share c.deref.ensures.value
    ∙ any_share-permutation c.in_ok-ordered.ordered.items c.sort_by_key.new.self.items c.in_ok-sort_by_key.ensures.permutation
    ∙ ap any_share c.in_ok-ordered.ensures ∙ any_share-filter c.args.found.now
