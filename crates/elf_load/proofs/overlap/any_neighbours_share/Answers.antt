use Rattle.std.proofs.Common.{◌-◌, ◌∙◌, arith, sym}
use Rattle.elf_load.proofs.SharedBytes.{any_share-at, any_share-neighbours}
use Rattle.elf_load.proofs.overlap.any_neighbours_share.Goals as goal

pub returns-then-shares : goal.returns-then-shares
returns-then-shares c =
    sym (any_share-at c.args.ordered.now (c.loop-index.index - 1) c.loop-index.index c.index-ordered-index.result
    c.index-ordered-index-in-loop-index.result
    (omega arith) (omega arith) c.index-ordered-index.is c.index-ordered-index-in-loop-index.is (sym c.shares.ensures ∙ c.if-shares.true))

pub returns : goal.returns
returns c =
    sym (any_share-neighbours c.args.ordered.now c.requires.rising c.requires.memory (λ k d low. c.loop-index.invariant k d (omega arith)))
