use Rattle.std.proofs.Common.{◌∙◌, subst, sym}
use Rattle.rrv_model.specs.Checkpoint.{Describes}
use Rattle.guest_calls.specs.Guest.{state_of}
use Rattle.replayer.specs.Pairs.{PairValue}
use Rattle.replayer.proofs.Pairs.{is_kept, made_describes, some_kept}
use Rattle.replayer.proofs.pair.Pair.are_made.Goals as goal

pub make-requires : goal.make-requires
make-requires c =
    let guest = c.self.inside.guest in
    let base = c.self.inside.base in
    let keeps = is_kept c.self.inside.kept guest base c.in-Some.kept c.in-Some.is c.self.invariant in
    some_kept _ _ keeps.memory

pub returns : goal.returns
returns c = λ same.
    let guest = c.self.inside.guest in
    let base = c.self.inside.base in
    let keeps = is_kept c.self.inside.kept guest base c.in-Some.kept c.in-Some.is c.self.invariant in
    let rest = c.is_at_rest.ensures c.if-not-is_at_rest.false in
    subst (λ (p : PairValue). Describes (state_of p.base) c.args.parts.now (state_of p.guest)) c.self.view_is
    (made_describes guest base c.in-Some.kept c.in-Ok.made.items c.args.parts.now keeps c.threads.ensures.is_state rest.0 rest.1
    c.in-Ok.ensures.describes (sym c.as_slice.ensures.value ∙ c.are_same_parts.ensures.0 same))
