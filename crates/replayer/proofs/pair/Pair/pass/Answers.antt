use Rattle.std.proofs.Common.{◌≡◌, ◌∙◌, ap, refl, subst, sym}
use Rattle.std.proofs.lemmas.Bool.{false≢true}
use Rattle.std.proofs.lemmas.Result.{err_from_is_err_and}
use Rattle.rrv_model.specs.Checkpoint.{Describes}
use Rattle.rrv_model.specs.State.{State}
use Rattle.guest_calls.specs.Guest.{state_of}
use Rattle.replayer.specs.Pairs.{PairValue}
use Rattle.replayer.proofs.Described.{one_described}
use Rattle.replayer.proofs.Pairs.{are_kept, keeps_new}
use Rattle.replayer.proofs.pair.Pair.pass.Goals as goal
use Rattle.replayer.proofs.pair.Pair.pass.Goals.{In_ok-put}

-- a state that the parts describe is the one that they give of the base
same_state : (c : In_ok-put) → Describes (state_of c.self.inside.base) c.args.parts.now (state_of c.self.inside.guest) →
    state_of c.put.new.base ≡ state_of c.self.inside.guest
same_state c = one_described (state_of c.self.inside.base) _ _ c.args.parts.now c.in_ok-put.ensures.put

pub are_same-requires : goal.are_same-requires
are_same-requires c = λ known.
    same_state (goal.at.are_same-requires c).In_ok-put
    (subst (λ (p : PairValue). Describes (state_of p.base) c.args.parts.now (state_of p.guest)) (sym c.self.view_is)
    (c.are_made-is_known.ensures known))

pub release-requires : goal.release-requires
release-requires c =
    rw c.take-kept.ensures.value (are_kept c.self.inside.kept c.self.inside.guest c.self.inside.base c.self.invariant)

pub returns-in_err-put-clause-refused : goal.returns-in_err-put-clause-refused
returns-in_err-put-clause-refused c =
    let p = err_from_is_err_and c.from_residual.result c.from_residual.ensures.1 in
    rw (p.1, p.2, ← c.self.view_is) (c.in_err-put.ensures.refused (state_of c.self.inside.guest))

pub returns-then-not-are_same-clause-refused : goal.returns-then-not-are_same-clause-refused
returns-then-not-are_same-clause-refused c = (
  refl,
  λ described.
      absurd (false≢true (sym c.if-not-are_same.true ∙ c.are_same.ensures.1 (same_state
      (goal.at.returns-then-not-are_same-clause-refused c).In_ok-put
      (subst (λ (p : PairValue). Describes (state_of p.base) c.args.parts.now (state_of p.guest)) (sym c.self.view_is) described)))),
)

pub returns-clause-describes : goal.returns-clause-describes
returns-clause-describes c =
    let inside = c.self.inside in
    subst (λ (p : PairValue). Describes (state_of p.base) c.args.parts.now (state_of p.guest)) c.self.view_is
    (subst (λ (s : State). Describes (state_of inside.base) c.args.parts.now s) (c.are_same.ensures.0 c.if-not-are_same.false)
    c.in_ok-put.ensures.put)

pub returns-clause-base : goal.returns-clause-base
returns-clause-base c = c.are_same.ensures.0 c.if-not-are_same.false ∙ ap (λ (p : PairValue). state_of p.guest) c.self.view_is

pub returns-clause-guest : goal.returns-clause-guest
returns-clause-guest c = c.keep-self-inside.ensures.state ∙ c.release.ensures ∙ ap (λ (p : PairValue). state_of p.guest) c.self.view_is

pub invariant_of-self-2 : goal.invariant_of-self-2
invariant_of-self-2 c =
    keeps_new c.keep-self-inside.result c.release.new.guest c.keep-self-inside.new.guest c.put.new.base c.keep-self-inside.ensures.kept
    c.keep-self-inside.ensures.state
    (c.release.ensures ∙ sym (c.are_same.ensures.0 c.if-not-are_same.false))
