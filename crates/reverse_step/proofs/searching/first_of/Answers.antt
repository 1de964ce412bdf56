use Rattle.std.proofs.Common.{arith, Option, ℕ, ◌∙◌, subst}
use Rattle.replayer.specs.Verified.{VerifiedValue}
use Rattle.replayer.specs.Changes.{IsLastIn}
use Rattle.replayer.proofs.Changed.{none_join}
use Rattle.reverse_step.proofs.Changed.{first_here}
use Rattle.reverse_step.proofs.searching.first_of.Goals as goal

pub loop-alloc-init : goal.loop-alloc-init
loop-alloc-init c =
    let at = c.in_ok-place.ensures.at in
    record {
      same = c.in_ok-place.ensures.verified;
      none = λ t low high change. omega (arith, low, high, at);
      low = omega (arith, at);
      high = omega (arith, at, c.requires.low);
    }

pub returns-in-Some : goal.returns-in-Some
returns-in-Some c =
    let v = c.args.verified.now in
    let a = c.args.address in
    let i = c.loop-alloc.invariant in
    let from = c.loop-alloc.place.at in
    let next = c.in_ok-next.next in
    let changed = c.in_ok-next.changed in
    let at = c.at-at.ensures.at in
    let within = c.in_ok-next.ensures.within in
    let behind : IsLastIn v.opening v.frames a from next.at changed =
    subst (λ (w : VerifiedValue). IsLastIn w.opening w.frames a from next.at changed) i.same c.in_ok-next.ensures.change in
    let here = subst (λ (f : Option ℕ). IsLastIn v.opening v.frames a from next.at f) c.in-Some.is behind in
    first_here v.opening v.frames a c.args.start from next.at c.args.end c.in-Some.t i.low (omega (arith, within, at))
    (omega (arith, within, at, c.at.ensures.at, c.loop-alloc-test.true)) i.none here

pub loop-alloc-preserved : goal.loop-alloc-preserved
loop-alloc-preserved c =
    let v = c.args.verified.now in
    let a = c.args.address in
    let i = c.loop-alloc.invariant in
    let from = c.loop-alloc.place.at in
    let next = c.in_ok-next.next in
    let changed = c.in_ok-next.changed in
    let at = c.at-at.ensures.at in
    let on = c.in_ok-next.ensures.on in
    let within = c.in_ok-next.ensures.within in
    let behind : IsLastIn v.opening v.frames a from next.at changed =
    subst (λ (w : VerifiedValue). IsLastIn w.opening w.frames a from next.at changed) i.same c.in_ok-next.ensures.change in
    let none = subst (λ (f : Option ℕ). IsLastIn v.opening v.frames a from next.at f) c.in-None.is behind in
    record {
      same = c.in_ok-next.ensures.verified ∙ i.same;
      none = none_join v.opening v.frames a c.args.start from next.at i.none none;
      low = omega (arith, on, i.low);
      high = omega (arith, within, at, c.at.ensures.at, c.loop-alloc-test.true);
    }

pub returns : goal.returns
returns c = λ t low high. c.loop-alloc.invariant.none t low (omega (arith, high, c.at.ensures.at, c.loop-alloc-test.false))
