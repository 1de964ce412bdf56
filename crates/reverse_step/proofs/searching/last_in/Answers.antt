use Rattle.std.proofs.Common.{arith, ◌≡◌, Option, ℕ, ◌∙◌, subst, sym}
use Rattle.replayer.specs.Verified.{VerifiedValue}
use Rattle.replayer.specs.Changes.{IsLastIn}
use Rattle.reverse_step.proofs.Changed.{last_join}
use Rattle.reverse_step.proofs.searching.last_in.Goals as goal

pub loop-alloc-init : goal.loop-alloc-init
loop-alloc-init c =
    let at = c.in_ok-place.ensures.at in
    record {
      same = c.in_ok-place.ensures.verified;
      last = λ t low high change. omega (arith, low, high, at);
      low = omega (arith, at);
      high = omega (arith, at, c.requires.low);
    }

pub loop-alloc-preserved : goal.loop-alloc-preserved
loop-alloc-preserved c =
    let v = c.args.verified.now in
    let a = c.args.address in
    let i = c.loop-alloc.invariant in
    let at = c.loop-alloc.place.at in
    let next = c.in_ok-next.next in
    let changed = c.in_ok-next.changed in
    let on = c.in_ok-next.ensures.on in
    let behind : IsLastIn v.opening v.frames a at next.at changed =
    subst (λ (w : VerifiedValue). IsLastIn w.opening w.frames a at next.at changed) i.same c.in_ok-next.ensures.change in
    let last = last_join v.opening v.frames a c.args.start at next.at c.loop-alloc.found changed i.low (omega (arith, on)) i.last behind in
    record {
      same = c.in_ok-next.ensures.verified ∙ i.same;
      last = subst (λ (found : Option ℕ). IsLastIn v.opening v.frames a c.args.start next.at found) (sym c.or-found.ensures) last;
      low = omega (arith, on, i.low);
      high = c.in_ok-next.ensures.within;
    }

pub returns : goal.returns
returns c =
    let i = c.loop-alloc.invariant in
    let high = i.high in
    let there : c.loop-alloc.place.at ≡ c.args.end = omega (arith, c.at.ensures.at, c.loop-alloc-test.false, high) in
    subst (λ n. IsLastIn c.args.verified.now.opening c.args.verified.now.frames c.args.address c.args.start n c.loop-alloc.found) there
    i.last
