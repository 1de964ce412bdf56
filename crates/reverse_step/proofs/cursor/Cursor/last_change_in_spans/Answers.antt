use Rattle.std.proofs.Common.{arith, ◌≡◌, ◌∙◌, Option, ℕ, ap, subst}
use Rattle.outcomes.proofs.Results.{OnErr-from}
use Rattle.replayer.specs.Verified.{VerifiedValue}
use Rattle.replayer.specs.Changes.{IsLastIn}
use Rattle.reverse_step.specs.Cursors.{CursorValue}
use Rattle.replayer.proofs.Changed.{none_join}
use Rattle.reverse_step.proofs.Changed.{some_join}
use Rattle.reverse_step.proofs.cursor.Cursor.last_change_in_spans.Goals as goal

pub returns-in_err-found-clause-verified : goal.returns-in_err-found-clause-verified
returns-in_err-found-clause-verified g c = ap (λ (v : CursorValue). v.verified) c.loop-end.invariant.same

pub returns-in_err-found-clause-refused : goal.returns-in_err-found-clause-refused
returns-in_err-found-clause-refused g c = OnErr-from c.from_residual.result c.loop-end.invariant.same

pub returns-in_err-self-inside-in-Some-clause-verified : goal.returns-in_err-self-inside-in-Some-clause-verified
returns-in_err-self-inside-in-Some-clause-verified g c = ap (λ (v : CursorValue). v.verified) c.loop-end.invariant.same

pub returns-in_err-self-inside-in-Some-clause-refused : goal.returns-in_err-self-inside-in-Some-clause-refused
returns-in_err-self-inside-in-Some-clause-refused g c =
    OnErr-from c.from_residual-in_err-self-inside-in-Some.result c.loop-end.invariant.same

pub returns-in-Some-clause-change : goal.returns-in-Some-clause-change
returns-in-Some-clause-change g c =
    let old = c.args.self.now in
    let i = c.loop-end.invariant in
    let a = c.args.address in
    let start = c.spans_before-start.result in
    let same : c.verified-verified.result.now ≡ old.verified =
    c.verified-verified.ensures ∙ ap (λ (v : CursorValue). v.verified) c.self.view_is in
    let found = subst (λ (v : VerifiedValue). IsLastIn v.opening v.frames a start c.loop-end.end c.in_ok-found.found) same
    c.in_ok-found.ensures in
    let some = subst (λ (f : Option ℕ). IsLastIn old.verified.opening old.verified.frames a start c.loop-end.end f) c.in-Some.is found in
    some_join old.verified.opening old.verified.frames a start c.loop-end.end old.place c.in-Some.t some i.low i.none

pub loop-end-preserved : goal.loop-end-preserved
loop-end-preserved g c =
    let old = c.args.self.now in
    let i = c.loop-end.invariant in
    let a = c.args.address in
    let start = c.spans_before-start.result in
    let low = c.spans_before-start.ensures in
    let same : c.verified-verified.result.now ≡ old.verified =
    c.verified-verified.ensures ∙ ap (λ (v : CursorValue). v.verified) c.self.view_is in
    let found = subst (λ (v : VerifiedValue). IsLastIn v.opening v.frames a start c.loop-end.end c.in_ok-found.found) same
    c.in_ok-found.ensures in
    let none = subst (λ (f : Option ℕ). IsLastIn old.verified.opening old.verified.frames a start c.loop-end.end f) c.in-None.is found in
    record {
      none = none_join old.verified.opening old.verified.frames a start c.loop-end.end old.place none i.none;
      low = omega (arith, low, i.low);
      same = i.same;
    }

pub returns-clause-verified : goal.returns-clause-verified
returns-clause-verified g c = ap (λ (v : CursorValue). v.verified) c.loop-end.invariant.same

pub returns-clause-change : goal.returns-clause-change
returns-clause-change g c = λ t low high. c.loop-end.invariant.none t (omega (arith, c.loop-end-test.false)) high

pub returns-clause-stays : goal.returns-clause-stays
returns-clause-stays g c = c.loop-end.invariant.same
