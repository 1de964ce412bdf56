use Rattle.std.proofs.Common.{◌≤◌, ◌∙◌, Option, ℕ, arith, subst}
use Rattle.replayer.specs.Verified.{VerifiedValue}
use Rattle.changes.specs.Changes.{GoesTo}
use Rattle.changes.specs.Printed.{IsShownText}
use Rattle.changes.proofs.Runs.{no_more, one_more}
use Rattle.changes.proofs.printing.print_each.Goals as goal

pub returns-in-None-clause-printed : goal.returns-in-None-clause-printed
returns-in-None-clause-printed g c =
    let v = c.args.cursor.now.verified in
    let w = c.args.shown.watched in
    let i = c.loop-count.invariant in
    let now = c.previous.new in
    let goes = subst (λ (x : Option ℕ). GoesTo v w c.loop-count.place now.cursor.place now.lasts x) c.in-None.is
    (subst (λ (x : VerifiedValue). GoesTo x w c.loop-count.place now.cursor.place now.lasts c.in_ok-found.field-0) i.same
    c.in_ok-found.ensures.goes) in
    let few : c.loop-count.count ≤ c.args.times = omega (arith, c.loop-count-test.true) in
    no_more v c.args.shown c.args.cursor.now.place c.loop-count.place c.args.times c.loop-count.count _ _ few i.so_far goes.is_last

pub loop-count-preserved : goal.loop-count-preserved
loop-count-preserved g c =
    let v = c.args.cursor.now.verified in
    let shown = c.args.shown in
    let i = c.loop-count.invariant in
    let now = c.previous.new in
    let told = c.in_ok-found.ensures in
    let goes = subst (λ (x : Option ℕ). GoesTo v shown.watched c.loop-count.place now.cursor.place now.lasts x) c.in-Some.is
    (subst (λ (x : VerifiedValue). GoesTo x shown.watched c.loop-count.place now.cursor.place now.lasts c.in_ok-found.field-0) i.same
    told.goes) in
    let low = goes.is_last.0 in
    let within = i.within in
    let printed = c.in_ok-print_change.ensures.printed in
    let own = subst (λ (n : ℕ). IsShownText v.opening v.frames shown n printed.0) goes.is_at
    (subst (λ (x : VerifiedValue). IsShownText x.opening x.frames shown now.cursor.place printed.0) (told.verified ∙ i.same) printed.1) in
    record {
      same = c.in_ok-print_change.ensures.verified ∙ told.verified ∙ i.same;
      within = omega (arith, low, within);
      length_is = told.count;
      known = goes.known;
      so_far = one_more v shown c.args.cursor.now.place c.loop-count.place c.loop-count.count c.in-Some.found _ _ _ printed.0 i.so_far
          goes.is_last own printed.2;
    }
