use Rattle.std.proofs.Common.{◌≡◌, ℕ, List, IsSomeAnd, sym, subst, arith, refl}
use Rattle.page_tables.specs.Contents.{contents_of}
use Rattle.guest_pages.specs.Mapping.{SameAt, ListsOthers}
use Rattle.guest_pages.proofs.Changes.{none_then_on, same_then_on, differ_then_on}
use Rattle.guest_pages.proofs.mapping.list_changed.Goals.{then-not-same_as_kept+in_ok-push, else-not-same_as_kept}
use Rattle.guest_pages.proofs.mapping.list_changed.Goals as goal

pub loop-number-init : goal.loop-number-init
loop-number-init c =
    let kept = (contents_of c.args.tables.now).kept c.args.snapshot in
    let pages = (contents_of c.args.tables.now).pages in
    let next = c.next_of_both-number in
    (next.ensures.high, rw c.new-numbers.ensures.items (none_then_on kept pages next.result c.requires next.ensures.passed))

pub loop-number-preserved : goal.loop-number-preserved
loop-number-preserved c =
    let kept = (contents_of c.args.tables.now).kept c.args.snapshot in
    let pages = (contents_of c.args.tables.now).pages in
    let n = c.loop-number.number in
    let listed = c.loop-number.invariant.1 in
    let next = c.next_of_both-number-in-loop-number in
    let on = next.ensures.low (omega (arith, c.loop-number-test.true)) in
    let after : IsSomeAnd kept (λ before. ListsOthers (SameAt before pages) next.result c.if-not-same_as_kept.numbers.items) =
    elim c.if-not-same_as_kept.branch [
      | then-not-same_as_kept+in_ok-push w ↦
          rw w.numbers-is
          (subst (λ (xs : List ℕ). IsSomeAnd kept (λ before. ListsOthers (SameAt before pages) next.result xs))
          (sym w.in_ok-push.ensures.items)
          (differ_then_on kept pages n next.result c.loop-number.numbers.items on listed (w.if-not-same_as_kept.ensures.differ refl)
          next.ensures.passed))
      | else-not-same_as_kept w ↦
          rw w.numbers-is
          (same_then_on kept pages n next.result c.loop-number.numbers.items on listed (w.if-not-same_as_kept.ensures.same refl)
          next.ensures.passed)
    ] in
    (next.ensures.high, after)

pub returns-clause-listed : goal.returns-clause-listed
returns-clause-listed c =
    let kept = (contents_of c.args.tables.now).kept c.args.snapshot in
    let pages = (contents_of c.args.tables.now).pages in
    let end : c.loop-number.number ≡ 0x80000 = omega (arith, c.loop-number.invariant.0, c.loop-number-test.false) in
    subst (λ (n : ℕ). IsSomeAnd kept (λ before. ListsOthers (SameAt before pages) n c.loop-number.numbers.items)) end
    c.loop-number.invariant.1
