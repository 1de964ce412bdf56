use Rattle.std.proofs.Common.{◌≡◌, ◌∙◌, ℕ, false, List, [], get_or, sym, ap, subst}
use Rattle.std.proofs.lemmas.List.{take_all}
use Rattle.slab.specs.Slab.{get}
use Rattle.page_tables.specs.declared.new_pages.NewPage.{NewPage}
use Rattle.page_tables.specs.Table.{entry_at}
use Rattle.page_tables.specs.Changes.{is_listed}
use Rattle.page_tables.specs.Sharing.{pages_in, counts_in}
use Rattle.page_tables.specs.NewPages.{AreUnshared, AreCopies}
use Rattle.page_tables.proofs.Listed.{listed_taken}
use Rattle.page_tables.proofs.PlacedPages.{on_err}
use Rattle.page_tables.proofs.NewPages.{no_copies, next_is_own, next_copied, less_unshared, last_unshared}
use Rattle.page_tables.proofs.new_pages.copy_each.Goals as goal
use Rattle.page_tables.proofs.new_pages.copy_each.Goals.{After-is_own}

pub loop-number-init : goal.loop-number-init
loop-number-init c =
    let pages = pages_in (get c.args.pool.now) (entry_at c.args.table.now) in
    let counts = counts_in (get c.args.pool.now) (entry_at c.args.table.now) in
    let empty : c.new-copies.result.items ≡ [] = c.new-copies.ensures.items in
    record {
      copies = subst (λ (copies : List NewPage). AreCopies [] pages counts copies) (sym empty) (no_copies pages counts);
      none = λ own. empty;
    }

pub loop-number-preserved-then-is_own : goal.loop-number-preserved-then-is_own
loop-number-preserved-then-is_own c =
    let i = c.loop-number.number-index in
    record {
      copies = next_is_own c.args.numbers.now i c.loop-number-test.true _ _ _ c.loop-number.invariant.copies
          (c.is_own.ensures.own c.if-is_own.true);
      none = λ own. c.loop-number.invariant.none (less_unshared c.args.numbers.now i c.loop-number-test.true _ own);
    }

pub loop-number-preserved : goal.loop-number-preserved
loop-number-preserved c =
    let i = c.loop-number.number-index in
    record {
      copies = next_copied c.args.numbers.now i c.loop-number-test.true _ _ _ c.loop-number.invariant.copies _ c.in_ok-copy.copy
          c.in_ok-push.ensures.items c.in_ok-copy.ensures.number c.in_ok-copy.ensures.value;
      none = λ own. absurd (c.is_own.ensures.shared c.if-is_own.false (last_unshared c.args.numbers.now i c.loop-number-test.true _ own));
    }

-- where a page is copied, not all are their own
not_own : (c : After-is_own) → false ≡ c.is_own.result → AreUnshared c.args.numbers.now
    (counts_in (get c.args.pool.now) (entry_at c.args.table.now)) → ⊥
not_own c shared own =
    c.is_own.ensures.shared (sym shared)
    (own (get_or c.args.numbers.now c.loop-number.number-index 0)
    (listed_taken c.args.numbers.now c.loop-number.number-index c.loop-number-test.true))

pub returns-in_err-copy-clause-grows : goal.returns-in_err-copy-clause-grows
returns-in_err-copy-clause-grows c =
    on_err _ _ (not_own (goal.at.returns-in_err-copy-clause-grows c).After-is_own (sym c.if-is_own.false))

pub returns-in_err-push-clause-grows : goal.returns-in_err-push-clause-grows
returns-in_err-push-clause-grows c =
    on_err _ _ (not_own (goal.at.returns-in_err-push-clause-grows c).After-is_own (sym c.if-is_own.false))

pub returns-clause-copies : goal.returns-clause-copies
returns-clause-copies c =
    subst (λ (ns : List ℕ). AreCopies ns (pages_in (get c.args.pool.now) (entry_at c.args.table.now))
    (counts_in (get c.args.pool.now) (entry_at c.args.table.now)) c.loop-number.copies.items)
    (take_all c.loop-number.number-index c.args.numbers.now c.loop-number-test.false) c.loop-number.invariant.copies

pub returns-clause-none : goal.returns-clause-none
returns-clause-none c = λ own. c.loop-number.invariant.none
    (λ n a. own n
    (ap (λ (ns : List ℕ). is_listed ns n) (sym (take_all c.loop-number.number-index c.args.numbers.now c.loop-number-test.false)) ∙ a))
