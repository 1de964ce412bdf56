use Rattle.std.proofs.Common.{◌≡◌, ◌∙◌, ◌+◌, ◌-◌, ℕ, refl, subst, true, sym, ap, inl, inr, arith, is_some}
use Rattle.std.proofs.lemmas.Bool.Decides.{eqb_tells}
use Rattle.page_tables.specs.Contents.{contents_of}
use Rattle.page_tables.specs.Changes.{freed}
use Rattle.guest_pages.specs.Live.{freed_in, live_of}
use Rattle.guest_pages.proofs.Live.{absent_frees, freed_more, freed_none}
use Rattle.guest_pages.proofs.Ranges.{count_removed}
use Rattle.guest_pages.proofs.Spaces.{no_page, removed_each}
use Rattle.guest_pages.proofs.mapping.remove_range.Goals as goal

pub loop-number-init : goal.loop-number-init
loop-number-init c = record {
  removed = λ q from to. absurd (omega (arith, from, to));
  below = λ q l. refl;
  above = λ q l. refl;
  each = c.requires.each;
  kept = refl;
  count = omega arith;
  few = omega arith;
  counts = λ q l. refl;
  live = omega (arith, freed_none c.args.tables.now c.args.first);
}

pub loop-number-preserved-then-not-is_there : goal.loop-number-preserved-then-not-is_there
loop-number-preserved-then-not-is_there c =
    let held = c.loop-number.invariant in
    let n = c.loop-number.number in
    let here = no_page ((contents_of c.loop-number.tables).pages n) (sym c.is_there.ensures ∙ c.if-not-is_there.true) in
    let none = absent_frees c.args.tables.now n (c.all_own.ensures.counted n).1 (sym (held.above n (omega arith)) ∙ here) in
    record {
      removed = λ q from to. elim (eqb_tells q n) [
        | inl w ↦ ap (contents_of c.loop-number.tables).pages w.1 ∙ here
        | inr w ↦ held.removed q from (omega (arith, to, w.1))
      ];
      below = held.below;
      above = λ q l. held.above q (omega (arith, l));
      each = held.each;
      kept = held.kept;
      count = held.count;
      few = omega (arith, held.few);
      counts = λ q l. held.counts q (omega (arith, l));
      live = omega (arith, freed_more c.args.tables.now c.args.first n c.loop-number.auto.number, none, held.live);
    }

pub loop-number-preserved : goal.loop-number-preserved
loop-number-preserved c =
    let held = c.loop-number.invariant in
    let n = c.loop-number.number in
    let gone = c.remove.ensures in
    let pages = (contents_of c.loop-number.tables).pages in
    let after = (contents_of c.remove.new.self).pages in
    let there : is_some (pages n) ≡ true = sym c.is_there.ensures ∙ c.if-not-is_there.false in
    let count = count_removed pages after n held.each there gone.here gone.rest.pages in
    record {
      removed = λ q from to. elim (eqb_tells q n) [
        | inl w ↦ ap after w.1 ∙ gone.here
        | inr w ↦ gone.rest.pages q w.1 ∙ held.removed q from (omega (arith, to, w.1))
      ];
      below = λ q l. gone.rest.pages q (λ e. absurd (omega (arith, e, l, c.loop-number.auto.number))) ∙ held.below q l;
      above = λ q l. gone.rest.pages q (λ e. absurd (omega (arith, e, l))) ∙ held.above q (omega (arith, l));
      each = removed_each pages after n held.each gone.here gone.rest.pages;
      kept = gone.rest.kept ∙ held.kept;
      count = omega (arith, count, held.count);
      few = omega (arith, held.few, c.loop-number.auto.number);
      counts = λ q l. gone.rest.counts q (λ e. absurd (omega (arith, e, l))) ∙ held.counts q (omega (arith, l));
      live = omega (
        arith,
        freed_more c.args.tables.now c.args.first n c.loop-number.auto.number,
        ap freed (held.counts n (omega arith)),
        gone.live,
        held.live,
      );
    }

pub returns-clause-live : goal.returns-clause-live
returns-clause-live c =
    let end : c.loop-number.number - c.args.first ≡ c.args.count = omega arith in
    subst (λ (k : ℕ). live_of c.loop-number.tables + freed_in c.args.tables.now c.args.first k ≡ live_of c.args.tables.now) end
    c.loop-number.invariant.live
