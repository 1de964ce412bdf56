use Rattle.std.proofs.Common.{◌∙◌, ℕ, Some, Option, ap, sym, subst, refl}
use Rattle.page_tables.specs.Contents.{contents_of}
use Rattle.page_tables.specs.Changes.{IsNext, shown}
use Rattle.guest_pages.proofs.Copies.{copied_next}
use Rattle.guest_pages.proofs.copying.copy_pages.Goals.{in-Some-page+in_ok-place, in_default-page}
use Rattle.guest_pages.proofs.copying.copy_pages.Goals as goal

pub loop-number-preserved : goal.loop-number-preserved
loop-number-preserved c =
    let i = c.loop-number.invariant in
    let from = (contents_of c.args.from.now).pages in
    let copy = (contents_of c.loop-number.copy).pages in
    let n = c.in-Some.number in
    let next : IsNext from c.loop-number.least (Some n) =
    subst (λ (o : Option ℕ). IsNext from c.loop-number.least o) c.in-Some.is c.next.ensures in
    elim c.match-page.branch [
      | in-Some-page+in_ok-place w ↦
          let put = w.in_ok-place.ensures.placed in
          rw w.copy-is (record {
            copied = copied_next from copy (contents_of w.place.new.self).pages c.loop-number.least n i.copied next
                (put.here ∙ ap shown (sym w.in-Some-page.is) ∙ c.page.ensures) put.rest.pages;
            kept = λ k. ap (λ f. f k) put.rest.kept ∙ i.kept k;
          })
      | in_default-page w ↦
          rw w.copy-is (record {
            copied = copied_next from copy copy c.loop-number.least n i.copied next
                (i.copied.ahead n next.0 ∙ ap shown (sym w.in_default-page.is) ∙ c.page.ensures) (λ q apart. refl);
            kept = i.kept;
          })
    ]
