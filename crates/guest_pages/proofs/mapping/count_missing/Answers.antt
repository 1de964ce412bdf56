use Rattle.std.proofs.Common.{◌≡◌, ◌∙◌, ℕ, ◌+◌, ◌-◌, List, [], ◌∷◌, length, length-append, is_some, true, false, sym, ap, arith}
use Rattle.std.proofs.lemmas.Bool.{false≢true}
use Rattle.page_tables.specs.Contents.{contents_of}
use Rattle.guest_pages.specs.Mapping.{missing}
use Rattle.guest_pages.proofs.MissingPages.{missing_there, missing_absent, missing_some}
use Rattle.guest_pages.proofs.mapping.count_missing.Goals as goal

pub loop-number-preserved-then-is_there : goal.loop-number-preserved-then-is_there
loop-number-preserved-then-is_there c =
    let pages = (contents_of c.args.tables.now).pages in
    let there : is_some (pages c.loop-number.number) ≡ true = sym c.is_there.ensures ∙ c.if-is_there.true in
    let same = missing_there pages c.args.first c.loop-number.number c.loop-number.auto.number there in
    record {
      count = c.loop-number.invariant.count ∙ ap (λ (n : List ℕ). length n) (sym same);
      few = omega (arith, c.loop-number.invariant.few);
    }

pub loop-number-preserved : goal.loop-number-preserved
loop-number-preserved c =
    let pages = (contents_of c.args.tables.now).pages in
    let absent : is_some (pages c.loop-number.number) ≡ false = sym c.is_there.ensures ∙ c.if-is_there.false in
    let more = missing_absent pages c.args.first c.loop-number.number c.loop-number.auto.number absent in
    let longer : length (missing pages c.args.first (c.loop-number.number + 1 - c.args.first))
    ≡ length (missing pages c.args.first (c.loop-number.number - c.args.first)) + 1 =
    ap (λ (n : List ℕ). length n) more
    ∙ length-append (missing pages c.args.first (c.loop-number.number - c.args.first)) (c.loop-number.number ∷ []) in
    record {
      count = omega (arith, longer, c.loop-number.invariant.count);
      few = omega (arith, c.loop-number.invariant.few, c.loop-number.auto.number);
    }

pub returns-clause-grows : goal.returns-clause-grows
returns-clause-grows c = λ some own.
    let missed = c.loop-number.invariant in
    let last : c.loop-number.number ≡ c.args.first + c.args.count = omega (arith, c.loop-number.auto, c.loop-number-test.false) in
    let whole : c.loop-number.number - c.args.first ≡ c.args.count = omega (arith, last) in
    let count : c.loop-number.missing ≡ length (missing (contents_of c.args.tables.now).pages c.args.first c.args.count) =
    missed.count ∙ ap (λ (k : ℕ). length (missing (contents_of c.args.tables.now).pages c.args.first k)) whole in
    let one = missing_some (contents_of c.args.tables.now).pages c.args.first c.args.count (omega (arith, some, count)) in
    let there : is_some ((contents_of c.args.tables.now).pages one.0) ≡ true =
    (c.all_own.ensures.counted one.0).1 (ap is_some (own one.0 one.1 one.2)) in
    false≢true (sym (ap is_some one.3) ∙ there)
