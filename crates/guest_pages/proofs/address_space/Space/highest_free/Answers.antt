use Rattle.std.proofs.Common.{◌≡◌, ℕ, ◌∙◌, true, ap, sym, arith}
use Rattle.rrv_model.specs.Memory.{all_free, highest_free_up_to}
use Rattle.guest_pages.specs.Space.{SpaceValue, memory_of}
use Rattle.guest_pages.proofs.Ranges.{free_range, found_free, none_free, skip_taken}
use Rattle.guest_pages.proofs.address_space.Space.highest_free.Goals as goal

pub returns-in_default : goal.returns-in_default
returns-in_default c =
    let m = memory_of c.self.inside.tables in
    let free : all_free m c.loop-page.page c.args.count ≡ true = free_range m c.loop-page.page c.args.count c.in_default.ensures.none in
    sym (ap (λ (s : SpaceValue). highest_free_up_to c.args.up_to (memory_of s) c.args.count) (sym c.self.view_is)
    ∙ c.loop-page.invariant.same ∙ found_free m c.args.count c.loop-page.page c.loop-page-test.true free)

pub loop-page-preserved : goal.loop-page-preserved
loop-page-preserved c =
    let m = memory_of c.self.inside.tables in
    let taken = c.in-Some.ensures.some in
    let held = c.loop-page.invariant in
    record {
      low = omega (arith, held.low, taken, c.saturating_sub-page.ensures);
      same = held.same
          ∙ skip_taken m c.args.count c.in-Some.taken c.loop-page.page c.saturating_sub-page.result taken.2 taken.0 taken.1
          (omega (arith, c.saturating_sub-page.ensures)) (omega (arith, taken, c.saturating_sub-page.ensures));
    }

pub returns : goal.returns
returns c =
    let m = memory_of c.self.inside.tables in
    let zero : c.loop-page.page ≡ 0 = omega (arith, c.loop-page-test.false) in
    sym (ap (λ (s : SpaceValue). highest_free_up_to c.args.up_to (memory_of s) c.args.count) (sym c.self.view_is)
    ∙ c.loop-page.invariant.same
    ∙ ap (λ (p : ℕ). highest_free_up_to p m c.args.count) zero ∙ none_free m c.args.count)
