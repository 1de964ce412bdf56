use Rattle.std.proofs.Common.{◌≡◌, refl, sym, ◌∙◌, ap, arith}
use Rattle.rrv_model.specs.Memory.{all_cells}
use Rattle.page_tables.specs.Contents.{contents_of}
use Rattle.guest_pages.specs.Space.{SpaceValue, memory_of, test_of}
use Rattle.guest_pages.proofs.Cells.{pages_of_range}
use Rattle.guest_pages.proofs.Facts.{too_long}
use Rattle.guest_pages.proofs.address_space.Space.passes.Goals as goal

pub returns-in_default : goal.returns-in_default
returns-in_default c =
    sym (ap (λ (s : SpaceValue). all_cells (test_of c.args.access) (memory_of s) c.args.address c.args.count) (sym c.self.view_is)
    ∙ too_long c.args.access (contents_of c.self.inside.tables).pages c.self.invariant.pages.each c.args.address c.args.count
    (omega (arith, c.in_default.ensures)))

pub returns-then-count-eq0 : goal.returns-then-count-eq0
unfolding all_cells
returns-then-count-eq0 c = let none : c.args.count ≡ 0 = grind (arith, c.in-Ok.ensures) in rw none refl

pub returns : goal.returns
returns c =
    pages_of_range c.args.access (contents_of c.args.self.now).pages c.args.address c.args.count _
    c.pages_pass.result (grind (arith, c.in-Ok.ensures)) (grind (arith, c.in-Ok.ensures)) c.pages_pass.ensures.all c.pages_pass.ensures.one
