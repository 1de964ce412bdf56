use Rattle.std.proofs.Common.{Option, refl, slice_index, subst, sym, ℕ}
use Rattle.rrv_model.specs.LineMask.{IsLineMask}
use Rattle.guest_pages.specs.declared.page.PageView.{PageView}
use Rattle.checkpoint.specs.Made.{bytes_of}
use Rattle.checkpoint.proofs.Made.{mask_by}
use Rattle.checkpoint.proofs.making.mask_against.Goals as goal

pub returns-in-None : goal.returns-in-None
returns-in-None c =
    let zero_byte : ℕ = 0 in
    let a = slice_index c.args.bytes.now in
    let mask = c.changed-in-None.result in
    subst (λ (o : Option PageView). IsLineMask a (bytes_of o) mask) (sym c.in-None.is)
    (mask_by a (slice_index c.zero_page.result) a (λ k. zero_byte) mask (λ k low. refl) (λ k low. sym (c.zero_page.ensures k low))
    c.changed-in-None.ensures)
