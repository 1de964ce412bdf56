use Rattle.std.proofs.Common.{Some}
use Rattle.guest_calls.specs.Guest.{state_of}
use Rattle.guest_pages.specs.Snapshots.{IsPageOf}
use Rattle.checkpoint.specs.Made.{kept_memory}
use Rattle.checkpoint.proofs.Made.{made_mapped, of_kept, page_here}
use Rattle.checkpoint.proofs.making.page_at.Goals as goal

pub returns-clause-made : goal.returns-clause-made
returns-clause-made c =
    let space = c.args.guest.now.space in
    let token = c.args.base.now in
    let number = c.args.number in
    made_mapped (kept_memory c.args.guest.now token) (state_of c.args.guest.now).memory number c.in-Some.view c.snapshot_page.result
    c.mask_against-mask.result c.in_ok-lines.lines
    c.is_low.ensures
    (page_here c.space.result.now space number c.page.result (Some c.in-Some.view) c.space.ensures c.in-Some.is c.page.ensures)
    (of_kept c.space-2.result.now space token (λ before. IsPageOf before number c.snapshot_page.result) c.space-2.ensures
    c.snapshot_page.ensures)
    c.mask_against-mask.ensures c.in_ok-lines.ensures.lines c.in_ok-lines.ensures.texts
