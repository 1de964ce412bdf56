use Rattle.guest_calls.specs.Guest.{state_of}
use Rattle.guest_pages.specs.Snapshots.{IsNextPage, IsPageOf}
use Rattle.checkpoint.specs.Made.{kept_memory}
use Rattle.checkpoint.proofs.Made.{low_page, of_kept}
use Rattle.checkpoint.proofs.making.is_low.Goals as goal

pub returns : goal.returns
returns c =
    let space = c.args.guest.now.space in
    let token = c.args.base.now in
    let number = c.args.number in
    low_page (kept_memory c.args.guest.now token) (state_of c.args.guest.now).memory number c.snapshot_page.result
    c.snapshot_next_page.result c.page_count.ensures.is_memory
    (of_kept c.space-space.result.now space token (λ before. IsPageOf before number c.snapshot_page.result) c.space-space.ensures
    c.snapshot_page.ensures)
    (of_kept c.space-space.result.now space token (λ before. IsNextPage before 0x80000 c.snapshot_next_page.result) c.space-space.ensures
    c.snapshot_next_page.ensures)
    c.requires.differs
