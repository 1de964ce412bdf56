use Rattle.rrv_model.specs.Memory.{Memory}
use Rattle.guest_pages.specs.Snapshots.{IsNextPage}
use Rattle.guest_pages.proofs.NextPages.{next_mapped}
use Rattle.guest_pages.proofs.SnapshotPages.{kept_seen}
use Rattle.guest_pages.proofs.address_space.Space.snapshot_next_page.Goals as goal

pub returns : goal.returns
returns c =
    kept_seen c.self.view_is c.number.ensures (λ (m : Memory). IsNextPage m c.args.least c.kept_next.result) _
    (λ pages e. next_mapped pages c.args.least c.kept_next.result e) c.kept_next.ensures
