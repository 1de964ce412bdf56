use Rattle.std.proofs.Common.{◌∙◌}
use Rattle.rrv_model.specs.Memory.{Memory}
use Rattle.guest_pages.specs.Snapshots.{IsPageOf}
use Rattle.guest_pages.proofs.SnapshotPages.{kept_seen}
use Rattle.guest_pages.proofs.Spaces.{page_read}
use Rattle.guest_pages.proofs.address_space.Space.snapshot_page.Goals as goal

pub returns : goal.returns
returns c =
    kept_seen c.self.view_is c.number.ensures (λ (m : Memory). IsPageOf m c.args.number c.view_of.result) _
    (λ pages e. page_read pages c.args.number c.view_of.result (c.view_of.ensures ∙ e)) c.kept_page.ensures
