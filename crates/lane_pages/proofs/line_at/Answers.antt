use Rattle.lane_pages.proofs.Pages.{line_is}
use Rattle.lane_pages.proofs.line_at.Goals as goal

pub returns : goal.returns
returns c k low = line_is c.args.page.now c.as_chunks.result.0.now c.args.line k c.told-page c.as_chunks.ensures.front c.requires low
