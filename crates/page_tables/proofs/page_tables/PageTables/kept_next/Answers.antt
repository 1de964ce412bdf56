use Rattle.std.proofs.Common.{Option, ℕ}
use Rattle.page_tables.specs.Contents.{PageValue}
use Rattle.page_tables.specs.Changes.{IsNext}
use Rattle.page_tables.proofs.Values.{stand, slot_seen}
use Rattle.page_tables.proofs.page_tables.PageTables.kept_next.Goals as goal

pub returns : goal.returns
returns c =
    slot_seen (stand c.self.inside.pool _ _ _ c.self.invariant c.self.view_is)
    (λ (pages : ℕ → Option PageValue). IsNext pages c.args.least c.next_in.result) c.args.snapshot c.kept_under.ensures c.next_in.ensures
