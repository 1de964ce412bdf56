use Rattle.page_tables.proofs.Values.{stand}
use Rattle.page_tables.proofs.Laws.{no_sharers, is_counted, has_least, has_no_others, has_pages, has_kept_pages}
use Rattle.page_tables.proofs.page_tables.PageTables.all_own.Goals as goal

pub returns : goal.returns
returns c =
    let s = stand c.self.inside.pool _ _ _ c.self.invariant c.self.view_is in
    record {
      own = no_sharers s;
      counted = is_counted s;
      least = has_least s;
      live = has_no_others s;
      bytes = has_pages s;
      kept_bytes = has_kept_pages s;
    }
