use Rattle.std.proofs.Common.{◌∙◌, sym}
use Rattle.page_tables.proofs.Values.{stand}
use Rattle.page_tables.proofs.PlacedPages.{counts_seen}
use Rattle.page_tables.proofs.page_tables.PageTables.is_own.Goals as goal

pub returns : goal.returns
returns c =
    let seen = counts_seen (stand c.self.inside.pool _ _ _ c.self.invariant c.self.view_is) c.args.number in
    record { yes = λ t. seen ∙ c.is_own.ensures.own t; no = λ t own. c.is_own.ensures.shared t (sym seen ∙ own) }
