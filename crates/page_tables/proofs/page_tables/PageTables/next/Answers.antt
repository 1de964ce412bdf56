use Rattle.std.proofs.Common.{sym, subst}
use Rattle.page_tables.specs.Contents.{Contents}
use Rattle.page_tables.specs.Changes.{IsNext}
use Rattle.page_tables.proofs.Values.{stand, seen}
use Rattle.page_tables.proofs.page_tables.PageTables.next.Goals as goal

pub returns : goal.returns
returns c =
    subst (λ (d : Contents). IsNext d.pages c.args.least c.next_in.result)
    (sym (seen (stand c.self.inside.pool _ _ _ c.self.invariant c.self.view_is)))
    c.next_in.ensures
