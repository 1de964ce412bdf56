use Rattle.page_tables.proofs.PlacedPages.{put_shared, put_done}
use Rattle.page_tables.proofs.page_tables.PageTables.put_word.Goals as goal

pub invariant_of-self : goal.invariant_of-self
invariant_of-self c = put_shared c.self.inside.table c.self.invariant c.in-Some.ensures.own c.put_word.ensures

pub returns : goal.returns
returns c = put_done c.self.inside.table c.self.invariant c.in-Some.ensures.own c.put_word.ensures c.self.view_is _
