use Rattle.std.proofs.Common.{◌∙◌, refl}
use Rattle.page_tables.proofs.Tables.{alike}
use Rattle.page_tables.proofs.table.Table.copy.Goals as goal

pub returns : goal.returns
returns c = alike c.args.self.now _ refl (c.in_ok-leaves.ensures.items ∙ c.deref.ensures.value)
