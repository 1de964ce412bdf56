use Rattle.std.proofs.Common.{arith, subst, sym, Some, List, Option}
use Rattle.page_tables.specs.declared.table.Table.{Table}
use Rattle.page_tables.specs.Sharing.{IsSlotSet}
use Rattle.page_tables.proofs.Sharing.{slot_pushed}
use Rattle.page_tables.proofs.snapshots.store.Goals as goal

pub returns-clause-stored : goal.returns-clause-stored
returns-clause-stored c =
    subst (λ (later : List (Option Table)). IsSlotSet c.args.number (Some c.args.table) c.args.kept.now.items later)
    (sym c.in_ok-push.ensures.items)
    (slot_pushed c.args.kept.now.items c.args.number (Some c.args.table)
    (omega (arith, c.len.ensures, c.args.kept.now.ok, c.if-number-len.false)))
