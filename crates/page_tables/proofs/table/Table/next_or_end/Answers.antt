use Rattle.std.proofs.Common.{arith, inl, inr}
use Rattle.std.proofs.lemmas.Bool.{cases_lt}
use Rattle.page_tables.proofs.Tables.{no_row}
use Rattle.page_tables.proofs.table.Table.next_or_end.Goals as goal

pub loop-number-preserved-then-not-has_leaf : goal.loop-number-preserved-then-not-has_leaf
loop-number-preserved-then-not-has_leaf c = record {
  low = omega arith;
  free = λ n a b. elim (cases_lt n c.loop-number.number) [
    | inl w ↦ c.loop-number.invariant.free n a w
    | inr w ↦ no_row c.args.self.now c.loop-number.number (cc (c.has_leaf.ensures, c.if-not-has_leaf.true)) n (omega arith)
  ];
}
