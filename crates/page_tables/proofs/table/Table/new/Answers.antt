use Rattle.std.proofs.Common.{◌∙◌, refl, ap, length, sym, replicate}
use Rattle.page_tables.specs.declared.table.TheConstants.{NO_LEAF}
use Rattle.page_tables.specs.Table.{entry_at}
use Rattle.page_tables.proofs.Tables.{empty_place, count_none}
use Rattle.page_tables.proofs.table.Table.new.Goals as goal

pub invariant_of-result : goal.invariant_of-result
invariant_of-result c =
    record {
      rows = refl;
      there = λ row some. absurd (some (empty_place 1024 row));
      apart = λ a b some same. absurd (some (empty_place 1024 a));
      whole = count_none (replicate 1024 NO_LEAF) (empty_place 1024) ∙ sym (ap length c.new.ensures.items);
    }

pub returns : goal.returns
unfolding entry_at
returns c = λ n. rw c.new.ensures.items refl
