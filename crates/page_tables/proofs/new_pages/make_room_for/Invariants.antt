use Rattle.std.proofs.Common.{◌≡◌, true, take}
use Rattle.std.specs.List.{All}
use Rattle.page_tables.specs.Table.{has_leaf, Extends}
use Rattle.page_tables.proofs.new_pages.make_room_for.Given as goal

abbrev pub invariant-loop-page : goal.invariant-loop-page
invariant-loop-page l = record {
  extends : Extends l.fn.table l.table;
  room : All (λ p. has_leaf l.table p.number ≡ true) (take l.page-index l.pages);
}
