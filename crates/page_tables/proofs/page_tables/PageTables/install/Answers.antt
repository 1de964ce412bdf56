use Rattle.std.proofs.Common.{◌≡◌, true, refl, subst, arith}
use Rattle.std.specs.List.{All}
use Rattle.page_tables.specs.Table.{has_leaf}
use Rattle.page_tables.specs.Contents.{PageValue}
use Rattle.page_tables.specs.Changes.{IsPlaced}
use Rattle.page_tables.proofs.Values.{stand, carried}
use Rattle.page_tables.proofs.PlacedPages.{roomy_shared, roomy_value}
use Rattle.page_tables.proofs.page_tables.PageTables.install.Goals as goal

pub invariant_of-self : goal.invariant_of-self
invariant_of-self c = roomy_shared _ c.make_room_for.ensures.extends.same c.make_room_for.ensures.keeps c.self.invariant

pub install-requires-clause-shared : goal.install-requires-clause-shared
install-requires-clause-shared c = roomy_shared _ c.make_room_for.ensures.extends.same c.make_room_for.ensures.keeps c.self.invariant

pub install-requires-clause-leaf : goal.install-requires-clause-leaf
install-requires-clause-leaf c =
    let all = subst (All (λ p. has_leaf c.make_room_for.new.table p.number ≡ true)) c.from_ref.ensures.value
    c.in_ok-make_room_for.ensures.leaves in
    all 0 (record { number = c.args.number; permissions = c.args.permissions; bytes = c.args.bytes }) (omega arith)

pub returns-clause-placed : goal.returns-clause-placed
returns-clause-placed c =
    let page : PageValue = record { permissions = c.args.permissions; bytes = c.args.bytes.value } in
    let m = c.make_room_for.ensures in
    carried (stand c.make_room_for.new.pool _ _ _ (roomy_shared _ m.extends.same m.keeps c.self.invariant)
    (roomy_value _ m.extends.same m.keeps _ c.self.view_is))
    (stand c.install.new.pool _ _ _ c.install.ensures.shared refl) (IsPlaced c.args.number page) c.install.ensures.placed
