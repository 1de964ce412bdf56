use Rattle.std.proofs.Common.{◌≡◌, ◌∙◌, false, refl, sym}
use Rattle.page_tables.specs.declared.page_tables.Access.{Access}
use Rattle.page_tables.specs.declared.page_tables.Access.TheVariants.{Read, Execute}
use Rattle.page_tables.specs.declared.table.TheConstants.{NO_PAGE}
use Rattle.page_tables.specs.Access.{has_access}
use Rattle.page_tables.proofs.Values.{stand, no_bytes, shown_bytes}
use Rattle.page_tables.proofs.page_tables.PageTables.allowed.Goals as goal

-- where there is no page nothing is allowed
nothing : (access : Access) → has_access access NO_PAGE.permissions ≡ false
nothing Read = refl
nothing Execute = refl

pub returns-then-not-is_allowed : goal.returns-then-not-is_allowed
returns-then-not-is_allowed c =
    no_bytes (stand c.self.inside.pool _ _ _ c.self.invariant c.self.view_is) (has_access c.args.access) c.args.number c.entry-entry.ensures
    (sym c.is_allowed.ensures ∙ c.if-not-is_allowed.true)

pub returns : goal.returns
returns c =
    shown_bytes (stand c.self.inside.pool _ _ _ c.self.invariant c.self.view_is) (has_access c.args.access) (nothing c.args.access)
    c.args.number c.entry-entry.ensures (sym c.is_allowed.ensures ∙ c.if-not-is_allowed.false) c.index-page.ensures c.deref.ensures
