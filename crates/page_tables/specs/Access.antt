-- What bytes are asked for.
use Rattle.std.specs.Prelude.{Bool}
use Rattle.page_permissions.specs.declared.page.Permissions.{Permissions}
use Rattle.page_tables.specs.declared.page_tables.Access.{Access}
use Rattle.page_tables.specs.declared.page_tables.Access.TheVariants.{Read, Execute}

abbrev pub has_access : Access → Permissions → Bool
has_access Read p = p.read
has_access Execute p = p.execute
