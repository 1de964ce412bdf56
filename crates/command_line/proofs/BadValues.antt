-- What holds of every error of values.
use Rattle.command_line.specs.Unread.{OnBad}
use Rattle.command_line.specs.declared.unread.Unread.{Unread}
use Rattle.command_line.specs.declared.unread.Unread.TheVariants as unread

pub on_any : {P : Type 0} (e : Unread) → P → OnBad e P
on_any (unread.Missing name) p = p
on_any (unread.Bad name text wanted) p = p
on_any unread.MemoryAlone p = p
on_any (unread.BadCount name count programs) p = p
on_any unread.TwoForms p = p
on_any unread.Memory p = tt
