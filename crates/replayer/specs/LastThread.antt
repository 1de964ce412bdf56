-- The thread that ran last, behind an item.
use Rattle.std.specs.Prelude.{ℕ}
use Rattle.rrv_model.specs.declared.record.Item.{Item}
use Rattle.rrv_model.specs.declared.record.Item.TheVariants as items
use Rattle.serial_sched.specs.LastThread.{thread_after}

-- the last thread behind an item
abbrev pub thread_behind : Item → ℕ → ℕ
thread_behind (items.Opening o) before = before
thread_behind (items.Frame f) before = thread_after f before
thread_behind (items.Part p) before = before
