-- The printed line of a change.
use Rattle.std.specs.Prelude.{ℕ, ◌+◌, ◌-◌, List, ◌++◌, codes, Option, Some, None}
use Rattle.std.specs.Fmt.{decimal}
use Rattle.command_line.specs.declared.request.Watched.{Watched}
use Rattle.rrv_model.specs.declared.machine.Thread.{Thread}
use Rattle.rrv_model.specs.Memory.{Memory}
use Rattle.trace_text.specs.Lines.{word_text}
use Rattle.trace_text.specs.MemoryText.{cell_text, each_below}
use Rattle.trace_text.specs.States.{newline}

-- the watched bytes, the last first, as the digits of a number stand
abbrev pub value_text : Memory → Watched → List ℕ
value_text m w = each_below (λ k. cell_text (m (w.address + (w.count - 1 - k)))) w.count

-- the address of a thread's next instruction
abbrev pub pc_text : Option Thread → List ℕ
pc_text None = codes " pc=none"
pc_text (Some t) = codes " pc=" ++ word_text t.regs.pc

-- what was there, and what is there
unfoldable pub values_text : (old new : List ℕ) → List ℕ
values_text old new = codes " old=" ++ (old ++ (codes " new=" ++ new))

-- the place of a change, its thread, and what was there before and is there after it
abbrev pub change_line : (place tid : ℕ) → Option Thread → (old new : List ℕ) → List ℕ
change_line place tid thread old new =
    codes "at=" ++ (decimal place ++ (codes " tid=" ++ (decimal tid ++ (pc_text thread ++ (values_text old new ++ newline)))))
