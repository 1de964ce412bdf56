-- The printed lines of a state. Each ends with a newline.
use Rattle.std.specs.Prelude.{ℕ, zero, suc, ◌+◌, ◌*◌, ◌-◌, List, [], ◌∷◌, ◌++◌, length, replicate, flat_map, slice_index, codes, Option, Some, None, false}
use Rattle.std.specs.Fmt.{decimal, digits}
use Rattle.std.specs.FinMap.{entries}
use Rattle.sha2.specs.Sha256.{sha256}
use Rattle.rrv_model.specs.declared.machine.GuestEnd.{GuestEnd}
use Rattle.rrv_model.specs.declared.machine.Regs.{Regs}
use Rattle.rrv_model.specs.declared.machine.FutexWait.{FutexWait}
use Rattle.rrv_model.specs.declared.machine.Thread.{Thread}
use Rattle.rrv_model.specs.declared.machine.Timeout.{Timeout}
use Rattle.rrv_model.specs.Memory.{Memory, page_count}
use Rattle.rrv_model.specs.State.{State}
use Rattle.trace_text.specs.Digest.{pages_bytes}
use Rattle.trace_text.specs.Lines.{end_text, word_text}

abbrev pub newline : List ℕ
newline = 10 ∷ []

abbrev pub place_line : ℕ → ℕ → List ℕ
place_line place total = codes "at " ++ (decimal place ++ (codes " of " ++ (decimal total ++ newline)))

abbrev pub end_line : Option GuestEnd → List ℕ
end_line end = end_text end ++ newline

abbrev pub break_line : ℕ → List ℕ
break_line address = codes "break " ++ (word_text address ++ newline)

abbrev pub reservation_text : Option ℕ → List ℕ
reservation_text None = codes "none"
reservation_text (Some address) = word_text address

abbrev pub reservation_line : Option ℕ → List ℕ
reservation_line reservation = codes "reservation " ++ (reservation_text reservation ++ newline)

-- ---- threads

abbrev pub timed_text : Option Timeout → List ℕ
timed_text None = []
timed_text (Some t) = codes " timed"

abbrev pub wait_text : Option FutexWait → List ℕ
wait_text None = codes "running"
wait_text (Some w) = codes "waiting " ++ (word_text w.address ++ timed_text w.timeout)

-- the address of a thread's next instruction, and its clear address
unfoldable pub addresses_text : Thread → List ℕ
addresses_text t = codes "pc " ++ (word_text t.regs.pc ++ (codes " clear " ++ word_text t.clear))

unfoldable pub thread_line : ℕ → Thread → List ℕ
thread_line tid t =
    codes "thread " ++ (decimal tid ++ (codes " " ++ (wait_text t.wait
    ++ (codes " " ++ (addresses_text t ++ newline)))))

-- behind a space
unfoldable pub register_text : Regs → ℕ → List ℕ
register_text regs r = codes " x" ++ (decimal r ++ (codes " " ++ word_text (slice_index regs.registers r)))

-- two spaces and four registers, from this one on, joined by a space
abbrev pub registers_line : Regs → ℕ → List ℕ
registers_line regs r =
    codes " " ++ (register_text regs r ++ (register_text regs (r + 1) ++ (register_text regs (r + 2)
    ++ (register_text regs (r + 3) ++ newline))))

-- so many lines of registers
unfoldable pub registers_lines : ℕ → Regs → List ℕ
registers_lines zero regs = []
registers_lines (suc n) regs = registers_lines n regs ++ registers_line regs (4 * n)

abbrev pub thread_lines : ℕ → Thread → List ℕ
thread_lines tid t = thread_line tid t ++ registers_lines 8 t.regs

-- those of each thread, by rising tid
abbrev pub threads_lines : State → List ℕ
threads_lines s = flat_map (λ e. thread_lines e.0 e.1) (entries s.threads)

-- ---- pages

-- two hexadecimal digits
abbrev pub byte_text : ℕ → List ℕ
byte_text n = replicate (2 - length (digits 16 false n)) 48 ++ digits 16 false n

abbrev pub pages_line : Memory → List ℕ
pages_line m =
    codes "pages " ++ (decimal (page_count m) ++ (codes " digest "
    ++ (flat_map byte_text (sha256 (pages_bytes m)) ++ newline)))

-- ---- a state

-- the state at a place, of so many
abbrev pub state_lines : ℕ → ℕ → State → List ℕ
state_lines place total s =
    place_line place total ++ (end_line s.ended ++ (break_line s.program_break ++ (reservation_line s.reservation
    ++ (threads_lines s ++ pages_line s.memory))))
