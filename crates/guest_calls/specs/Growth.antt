-- Which calls may take memory, and which ask the outside.
use Rattle.std.specs.Prelude.{◌≡◌, ◌≢◌, ℕ, ◌-◌, ◌*◌, ◌/◌, ◌%◌, ◌^◌, ◌<◌, ◌≤◌, IsTrue, Option, Some, None}
use Rattle.rrv_model.specs.declared.machine.Thread.{Thread}
use Rattle.rrv_model.specs.Memory.{readable, pages_for}
use Rattle.rrv_model.specs.State.{State, register}
use Rattle.rrv_model.specs.declared.syscall.Syscall.{Syscall}
use Rattle.rrv_model.specs.declared.syscall.Syscall.TheVariants as calls
use Rattle.rrv_model.specs.CallRows.{Row, Returns, NoResult, AsksInput, AsksRandom, AsksTime, argument, syscall_of}
use Rattle.rrv_model.specs.CallRows.{clears, is_output, read_row, write_row, futex_row, brk_row, clone_row, mmap_row}
use Rattle.rrv_model.specs.CallRows.{getrandom_row, clock_gettime_row}
use Rattle.guest_calls.specs.Asking.{Asks}

-- the call answers no negated error number, which is -4095 to -1 (Linux man pages, intro(2) and errno(3))
abbrev pub Succeeds : Row → Type 0
Succeeds (Returns result written change) = result < 2 ^ 32 - 4095
Succeeds (NoResult written change) = Unit {0}
Succeeds (AsksInput a count) = Unit {0}
Succeeds (AsksRandom a count) = Unit {0}
Succeeds (AsksTime a) = Unit {0}

-- it answers this
abbrev pub AnswersWith : ℕ → Row → Type 0
AnswersWith n (Returns result written change) = result ≡ n
AnswersWith n (NoResult written change) = ⊥
AnswersWith n (AsksInput a count) = ⊥
AnswersWith n (AsksRandom a count) = ⊥
AnswersWith n (AsksTime a) = ⊥

-- a write that puts some bytes out
pub record PutsBytes (s : State) (t : Thread) : Type 0 where
  pub some : 1 ≤ argument t 2
  pub succeeds : Succeeds (write_row s t)

-- a writev to an output whose list of buffers isn't empty, isn't too long and can be read
pub record ReadsBuffers (s : State) (t : Thread) : Type 0 where
  pub output : IsTrue (is_output (argument t 0))
  pub some : 1 ≤ argument t 2
  pub most : argument t 2 ≤ 1024
  pub listed : IsTrue (readable s.memory (argument t 1) (8 * argument t 2))

-- a brk that raises the break by pages
pub record RaisesBreak (s : State) (t : Thread) : Type 0 where
  pub pages : pages_for s.program_break < pages_for (argument t 0)
  pub answers : AnswersWith (argument t 0) (brk_row s t)

-- a futex that waits
pub record BeginsWait (tid : ℕ) (s : State) (t : Thread) : Type 0 where
  -- WAIT, also with the bit 128
  pub waits : argument t 1 - argument t 1 / 128 % 2 * 128 ≡ 0
  pub succeeds : Succeeds (futex_row tid s t)

-- the call puts bytes out, reads a list of buffers, clears a word, waits, makes a thread, maps pages or asks the
-- environment; the others take no memory
abbrev pub MayGrow : Syscall → ℕ → State → Thread → Type 0
MayGrow calls.Read tid s t = Asks (read_row s t)
MayGrow calls.Write tid s t = PutsBytes s t
MayGrow calls.Writev tid s t = ReadsBuffers s t
MayGrow calls.Exit tid s t = IsTrue (clears s t)
MayGrow calls.Futex tid s t = BeginsWait tid s t
MayGrow calls.Brk tid s t = RaisesBreak s t
MayGrow calls.Clone tid s t = Succeeds (clone_row s t)
MayGrow calls.Mmap tid s t = Succeeds (mmap_row s t)
MayGrow calls.Getrandom tid s t = Asks (getrandom_row s t)
MayGrow calls.ClockGettime tid s t = Asks (clock_gettime_row s t)
MayGrow _ tid s t = ⊥

-- the call that the thread makes may take memory
abbrev pub CallMayGrow : State → ℕ → Option Thread → Type 0
CallMayGrow s tid None = ⊥
CallMayGrow s tid (Some t) = MayGrow (syscall_of (register t.regs 17)) tid s t

-- the call asks nobody
pub record IsQuiet (call : Syscall) : Type 0 where
  pub not_read : call ≢ calls.Read
  pub not_getrandom : call ≢ calls.Getrandom
  pub not_clock_gettime : call ≢ calls.ClockGettime
