-- The call relation: state, calling thread, the environment's answer, the call's record, and the state after.
use Rattle.std.specs.Prelude.{◌≡◌, ℕ, ◌^◌, ◌<◌, ◌≤◌, List, [], ◌∷◌, ◌++◌, length, All, Some, None}
use Rattle.std.specs.Int.{w64, to_le_bytes}
use Rattle.rrv_model.specs.declared.machine.Thread.{Thread}
use Rattle.rrv_model.specs.declared.record.Written.{Written}
use Rattle.rrv_model.specs.declared.record.CallRecord.{CallRecord}
use Rattle.rrv_model.specs.Memory.{Memory, stored}
use Rattle.rrv_model.specs.State.{State, thread_at, register}
use Rattle.rrv_model.specs.CallRows.{Row, Returns, NoResult, AsksInput, AsksRandom, AsksTime, syscall_of, row_of}
use Rattle.rrv_model.specs.CallRows.{range, change_thread, set_register}

-- what the environment answers, where it is asked
pub data Answer : Type 0 where
  Silence : Answer
  Bytes : List ℕ → Answer
  Time : (seconds nanoseconds : ℕ) → Answer

-- the number is in a7
abbrev pub call_row : State → ℕ → Thread → Row
call_row s tid t = row_of (syscall_of (register t.regs 17)) tid s t

-- ---- the relation

-- the environment may give this answer, and the record is then this
abbrev pub HasRecord : Row → Answer → CallRecord → Type 0
HasRecord (Returns result written change) answer r = r ≡ record { result = result; written = written }
HasRecord (NoResult written change) answer r = r ≡ record { result = 0; written = written }
HasRecord (AsksInput a count) (Bytes bytes) r =
    (length bytes ≤ count) × All (λ b. b < 256) bytes × (r ≡ record { result = length bytes; written = range a bytes })
HasRecord (AsksRandom a count) (Bytes bytes) r =
    (length bytes ≡ count) × All (λ b. b < 256) bytes × (r ≡ record { result = count; written = range a bytes })
HasRecord (AsksTime a) (Time seconds nanoseconds) r =
    (seconds < 2 ^ 63) × (nanoseconds < 10 ^ 9)
    × (r ≡ record { result = 0; written = range a (to_le_bytes w64 seconds ++ to_le_bytes w64 nanoseconds) })
HasRecord (AsksInput a count) Silence r = ⊥
HasRecord (AsksInput a count) (Time seconds nanoseconds) r = ⊥
HasRecord (AsksRandom a count) Silence r = ⊥
HasRecord (AsksRandom a count) (Time seconds nanoseconds) r = ⊥
HasRecord (AsksTime a) Silence r = ⊥
HasRecord (AsksTime a) (Bytes bytes) r = ⊥

-- the ranges are written in their order
unfoldable pub write_all : List Written → Memory → Memory
write_all [] m = m
write_all (w ∷ written) m = write_all written (stored w.address w.bytes m)

abbrev pub writes : List Written → State → State
writes written s = record s { memory = write_all written s.memory }

-- the result goes to a0
abbrev pub results : ℕ → ℕ → State → State
results tid result s = change_thread tid (set_register 10 result) s

-- the state after, which the row and the record determine
abbrev pub after_call : Row → ℕ → CallRecord → State → State
after_call (Returns result written change) tid r s = results tid r.result (writes r.written (change s))
after_call (NoResult written change) tid r s = writes r.written (change s)
after_call (AsksInput a count) tid r s = results tid r.result (writes r.written s)
after_call (AsksRandom a count) tid r s = results tid r.result (writes r.written s)
after_call (AsksTime a) tid r s = results tid r.result (writes r.written s)

-- the running thread, whose pc is past its ECALL, calls; the environment would answer so
pub record Calls (s : State) (tid : ℕ) (answer : Answer) (r : CallRecord) (after : State) : Type 0 where
  pub thread : Thread
  pub there : thread_at s tid ≡ Some thread
  pub running : thread.wait ≡ None
  pub records : HasRecord (call_row s tid thread) answer r
  pub leaves : after ≡ after_call (call_row s tid thread) tid r s

-- state, thread and record leave one state after at most, whatever the environment answered
abbrev pub OneStateAfterCall : Type 0
OneStateAfterCall =
    (s : State) (tid : ℕ) (r : CallRecord) (answer answer' : Answer) (after after' : State) →
    Calls s tid answer r after → Calls s tid answer' r after' → after ≡ after'
