-- The guest of the example: its file is accepted, and its frames lead on and put its byte out.
use Rattle.std.proofs.Common.{◌≡◌, ℕ, ◌+◌, ◌<◌, ◌≤◌, Bool, true, false, not, cond, if◌then◌else◌, List, [], ◌∷◌, Option, Some, None, Ok, Result, refl, sym, ◌∙◌, ap, subst, arith, ◌-◌, ◌==◌}
use Rattle.std.specs.Prelude.{is_some, nat_lt, All}
use Rattle.std.specs.List.{list_any, list_all}
use Rattle.std.specs.Ordering.{nat_cmp}
use Rattle.std.specs.Cmp.{nat_cmp_total, eq_by_cmp_equiv}
use Rattle.std.specs.FinMap.{FinMap, get, insert, remove, empty, len, get-insert, get-empty, len-insert, len-remove, len-empty}
use Rattle.std.proofs.lemmas.Bool.Decides.{nat_tests, Decides-by_and, Decides-ltb}
use Rattle.std.proofs.lemmas.List.Elements.{All-from_recursion}
use Rattle.rrv_model.specs.declared.instr.ImmediateOp.TheVariants.{Addi}
use Rattle.rrv_model.specs.declared.instr.Instr.{Instr}
use Rattle.rrv_model.specs.declared.instr.Instr.TheVariants.{Lui, OpImm, Ecall}
use Rattle.rrv_model.specs.declared.machine.FaultKind.{FaultKind}
use Rattle.rrv_model.specs.declared.machine.GuestEnd.TheVariants.{Exited}
use Rattle.rrv_model.specs.declared.machine.Thread.{Thread}
use Rattle.rrv_model.specs.declared.record.CallRecord.{CallRecord}
use Rattle.rrv_model.specs.Words.{plus}
use Rattle.rrv_model.specs.Instructions.{Stands}
use Rattle.rrv_model.specs.Memory.{Memory, all_cells, bytes_at, readable}
use Rattle.rrv_model.specs.State.{State, thread_at, with_thread, with_register}
use Rattle.rrv_model.specs.Step.{Hart, StepOfWord, Outcome, Next, Called, fetched, executed, StepsTo, CallsFrom, hart_of, with_hart, goes_on}
use Rattle.rrv_model.specs.CallRows.{Row, NoResult, row_of, only_returns, fails, leaves, change_thread, set_register, ends}
use Rattle.rrv_model.specs.Calls.{Calls, HasRecord, Silence, call_row, writes, write_all, after_call}
use Rattle.rrv_model.specs.FrameStep.{Steps, FrameStep, closed}
use Rattle.rrv_model.specs.Output.{Chunk, FramePuts, put_out, put_out_by}
use Rattle.rrv_model.specs.Elf.{Header, headers_from, loads, any_share, refusal, touches, touched_below}
use Rattle.rrv_model.specs.Opening.{Opens, opening_memory, opening_thread, loaded_byte, headers_address}
use Rattle.rrv_model.proofs.ElfLaws.{touched_below-above}
use Rattle.commit_core.specs.Example.{example_elf, example_opening, example_state, write_frame, exit_frame}

-- ---- the file is accepted

example_loads : List Header
example_loads = record { kind = 1; offset = 0; address = 0x10000; file_len = 112; memory_len = 112; flags = 5 } ∷ []

loads_are : loads example_elf ≡ example_loads
unfolding headers_from example_loads
loads_are = refl

untouched : (page : ℕ) → 17 ≤ page → list_any (touches page) example_loads ≡ false
unfolding example_loads
untouched page above = grind (arith, nat_tests)

one_page : touched_below 17 example_loads ≡ 1
unfolding touched_below example_loads
one_page = refl

few_pages : touched_below 0x70000 (loads example_elf) ≡ 1
few_pages = ap (touched_below 0x70000) loads_are ∙ touched_below-above example_loads 17 0x70000 untouched (omega arith) ∙ one_page

accepted : refusal example_elf ≡ None
unfolding refusal headers_from any_share
accepted = rw few_pages refl

are_bytes : (bytes : List ℕ) → list_all (λ (b : ℕ). nat_lt b 256) bytes ≡ true → All (λ (b : ℕ). b < 256) bytes
are_bytes bytes pass =
    (Decides-by_and (λ (b : ℕ). nat_lt b 256) (λ (b : ℕ). b < 256) (list_all (λ (b : ℕ). nat_lt b 256)) (λ b. Decides-ltb b 256) refl
    (λ _ _. refl) bytes).0 pass

pub opens : Opens example_opening example_state
opens = record {
  accepted = accepted;
  file_bytes = are_bytes example_elf refl;
  is_name = (
    omega arith,
    omega arith,
    All-from_recursion (λ (b : ℕ). (0x21 ≤ b) × (b ≤ 0x7E)) example_opening.name ((omega arith, omega arith), tt),
  );
  sixteen = refl;
  random_bytes = are_bytes example_opening.random refl;
  state_is = refl;
}

-- ---- its instructions

abbrev memory : Memory
memory = opening_memory example_elf example_opening.name example_opening.random

record Program : Type 0 where
  pub word_1 : fetched memory 0x10054 ≡ Ok 0x00100513
  pub word_2 : fetched memory 0x10058 ≡ Ok 0x000105B7
  pub word_3 : fetched memory 0x1005C ≡ Ok 0x00100613
  pub word_4 : fetched memory 0x10060 ≡ Ok 0x04000893
  pub word_5 : fetched memory 0x10064 ≡ Ok 0x00000073
  pub word_6 : fetched memory 0x10068 ≡ Ok 0x05D00893
  pub word_7 : fetched memory 0x1006C ≡ Ok 0x00000073

program : Program
unfolding all_cells bytes_at loaded_byte headers_address headers_from
program = record { word_1 = refl; word_2 = refl; word_3 = refl; word_4 = refl; word_5 = refl; word_6 = refl; word_7 = refl }

li_a0 : Stands 0x00100513 (OpImm Addi 10 0 1)
li_a0 = record { code_is = refl; f3_is = refl; rd_is = refl; rs1_is = refl; immediate_is = refl }

lui_a1 : Stands 0x000105B7 (Lui 11 0x10000)
lui_a1 = record { code_is = refl; rd_is = refl; immediate_is = refl }

li_a2 : Stands 0x00100613 (OpImm Addi 12 0 1)
li_a2 = record { code_is = refl; f3_is = refl; rd_is = refl; rs1_is = refl; immediate_is = refl }

li_a7 : Stands 0x04000893 (OpImm Addi 17 0 64)
li_a7 = record { code_is = refl; f3_is = refl; rd_is = refl; rs1_is = refl; immediate_is = refl }

li_a7_again : Stands 0x05D00893 (OpImm Addi 17 0 93)
li_a7_again = record { code_is = refl; f3_is = refl; rd_is = refl; rs1_is = refl; immediate_is = refl }

-- ---- its steps

-- thread 1 stands so, and all else is as at the opening
record At (s : State) (t : Thread) : Type 0 where
  pub there : thread_at s 1 ≡ Some t
  pub running : t.wait ≡ None
  pub memory_is : s.memory ≡ memory
  pub runs : s.ended ≡ None
  pub alone : len s.threads ≡ 1

thread_there : (m : FinMap nat_cmp Thread) (k : ℕ) (t : Thread) → get (insert m k t) k ≡ Some t
thread_there m k t = get-insert nat_cmp_total m k t k ∙ ap (λ b. cond b (Some t) (get m k)) ((eq_by_cmp_equiv nat_cmp_total).refl k)

-- a thread put in the place of another leaves as many
as_many : (m : FinMap nat_cmp Thread) (t v : Thread) → get m 1 ≡ Some t → len m ≡ 1 → len (insert m 1 v) ≡ 1
as_many m t v there one = len-insert nat_cmp_total m 1 v ∙ ap (λ (o : Option Thread). cond (is_some o) (len m) (len m + 1)) there ∙ one

-- the thread behind an instruction that sets a register
abbrev stepped : ℕ → ℕ → Thread → Thread
stepped rd value t = record t { regs = record (with_register rd value t.regs) { pc = plus (with_register rd value t.regs).pc 4 } }

-- the thread behind an ECALL
abbrev called_by : Thread → Thread
called_by t = record t { regs = record t.regs { pc = plus t.regs.pc 4 } }

step_of : (s : State) (t : Thread) (word : ℕ) (o : Outcome) → At s t → fetched memory t.regs.pc ≡ Ok word →
    StepOfWord (Ok word) (hart_of s t) o →
    StepOfWord (fetched s.memory t.regs.pc) (hart_of s t) o
step_of s t word o at fetches does =
    let here : fetched s.memory t.regs.pc ≡ Ok word = ap (λ (m : Memory). fetched m t.regs.pc) at.memory_is ∙ fetches in
    subst (λ (r : Result ℕ FaultKind). StepOfWord r (hart_of s t) o) (sym here) does

-- one instruction that sets a register
sets_one : (s : State) (t : Thread) (word : ℕ) (i : Instr) (rd value : ℕ) → At s t → fetched memory t.regs.pc ≡ Ok word → Stands word i →
    executed (Some i) (hart_of s t) ≡ Next (goes_on (with_register rd value t.regs) (hart_of s t)) → (mid : State) × StepsTo s 1 mid ×
    At mid (stepped rd value t)
sets_one s t word i rd value at fetches stands does =
    let hart : Hart = goes_on (with_register rd value t.regs) (hart_of s t) in (
      with_hart 1 t hart s,
      record {
        thread = t;
        hart = hart;
        step = record { there = at.there; running = at.running; does = step_of s t word (Next hart) at fetches (Some i, stands, sym does) };
        after_is = refl;
      },
      record {
        there = thread_there s.threads 1 (stepped rd value t);
        running = at.running;
        memory_is = at.memory_is;
        runs = at.runs;
        alone = as_many s.threads t (stepped rd value t) at.there at.alone;
      },
    )

t0 : Thread
t0 = opening_thread example_elf example_opening.name

t1 : Thread
t1 = stepped 10 1 t0

t2 : Thread
t2 = stepped 11 0x10000 t1

t3 : Thread
t3 = stepped 12 1 t2

t4 : Thread
t4 = stepped 17 64 t3

-- behind the call, and with its result in a0
t5 : Thread
t5 = called_by t4

t6 : Thread
t6 = set_register 10 1 t5

t7 : Thread
t7 = stepped 17 93 t6

t8 : Thread
t8 = called_by t7

step_1 : (s : State) → At s t0 → (mid : State) × StepsTo s 1 mid × At mid t1
unfolding executed t0 t1
step_1 s at = sets_one s t0 0x00100513 (OpImm Addi 10 0 1) 10 1 at program.word_1 li_a0 refl

step_2 : (s : State) → At s t1 → (mid : State) × StepsTo s 1 mid × At mid t2
unfolding executed t0 t1 t2
step_2 s at = sets_one s t1 0x000105B7 (Lui 11 0x10000) 11 0x10000 at program.word_2 lui_a1 refl

step_3 : (s : State) → At s t2 → (mid : State) × StepsTo s 1 mid × At mid t3
unfolding executed t0 t1 t2 t3
step_3 s at = sets_one s t2 0x00100613 (OpImm Addi 12 0 1) 12 1 at program.word_3 li_a2 refl

step_4 : (s : State) → At s t3 → (mid : State) × StepsTo s 1 mid × At mid t4
unfolding executed t0 t1 t2 t3 t4
step_4 s at = sets_one s t3 0x04000893 (OpImm Addi 17 0 64) 17 64 at program.word_4 li_a7 refl

step_6 : (s : State) → At s t6 → (mid : State) × StepsTo s 1 mid × At mid t7
unfolding executed t0 t1 t2 t3 t4 t5 t6 t7
step_6 s at = sets_one s t6 0x05D00893 (OpImm Addi 17 0 93) 17 93 at program.word_6 li_a7_again refl

call_one : (s : State) (t : Thread) → At s t → fetched memory t.regs.pc ≡ Ok 0x00000073 → (called : State) × CallsFrom s 1 called ×
    At called (called_by t)
unfolding executed
call_one s t at fetches =
    let hart : Hart = goes_on t.regs (hart_of s t) in (
      with_hart 1 t hart s,
      record {
        thread = t;
        hart = hart;
        step = record
            { there = at.there; running = at.running; does = step_of s t 0x00000073 (Called hart) at fetches (Some Ecall, refl, refl) };
        after_is = refl;
      },
      record {
        there = thread_there s.threads 1 (called_by t);
        running = at.running;
        memory_is = at.memory_is;
        runs = at.runs;
        alone = as_many s.threads t (called_by t) at.there at.alone;
      },
    )

step_5 : (s : State) → At s t4 → (called : State) × CallsFrom s 1 called × At called t5
unfolding t0 t1 t2 t3 t4 t5
step_5 s at = call_one s t4 at program.word_5

step_7 : (s : State) → At s t7 → (called : State) × CallsFrom s 1 called × At called t8
unfolding t0 t1 t2 t3 t4 t5 t6 t7 t8
step_7 s at = call_one s t7 at program.word_7

-- ---- its calls

readable_byte : readable memory 0x10000 1 ≡ true
unfolding all_cells headers_from
readable_byte = refl

byte_is : bytes_at memory 0x10000 1 ≡ 0x7F ∷ []
unfolding bytes_at loaded_byte headers_address headers_from
byte_is = refl

write_row_is : (s : State) → s.memory ≡ memory → call_row s 1 t5 ≡ only_returns 1
unfolding row_of t0 t1 t2 t3 t4 t5
write_row_is s is =
    ap (λ (m : Memory). if not (readable m 0x10000 1) then fails 14 else only_returns 1) is
    ∙ ap (λ (b : Bool). if not b then fails 14 else only_returns 1) readable_byte

exit_row_is : (s : State) → call_row s 1 t8 ≡ NoResult [] (leaves 1 1)
unfolding row_of t0 t1 t2 t3 t4 t5 t6 t7 t8
exit_row_is s = refl

-- a call whose row is known, and which writes nothing
answered : (called : State) (t : Thread) (row : Row) (r : CallRecord) → At called t → call_row called 1 t ≡ row → HasRecord row Silence r →
    Calls called 1 Silence r (after_call row 1 r called)
answered called t row r at is records = record {
  thread = t;
  there = at.there;
  running = at.running;
  records = subst (λ (w : Row). HasRecord w Silence r) (sym is) records;
  leaves = ap (λ (w : Row). after_call w 1 r called) (sym is);
}

one_byte : CallRecord
one_byte = record { result = 1; written = [] }

abbrev after_write : State → State
after_write called = after_call (only_returns 1) 1 one_byte called

changed_there : (change : Thread → Thread) (s : State) (t : Thread) → thread_at s 1 ≡ Some t →
    change_thread 1 change s ≡ with_thread 1 (change t) s
changed_there change s t there = rw there refl

at_written : (called : State) → At called t5 → At (closed (after_write called)) t6
unfolding one_byte write_all t6
at_written called at =
    let changed : after_write called ≡ with_thread 1 (set_register 10 1 t5) (writes [] called) =
    changed_there (set_register 10 1) (writes [] called) t5 at.there in
    subst (λ (s : State). At (closed s) (set_register 10 1 t5)) (sym changed)
    (record {
      there = thread_there called.threads 1 (set_register 10 1 t5);
      running = at.running;
      memory_is = at.memory_is;
      runs = at.runs;
      alone = as_many called.threads t5 (set_register 10 1 t5) at.there at.alone;
    })

-- the only thread leaves, which ends the guest
ends_by : (called : State) (t : Thread) → At called t → (leaves 1 1 called).ended ≡ Some (Exited 1)
ends_by called t at =
    let rest : State = record called { threads = remove called.threads 1 } in
    let none : len (remove called.threads 1) ≡ 0 =
    len-remove nat_cmp_total called.threads 1
    ∙ ap (λ (o : Option Thread). cond (is_some o) (len called.threads - 1) (len called.threads)) at.there
    ∙ ap (λ (n : ℕ). n - 1) at.alone in
    ap (λ (n : ℕ). (if n == 0 then ends 1 rest else rest).ended) none

-- ---- its output

abbrev chunk_of : List ℕ → List Chunk
chunk_of bytes = record { descriptor = 1; bytes = bytes } ∷ []

abbrev pub the_byte : List Chunk
the_byte = chunk_of (0x7F ∷ [])

puts : (s : State) → At s t4 → put_out_by (thread_at s 1) s.memory 1 ≡ the_byte
unfolding t0 t1 t2 t3 t4
puts s at =
    ap (λ (o : Option Thread). put_out_by o s.memory 1) at.there
    ∙ ap (λ (m : Memory). put_out m t4 1) at.memory_is
    ∙ ap chunk_of byte_is

puts_none : (s : State) → At s t7 → put_out_by (thread_at s 1) s.memory 0 ≡ []
unfolding t0 t1 t2 t3 t4 t5 t6 t7
puts_none s at = ap (λ (o : Option Thread). put_out_by o s.memory 0) at.there

-- ---- its frames

at_start : At example_state t0
unfolding t0
at_start = record {
  there = thread_there empty 1 (opening_thread example_elf example_opening.name);
  running = refl;
  memory_is = refl;
  runs = refl;
  alone =
      len-insert nat_cmp_total empty 1 (opening_thread example_elf example_opening.name)
      ∙ ap (λ (o : Option Thread). cond (is_some o) (len (empty {X = Thread} {R = nat_cmp})) (len (empty {X = Thread} {R = nat_cmp}) + 1))
      (get-empty nat_cmp 1)
      ∙ ap (λ (n : ℕ). n + 1) (len-empty nat_cmp Thread);
}

record Written : Type 0 where
  pub after : State
  pub goes : FrameStep example_state write_frame after
  pub puts : FramePuts example_state write_frame write_frame.end the_byte
  pub at : At after t6

written : Written
unfolding one_byte
written =
    let one = step_1 example_state at_start in
    let two = step_2 one.0 one.2 in
    let three = step_3 two.0 two.2 in
    let four = step_4 three.0 three.2 in
    let five = step_5 four.0 four.2 in
    let steps : Steps 4 1 example_state four.0 = (one.0, one.1, (two.0, two.1, (three.0, three.1, (four.0, four.1, refl)))) in
    record {
      after = closed (after_write five.0);
      goes = record {
        runs = refl;
        limit = omega arith;
        goes = record {
          some = omega arith;
          before = four.0;
          steps = steps;
          called = five.0;
          calls = five.1;
          answer = Silence;
          after = after_write five.0;
          answered = answered five.0 t5 (only_returns 1) one_byte five.2 (write_row_is five.0 five.2.memory_is) refl;
          new_is = refl;
        };
      };
      puts = (four.0, steps, sym (puts four.0 four.2));
      at = at_written five.0 five.2;
    }

-- what the guest does to its end
pub record Ended : Type 0 where
  pub written : State
  pub ended : State
  pub writes : FrameStep example_state write_frame written
  pub puts_byte : FramePuts example_state write_frame write_frame.end the_byte
  pub exits : FrameStep written exit_frame ended
  pub puts_nothing : FramePuts written exit_frame exit_frame.end []
  pub exited : ended.ended ≡ Some (Exited 1)

pub guest_ends : Ended
guest_ends =
    let six = step_6 written.after written.at in
    let seven = step_7 six.0 six.2 in
    let steps : Steps 1 1 written.after six.0 = (six.0, six.1, refl) in
    let nothing : CallRecord = record { result = 0; written = [] } in
    let row : Row = NoResult [] (leaves 1 1) in
    record {
      written = written.after;
      ended = closed (after_call row 1 nothing seven.0);
      writes = written.goes;
      puts_byte = written.puts;
      exits = record {
        runs = written.at.runs;
        limit = omega arith;
        goes = record {
          some = omega arith;
          before = six.0;
          steps = steps;
          called = seven.0;
          calls = seven.1;
          answer = Silence;
          after = after_call row 1 nothing seven.0;
          answered = answered seven.0 t8 row nothing seven.2 (exit_row_is seven.0) refl;
          new_is = refl;
        };
      };
      puts_nothing = (six.0, steps, sym (puts_none six.0 six.2));
      exited = ends_by seven.0 t8 seven.2;
    }
