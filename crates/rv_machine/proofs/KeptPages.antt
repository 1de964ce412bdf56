-- Decoded pages stay those of the memory, whatever instructions run.
use Rattle.std.proofs.Common.{◌≡◌, ℕ, zero, suc, ◌+◌, ◌*◌, ◌/◌, ◌%◌, ◌<◌, ◌≤◌, ◌==◌, Bool, true, false, List, ◌∷◌, length, Option, Some, None, IfSome, refl, sym, subst, ap, ◌∙◌, arith, slice_index_or, slice_index, ◌-◌, if◌then◌else◌, Result, Ok, Err}
use Rattle.std.proofs.lemmas.Bool.{false≢true, cases_lt, and_parts}
use Rattle.std.proofs.lemmas.List.{get_or_append_left, get_or_default}
use Rattle.std.proofs.Math.Seq.{get_or-append_seam}
use Rattle.std.proofs.Common.{inl, inr, ◌++◌, [], slice_set, ◌⊎◌}
use Rattle.std.proofs.lemmas.Bool.Decides.{nat_tests}
use Rattle.std.specs.Int.{w8, w16, w32, to_le_bytes}
use Rattle.rrv_model.specs.Memory.{Memory, Cell, can_write, can_execute, AlikeCells, IsMemory, executable, readable, writable, all_cells, bytes_at, stored, is_within, with_byte}
use Rattle.rrv_model.specs.Step.{Hart, Outcome, Next, Called, Faulted, HartStep, executed, word_at, jumps, branches, is_reserved, stores, store_len, load_len, amo_value, sets, MayStore, StepOfWord, fetched, atomic}
use Rattle.rrv_model.specs.Words.{plus}
use Rattle.rrv_model.specs.declared.machine.Regs.{Regs}
use Rattle.rrv_model.specs.declared.refusal.Memory.{Memory as Refusal}
use Rattle.rrv_model.specs.State.{register, with_register}
use Rattle.rrv_model.specs.Instructions.{Decodes}
use Rattle.rrv_model.specs.declared.machine.FaultKind.{FaultKind}
use Rattle.rrv_model.specs.declared.machine.FaultKind.TheVariants as faults
use Rattle.page_permissions.specs.declared.page.Permissions.{Permissions}
use Rattle.rrv_model.specs.declared.instr.Instr.{Instr}
use Rattle.rrv_model.specs.declared.instr.Instr.TheVariants as instrs
use Rattle.rrv_model.specs.declared.instr.StoreKind.{StoreKind}
use Rattle.rrv_model.specs.declared.instr.StoreKind.TheVariants.{Sb, Sh, Sw}
use Rattle.rv_machine.specs.declared.Stepped.{Stepped}
use Rattle.rv_machine.specs.declared.Stepped.TheVariants as stepped
use Rattle.rv_machine.specs.declared.decoded.Decoded.{Decoded}
use Rattle.rv_machine.specs.declared.decoded_pages.DecodedPage.{DecodedPage}
use Rattle.rv_machine.specs.declared.flow.Flow.{Flow}
use Rattle.rv_machine.specs.declared.flow.Flow.TheVariants as flows
use Rattle.rv_machine.specs.declared.decoded.Decoded.TheVariants.{NoInstruction}
use Rattle.rv_machine.specs.Flows.{address_at, hart_at, stepped_of, place_after, answer_of, place_of}
use Rattle.rv_machine.specs.Decoded.{instr_at}
use Rattle.rv_machine.specs.Outcome.{outcome_of, KeepsAtFault}
use Rattle.rv_machine.specs.declared.run.RunEnd.{RunEnd}
use Rattle.rv_machine.specs.declared.run.RunEnd.TheVariants as ends
use Rattle.rv_machine.specs.HartRuns.{HartSteps, HartRunsAtMost}
use Rattle.rv_machine.specs.Performs.{Does, Performs, StoresWithoutFault}
use Rattle.rv_machine.proofs.HartSteps.{StepsOnce}
use Rattle.rv_machine.specs.DecodedPages.{KeepsReadOnly, IsDecodedAt, AreDecoded, IsDecodedPage, AreDecodedPages}
use Rattle.guest_pages.proofs.Cells.{one_of_all}
use Rattle.guest_pages.proofs.WordStores.{allowed_after}
use Rattle.guest_pages.specs.Stores.{stored_at_each}
use Rattle.rrv_model.specs.CallRows.{all_writable}
use Rattle.guest_pages.specs.Space.{SpaceValue, memory_of}
use Rattle.std.proofs.Common.{OnOk, OnErr, IsTrue}

-- ---- what no store may change

pub keeps : (m : Memory) → KeepsReadOnly m m
keeps m a read_only = refl

pub keeps_more : (old mid new : Memory) → KeepsReadOnly old mid → KeepsReadOnly mid new → KeepsReadOnly old new
keeps_more old mid new h k a read_only = k a (ap can_write (h a read_only) ∙ read_only) ∙ h a read_only

-- the choice of a test that is known
chosen : {A : Type 0} (b c : Bool) (x y : A) → b ≡ c → (if b then x else y) ≡ (if c then x else y)
chosen b c x y e = ap (λ (t : Bool). if t then x else y) e

-- an address in a range of writable cells is writable
within_writable : (m : Memory) (a n x : ℕ) → writable m a n ≡ true → is_within a n x ≡ true → can_write (m x) ≡ true
within_writable m a n x allowed inside =
    let low : a ≤ x = grind (arith, nat_tests) in
    let high : x < a + n = grind (arith, nat_tests) in
    let place : a + (x - a) ≡ x = omega arith in
    subst (λ (k : ℕ). can_write (m k) ≡ true) place (one_of_all can_write m a n (x - a) allowed (omega arith))

pub stored_keeps : (m : Memory) (a : ℕ) (bytes : List ℕ) → writable m a (length bytes) ≡ true → KeepsReadOnly m (stored a bytes m)
stored_keeps m a bytes allowed x read_only = by_test (is_within a (length bytes) x) refl where
  by_test : (b : Bool) → is_within a (length bytes) x ≡ b → (if b then with_byte (slice_index bytes (x - a)) (m x) else m x) ≡ m x
  by_test true inside = absurd (false≢true (sym read_only ∙ within_writable m a (length bytes) x allowed inside))
  by_test false outside = refl

pub stores_keeps : (kind : StoreKind) (m : Memory) (a value : ℕ) → writable m a (store_len kind) ≡ true →
    KeepsReadOnly m (stores kind a value m)
stores_keeps Sb m a value allowed = stored_keeps m a (to_le_bytes w8 value) allowed
stores_keeps Sh m a value allowed = stored_keeps m a (to_le_bytes w16 value) allowed
stores_keeps Sw m a value allowed = stored_keeps m a (to_le_bytes w32 value) allowed

-- ---- the memory that an outcome leaves

abbrev MemoryAfter : Outcome → Memory → Type 0
MemoryAfter (Next h) m = KeepsReadOnly m h.memory
MemoryAfter (Called h) m = KeepsReadOnly m h.memory
MemoryAfter (Faulted kind) m = Unit {0}

if_keeps : (b : Bool) (x y : Outcome) (m : Memory) → (b ≡ true → MemoryAfter x m) → MemoryAfter y m → MemoryAfter (if b then x else y) m
if_keeps true x y m h k = h refl
if_keeps false x y m h k = k

jump_keeps : (rd target : ℕ) (h : Hart) → MemoryAfter (jumps rd target h) h.memory
jump_keeps rd target h = if_keeps (target % 4 == 0) _ _ h.memory (λ _. keeps h.memory) tt

atomic_keeps : (allowed : Bool) (kind : FaultKind) (a : ℕ) (x : Outcome) (m : Memory) → (allowed ≡ true → MemoryAfter x m) →
    MemoryAfter (atomic allowed kind a x) m
atomic_keeps allowed kind a x m h = if_keeps (a % 4 == 0) _ _ m (λ _. if_keeps allowed x _ m h tt) tt

-- whatever an instruction does, it leaves what no store may change
pub executed_keeps : (i : Option Instr) (h : Hart) → MemoryAfter (executed i h) h.memory
unfolding executed
executed_keeps None h = tt
executed_keeps (Some (instrs.Lui rd immediate)) h = keeps h.memory
executed_keeps (Some (instrs.Auipc rd immediate)) h = keeps h.memory
executed_keeps (Some (instrs.Jal rd offset)) h = jump_keeps rd _ h
executed_keeps (Some (instrs.Jalr rd rs1 immediate)) h = jump_keeps rd _ h
executed_keeps (Some (instrs.Branch test rs1 rs2 offset)) h =
    if_keeps (branches test (register h.regs rs1) (register h.regs rs2)) _ _ h.memory (λ _. jump_keeps 0 _ h) (keeps h.memory)
executed_keeps (Some (instrs.Load kind rd rs1 immediate)) h =
    if_keeps (readable h.memory (plus (register h.regs rs1) immediate) (load_len kind)) _ _ h.memory (λ _. keeps h.memory) tt
executed_keeps (Some (instrs.Store kind rs1 rs2 immediate)) h =
    if_keeps (writable h.memory (plus (register h.regs rs1) immediate) (store_len kind)) _ _ h.memory
    (λ allowed. stores_keeps kind h.memory (plus (register h.regs rs1) immediate) (register h.regs rs2) allowed) tt
executed_keeps (Some (instrs.OpImm op rd rs1 immediate)) h = keeps h.memory
executed_keeps (Some (instrs.Shift op rd rs1 amount)) h = keeps h.memory
executed_keeps (Some (instrs.Op op rd rs1 rs2)) h = keeps h.memory
executed_keeps (Some instrs.Fence) h = keeps h.memory
executed_keeps (Some instrs.FenceI) h = keeps h.memory
executed_keeps (Some instrs.Ecall) h = keeps h.memory
executed_keeps (Some instrs.Ebreak) h = tt
executed_keeps (Some (instrs.Lr ordering rd rs1)) h =
    atomic_keeps (readable h.memory (register h.regs rs1) 4) _ (register h.regs rs1) _ h.memory (λ _. keeps h.memory)
executed_keeps (Some (instrs.Sc ordering rd rs1 rs2)) h =
    atomic_keeps (writable h.memory (register h.regs rs1) 4) _ (register h.regs rs1) _ h.memory (λ allowed.
    if_keeps (is_reserved h.reservation (register h.regs rs1)) _ _ h.memory
    (λ _. stores_keeps Sw h.memory (register h.regs rs1) (register h.regs rs2) allowed) (keeps h.memory))
executed_keeps (Some (instrs.Amo op ordering rd rs1 rs2)) h =
    atomic_keeps (writable h.memory (register h.regs rs1) 4) _ (register h.regs rs1) _ h.memory
    (λ allowed. stores_keeps Sw h.memory (register h.regs rs1) (amo_value op (word_at h.memory (register h.regs rs1)) (register h.regs rs2))
    allowed)

of_word : (r : Result ℕ FaultKind) (h : Hart) (x : Outcome) → StepOfWord r h x → MemoryAfter x h.memory
of_word (Err kind) h x e = subst (λ (o : Outcome). MemoryAfter o h.memory) (sym e) tt
of_word (Ok w) h x (i, decodes, e) = subst (λ (o : Outcome). MemoryAfter o h.memory) (sym e) (executed_keeps i h)

pub step_keeps : (h : Hart) (x : Outcome) → HartStep h x → MemoryAfter x h.memory
step_keeps h x does = of_word (fetched h.memory h.regs.pc) h x does

pub next_keeps : (h new : Hart) → HartStep h (Next new) → KeepsReadOnly h.memory new.memory
next_keeps h new does = step_keeps h (Next new) does

pub called_keeps : (h new : Hart) → HartStep h (Called new) → KeepsReadOnly h.memory new.memory
called_keeps h new does = step_keeps h (Called new) does

pub steps_keep : (n : ℕ) (old new : Hart) → HartSteps n old new → KeepsReadOnly old.memory new.memory
unfolding HartSteps
steps_keep zero old new e = subst (λ (h : Hart). KeepsReadOnly old.memory h.memory) (sym e) (keeps old.memory)
steps_keep (suc n) old new (mid, p, q) = keeps_more old.memory mid.memory new.memory (steps_keep n old mid p) (next_keeps mid new q)

-- ---- what stays of decoded pages

all_same : (test : Option Cell → Bool) (m m' : Memory) (a n : ℕ) → ((k : ℕ) → k < n → m' (a + k) ≡ m (a + k)) →
    all_cells test m' a n ≡ all_cells test m a n
unfolding all_cells
all_same test m m' a zero h = refl
all_same test m m' a (suc n) h =
    let before : all_cells test m' a n ≡ all_cells test m a n = all_same test m m' a n (λ k l. h k (omega arith)) in
    let last : m' (a + n) ≡ m (a + n) = h n (omega arith) in
    rw (before, last) refl

bytes_same : (m m' : Memory) (a n : ℕ) → ((k : ℕ) → k < n → m' (a + k) ≡ m (a + k)) → bytes_at m' a n ≡ bytes_at m a n
unfolding bytes_at
bytes_same m m' a zero h = refl
bytes_same m m' a (suc n) h =
    let here : a + 0 ≡ a = omega arith in
    let first : m' a ≡ m a = subst (λ (x : ℕ). m' x ≡ m x) here (h 0 (omega arith)) in
    let rest : bytes_at m' (a + 1) n ≡ bytes_at m (a + 1) n = bytes_same m m' (a + 1) n (λ k l.
    let place : a + (k + 1) ≡ a + 1 + k = omega arith in
    subst (λ (x : ℕ). m' x ≡ m x) place (h (k + 1) (omega arith))) in
    rw (first, rest) refl

pub decoded_at_same : (m m' : Memory) (a : ℕ) (decoded : Decoded) → ((k : ℕ) → k < 4 → m' (a + k) ≡ m (a + k)) → IsDecodedAt m a decoded →
    IsDecodedAt m' a decoded
decoded_at_same m m' a decoded cells is =
    let bytes : bytes_at m' a 4 ≡ bytes_at m a 4 = bytes_same m m' a 4 cells in
    let same : word_at m' a ≡ word_at m a = rw bytes refl in
    record {
      fetches = all_same can_execute m m' a 4 cells ∙ is.fetches;
      decodes = subst (λ (w : ℕ). Decodes w (instr_at a decoded)) (sym same) is.decodes;
      read_only = λ k l. ap can_write (cells k l) ∙ is.read_only k l;
    }

decoded_at_kept : (m m' : Memory) (a : ℕ) (decoded : Decoded) → KeepsReadOnly m m' → IsDecodedAt m a decoded → IsDecodedAt m' a decoded
decoded_at_kept m m' a decoded kept is = decoded_at_same m m' a decoded (λ k l. kept (a + k) (is.read_only k l)) is

pub page_kept : (m m' : Memory) (page : DecodedPage) → KeepsReadOnly m m' → IsDecodedPage m page → IsDecodedPage m' page
page_kept m m' page kept are k decoded low is = decoded_at_kept m m' _ decoded kept (are k decoded low is)

pub pages_kept : (m m' : Memory) (slots : List (Option DecodedPage)) → KeepsReadOnly m m' → AreDecodedPages m slots →
    AreDecodedPages m' slots
pages_kept m m' slots kept are j = by_slot (slice_index_or slots j None) (are j) where
  by_slot : (slot : Option DecodedPage) → IfSome slot (IsDecodedPage m) → IfSome slot (IsDecodedPage m')
  by_slot None h = tt
  by_slot (Some page) h = page_kept m m' page kept h

-- ---- a decoded instruction that is done is a step

fetched_is : (m : Memory) (pc : ℕ) → pc % 4 ≡ 0 → executable m pc 4 ≡ true → fetched m pc ≡ Ok (word_at m pc)
fetched_is m pc aligned fetches = rw (aligned, fetches) refl

outcome_is : (i : Option Instr) (answer : Stepped) (old new : Hart) → Performs i answer old new → outcome_of answer new ≡ executed i old
unfolding executed
outcome_is None answer old new h = h.0
outcome_is (Some i) answer old new h = h.outcome

-- of a word that is fetched
pub word_step : (h new : Hart) (i : Option Instr) (answer : Stepped) → h.regs.pc % 4 ≡ 0 → executable h.memory h.regs.pc 4 ≡ true →
    Decodes (word_at h.memory h.regs.pc) i → Performs i answer h new → HartStep h (outcome_of answer new)
word_step h new i answer aligned fetches decodes does =
    subst (λ (r : Result ℕ FaultKind). StepOfWord r h (outcome_of answer new)) (sym (fetched_is h.memory h.regs.pc aligned fetches))
    (i, decodes, outcome_is i answer h new does)

-- where no word is
pub no_word_step : (h : Hart) → h.regs.pc % 4 ≡ 0 → executable h.memory h.regs.pc 4 ≡ false → HartStep h (Faulted faults.Fetch)
no_word_step h aligned none =
    let fetches : fetched h.memory h.regs.pc ≡ Err faults.Fetch = rw (aligned, none) refl in
    subst (λ (r : Result ℕ FaultKind). StepOfWord r h (Faulted faults.Fetch)) (sym fetches) refl

pub performs_fault : (i : Option Instr) (answer : Stepped) (old new : Hart) → Performs i answer old new → KeepsAtFault answer old new
performs_fault None answer old new h = h.1
performs_fault (Some i) answer old new h = h.fault

pub word_stores : (h : Hart) (i : Option Instr) → h.regs.pc % 4 ≡ 0 → executable h.memory h.regs.pc 4 ≡ true →
    Decodes (word_at h.memory h.regs.pc) i → StoresWithoutFault i h → MayStore h
word_stores h None aligned fetches d t = absurd t
word_stores h (Some i) aligned fetches d t = record {
  word = word_at h.memory h.regs.pc;
  instr = i;
  fetches = fetched_is h.memory h.regs.pc aligned fetches;
  stands = d;
  passes = t.0;
  goes = t.1;
}

-- so a word that is fetched at pc and done is one step
pub word_once : (pc : ℕ) (old new : Hart) (i : Option Instr) (flow : Result Flow Refusal) {space later : SpaceValue} → pc % 4 ≡ 0 →
    executable old.memory pc 4 ≡ true → Decodes (word_at old.memory pc) i → Does pc i flow old new space later →
    StepsOnce (answer_of flow) (hart_at pc old) (hart_at (place_of pc flow) new)
word_once pc old new i (Ok flow) aligned fetches decodes does = record {
  step = word_step (hart_at pc old) (hart_at (place_after pc flow) new) i (stepped_of flow) aligned fetches decodes does.performs;
  fault = performs_fault i (stepped_of flow) (hart_at pc old) (hart_at (place_after pc flow) new) does.performs;
  refused = tt;
  takes = tt;
}
word_once pc old new i (Err refusal) aligned fetches decodes does = record {
  step = tt;
  fault = tt;
  refused = ap (hart_at pc) does.refused;
  takes = word_stores (hart_at pc old) i aligned fetches decodes does.takes;
}

-- behind the last instruction of a page stands none
end_is_none : (page : DecodedPage) (at : ℕ) (decoded : Decoded) → 1024 ≤ at → at ≤ 1024 →
    decoded ≡ slice_index_or page.instrs.items at decoded → decoded ≡ NoInstruction
end_is_none page at decoded low high is =
    let here : at ≡ 1024 = omega arith in
    let within : 1024 < length page.instrs.items = omega (arith, page.full) in
    is ∙ ap (λ (i : ℕ). slice_index_or page.instrs.items i decoded) here
    ∙ get_or_default page.instrs.items 1024 decoded NoInstruction within ∙ page.end

-- which never goes on
none_ends : (pc : ℕ) (flow : Flow) (old new : Hart) {space later : SpaceValue} → stepped_of flow ≡ stepped.Next →
    Does pc None (Ok flow) old new space later → ⊥
none_ends pc flows.Next old new e does = let other = does.performs.0 in absurd (cc)
none_ends pc (flows.Stored stored) old new e does = let other = does.performs.0 in absurd (cc)
none_ends pc (flows.Jump target) old new e does = let other = does.performs.0 in absurd (cc)
none_ends pc (flows.In to) old new e does = let other = does.performs.0 in absurd (cc)
none_ends pc flows.Call old new e does = absurd (cc)
none_ends pc (flows.Fault kind) old new e does = absurd (cc)

-- so what goes on is one of the page's instructions
pub goes_on_within : (page : DecodedPage) (at : ℕ) (decoded : Decoded) (flow : Flow) (result : Result Flow Refusal) (old new : Hart)
    {pc : ℕ} {space later : SpaceValue} → at ≤ 1024 → decoded ≡ slice_index_or page.instrs.items at decoded → result ≡ Ok flow →
    stepped_of flow ≡ stepped.Next → Does pc (instr_at pc decoded) result old new space later → at < 1024
goes_on_within page at decoded flow result old new {pc = pc} {space = space} {later = later} high is told next does =
    elim (cases_lt at 1024) [
      | inl w ↦ w
      | inr w ↦
          let none : instr_at pc decoded ≡ None = ap (instr_at pc) (end_is_none page at decoded w high is) in
          absurd (none_ends pc flow old new {space = space} {later = later} next
          (subst (λ (r : Result Flow Refusal). Does pc None r old new space later) told
          (subst (λ (i : Option Instr). Does pc i result old new space later) none does)))
    ]

-- the address of an instruction is its place in memory
pub address_in_page : (number index : ℕ) → index < 1024 → address_at number index ≡ number * 4096 + index * 4
address_in_page number index within = omega arith

pub address_of_pc : (number pc : ℕ) → pc % 4 ≡ 0 → pc / 4096 ≡ number → address_at number (pc % 4096 / 4) ≡ pc
address_of_pc number pc aligned place = omega arith

pub does_at : (pc place : ℕ) (decoded : Decoded) (flow : Result Flow Refusal) (old new : Hart) {space later : SpaceValue} → place ≡ pc →
    Does place (instr_at place decoded) flow old new space later → Does pc (instr_at pc decoded) flow old new space later
does_at pc place decoded flow old new {space = space} {later = later} is does =
    subst (λ (p : ℕ). Does p (instr_at p decoded) flow old new space later) is does

-- and so is the instruction at an index of a page that was decoded some steps before
pub page_once : (n at : ℕ) (first old new : Hart) (page : DecodedPage) (decoded : Decoded) (flow : Result Flow Refusal)
    {space later : SpaceValue} → IsDecodedPage first.memory page → HartSteps n first (hart_at (page.number * 4096 + at * 4) old) →
    at < 1024 → decoded ≡ slice_index_or page.instrs.items at decoded →
    Does (page.number * 4096 + at * 4) (instr_at (page.number * 4096 + at * 4) decoded) flow old new space later →
    StepsOnce (answer_of flow) (hart_at (page.number * 4096 + at * 4) old) (hart_at (place_of (page.number * 4096 + at * 4) flow) new)
page_once n at first old new page decoded flow {space = space} {later = later} are steps low is does =
    let pc : ℕ = page.number * 4096 + at * 4 in
    let aligned : pc % 4 ≡ 0 = omega arith in
    let here : IsDecodedAt old.memory pc decoded =
    page_kept first.memory old.memory page (steps_keep n first (hart_at pc old) steps) are at decoded low is in
    word_once pc old new (instr_at pc decoded) flow {space = space} {later = later} aligned here.fetches here.decodes does

-- one that goes on is one of the page's 1,024, and is one step
pub record GoesOn (page : DecodedPage) (at : ℕ) (flow : Flow) (old new : Hart) : Type 0 where
  pub within : at < 1024
  pub step : HartStep (hart_at (page.number * 4096 + at * 4) old)
      (Next (hart_at (place_after (page.number * 4096 + at * 4) flow) new))

pub goes_on_in : (n at : ℕ) (first old new : Hart) (page : DecodedPage) (decoded : Decoded) (flow : Flow) (result : Result Flow Refusal)
    {space later : SpaceValue} → IsDecodedPage first.memory page → HartSteps n first (hart_at (page.number * 4096 + at * 4) old) →
    at ≤ 1024 → decoded ≡ slice_index_or page.instrs.items at decoded → result ≡ Ok flow → stepped_of flow ≡ stepped.Next →
    Does (address_at page.number at) (instr_at (address_at page.number at) decoded) result old new space later →
    GoesOn page at flow old new
goes_on_in n at first old new page decoded flow result {space = space} {later = later} are steps high is told next does =
    let within : at < 1024 = goes_on_within page at decoded flow result old new {space = space} {later = later} high is told next does in
    let did = does_at (page.number * 4096 + at * 4) (address_at page.number at) decoded result old new
    {space = space} {later = later} (address_in_page page.number at within) does in
    let once = page_once n at first old new page decoded result {space = space} {later = later} are steps within is did in
    record { within = within; step = (rw (told, next) at once).step }

-- whatever ran, it left what no store may change
pub run_keeps : (end : RunEnd) (limit count : ℕ) (old new : Hart) → HartRunsAtMost end limit count old new →
    KeepsReadOnly old.memory new.memory
run_keeps ends.Limit limit count old new run = steps_keep count old new run.1
run_keeps ends.Call limit count old new run =
    keeps_more old.memory run.before.memory new.memory (steps_keep (count - 1) old run.before run.steps)
    (called_keeps run.before new run.calls)
run_keeps (ends.Fault kind) limit count old new run = steps_keep (count - 1) old new run.steps
run_keeps ends.Memory limit count old new run = steps_keep count old new run.steps

-- ---- decoding a page

alike_read_only : (c d : Option Cell) → AlikeCells c d → can_write d ≡ false → can_write c ≡ false
alike_read_only None d alike read_only = refl
alike_read_only (Some c) None alike read_only = absurd alike
alike_read_only (Some c) (Some d) alike read_only = ap (λ (p : Permissions). p.write) alike ∙ read_only

first_read_only : (m : Memory) (a : ℕ) → writable m a 1 ≡ false → can_write (m a) ≡ false
unfolding all_cells
first_read_only m a h =
    let here : a + 0 ≡ a = omega arith in
    subst (λ (x : ℕ). can_write (m x) ≡ false) here h

pub page_read_only : (m : Memory) → IsMemory m → (number a : ℕ) → a / 4096 ≡ number → writable m (number * 4096) 1 ≡ false →
    can_write (m a) ≡ false
page_read_only m is_memory number a place read_only =
    let same : a / 4096 ≡ number * 4096 / 4096 = omega arith in
    alike_read_only (m a) (m (number * 4096)) (is_memory.pages.paged a (number * 4096) same) (first_read_only m (number * 4096) read_only)

pub decoded_here : (m : Memory) → IsMemory m → (number k a : ℕ) (decoded : Decoded) → a ≡ number * 4096 + k * 4 → k < 1024 →
    writable m (number * 4096) 1 ≡ false →
    executable m a 4 ≡ true → Decodes (word_at m a) (instr_at a decoded) → IsDecodedAt m (number * 4096 + k * 4) decoded
decoded_here m is_memory number k a decoded e low read_only fetches decodes = subst (λ (x : ℕ). IsDecodedAt m x decoded) e (record {
  fetches = fetches;
  decodes = decodes;
  read_only = λ j l. page_read_only m is_memory number (a + j) (omega arith) read_only;
})

pub one_more_decoded : (m : Memory) (number n : ℕ) (instrs : List Decoded) (last : Decoded) → length instrs ≡ n →
    AreDecoded m number n instrs → IsDecodedAt m (number * 4096 + n * 4) last → AreDecoded m number (n + 1) (instrs ++ last ∷ [])
one_more_decoded m number n instrs last len are here k decoded low is = by_place (cases_lt k n) where
  by_place : k < n ⊎ n ≤ k → IsDecodedAt m (number * 4096 + k * 4) decoded
  by_place (inl l) =
      let within : k < length instrs = omega arith in
      are k decoded l (is ∙ get_or_append_left instrs (last ∷ []) decoded k within)
  by_place (inr r) =
      let place : k ≡ length instrs = omega arith in
      let same : decoded ≡ last =
      subst (λ (i : ℕ). decoded ≡ slice_index_or (instrs ++ last ∷ []) i decoded) place is
      ∙ get_or-append_seam instrs last [] decoded in
      let at : n ≡ k = omega arith in
      subst (λ (f : Decoded). IsDecodedAt m (number * 4096 + k * 4) f) (sym same)
      (subst (λ (i : ℕ). IsDecodedAt m (number * 4096 + i * 4) last) at here)

-- ---- a space whose answer tells whether it stored

pub store_keeps : {T E : Type 0} (r : Result T E) (old new : SpaceValue) (a : ℕ) (bytes : List ℕ) →
    OnOk r (IsTrue (writable (memory_of old) a (length bytes))) →
    OnOk r (memory_of new ≡ stored a bytes (memory_of old)) → OnErr r (new ≡ old) → KeepsReadOnly (memory_of old) (memory_of new)
store_keeps (Ok x) old new a bytes allowed done err =
    subst (λ (m : Memory). KeepsReadOnly (memory_of old) m) (sym done) (stored_keeps (memory_of old) a bytes allowed)
store_keeps (Err e) old new a bytes allowed done err =
    subst (λ (s : SpaceValue). KeepsReadOnly (memory_of old) (memory_of s)) (sym err) (keeps (memory_of old))

-- words that are stored, one after another
each_kept : (places bytes : List ℕ) (m : Memory) → length bytes ≡ 4 → all_writable m places ≡ true →
    KeepsReadOnly m (stored_at_each places bytes m)
unfolding stored_at_each all_writable
each_kept [] bytes m len allowed = keeps m
each_kept (a ∷ places) bytes m len allowed =
    let each : (writable m a 4 ≡ true) × (all_writable m places ≡ true) = and_parts _ _ allowed in
    let here : writable m a (length bytes) ≡ true = subst (λ (n : ℕ). writable m a n ≡ true) (sym len) each.0 in
    keeps_more m (stored a bytes m) (stored_at_each places bytes (stored a bytes m)) (stored_keeps m a bytes here)
    (each_kept places bytes (stored a bytes m) len (allowed_after a bytes m places each.1))

pub words_keep : {T E : Type 0} (r : Result T E) (old new : SpaceValue) (places bytes : List ℕ) → length bytes ≡ 4 →
    IsTrue (all_writable (memory_of old) places) →
    OnOk r (memory_of new ≡ stored_at_each places bytes (memory_of old)) → OnErr r (new ≡ old) →
    KeepsReadOnly (memory_of old) (memory_of new)
words_keep (Ok x) old new places bytes len allowed done err =
    subst (λ (m : Memory). KeepsReadOnly (memory_of old) m) (sym done) (each_kept places bytes (memory_of old) len allowed)
words_keep (Err e) old new places bytes len allowed done err =
    subst (λ (s : SpaceValue). KeepsReadOnly (memory_of old) (memory_of s)) (sym err) (keeps (memory_of old))

-- ---- pc stays a multiple of 4

abbrev PcAfter : Outcome → Type 0
PcAfter (Next h) = h.regs.pc % 4 ≡ 0
PcAfter (Called h) = Unit {0}
PcAfter (Faulted kind) = Unit {0}

if_pc : (b : Bool) (x y : Outcome) → (b ≡ true → PcAfter x) → PcAfter y → PcAfter (if b then x else y)
if_pc true x y h k = h refl
if_pc false x y h k = k

behind : (pc : ℕ) → pc % 4 ≡ 0 → plus pc 4 % 4 ≡ 0
behind pc aligned = omega arith

pc_kept : (r value : ℕ) (regs : Regs) → (with_register r value regs).pc ≡ regs.pc
pc_kept r value regs = by_test (r == 0) where
  by_test : (b : Bool) → (if b then regs else record regs { registers = slice_set regs.registers r value }).pc ≡ regs.pc
  by_test true = refl
  by_test false = refl

sets_pc : (rd value : ℕ) (h : Hart) → h.regs.pc % 4 ≡ 0 → PcAfter (sets rd value h)
sets_pc rd value h aligned = behind (with_register rd value h.regs).pc (ap (λ (x : ℕ). x % 4) (pc_kept rd value h.regs) ∙ aligned)

tested : (x : ℕ) → (x % 4 == 0) ≡ true → x % 4 ≡ 0
tested x h = grind (arith, nat_tests)

jump_pc : (rd target : ℕ) (h : Hart) → PcAfter (jumps rd target h)
jump_pc rd target h = if_pc (target % 4 == 0) _ _ (tested target) tt

atomic_pc : (allowed : Bool) (kind : FaultKind) (a : ℕ) (x : Outcome) → PcAfter x → PcAfter (atomic allowed kind a x)
atomic_pc allowed kind a x h = if_pc (a % 4 == 0) _ _ (λ _. if_pc allowed x _ (λ _. h) tt) tt

executed_pc : (i : Option Instr) (h : Hart) → h.regs.pc % 4 ≡ 0 → PcAfter (executed i h)
unfolding executed
executed_pc None h aligned = tt
executed_pc (Some (instrs.Lui rd immediate)) h aligned = sets_pc rd _ h aligned
executed_pc (Some (instrs.Auipc rd immediate)) h aligned = sets_pc rd _ h aligned
executed_pc (Some (instrs.Jal rd offset)) h aligned = jump_pc rd _ h
executed_pc (Some (instrs.Jalr rd rs1 immediate)) h aligned = jump_pc rd _ h
executed_pc (Some (instrs.Branch test rs1 rs2 offset)) h aligned =
    if_pc (branches test (register h.regs rs1) (register h.regs rs2)) _ _ (λ _. jump_pc 0 _ h) (behind h.regs.pc aligned)
executed_pc (Some (instrs.Load kind rd rs1 immediate)) h aligned =
    if_pc (readable h.memory (plus (register h.regs rs1) immediate) (load_len kind)) _ _ (λ _. sets_pc rd _ h aligned) tt
executed_pc (Some (instrs.Store kind rs1 rs2 immediate)) h aligned =
    if_pc (writable h.memory (plus (register h.regs rs1) immediate) (store_len kind)) _ _ (λ _. behind h.regs.pc aligned) tt
executed_pc (Some (instrs.OpImm op rd rs1 immediate)) h aligned = sets_pc rd _ h aligned
executed_pc (Some (instrs.Shift op rd rs1 amount)) h aligned = sets_pc rd _ h aligned
executed_pc (Some (instrs.Op op rd rs1 rs2)) h aligned = sets_pc rd _ h aligned
executed_pc (Some instrs.Fence) h aligned = behind h.regs.pc aligned
executed_pc (Some instrs.FenceI) h aligned = behind h.regs.pc aligned
executed_pc (Some instrs.Ecall) h aligned = tt
executed_pc (Some instrs.Ebreak) h aligned = tt
executed_pc (Some (instrs.Lr ordering rd rs1)) h aligned =
    let after : Hart = record h { reservation = Some (register h.regs rs1) } in
    atomic_pc (readable h.memory (register h.regs rs1) 4) _ (register h.regs rs1) _ (sets_pc rd _ after aligned)
executed_pc (Some (instrs.Sc ordering rd rs1 rs2)) h aligned =
    let after : Hart = record h { reservation = None } in
    let stored_there : Hart = record after { memory = stores Sw (register h.regs rs1) (register h.regs rs2) h.memory } in
    atomic_pc (writable h.memory (register h.regs rs1) 4) _ (register h.regs rs1) _
    (if_pc (is_reserved h.reservation (register h.regs rs1)) _ _ (λ _. sets_pc rd 0 stored_there aligned) (sets_pc rd 1 after aligned))
executed_pc (Some (instrs.Amo op ordering rd rs1 rs2)) h aligned =
    let old = word_at h.memory (register h.regs rs1) in
    let stored_there : Hart =
    record h {
      memory = stores Sw (register h.regs rs1) (amo_value op (word_at h.memory (register h.regs rs1)) (register h.regs rs2))
          h.memory;
    } in
    atomic_pc (writable h.memory (register h.regs rs1) 4) _ (register h.regs rs1) _ (sets_pc rd _ stored_there aligned)

word_pc : (r : Result ℕ FaultKind) (h : Hart) (x : Outcome) → h.regs.pc % 4 ≡ 0 → StepOfWord r h x → PcAfter x
word_pc (Err kind) h x aligned e = subst (λ (o : Outcome). PcAfter o) (sym e) tt
word_pc (Ok w) h x aligned (i, decodes, e) = subst (λ (o : Outcome). PcAfter o) (sym e) (executed_pc i h aligned)

pub next_aligned : (h new : Hart) → h.regs.pc % 4 ≡ 0 → HartStep h (Next new) → new.regs.pc % 4 ≡ 0
next_aligned h new aligned does = word_pc (fetched h.memory h.regs.pc) h (Next new) aligned does
