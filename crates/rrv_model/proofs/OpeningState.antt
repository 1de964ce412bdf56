-- The opening state is a state.
use Rattle.std.proofs.Common.{◌≡◌, ℕ, ◌+◌, ◌*◌, ◌^◌, ◌<◌, ◌≤◌, max, Bool, true, false, not, ◌||◌, cond, ◌==◌, if◌then◌else◌, List, [], ◌∷◌, drop, Option, Some, None, arith, refl, sym, ◌∙◌, subst, get_or}
use Rattle.std.specs.Prelude.{All, fold, replicate, slice_set, IfSome, IsSome}
use Rattle.std.specs.FinMap.{get, insert, empty, len, get-insert, get-empty, len-insert, len-empty}
use Rattle.std.specs.Ordering.{nat_cmp, eq_by_cmp}
use Rattle.std.specs.Cmp.{unsigned_tied}
use Rattle.std.specs.List.{list_any}
use Rattle.std.proofs.lemmas.Cmp.{nat_cmp_total}
use Rattle.std.proofs.lemmas.List.{get_or-drop}
use Rattle.std.proofs.lemmas.List.Elements.{All-set, All-replicate, All-from_get_or}
use Rattle.std.proofs.lemmas.Bool.Decides.{nat_tests}
use Rattle.rrv_model.specs.declared.machine.Thread.{Thread}
use Rattle.rrv_model.specs.Memory.{page_bytes, pages_for}
use Rattle.rrv_model.specs.declared.machine.FutexWait.{FutexWait}
use Rattle.rrv_model.specs.declared.machine.Version.{Version}
use Rattle.rrv_model.specs.declared.machine.Version.TheVariants.{One, Two}
use Rattle.rrv_model.specs.State.{IsState, IsThread, AreThreads, AreRegs, IsWaiting, live_threads}
use Rattle.rrv_model.specs.Elf.{Header, loads, load_end, refusal, elf_entry, is_empty_load, IsLoad}
use Rattle.rrv_model.specs.Opening.{opening_state, opening_thread, image_break, stack_pointer, IsName, OpeningsAreStates}
use Rattle.rrv_model.proofs.ImageParts.{AreLoads, IsAccepted}
use Rattle.rrv_model.proofs.AcceptedFile.{is_accepted}
use Rattle.rrv_model.proofs.MemoryRules.{AreBytes, are_bytes, word-small}
use Rattle.rrv_model.proofs.OpeningMemory.{is_opening_memory}

-- ---- bytes

pub all_bytes : (bytes : List ℕ) → ((i : ℕ) → get_or bytes i 0 < 256) → All (λ b. b < 256) bytes
all_bytes bytes small = All-from_get_or (λ b. b < 256) bytes 0 (λ i below. small i)

-- ---- the thread

small-drop : (n : ℕ) (bytes : List ℕ) → AreBytes bytes → AreBytes (drop n bytes)
small-drop n bytes small i = let h = small (n + i) in rw get_or-drop h

small-stack_pointer : (name : List ℕ) → stack_pointer name < 2 ^ 32
small-stack_pointer name = omega arith

opening_registers : (sp : ℕ) → sp < 2 ^ 32 → All (λ value. value < 2 ^ 32) (slice_set (replicate 32 0) 2 sp)
opening_registers sp small =
    All-set (λ value. value < 2 ^ 32) (replicate 32 0) 2 sp small (All-replicate (λ value. value < 2 ^ 32) 32 0 (omega arith))

first_regs : (pc sp : ℕ) → pc < 2 ^ 32 → sp < 2 ^ 32 → AreRegs (record { pc = pc; registers = slice_set (replicate 32 0) 2 sp })
first_regs pc sp small_pc small_sp = record {
  pc = small_pc;
  registers = (refl, opening_registers sp small_sp);
  zero = refl;
}

pub is_first_thread : {v : Version} (pc sp : ℕ) → pc < 2 ^ 32 → sp < 2 ^ 32 →
    IsThread v (record { regs = record { pc = pc; registers = slice_set (replicate 32 0) 2 sp }; wait = None; clear = 0 })
is_first_thread pc sp small_pc small_sp = record {
  regs = first_regs pc sp small_pc small_sp;
  waits = tt;
  clear = omega arith;
}

-- ---- the threads

same_choice : (t : Thread) (b c : Bool) (rest : Option Thread) → b ≡ c → rest ≡ None → cond b (Some t) rest ≡ (if c then Some t else None)
same_choice t b true rest e none = rw e refl
same_choice t b false rest e none = rw e none

-- the only thread is thread 1
pub thread_one : (t : Thread) (tid : ℕ) → get (insert (empty {X = Thread} {R = nat_cmp}) 1 t) tid ≡ (if tid == 1 then Some t else None)
thread_one t tid =
    get-insert nat_cmp_total empty 1 t tid
    ∙ same_choice t (eq_by_cmp nat_cmp tid 1) (tid == 1) _ (unsigned_tied tid 1) (get-empty nat_cmp tid)

some_if : (t : Thread) (tid : ℕ) (P : ℕ → Thread → Type 0) (b : Bool) → (tid == 1) ≡ b → P 1 t → IfSome (if b then Some t else None) (P tid)
some_if t tid P true e h = let one : 1 ≡ tid = grind (arith, nat_tests) in subst (λ (k : ℕ). P k t) one h
some_if t tid P false e h = tt

of_thread_one : (t : Thread) (tid : ℕ) (P : ℕ → Thread → Type 0) → P 1 t →
    IfSome (get (insert (empty {X = Thread} {R = nat_cmp}) 1 t) tid) (P tid)
of_thread_one t tid P h = subst (λ (o : Option Thread). IfSome o (P tid)) (sym (thread_one t tid)) (some_if t tid P (tid == 1) refl h)

none_some : IsSome {T = FutexWait} None → ⊥
none_some h = cc

not_waiting_if : (t : Thread) (b : Bool) → t.wait ≡ None → IsWaiting (if b then Some t else None) → ⊥
not_waiting_if t true e h = none_some (subst (λ (o : Option FutexWait). IsSome o) e h)
not_waiting_if t false e h = h

none_waits : (t : Thread) (tid : ℕ) → t.wait ≡ None → IsWaiting (get (insert (empty {X = Thread} {R = nat_cmp}) 1 t) tid) → ⊥
none_waits t tid e h = not_waiting_if t (tid == 1) e (subst IsWaiting (thread_one t tid) h)

-- ---- the break

break_step : (file : List ℕ) (h : Header) (end : ℕ) → IsLoad file h → end ≤ 0x70000000 →
    (if h.memory_len == 0 then end else max end (load_end h)) ≤ 0x70000000
break_step file h end good low = let high = good.high in grind (arith, nat_tests)

low_break : (file : List ℕ) (hs : List Header) (end : ℕ) → AreLoads file hs → end ≤ 0x70000000 →
    fold (λ end h. if h.memory_len == 0 then end else max end (load_end h)) end hs ≤ 0x70000000
low_break file [] end good low = low
low_break file (h ∷ hs) end good low =
    low_break file hs (if h.memory_len == 0 then end else max end (load_end h)) good.1 (break_step file h end good.0 low)

break_grows : (hs : List Header) (end : ℕ) → end ≤ fold (λ end h. if h.memory_len == 0 then end else max end (load_end h)) end hs
break_grows [] end = omega arith
break_grows (h ∷ hs) end =
    let rest = break_grows hs (if h.memory_len == 0 then end else max end (load_end h)) in
    let here : end ≤ (if h.memory_len == 0 then end else max end (load_end h)) = grind (arith, nat_tests) in
    omega (arith, rest, here)

filled_break : (file : List ℕ) (h : Header) (end : ℕ) → IsLoad file h → not (is_empty_load h) ≡ true →
    0x1000 ≤ (if h.memory_len == 0 then end else max end (load_end h))
filled_break file h end good fills =
    let some : 0 < h.memory_len = grind (arith, nat_tests) in
    let low = good.low some in
    grind (arith, nat_tests)

-- a load that has a byte ends above the first page
high_break : (file : List ℕ) (hs : List Header) (end : ℕ) → AreLoads file hs → list_any (λ h. not (is_empty_load h)) hs ≡ true →
    0x1000 ≤ fold (λ end h. if h.memory_len == 0 then end else max end (load_end h)) end hs
high_break file [] end good fills = cc
high_break file (h ∷ hs) end good fills =
    by_first (not (is_empty_load h)) refl fills
    (λ some. high_break file hs (if h.memory_len == 0 then end else max end (load_end h)) good.1 some) where
      by_first : (b : Bool) → not (is_empty_load h) ≡ b → (b || list_any (λ h. not (is_empty_load h)) hs) ≡ true →
          (list_any (λ h. not (is_empty_load h)) hs ≡ true →
          0x1000 ≤ fold (λ end h. if h.memory_len == 0 then end else max end (load_end h))
          (if h.memory_len == 0 then end else max end (load_end h)) hs) →
          0x1000 ≤ fold (λ end h. if h.memory_len == 0 then end else max end (load_end h))
          (if h.memory_len == 0 then end else max end (load_end h)) hs
      by_first true e some behind =
          let here = filled_break file h end good.0 e in
          let rest = break_grows hs (if h.memory_len == 0 then end else max end (load_end h)) in
          omega (arith, here, rest)
      by_first false e some behind = behind some

rounded_up : (n : ℕ) → 0x1000 ≤ n → 0x1000 ≤ pages_for n * page_bytes
rounded_up n high = omega arith

high_image_break : (file : List ℕ) → IsAccepted file → 0x1000 ≤ image_break file
high_image_break file accepted = rounded_up _ (high_break file (loads file) 0 accepted.good accepted.fills)

whole_pages : (n : ℕ) → n ≤ 0x70000000 → pages_for n * page_bytes ≤ 0x70000000
whole_pages n low = omega arith

low_image_break : (file : List ℕ) → IsAccepted file → image_break file ≤ 0x70000000
low_image_break file accepted = whole_pages _ (low_break file (loads file) 0 accepted.good (omega arith))

-- ---- the state

len_if : {all before : ℕ} (has : Bool) → before ≡ 0 → all ≡ cond has before (before + 1) → all ≤ 1
len_if true e f = omega arith
len_if false e f = omega arith

live-one : (t : Thread) → len (insert (empty {X = Thread} {R = nat_cmp}) 1 t) ≤ 1
live-one t = len_if _ (len-empty nat_cmp Thread) (len-insert nat_cmp_total empty 1 t)

one_may_live : (v : Version) → 1 ≤ live_threads v
one_may_live One = omega arith
one_may_live Two = omega arith

pub is_opening_state : (version : Version) (file name random : List ℕ) → refusal file ≡ None → All (λ b. b < 256) file → IsName name →
    All (λ b. b < 256) random →
    IsState (opening_state version file name random)
is_opening_state version file name random none small is_name random_small =
    let t = opening_thread file name in
    let memory = is_opening_memory file name random none small is_name random_small in
    let threads : AreThreads version (opening_state version file name random).threads [] 2 = record {
      threads = λ tid. of_thread_one t tid (λ _. IsThread version)
          (is_first_thread (elf_entry file) (stack_pointer name) (word-small (drop 24 file) (small-drop 24 file (are_bytes file small)))
          (small-stack_pointer name));
      live = omega (arith, live-one t, one_may_live version);
      tids = λ tid. of_thread_one t tid (λ k _. (1 ≤ k) × (k < 2)) (omega arith, omega arith);
      first = omega arith;
      next_tid = omega arith;
      waiting = λ tid. (λ has. absurd (omega (arith, has.1)), λ waits. absurd (none_waits t tid refl waits));
      waiting_once = λ i j d above below. absurd (omega arith);
    } in
    record {
      rules = record {
        memory = memory.pages;
        threads = threads;
        opening = high_image_break file (is_accepted file none);
        breaks = (omega arith, low_image_break file (is_accepted file none));
        reservation = tt;
        ended = tt;
      };
      limit = memory.limit;
    }

pub openings_are_states : OpeningsAreStates
openings_are_states o s opens =
    subst IsState (sym opens.state_is)
    (is_opening_state o.version o.elf o.name o.random opens.accepted opens.file_bytes opens.is_name opens.random_bytes)
