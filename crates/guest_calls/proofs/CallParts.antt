-- What calls leave, put together from their parts.
use Rattle.std.proofs.Common.{◌≡◌, ℕ, ◌^◌, ◌<◌, ◌≤◌, Bool, true, false, cond, nat_eq, ◌==◌, if◌then◌else◌, length, List, [], ◌∷◌, All, lit<, fold, Option, Some, None, refl, sym, ◌∙◌, ap, subst, arith}
use Rattle.std.proofs.lemmas.Bool.Decides.{nat_tests}
use Rattle.std.proofs.lemmas.List.Elements.{All-cons}
use Rattle.std.specs.FinMap.{remove, len}
use Rattle.rrv_model.specs.declared.machine.Thread.{Thread}
use Rattle.rrv_model.specs.declared.record.Written.{Written}
use Rattle.rrv_model.specs.declared.record.CallRecord.{CallRecord}
use Rattle.rrv_model.specs.Memory.{Memory, stored}
use Rattle.rrv_model.specs.State.{State, thread_at}
use Rattle.rrv_model.specs.CallRows.{Row, Returns, NoResult, argument, change_thread, clears, ends, exit_row, leaves, only_returns, range}
use Rattle.rrv_model.specs.CallRows.{waiters, wakes, with_memory, woken}
use Rattle.rrv_model.specs.Calls.{write_all, writes, results}
use Rattle.rrv_model.specs.RecordText.{HasCallText}
use Rattle.rrv_model.specs.Output.{Chunk, moved}
use Rattle.guest_calls.specs.Guest.{GuestValue, state_of}
use Rattle.guest_calls.specs.Carries.{Carries, KeepsRest, Makes, clearing_row}

-- ---- records

no_writes : (s : State) → writes [] s ≡ s
unfolding write_all
no_writes s = refl

-- a call that answers and writes nothing
pub carries_answer : (value : ℕ) (change : State → State) (tid : ℕ) (old mid new : State) (r : CallRecord) →
    r ≡ record { result = value; written = [] } → mid ≡ change old → new ≡ results tid value mid →
    Carries (Returns value [] change) tid old r new
carries_answer value change tid old mid new r is m n = record {
  records = is;
  leaves = n ∙ ap (results tid value) (m ∙ sym (no_writes (change old)))
      ∙ ap (λ (r : CallRecord). results tid r.result (writes r.written (change old))) (sym is);
}

-- an answer after a change is one row
pub carries_after : (n value : ℕ) (change : State → State) (tid : ℕ) (old mid new : State) (r : CallRecord) →
    value ≡ n → mid ≡ change old → Carries (only_returns value) tid mid r new → Carries (Returns n [] change) tid old r new
carries_after n value change tid old mid new r value_is mid_is p = record {
  records = p.records ∙ ap (λ (k : ℕ). let q : CallRecord = record { result = k; written = [] } in q) value_is;
  leaves = p.leaves ∙ ap (λ (s : State). results tid r.result (writes r.written s)) mid_is;
}

-- so of a guest
pub makes_after : (n value : ℕ) (change : State → State) (tid : ℕ) (old mid new : GuestValue) (r : CallRecord) → value ≡ n →
    state_of mid ≡ change (state_of old) → KeepsRest old mid → Makes (only_returns value) [] tid mid r new →
    Makes (Returns n [] change) [] tid old r new
makes_after n value change tid old mid new r value_is mid_is kept p = record {
  carries = carries_after n value change tid (state_of old) (state_of mid) (state_of new) r value_is mid_is p.carries;
  text = p.text;
  puts = p.puts;
  keeps = record {
    ran = p.keeps.ran ∙ kept.ran;
    ran_before_call = p.keeps.ran_before_call ∙ kept.ran_before_call;
    snapshots = p.keeps.snapshots ∙ kept.snapshots;
  };
}

-- a call without a result that writes nothing
pub carries_end : (change : State → State) (tid : ℕ) (old new : State) (r : CallRecord) →
    r ≡ record { result = 0; written = [] } → new ≡ change old → Carries (NoResult [] change) tid old r new
carries_end change tid old new r is n = record {
  records = is;
  leaves = n ∙ sym (no_writes (change old)) ∙ ap (λ (r : CallRecord). writes r.written (change old)) (sym is);
}

-- ---- memory, beside the rest

change_memory : (tid : ℕ) (change : Thread → Thread) (m : Memory) (s : State) (o : Option Thread) → thread_at s tid ≡ o →
    change_thread tid change (with_memory m s) ≡ with_memory m (change_thread tid change s)
change_memory tid change m s None e = rw e refl
change_memory tid change m s (Some t) e = rw e refl

woken_memory : (tid : ℕ) (m : Memory) (s : State) → woken (with_memory m s) tid ≡ with_memory m (woken s tid)
woken_memory tid m s = change_memory tid _ m _ _ refl

all_woken_memory : (tids : List ℕ) (m : Memory) (s : State) → fold woken (with_memory m s) tids ≡ with_memory m (fold woken s tids)
all_woken_memory [] m s = refl
all_woken_memory (tid ∷ tids) m s = ap (λ (s : State). fold woken s tids) (woken_memory tid m s) ∙ all_woken_memory tids m (woken s tid)

leaves_memory : (tid status : ℕ) (m : Memory) (s : State) → leaves tid status (with_memory m s) ≡ with_memory m (leaves tid status s)
leaves_memory tid status m s =
    either (nat_eq (len (remove s.threads tid)) 0) (ends status (record s { threads = remove s.threads tid }))
    (record s { threads = remove s.threads tid }) m where
      either : (b : Bool) (x y : State) (m : Memory) → cond b (with_memory m x) (with_memory m y) ≡ with_memory m (cond b x y)
      either true x y m = refl
      either false x y m = refl

-- a word is cleared before the threads change
pub cleared_first : (a tid status : ℕ) (m : Memory) (s : State) →
    leaves tid status (wakes a 1 (with_memory m s)) ≡ with_memory m (leaves tid status (wakes a 1 s))
cleared_first a tid status m s = ap (leaves tid status) (all_woken_memory (waiters s a 1) m s) ∙ leaves_memory tid status m (wakes a 1 s)

-- an exit that clears a word
pub carries_clearing : (a tid status : ℕ) (bytes : List ℕ) (old mid new : State) (r : CallRecord) →
    r ≡ record { result = 0; written = record { address = a; bytes = bytes } ∷ [] } → mid ≡ with_memory (stored a bytes old.memory) old →
    new ≡ leaves tid status (wakes a 1 mid) → (leaves tid status (wakes a 1 old)).memory ≡ old.memory →
    Carries (NoResult (record { address = a; bytes = bytes } ∷ []) (λ s. leaves tid status (wakes a 1 s))) tid old r new
unfolding write_all
carries_clearing a tid status bytes old mid new r is m n kept = record {
  records = is;
  leaves = n ∙ ap (λ (s : State). leaves tid status (wakes a 1 s)) m ∙ cleared_first a tid status (stored a bytes old.memory) old
      ∙ ap (λ (memory : Memory). with_memory (stored a bytes memory) (leaves tid status (wakes a 1 old))) (sym kept)
      ∙ ap (λ (r : CallRecord). writes r.written (leaves tid status (wakes a 1 old))) (sym is);
}

-- ---- output

-- a call that moves no byte puts nothing out
pub nothing_moved : (descriptor count : ℕ) (bytes : List ℕ) → count ≡ 0 → [] ≡ moved descriptor count bytes
nothing_moved descriptor count bytes none = grind (arith, nat_tests)

some_moved : (descriptor count : ℕ) (bytes : List ℕ) → 0 < count → count ≤ 65_536 →
    record { descriptor = descriptor; bytes = bytes } ∷ [] ≡ moved descriptor count bytes
some_moved descriptor count bytes some most = grind (arith, nat_tests)

-- as many bytes as a call's result tells
pub bytes_moved : (descriptor count : ℕ) (bytes put_bytes : List ℕ) (put : List Chunk) → put_bytes ≡ bytes → length put_bytes ≡ count →
    count ≤ 65_536 →
    put ≡ (if length put_bytes == 0 then [] else record { descriptor = descriptor; bytes = put_bytes } ∷ []) →
    put ≡ moved descriptor count bytes
bytes_moved descriptor count bytes put_bytes put are len most told = none_or_some (nat_eq count 0) refl where
  none_or_some : (b : Bool) → nat_eq count 0 ≡ b → put ≡ moved descriptor count bytes
  none_or_some true e =
      let zero_count : count ≡ 0 = grind (arith, nat_tests) in
      let nothing : put ≡ [] = grind (arith, nat_tests) in
      nothing ∙ nothing_moved descriptor count bytes zero_count
  none_or_some false e =
      let some : 0 < count = grind (arith, nat_tests) in
      let full : put ≡ record { descriptor = descriptor; bytes = put_bytes } ∷ [] = grind (arith, nat_tests) in
      full ∙ ap (λ (bytes : List ℕ). record { descriptor = descriptor; bytes = bytes } ∷ []) are
      ∙ some_moved descriptor count bytes some most

-- the thread that isn't there isn't changed
pub changed_nowhere : (tid : ℕ) (change : Thread → Thread) (s : State) → thread_at s tid ≡ None → change_thread tid change s ≡ s
changed_nowhere tid change s none = rw none refl

-- ---- exits

pub memory_kept : (a tid status : ℕ) (s : State) → (leaves tid status (wakes a 1 s)).memory ≡ s.memory
memory_kept a tid status s = ap (λ (s : State). s.memory) (cleared_first a tid status s.memory s)

pub carries_exit : (tid : ℕ) (s : State) (t : Thread) (r : CallRecord) (new : State) → clears s t ≡ false →
    Carries (NoResult [] (leaves tid (argument t 0))) tid s r new → Carries (exit_row tid s t) tid s r new
carries_exit tid s t r new e p =
    let plain : Row = NoResult [] (leaves tid (argument t 0)) in
    subst (λ (b : Bool). Carries (cond b (clearing_row t.clear tid (argument t 0)) plain) tid s r new) (sym e) p

-- ---- records that have a text

pub text_none : (value : ℕ) (written : List Written) → value < 2 ^ 32 → written ≡ [] →
    HasCallText (record { result = value; written = written })
text_none value written low e =
    subst (λ (w : List Written). HasCallText (record { result = value; written = w })) (sym e)
    (record { result = low; two = omega arith; written = tt })

zeros : All (λ b. b < 256) (0 ∷ 0 ∷ 0 ∷ 0 ∷ [])
zeros =
    All-cons (λ b. b < 256) 0 (0 ∷ 0 ∷ 0 ∷ []) (lit< tt)
    (All-cons (λ b. b < 256) 0 (0 ∷ 0 ∷ []) (lit< tt) (All-cons (λ b. b < 256) 0 (0 ∷ []) (lit< tt)
    (All-cons (λ b. b < 256) 0 [] (lit< tt) (λ k d h. absurd (omega arith)))))

pub text_cleared : (a : ℕ) (written : List Written) → a < 2 ^ 32 → written ≡ range a (0 ∷ 0 ∷ 0 ∷ 0 ∷ []) →
    HasCallText (record { result = 0; written = written })
text_cleared a written low e =
    subst (λ (w : List Written). HasCallText (record { result = 0; written = w })) (sym e)
    (record {
      result = omega arith;
      two = omega arith;
      written = (record { address = low; some = omega arith; most = omega arith; bytes = zeros }, tt);
    })
