-- A clone that makes a thread, put together from its parts.
use Rattle.std.proofs.Common.{◌≡◌, ℕ, ◌+◌, ◌-◌, ◌^◌, ◌<◌, ◌≤◌, Bool, true, false, not, ◌&&◌, ◌||◌, nat_le, nat_lt, cond, ◌==◌, if◌then◌else◌, None, List, [], ◌∷◌, ◌++◌, length, drop, get_or, All, refl, sym, ◌∙◌, ap, subst, arith, add-one, drop-cons, append_assoc}
use Rattle.std.proofs.lemmas.List.{append-nil, drop_all}
use Rattle.std.proofs.lemmas.List.Elements.{All-from_recursion}
use Rattle.std.specs.FinMap.{len}
use Rattle.std.specs.Int.{w32, to_le_bytes}
use Rattle.std.specs.List.{AllByRecursion}
use Rattle.rrv_model.specs.declared.machine.Regs.{Regs}
use Rattle.rrv_model.specs.declared.machine.Thread.{Thread}
use Rattle.rrv_model.specs.declared.record.Written.{Written}
use Rattle.rrv_model.specs.declared.record.CallRecord.{CallRecord}
use Rattle.rrv_model.specs.Memory.{Memory, stored, writable}
use Rattle.rrv_model.specs.State.{State, live_threads, with_register, with_thread}
use Rattle.rrv_model.specs.CallRows.{Row, all_writable, are_clone_flags, argument, child_of, clone_row, fails, has_flag, set_register, tid_places, with_memory}
use Rattle.rrv_model.specs.Calls.{write_all, writes, results}
use Rattle.rrv_model.specs.RecordText.{HasCallText, HasWrittenText}
use Rattle.guest_pages.specs.Stores.{stored_at_each}
use Rattle.rrv_model.proofs.ThreadRules.{room_left}
use Rattle.guest_calls.specs.Carries.{Carries}
use Rattle.guest_calls.specs.Clones.{makes_child, with_child_at, words_at}
use Rattle.guest_calls.specs.Growth.{Succeeds}

-- ---- what is written

pub words_written : (places : List ℕ) (word : ℕ) (m : Memory) →
    stored_at_each places (to_le_bytes w32 word) m ≡ write_all (words_at places word) m
unfolding stored_at_each write_all
words_written [] word m = refl
words_written (a ∷ places) word m = words_written places word (stored a (to_le_bytes w32 word) m)

left : (places : List ℕ) (i : ℕ) → i < length places → drop i places ≡ get_or places i 0 ∷ drop (i + 1) places
left places i below = rw (add-one, drop-cons places i 0)

-- one more range
pub next_word : (places : List ℕ) (i word : ℕ) (so_far more : List Written) (w : Written) → i < length places →
    w ≡ record { address = get_or places i 0; bytes = to_le_bytes w32 word } → more ≡ so_far ++ w ∷ [] →
    so_far ++ words_at (drop i places) word ≡ words_at places word → more ++ words_at (drop (i + 1) places) word ≡ words_at places word
next_word places i word so_far more w below is pushed held =
    let rest = words_at (drop (i + 1) places) word in
    ap (λ (ws : List Written). ws ++ rest) pushed ∙ append_assoc so_far (w ∷ []) rest ∙ ap (λ (w : Written). so_far ++ (w ∷ rest)) is
    ∙ ap (λ (ps : List ℕ). so_far ++ words_at ps word) (sym (left places i below)) ∙ held

pub all_listed : (places : List ℕ) (i word : ℕ) (so_far : List Written) → length places ≤ i →
    so_far ++ words_at (drop i places) word ≡ words_at places word → so_far ≡ words_at places word
all_listed places i word so_far past held =
    sym (ap (λ (ps : List ℕ). so_far ++ words_at ps word) (drop_all i places past) ∙ append-nil so_far) ∙ held

-- ---- a text

length_words_at : (places : List ℕ) (word : ℕ) → length (words_at places word) ≡ length places
length_words_at [] word = refl
length_words_at (a ∷ places) word = let rest = length_words_at places word in omega arith

word_bytes : (word : ℕ) → All (λ b. b < 256) (to_le_bytes w32 word)
word_bytes word = All-from_recursion (λ b. b < 256) (to_le_bytes w32 word) (omega arith, (omega arith, (omega arith, (omega arith, tt))))

word_text : (a word : ℕ) → a < 2 ^ 32 → HasWrittenText (record { address = a; bytes = to_le_bytes w32 word })
word_text a word low = record { address = low; some = omega arith; most = omega arith; bytes = word_bytes word }

one_more_text : (ws : List Written) (w : Written) → AllByRecursion HasWrittenText ws → HasWrittenText w →
    AllByRecursion HasWrittenText (ws ++ w ∷ [])
one_more_text [] w h x = (x, tt)
one_more_text (v ∷ ws) w h x = (h.0, one_more_text ws w h.1 x)

pub next_text : (so_far more : List Written) (w : Written) (a word : ℕ) → a < 2 ^ 32 →
    w ≡ record { address = a; bytes = to_le_bytes w32 word } →
    more ≡ so_far ++ w ∷ [] → AllByRecursion HasWrittenText so_far → AllByRecursion HasWrittenText more
next_text so_far more w a word low is pushed held =
    subst (λ (ws : List Written). AllByRecursion HasWrittenText ws) (sym pushed)
    (one_more_text so_far w held (subst HasWrittenText (sym is) (word_text a word low)))

pub text_words : (places : List ℕ) (word : ℕ) (written : List Written) → word < 2 ^ 32 → written ≡ words_at places word →
    length places ≤ 2 →
    AllByRecursion HasWrittenText written → HasCallText (record { result = word; written = written })
text_words places word written low e few texts =
    let many : length written ≡ length places = ap length e ∙ length_words_at places word in
    record { result = low; two = omega arith; written = texts }

-- ---- the whole

pub carries_child : (tid : ℕ) (old mid new : State) (t : Thread) (places : List ℕ) (r : CallRecord) →
    r ≡ record { result = old.next_tid; written = words_at places old.next_tid } → mid ≡ with_child_at places t old →
    new ≡ results tid r.result mid →
    Carries (makes_child old t places) tid old r new
carries_child tid old mid new t places r r_is mid_is new_is =
    let made : State = with_thread old.next_tid (child_of t) (record old { next_tid = old.next_tid + 1 }) in
    record {
      records = r_is;
      leaves = new_is ∙ ap (results tid r.result) (mid_is
          ∙ ap (λ (memory : Memory). with_memory memory made) (words_written places old.next_tid old.memory)
          ∙ sym (ap (λ (q : CallRecord). writes q.written made) r_is));
    }

-- ---- the row

made_row : (a b c : Bool) (x y z w : Row) → a ≡ true → b ≡ false → c ≡ true → cond (not a) x (cond b y (cond (not c) z w)) ≡ w
made_row a b c x y z w e f g = rw (e, f, g) refl

pub row_of_child : (s : State) (t : Thread) → are_clone_flags (argument t 0) ≡ true →
    nat_le (live_threads s.version) (len s.threads) || nat_lt (2 ^ 31 - 1) s.next_tid ≡ false →
    all_writable s.memory (tid_places t) ≡ true → clone_row s t ≡ makes_child s t (tid_places t)
row_of_child s t flags room allowed =
    made_row (are_clone_flags (argument t 0)) (nat_le (live_threads s.version) (len s.threads) || nat_lt (2 ^ 31 - 1) s.next_tid)
    (all_writable s.memory (tid_places t))
    (fails 22) (fails 11) (fails 14) (makes_child s t (tid_places t)) flags room allowed

pub child_succeeds : (s : State) (t : Thread) → are_clone_flags (argument t 0) ≡ true →
    nat_le (live_threads s.version) (len s.threads) || nat_lt (2 ^ 31 - 1) s.next_tid ≡ false →
    all_writable s.memory (tid_places t) ≡ true → Succeeds (clone_row s t)
child_succeeds s t flags room allowed =
    let low = room_left (live_threads s.version) (len s.threads) s.next_tid room in
    subst Succeeds (sym (row_of_child s t flags room allowed)) (omega (arith, low.1))

-- ---- where a word can be written

parts : (m : Memory) (place : ℕ) (rest : List ℕ) → all_writable m (place ∷ rest) ≡ (writable m place 4 && all_writable m rest)
unfolding all_writable
parts m place rest = refl

pub next_writable : (m : Memory) (places : List ℕ) (i : ℕ) → i < length places → writable m (get_or places i 0) 4 ≡ true →
    all_writable m (drop i places) ≡ all_writable m places → all_writable m (drop (i + 1) places) ≡ all_writable m places
next_writable m places i below here held =
    sym (ap (all_writable m) (left places i below) ∙ parts m (get_or places i 0) (drop (i + 1) places)
    ∙ ap (λ b. b && all_writable m (drop (i + 1) places)) here) ∙ held

pub unwritable_at : (m : Memory) (places : List ℕ) (i : ℕ) → i < length places → writable m (get_or places i 0) 4 ≡ false →
    all_writable m (drop i places) ≡ all_writable m places → false ≡ all_writable m places
unwritable_at m places i below here held =
    sym (ap (all_writable m) (left places i below) ∙ parts m (get_or places i 0) (drop (i + 1) places)
    ∙ ap (λ b. b && all_writable m (drop (i + 1) places)) here) ∙ held

none_to_write : (m : Memory) (rest : List ℕ) → rest ≡ [] → true ≡ all_writable m rest
unfolding all_writable
none_to_write m rest e = sym (ap (all_writable m) e)

pub all_tested : (m : Memory) (places : List ℕ) (i : ℕ) → length places ≤ i → all_writable m (drop i places) ≡ all_writable m places →
    true ≡ all_writable m places
all_tested m places i past held = none_to_write m (drop i places) (drop_all i places past) ∙ held

-- ---- the child

child_by : (t : Thread) (b d : Bool) (clear : ℕ) →
    (let z : Regs = with_register 10 0 t.regs in let stacked : Regs = cond b z (with_register 2 (argument t 1) z) in
    let made : Thread = record { regs = cond d (with_register 4 (argument t 3) stacked) stacked; wait = t.wait; clear = clear } in made)
    ≡ (let z : Thread = set_register 10 0 t in let stacked : Thread = cond b z (set_register 2 (argument t 1) z) in
    let pointed : Thread = cond d (set_register 4 (argument t 3) stacked) stacked in record pointed { clear = clear })
child_by t true true clear = refl
child_by t true false clear = refl
child_by t false true clear = refl
child_by t false false clear = refl

pub child_is : (t : Thread) (zeroed stacked pointed : Regs) (clear : ℕ) → t.wait ≡ None → zeroed ≡ with_register 10 0 t.regs →
    stacked ≡ (if argument t 1 == 0 then zeroed else with_register 2 (argument t 1) zeroed) →
    pointed ≡ (if has_flag (argument t 0) 0x80000 then with_register 4 (argument t 3) stacked else stacked) →
    clear ≡ (if has_flag (argument t 0) 0x200000 then argument t 4 else 0) →
    (let made : Thread = record { regs = pointed; wait = None; clear = clear } in made) ≡ child_of t
child_is t zeroed stacked pointed clear runs zero_is stack_is pointer_is clear_is =
    let s_is = stack_is ∙ ap (λ (r : Regs). cond (argument t 1 == 0) r (with_register 2 (argument t 1) r)) zero_is in
    let p_is = pointer_is ∙ ap (λ (r : Regs). cond (has_flag (argument t 0) 0x80000) (with_register 4 (argument t 3) r) r) s_is in
    (λ i. record { regs = p_is i; wait = sym runs i; clear = clear_is i })
    ∙ child_by t (argument t 1 == 0) (has_flag (argument t 0) 0x80000) (if has_flag (argument t 0) 0x200000 then argument t 4 else 0)
