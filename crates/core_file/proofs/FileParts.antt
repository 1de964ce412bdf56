-- Where the parts of a core file stand.
use Rattle.std.proofs.Common.{◌≡◌, ◌∙◌, ℕ, ◌+◌, ◌-◌, ◌*◌, ◌^◌, ◌<◌, ◌==◌, T, Bool, true, false, cond, if◌then◌else◌, List, [], ◌∷◌, ◌++◌, length, take, drop, reverse, Option, Some, None, IfSome, flat_map, sum_by, append_assoc, refl, sym, ap, subst, length-append, length-drop, arith}
use Rattle.std.specs.List.{AllByRecursion}
use Rattle.std.proofs.Math.Seq.{drop-append_seam, take-append_seam}
use Rattle.std.proofs.lemmas.Grind.{flat_map-append, reverse_onto}
use Rattle.std.proofs.lemmas.List.{append-nil, length-replicate}
use Rattle.std.proofs.lemmas.List.Sums.{sum_by-cons}
use Rattle.std.specs.Cmp.{ranks}
use Rattle.std.specs.declared.cmp.Ordering.{Ordering}
use Rattle.std.specs.declared.cmp.Ordering.TheVariants.{Less, Equal, Greater}
use Rattle.std.specs.Ordering.{MatchOrdering, nat_cmp, is_eq}
use Rattle.std.specs.FinMap.{entries, entries_sorted, find, get-entries}
use Rattle.std.specs.FinMap.Entries.{is_sorted}
use Rattle.rrv_model.specs.declared.machine.Thread.{Thread}
use Rattle.rrv_model.specs.declared.machine.Version.{Version}
use Rattle.rrv_model.specs.Memory.{Memory, page_bytes}
use Rattle.rrv_model.specs.RecordText.{number}
use Rattle.rrv_model.specs.State.{State, IsState, IsThread}
use Rattle.rrv_model.proofs.CheckpointLaws.{both_hold, none_below}
use Rattle.rrv_model.proofs.MemoryRules.{length_bytes_at}
use Rattle.core_file.specs.declared.headers.ProgramHeader.{ProgramHeader}
use Rattle.core_file.specs.declared.runs.Run.{Run}
use Rattle.core_file.specs.Headers.{elf_header, header_text, zeros}
use Rattle.core_file.specs.Notes.{first_note, note, notes, other_note, prstatus}
use Rattle.core_file.specs.Runs.{runs_below, runs_of, Fall}
use Rattle.core_file.specs.Core.{core_of, head, headers_text, load_header, note_header, notes_end, notes_offset, pages_offset, run_bytes, HeadersAreTrue}
use Rattle.core_file.proofs.RunLaws.{runs_are_found}

-- ---- a part between others

between : (xs ys zs file : List ℕ) (offset count : ℕ) → file ≡ xs ++ (ys ++ zs) → length xs ≡ offset → length ys ≡ count →
    take count (drop offset file) ≡ ys
between xs ys zs file offset count is place size =
    let behind : drop offset file ≡ ys ++ zs =
    ap (drop offset) is ∙ ap (λ (n : ℕ). drop n (xs ++ (ys ++ zs))) (sym place) ∙ drop-append_seam xs (ys ++ zs) in
    ap (take count) behind ∙ ap (λ (n : ℕ). take n (ys ++ zs)) (sym size) ∙ take-append_seam ys zs

-- ---- how long the parts are

elf_header_length : (count : ℕ) → length (elf_header count) ≡ 52
unfolding elf_header
elf_header_length count = refl

header_length : (h : ProgramHeader) → length (header_text h) ≡ 32
unfolding header_text
header_length h = refl

numbers_length : (ns : List ℕ) → length (flat_map number ns) ≡ 4 * length ns
numbers_length [] = refl
numbers_length (n ∷ ns) = omega (arith, length-append (number n) (flat_map number ns), numbers_length ns)

prstatus_length : (tid : ℕ) (t : Thread) → length t.regs.registers ≡ 32 → length (prstatus tid t) ≡ 204
unfolding prstatus
prstatus_length tid t full =
    let registers = flat_map number (drop 1 t.regs.registers) in
    let front : List ℕ = zeros 24 ++ number tid ++ zeros 44 ++ number t.regs.pc in
    omega (
      arith,
      length-append (front ++ registers) (zeros 4),
      length-append front registers,
      numbers_length (drop 1 t.regs.registers),
      length-drop 1 t.regs.registers,
      full,
    )

note_length : (tid : ℕ) (t : Thread) → length t.regs.registers ≡ 32 → length (note tid t) ≡ 224
unfolding note
note_length tid t full = omega (arith, prstatus_length tid t full)

-- the thread of the first tid has its note among the first, and each other among the others
abbrev IsFull : ℕ × Thread → Type 0
IsFull e = length e.1.regs.registers ≡ 32

one_note : (first : ℕ) (e : ℕ × Thread) → IsFull e → length (first_note first e) + length (other_note first e) ≡ 224
one_note first e full = by (e.0 == first) where
  by : (b : Bool) → length (if b then note e.0 e.1 else []) + length (if b then [] else note e.0 e.1) ≡ 224
  by true = omega (arith, note_length e.0 e.1 full)
  by false = omega (arith, note_length e.0 e.1 full)

both_notes : (first : ℕ) (es : List (ℕ × Thread)) → AllByRecursion IsFull es →
    length (flat_map (first_note first) es) + length (flat_map (other_note first) es) ≡ 224 * length es
both_notes first [] full = refl
both_notes first (e ∷ es) full =
    omega (
      arith,
      length-append (first_note first e) (flat_map (first_note first) es),
      length-append (other_note first e) (flat_map (other_note first) es),
      one_note first e full.0,
      both_notes first es full.1,
    )

notes_length : (first : ℕ) (es : List (ℕ × Thread)) → AllByRecursion IsFull es → length (notes first es) ≡ 224 * length es
notes_length first es full =
    omega (arith, length-append (flat_map (first_note first) es) (flat_map (other_note first) es), both_notes first es full)

loads_length : (at : ℕ) (runs : List Run) → length (flat_map (λ r. header_text (load_header at r)) runs) ≡ 32 * length runs
loads_length at [] = refl
loads_length at (r ∷ rs) =
    omega (
      arith,
      length-append (header_text (load_header at r)) (flat_map (λ s. header_text (load_header at s)) rs),
      header_length (load_header at r),
      loads_length at rs,
    )

headers_length : (threads : ℕ) (runs : List Run) →
    length (elf_header (1 + length runs) ++ headers_text (1 + length runs) threads runs) ≡ notes_offset (1 + length runs)
headers_length threads runs =
    let count : ℕ = 1 + length runs in
    let loads : List ℕ = flat_map (λ (r : Run). header_text (load_header (pages_offset count threads) r)) runs in
    omega (
      arith,
      length-append (elf_header count) (headers_text count threads runs),
      length-append (header_text (note_header count threads)) loads,
      elf_header_length count,
      header_length (note_header count threads),
      loads_length (pages_offset count threads) runs,
    )

head_length : (first : ℕ) (es : List (ℕ × Thread)) (runs : List Run) → AllByRecursion IsFull es →
    length (head first es runs) ≡ pages_offset (1 + length runs) (length es)
head_length first es runs full =
    let count : ℕ = 1 + length runs in
    let end : ℕ = notes_end count (length es) in
    let front : List ℕ = elf_header count ++ headers_text count (length es) runs in
    let padding : ℕ = pages_offset count (length es) - end in
    let joined : head first es runs ≡ (front ++ notes first es) ++ zeros padding = simp append_assoc in
    omega (
      arith,
      ap length joined,
      length-append (front ++ notes first es) (zeros padding),
      length-append front (notes first es),
      length-replicate {A = ℕ} padding 0,
      headers_length (length es) runs,
      notes_length first es full,
    )

-- ---- the pages

pages_of : Memory → List Run → List ℕ
pages_of m rs = flat_map (run_bytes m) (reverse rs)

pages_more : (m : Memory) (r : Run) (rs : List Run) → pages_of m (r ∷ rs) ≡ pages_of m rs ++ run_bytes m r
unfolding pages_of
pages_more m r rs =
    ap (flat_map (run_bytes m)) (reverse_onto rs r []) ∙ flat_map-append (run_bytes m) (reverse rs) (r ∷ [])
    ∙ ap (λ (bs : List ℕ). flat_map (run_bytes m) (reverse rs) ++ bs) (append-nil (run_bytes m r))

pages_length : (m : Memory) (rs : List Run) → length (pages_of m rs) ≡ sum_by (λ s. s.filled) rs * page_bytes
unfolding pages_of
pages_length m [] = refl
pages_length m (r ∷ rs) =
    omega (
      arith,
      ap length (pages_more m r rs),
      length-append (pages_of m rs) (run_bytes m r),
      length_bytes_at m (r.first * page_bytes) (r.filled * page_bytes),
      pages_length m rs,
      sum_by-cons (λ (s : Run). s.filled) r rs,
    )

-- each run's pages stand behind those of the runs below it, where these stand behind the front
each_load : (m : Memory) (front rest file : List ℕ) (at : ℕ) (rs : List Run) → length front ≡ at → Fall rs →
    file ≡ front ++ (pages_of m rs ++ rest) →
    AllByRecursion (λ r. take (r.filled * page_bytes) (drop (at + r.before * page_bytes) file) ≡ run_bytes m r) rs
each_load m front rest file at [] long fall is = tt
each_load m front rest file at (r ∷ rs) long fall is =
    let below = pages_of m rs in
    let all : file ≡ front ++ ((below ++ run_bytes m r) ++ rest) = is ∙ ap (λ (bs : List ℕ). front ++ (bs ++ rest)) (pages_more m r rs) in
    let first : file ≡ (front ++ below) ++ (run_bytes m r ++ rest) = all ∙ simp append_assoc in
    let others : file ≡ front ++ (below ++ (run_bytes m r ++ rest)) = all ∙ simp append_assoc in (
      between (front ++ below) (run_bytes m r) rest file (at + r.before * page_bytes) (r.filled * page_bytes) first
          (omega (arith, length-append front below, pages_length m rs, fall.1, long))
          (length_bytes_at m (r.first * page_bytes) (r.filled * page_bytes)),
      each_load m front (run_bytes m r ++ rest) file at rs long fall.2 others,
    )

-- ---- each thread of a state

each_entry : (P : Thread → Type 0) (es : List (ℕ × Thread)) → T (is_sorted nat_cmp es) → ((q : ℕ) → IfSome (find nat_cmp q es) P) →
    AllByRecursion (λ e. P e.1) es
each_entry P [] sorted h = tt
each_entry P (e ∷ es) sorted h = (
  here (nat_cmp e.0 e.0) (ranks e.0 e.0) (h e.0),
  each_entry P es (both_hold _ _ sorted).1 (λ q. later q (nat_cmp q e.0) (ranks q e.0) (h q)),
) where
  here : (o : Ordering) → MatchOrdering o (e.0 < e.0) (e.0 ≡ e.0) (e.0 < e.0) → IfSome (cond (is_eq o) (Some e.1) (find nat_cmp e.0 es)) P →
      P e.1
  here Less r p = absurd (omega (arith, r))
  here Equal r p = p
  here Greater r p = absurd (omega (arith, r))

  later : (q : ℕ) (o : Ordering) → MatchOrdering o (q < e.0) (q ≡ e.0) (e.0 < q) →
      IfSome (cond (is_eq o) (Some e.1) (find nat_cmp q es)) P → IfSome (find nat_cmp q es) P
  later q Less r p = p
  later q Equal r p = subst (λ (o : Option Thread). IfSome o P)
      (sym (ap (λ k. find nat_cmp k es) r ∙ none_below e.0 es (both_hold _ _ sorted).0)) tt
  later q Greater r p = p

full_thread : (v : Version) (o : Option Thread) → IfSome o (IsThread v) → IfSome o (λ t. length t.regs.registers ≡ 32)
full_thread v None h = tt
full_thread v (Some t) h = h.regs.registers.0

full_threads : (s : State) → IsState s → AllByRecursion IsFull (entries s.threads)
full_threads s state =
    each_entry (λ t. length t.regs.registers ≡ 32) (entries s.threads) (entries_sorted s.threads)
    (λ q. full_thread s.version (find nat_cmp q (entries s.threads))
    (subst (λ (o : Option Thread). IfSome o (IsThread s.version)) (get-entries s.threads q) (state.rules.threads.threads q)))

-- ---- the headers

pub headers_are_true : HeadersAreTrue
unfolding pages_of
headers_are_true first s state =
    let es = entries s.threads in
    let runs = runs_of s.memory in
    let full = full_threads s state in
    let file = core_of first s in
    let count : ℕ = 1 + length runs in
    let pages : List ℕ = flat_map (run_bytes s.memory) runs in
    let front : List ℕ = elf_header count ++ headers_text count (length es) runs in
    let padding : List ℕ = zeros (pages_offset count (length es) - notes_end count (length es)) in
    let joined : file ≡ front ++ (notes first es ++ (padding ++ pages)) = simp append_assoc in
    let whole : file ≡ head first es runs ++ (pages ++ []) = ap (λ (bs : List ℕ). head first es runs ++ bs) (sym (append-nil pages)) in
    record {
      notes = between front (notes first es) (padding ++ pages) file (notes_offset count) (224 * length es) joined
          (headers_length (length es) runs) (notes_length first es full);
      loads = each_load s.memory (head first es runs) [] file (pages_offset count (length es)) (runs_below (2 ^ 20) s.memory)
          (head_length first es runs full) (runs_are_found s.memory state.rules.memory).fall whole;
    }
