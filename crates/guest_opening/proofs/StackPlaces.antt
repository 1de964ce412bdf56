-- What is stored on the stack.
use Rattle.std.proofs.Common.{◌≡◌, ℕ, ◌+◌, ◌*◌, ◌<◌, ◌≤◌, Bool, true, false, List, [], ◌∷◌, ◌++◌, length, take, slice_index, IsTrue, Option, Some, is_some, if◌then◌else◌, arith, refl, ap, sym, ◌∙◌, subst}
use Rattle.std.specs.Prelude.{flat_map}
use Rattle.std.specs.Int.{w32, to_le_bytes}
use Rattle.std.proofs.lemmas.Bool.Decides.{nat_tests}
use Rattle.std.proofs.Math.Seq.{take-length}
use Rattle.rrv_model.specs.Memory.{Memory, Cell, stored, is_within}
use Rattle.rrv_model.specs.Opening.{bare_memory, opening_memory, stack_pointer, stack_words, name_at, IsName}
use Rattle.guest_pages.specs.Space.{present}
use Rattle.guest_opening.specs.Loading.{with_stack}
use Rattle.guest_opening.proofs.StackStores.{stored-append, stored-nil, stored-word, present_part}
use Rattle.rrv_model.proofs.PageCounts.{is_some-stored}
use Rattle.guest_pages.proofs.Cells.{all_pass}

-- ---- words

pub words_begin : (a : ℕ) (words : List ℕ) (m : Memory) → m ≡ stored a (flat_map (to_le_bytes w32) (take 0 words)) m
words_begin a words m = stored-nil a m

pub word_is_there : (a : ℕ) (words : List ℕ) (i count : ℕ) (m here : Memory) → IsTrue (present m a (4 * length words)) →
    here ≡ stored a (flat_map (to_le_bytes w32) (take i words)) m →
    i < length words → count ≡ 4 → IsTrue (present here (a + 4 * i) count)
word_is_there a words i count m here there is below four =
    let part : IsTrue (present (stored a (flat_map (to_le_bytes w32) (take i words)) m) (a + 4 * i) count) =
    present_part a (flat_map (to_le_bytes w32) (take i words)) m a (4 * length words) (a + 4 * i) count there (omega arith) (omega arith) in
    subst (λ (k : Memory). IsTrue (present k (a + 4 * i) count)) (sym is) part

pub words_go_on : (a : ℕ) (words : List ℕ) (i word : ℕ) (bytes : List ℕ) (m here next : Memory) → i < length words →
    word ≡ slice_index words i → bytes ≡ to_le_bytes w32 word →
    here ≡ stored a (flat_map (to_le_bytes w32) (take i words)) m → next ≡ stored (a + 4 * i) bytes here →
    next ≡ stored a (flat_map (to_le_bytes w32) (take (i + 1) words)) m
words_go_on a words i word bytes m here next below is are here_is next_is =
    next_is ∙ (λ j. stored (a + 4 * i) (are j) (here_is j)) ∙ stored-word a words i word m below is

pub words_end : (a : ℕ) (words : List ℕ) (i : ℕ) (m here : Memory) → i ≡ length words →
    here ≡ stored a (flat_map (to_le_bytes w32) (take i words)) m → here ≡ stored a (flat_map (to_le_bytes w32) words) m
words_end a words i m here all is =
    is ∙ ap (λ (ws : List ℕ). stored a (flat_map (to_le_bytes w32) ws) m) (ap (λ (j : ℕ). take j words) all ∙ take-length words)

-- ---- the stack is there

pub record HasStack (m : Memory) : Type 0 where
  pub there : (x : ℕ) → 0x7FF00000 ≤ x → x < 0x80000000 → is_some (m x) ≡ true

some_if : (t : Bool) (c : Cell) (d : Option Cell) → t ≡ true → is_some (if t then Some c else d) ≡ true
some_if true c d e = refl
some_if false c d e = cc

in_stack : (x : ℕ) → 0x7FF00000 ≤ x → x < 0x80000000 → is_within 0x7FF00000 0x100000 x ≡ true
in_stack x low high = grind (arith, nat_tests)

pub has_stack-with_stack : (m : Memory) → HasStack (with_stack m)
has_stack-with_stack m = record {
  there = λ x low high. some_if (is_within 0x7FF00000 0x100000 x) _ (m x) (in_stack x low high);
}

pub has_stack-stored : (a : ℕ) (bytes : List ℕ) (m : Memory) → HasStack m → HasStack (stored a bytes m)
has_stack-stored a bytes m h = record { there = λ x low high. is_some-stored a bytes m x ∙ h.there x low high }

pub has_stack_still : (a : ℕ) (bytes : List ℕ) (m next : Memory) → HasStack m → next ≡ stored a bytes m → HasStack next
has_stack_still a bytes m next h is = subst HasStack (sym is) (has_stack-stored a bytes m h)

pub present_on_stack : (m : Memory) (a count : ℕ) → HasStack m → 0x7FF00000 ≤ a → a + count ≤ 0x80000000 → IsTrue (present m a count)
present_on_stack m a count h low high = all_pass is_some m a count (λ k below. h.there (a + k) (omega arith) (omega arith))

-- ---- the places on the stack

pub words_in_stack : (name : List ℕ) → IsName name → (0x7FF00000 ≤ stack_pointer name) × (stack_pointer name + 72 ≤ name_at name)
words_in_stack name is_name = let long = is_name.1 in (omega arith, omega arith)

pub name_in_stack : (name : List ℕ) → IsName name → (0x7FF00000 ≤ name_at name) × (name_at name + length name ≡ 0x7FFFFFEF)
name_in_stack name is_name = let long = is_name.1 in (omega arith, omega arith)

-- the four stores make the opening memory
pub stack_filled : (file name random : List ℕ) (sp at : ℕ) (words : List ℕ) (bare with_words with_name with_zero filled : Memory) →
    IsName name →
    bare ≡ bare_memory file → sp ≡ stack_pointer name → words ≡ stack_words file name → at ≡ name_at name →
    with_words ≡ stored sp (flat_map (to_le_bytes w32) words) bare → with_name ≡ stored at name with_words →
    with_zero ≡ stored 0x7FFFFFEF (0 ∷ []) with_name →
    filled ≡ stored 0x7FFFFFF0 random with_zero → filled ≡ opening_memory file name random
stack_filled file name random sp at words bare with_words with_name with_zero filled is_name bare_is sp_is words_are at_is words_stored
    name_stored zero_stored random_stored =
    let first : with_words ≡ stored (stack_pointer name) (flat_map (to_le_bytes w32) (stack_words file name)) (bare_memory file) =
    words_stored ∙ (λ i. stored (sp_is i) (flat_map (to_le_bytes w32) (words_are i)) (bare_is i)) in
    let behind : 0x7FFFFFEF ≡ name_at name + length name = sym (name_in_stack name is_name).1 in
    let second : with_zero ≡ stored (name_at name) (name ++ 0 ∷ []) with_words =
    zero_stored ∙ (λ i. stored (behind i) (0 ∷ []) (name_stored i))
    ∙ ap (λ (k : ℕ). stored (name_at name + length name) (0 ∷ []) (stored k name with_words)) at_is
    ∙ sym (stored-append (name_at name) name (0 ∷ []) with_words) in
    random_stored
    ∙ ap (λ (k : Memory). stored 0x7FFFFFF0 random k) (second ∙ ap (λ (k : Memory). stored (name_at name) (name ++ 0 ∷ []) k) first)
