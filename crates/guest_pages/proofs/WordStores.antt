-- Words that are stored at several places.
use Rattle.std.proofs.Common.{◌≡◌, ℕ, zero, suc, ◌+◌, ◌-◌, ◌/◌, ◌<◌, ◌≤◌, ◌==◌, ◌||◌, Bool, true, false, ◌&&◌, List, [], ◌∷◌, ◌++◌, length, drop, get_or, Option, Some, None, IsSome, if◌then◌else◌, slice_index, refl, sym, ◌∙◌, ap, inl, inr, arith}
use Rattle.std.proofs.lemmas.Bool.{false≢true, and_parts}
use Rattle.std.proofs.lemmas.Bool.Decides.{eqb_tells}
use Rattle.std.proofs.lemmas.List.{append_assoc, drop_more}
use Rattle.std.proofs.Math.Bool.{or-true}
use Rattle.rrv_model.specs.Memory.{Memory, Cell, all_cells, can_write, is_within, stored, with_byte, writable}
use Rattle.rrv_model.specs.CallRows.{all_writable}
use Rattle.page_tables.specs.Contents.{Contents, contents_of}
use Rattle.page_tables.specs.Changes.{is_listed, IsOwn}
use Rattle.guest_pages.specs.Space.{SpaceValue, PageMap, memory_in, present}
use Rattle.guest_pages.specs.Stores.{stored_at_each, word_pages, AreOwnWords}
use Rattle.guest_pages.proofs.Cells.{absent_forbids}
use Rattle.guest_pages.proofs.OwnPages.{in_range}

-- ---- what may be written stays so

can_write-with : (b : ℕ) (c : Option Cell) → can_write (with_byte b c) ≡ can_write c
can_write-with b None = refl
can_write-with b (Some c) = refl

can_write-stored : (a : ℕ) (bs : List ℕ) (m : Memory) (x : ℕ) → can_write (stored a bs m x) ≡ can_write (m x)
can_write-stored a bs m x = by_test (is_within a (length bs) x) where
  by_test : (b : Bool) → can_write (if b then with_byte (slice_index bs (x - a)) (m x) else m x) ≡ can_write (m x)
  by_test true = can_write-with _ (m x)
  by_test false = refl

writable-stored : (a : ℕ) (bs : List ℕ) (m : Memory) (b count : ℕ) → writable (stored a bs m) b count ≡ writable m b count
unfolding all_cells
writable-stored a bs m b zero = refl
writable-stored a bs m b (suc count) = λ i. writable-stored a bs m b count i && can_write-stored a bs m (b + count) i

all_writable-stored : (a : ℕ) (bs : List ℕ) (m : Memory) (places : List ℕ) → all_writable (stored a bs m) places ≡ all_writable m places
unfolding all_writable
all_writable-stored a bs m [] = refl
all_writable-stored a bs m (p ∷ places) = λ i. writable-stored a bs m p 4 i && all_writable-stored a bs m places i

pub writable_present : (m : Memory) (a count : ℕ) → writable m a count ≡ true → present m a count ≡ true
writable_present m a count h = by_test (present m a count) refl where
  by_test : (b : Bool) → present m a count ≡ b → b ≡ true
  by_test true e = refl
  by_test false e = absurd (false≢true (sym (absent_forbids m a count e) ∙ h))

-- ---- one place, and those that are left

parts : (m : Memory) (place : ℕ) (rest : List ℕ) → all_writable m (place ∷ rest) ≡ true → (writable m place 4 ≡ true) ×
    (all_writable m rest ≡ true)
unfolding all_writable
parts m place rest h = and_parts (writable m place 4) (all_writable m rest) h

pub next_place : (m : Memory) (places : List ℕ) (i : ℕ) → i < length places → all_writable m (drop i places) ≡ true →
    (writable m (get_or places i 0) 4 ≡ true) × (all_writable m (drop (i + 1) places) ≡ true)
next_place m places i below h =
    parts m (get_or places i 0) (drop (i + 1) places) (ap (all_writable m) (sym (drop_more places i 0 below)) ∙ h)

pub allowed_after : (a : ℕ) (bs : List ℕ) (m : Memory) (places : List ℕ) → all_writable m places ≡ true →
    all_writable (stored a bs m) places ≡ true
allowed_after a bs m places h = all_writable-stored a bs m places ∙ h

one_stored : (bs : List ℕ) (m : Memory) (place : ℕ) (rest : List ℕ) →
    stored_at_each (place ∷ rest) bs m ≡ stored_at_each rest bs (stored place bs m)
unfolding stored_at_each
one_stored bs m place rest = refl

pub next_stored : (bs : List ℕ) (m : Memory) (places : List ℕ) (i : ℕ) → i < length places →
    stored_at_each (drop (i + 1) places) bs (stored (get_or places i 0) bs m) ≡ stored_at_each (drop i places) bs m
next_stored bs m places i below =
    sym (ap (λ (ps : List ℕ). stored_at_each ps bs m) (drop_more places i 0 below)
    ∙ one_stored bs m (get_or places i 0) (drop (i + 1) places))

none_left : (bs : List ℕ) (m : Memory) (rest : List ℕ) → rest ≡ [] → stored_at_each rest bs m ≡ m
unfolding stored_at_each
none_left bs m rest e = ap (λ (ps : List ℕ). stored_at_each ps bs m) e

pub all_stored : (bs : List ℕ) (m : Memory) (places : List ℕ) (i : ℕ) → drop i places ≡ [] → stored_at_each (drop i places) bs m ≡ m
all_stored bs m places i e = none_left bs m (drop i places) e

-- ---- the pages of words

pub no_pages : (places : List ℕ) → places ≡ [] → word_pages places ≡ []
unfolding word_pages
no_pages places e = ap word_pages e

one_word : (a : ℕ) (places : List ℕ) → word_pages (a ∷ places) ≡ a / 4096 ∷ (a + 3) / 4096 ∷ word_pages places
unfolding word_pages
one_word a places = refl

-- the pages of the words from a place on
pub next_pages : (places : List ℕ) (i : ℕ) → i < length places →
    word_pages (drop i places) ≡ get_or places i 0 / 4096 ∷ (get_or places i 0 + 3) / 4096 ∷ word_pages (drop (i + 1) places)
next_pages places i below = ap word_pages (drop_more places i 0 below) ∙ one_word (get_or places i 0) (drop (i + 1) places)

-- each of them is there, where the words may be written
pub words_there : (pages : PageMap) (places : List ℕ) → all_writable (memory_in pages) places ≡ true → (n : ℕ) →
    is_listed (word_pages places) n ≡ true → IsSome (pages n)
unfolding word_pages
words_there pages [] h n e = absurd (false≢true e)
words_there pages (a ∷ places) h n e =
    let both = parts (memory_in pages) a places h in
    let there : present (memory_in pages) a 4 ≡ true = writable_present (memory_in pages) a 4 both.0 in
    elim (eqb_tells (a / 4096) n) [
      | inl w ↦ in_range pages a 4 n (omega arith) there (omega (arith, w.1)) (omega (arith, w.1))
      | inr w ↦ elim (eqb_tells ((a + 3) / 4096) n) [
        | inl v ↦ in_range pages a 4 n (omega arith) there (omega (arith, v.1)) (omega (arith, v.1))
        | inr v ↦ words_there pages places both.1 n (sym (rw (w.0, v.0) refl) ∙ e)
      ]
    ]

listed_later : (x y : ℕ) (xs : List ℕ) (n : ℕ) → is_listed xs n ≡ true → is_listed (x ∷ y ∷ xs) n ≡ true
listed_later x y xs n e = rw e (ap (λ b. (x == n) || b) (or-true (y == n)) ∙ or-true (x == n))

-- and each word lies in two of them
pub words_own : (s : SpaceValue) (places : List ℕ) → ((n : ℕ) → is_listed (word_pages places) n ≡ true → IsOwn (contents_of s) n) →
    AreOwnWords s places
unfolding word_pages
words_own s [] own k l = absurd (omega (arith, l))
words_own s (a ∷ places) own zero l = λ k m. elim (eqb_tells (a / 4096) ((a + k) / 4096)) [
  | inl w ↦ own ((a + k) / 4096) (rw w.0 refl)
  | inr w ↦
      let last : (a + 3) / 4096 ≡ (a + k) / 4096 = omega (arith, m, w.1) in
      own ((a + k) / 4096) (elim (eqb_tells ((a + 3) / 4096) ((a + k) / 4096)) [
        | inl v ↦ rw (w.0, v.0) refl
        | inr v ↦ absurd (v.1 last)
      ])
]
words_own s (a ∷ places) own (suc k) l =
    words_own s places (λ n e. own n (listed_later (a / 4096) ((a + 3) / 4096) (word_pages places) n e)) k (omega (arith, l))

-- where some page of a word isn't a space's own, there is a word
pub some_word : (c : Contents) (places : List ℕ) → (((n : ℕ) → is_listed (word_pages places) n ≡ true → IsOwn c n) → ⊥) → 1 ≤ length places
unfolding word_pages
some_word c [] h = absurd (h (λ n e. absurd (false≢true e)))
some_word c (a ∷ places) h = omega arith

pub two_more : (xs ys zs rest : List ℕ) (a b : ℕ) → ys ≡ xs ++ a ∷ [] → zs ≡ ys ++ b ∷ [] → zs ++ rest ≡ xs ++ a ∷ b ∷ rest
two_more xs ys zs rest a b e f =
    ap (λ (l : List ℕ). l ++ rest) (f ∙ ap (λ (l : List ℕ). l ++ b ∷ []) e) ∙ append_assoc (xs ++ a ∷ []) (b ∷ []) rest
    ∙ append_assoc xs (a ∷ []) (b ∷ rest)
