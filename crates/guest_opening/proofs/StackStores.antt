-- Stores one behind another, and where bytes are there.
use Rattle.std.proofs.Common.{◌≡◌, ℕ, ◌+◌, ◌-◌, ◌*◌, ◌<◌, ◌≤◌, Bool, true, false, if◌then◌else◌, List, [], ◌∷◌, ◌++◌, length, take, Option, is_some, slice_index, IsTrue, arith, refl, ap, sym, ◌∙◌, length-append}
use Rattle.std.specs.Prelude.{flat_map}
use Rattle.std.specs.Int.{w32, to_le_bytes}
use Rattle.std.proofs.lemmas.Bool.Decides.{nat_tests}
use Rattle.std.proofs.lemmas.List.{get_or_append_left, take_more, length-take-le}
use Rattle.std.proofs.lemmas.Grind.{flat_map-append}
use Rattle.std.proofs.Math.Seq.{get_or-append_right}
use Rattle.rrv_model.specs.Memory.{Memory, Cell, stored, is_within, with_byte}
use Rattle.guest_pages.specs.Space.{present}
use Rattle.rrv_model.proofs.PageCounts.{is_some-stored}
use Rattle.guest_pages.proofs.Cells.{all_pass, one_of_all}

-- ---- stores

within : (a count x : ℕ) → is_within a count x ≡ true → (a ≤ x) × (x < a + count)
within a count x h = (grind (arith, nat_tests), grind (arith, nat_tests))

not_within : (a count x : ℕ) → is_within a count x ≡ false → a ≤ x → a + count ≤ x
not_within a count x h low = grind (arith, nat_tests)

is_in : (a count x : ℕ) → a ≤ x → x < a + count → is_within a count x ≡ true
is_in a count x low high = grind (arith, nat_tests)

is_out : (a count x : ℕ) → ((a ≤ x) → a + count ≤ x) → is_within a count x ≡ false
is_out a count x h = grind (arith, nat_tests)

-- t: in the first part; u: in the second; all: in both
two_stores : (all t u : Bool) (whole first second : ℕ) (c : Option Cell) →
    (t ≡ true → (all ≡ true) × (u ≡ false) × (whole ≡ first)) → (u ≡ true → (all ≡ true) × (whole ≡ second)) →
    (t ≡ false → u ≡ false → all ≡ false) →
    (if all then with_byte whole c else c)
    ≡ (if u then with_byte second (if t then with_byte first c else c) else (if t then with_byte first c else c))
two_stores true true false whole first second c one two none = let h = one refl in ap (λ (b : ℕ). with_byte b c) h.2
two_stores true false true whole first second c one two none = let h = two refl in ap (λ (b : ℕ). with_byte b c) h.1
two_stores false false false whole first second c one two none = refl
two_stores true true true whole first second c one two none = let h = one refl in cc
two_stores false true u whole first second c one two none = let h = one refl in cc
two_stores false false true whole first second c one two none = let h = two refl in cc
two_stores true false false whole first second c one two none = let h = none refl refl in cc

stored-append_at : (a : ℕ) (xs ys : List ℕ) (m : Memory) (x : ℕ) → stored a (xs ++ ys) m x ≡ stored (a + length xs) ys (stored a xs m) x
stored-append_at a xs ys m x =
    let len : length (xs ++ ys) ≡ length xs + length ys = length-append xs ys in
    two_stores (is_within a (length (xs ++ ys)) x) (is_within a (length xs) x) (is_within (a + length xs) (length ys) x)
    (slice_index (xs ++ ys) (x - a)) (slice_index xs (x - a)) (slice_index ys (x - (a + length xs))) (m x)
    (λ t. let w = within a (length xs) x t in (
      is_in a (length (xs ++ ys)) x w.0 (omega arith),
      is_out (a + length xs) (length ys) x (λ low. absurd (omega arith)),
      get_or_append_left xs ys 0 (x - a) (omega arith),
    ))
    (λ u. let w = within (a + length xs) (length ys) x u in
    let place : x - a - length xs ≡ x - (a + length xs) = omega arith in (
      is_in a (length (xs ++ ys)) x (omega arith) (omega arith),
      get_or-append_right xs ys (x - a) 0 (omega arith) ∙ ap (λ (j : ℕ). slice_index ys j) place,
    ))
    (λ t u. is_out a (length (xs ++ ys)) x
    (λ low. let behind = not_within a (length xs) x t low in let past = not_within (a + length xs) (length ys) x u behind in
    omega arith))

-- a store of two lists is two stores
pub stored-append : (a : ℕ) (xs ys : List ℕ) (m : Memory) → stored a (xs ++ ys) m ≡ stored (a + length xs) ys (stored a xs m)
stored-append a xs ys m i x = stored-append_at a xs ys m x i

no_store : (t : Bool) (b : ℕ) (c : Option Cell) → t ≡ false → c ≡ (if t then with_byte b c else c)
no_store true b c e = cc
no_store false b c e = refl

pub stored-nil : (a : ℕ) (m : Memory) → m ≡ stored a [] m
stored-nil a m i x = no_store (is_within a 0 x) (slice_index [] (x - a)) (m x) (is_out a 0 x (λ low. omega arith)) i

-- ---- words

pub length-words : (words : List ℕ) → length (flat_map (to_le_bytes w32) words) ≡ 4 * length words
length-words [] = refl
length-words (w ∷ words) = let rest = length-words words in simp length-append (omega (arith, rest))

-- one more word
pub stored-word : (a : ℕ) (words : List ℕ) (i : ℕ) (word : ℕ) (m : Memory) → i < length words → word ≡ slice_index words i →
    stored (a + 4 * i) (to_le_bytes w32 word) (stored a (flat_map (to_le_bytes w32) (take i words)) m)
    ≡ stored a (flat_map (to_le_bytes w32) (take (i + 1) words)) m
stored-word a words i word m below is =
    let bytes = flat_map (to_le_bytes w32) (take i words) in
    let more : take (i + 1) words ≡ take i words ++ word ∷ [] =
    take_more words i 0 below ∙ ap (λ (w : ℕ). take i words ++ w ∷ []) (sym is) in
    let joined : flat_map (to_le_bytes w32) (take (i + 1) words) ≡ bytes ++ to_le_bytes w32 word =
    ap (λ (ws : List ℕ). flat_map (to_le_bytes w32) ws) more ∙ flat_map-append (to_le_bytes w32) (take i words) (word ∷ []) in
    let len : length bytes ≡ 4 * i = length-words (take i words) ∙ ap (λ (n : ℕ). 4 * n) (length-take-le i words (omega arith)) in
    ap (λ (n : ℕ). stored (a + n) (to_le_bytes w32 word) (stored a bytes m)) (sym len)
    ∙ sym (stored-append a bytes (to_le_bytes w32 word) m)
    ∙ ap (λ (bs : List ℕ). stored a bs m) (sym joined)

-- ---- where bytes are there

-- a part of a stretch that is there, after a store
pub present_part : (a : ℕ) (bytes : List ℕ) (m : Memory) (b count c part : ℕ) → IsTrue (present m b count) → b ≤ c → c + part ≤ b + count →
    IsTrue (present (stored a bytes m) c part)
present_part a bytes m b count c part there low high =
    all_pass is_some (stored a bytes m) c part (λ k below.
    let place : b + (c + k - b) ≡ c + k = omega arith in
    is_some-stored a bytes m (c + k) ∙ ap (λ (x : ℕ). is_some (m x)) (sym place)
    ∙ one_of_all is_some m b count (c + k - b) there (omega arith))
