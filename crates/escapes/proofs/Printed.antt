-- What is printed of a text, and what isn't.
use Rattle.std.proofs.Common.{◌≡◌, ◌∙◌, ℕ, zero, suc, ◌+◌, ◌<◌, ◌≤◌, Bool, true, false, ◌&&◌, List, [], ◌∷◌, ◌++◌, All, IsUtf8, ap, append-nil, arith, chars, flat_map, if◌then◌else◌, inl, inr, le-ltb, length, nat_le, nat_lt, refl, rules, subst, sym, take, tests}
use Rattle.std.proofs.lemmas.Bool.{and_parts, cases_eq}
use Rattle.std.proofs.lemmas.List.{take_all}
use Rattle.std.proofs.lemmas.List.Elements.{All-append, All-cons, All-nil}
use Rattle.std.proofs.lemmas.Str.{IsUtf8-append, IsUtf8-encode, IsUtf8-nil, chars-append, chars-nil, chars_past_char, encode_ascii, encodes-chars, scalars-chars}
use Rattle.std.proofs.Math.Utf8.{encode, encodes, low_scalar, scalar, scalars}
use Rattle.std.specs.Char.{is_control}
use Rattle.escapes.specs.Escaped.{NothingIsControlled, PrintableIsKept, byte_text, char_text, rest_text}

abbrev IsNone : ℕ → Type 0
IsNone c = is_control c ≡ false

-- ---- a text without control characters

char_kept : (c : ℕ) → IsNone c → char_text c ≡ encode c
char_kept c none = ap (λ (b : Bool). if b then flat_map byte_text (encode c) else encode c) none

kept : (cs : List ℕ) → All IsNone cs → flat_map char_text cs ≡ encodes cs
kept [] all = refl
kept (c ∷ cs) all =
    ap (λ (l : List ℕ). l ++ flat_map char_text cs) (char_kept c (all 0 c (omega arith)))
    ∙ ap (λ (l : List ℕ). encode c ++ l) (kept cs (λ k d below. all (suc k) d (omega (arith, below))))

no_rest : (most count : ℕ) → count ≤ most → rest_text most count ≡ []
no_rest most count short = ap (λ (b : Bool). if b then 46 ∷ 46 ∷ [] else []) (le-ltb most count short)

pub printable_is_kept : PrintableIsKept
printable_is_kept text most utf8 all short =
    let cs = chars text in
    ap (λ (l : List ℕ). flat_map char_text l ++ rest_text most (length cs)) (take_all most cs short)
    ∙ ap (λ (l : List ℕ). flat_map char_text cs ++ l) (no_rest most (length cs) short)
    ∙ append-nil (flat_map char_text cs)
    ∙ kept cs all
    ∙ encodes-chars text utf8

-- ---- what is printed

-- bytes that are a text without control characters
record IsClean (bytes : List ℕ) : Type 0 where
  text : IsUtf8 bytes
  none : All IsNone (chars bytes)

clean_nil : IsClean []
clean_nil = record { text = IsUtf8-nil; none = subst (All IsNone) (sym chars-nil) (All-nil IsNone) }

clean_append : (xs ys : List ℕ) → IsClean xs → IsClean ys → IsClean (xs ++ ys)
clean_append xs ys x y = record {
  text = IsUtf8-append xs ys x.text y.text;
  none = subst (All IsNone) (sym (chars-append xs ys x.text)) (All-append IsNone (chars xs) (chars ys) x.none y.none);
}

-- the bytes of a character that is none
clean_one : (c : ℕ) → scalar c ≡ true → IsNone c → IsClean (encode c)
clean_one c is none =
    let text = IsUtf8-encode c is in
    let spelt : chars (encode c) ≡ c ∷ [] =
    chars_past_char (encode c) [] c text (sym (append-nil (encode c))) ∙ ap (λ (l : List ℕ). c ∷ l) chars-nil in
    record { text = text; none = subst (All IsNone) (sym spelt) (All-cons IsNone c [] none (All-nil IsNone)) }

-- printable bytes of ASCII
abbrev are_plain : List ℕ → Bool
are_plain [] = true
are_plain (x ∷ xs) = (nat_le 32 x && nat_lt x 127) && are_plain xs

plain_is_none : (x : ℕ) → (nat_le 32 x && nat_lt x 127) ≡ true → (x < 128) × IsNone x
plain_is_none x e = (search (rules, tests), search (rules, tests))

clean_plain : (xs : List ℕ) → are_plain xs ≡ true → IsClean xs
clean_plain [] e = clean_nil
clean_plain (x ∷ xs) e =
    let parts = and_parts (nat_le 32 x && nat_lt x 127) (are_plain xs) e in
    let own = plain_is_none x parts.0 in
    let first = subst IsClean (encode_ascii x own.0) (clean_one x (low_scalar x (omega (arith, own.0))) own.1) in
    clean_append (x ∷ []) xs first (clean_plain xs parts.1)

-- what is written of the characters below n by their bytes
abbrev plain_below : ℕ → Bool
plain_below zero = true
plain_below (suc n) = are_plain (flat_map byte_text (encode n)) && plain_below n

one_below : (n : ℕ) → plain_below n ≡ true → (c : ℕ) → c < n → are_plain (flat_map byte_text (encode c)) ≡ true
one_below zero e c below = absurd (omega arith)
one_below (suc n) e c below =
    let parts = and_parts (are_plain (flat_map byte_text (encode n))) (plain_below n) e in
    elim (cases_eq c n) [
      | inl same ↦ subst (λ (k : ℕ). are_plain (flat_map byte_text (encode k)) ≡ true) (sym same) parts.0
      | inr other ↦ one_below n parts.1 c (omega arith)
    ]

all_plain : plain_below 160 ≡ true
unfolding encode
all_plain = refl

is_below : (c : ℕ) → is_control c ≡ true → c < 160
is_below c is = search (rules, tests)

clean_char : (c : ℕ) → scalar c ≡ true → IsClean (char_text c)
clean_char c is = by_test (is_control c) refl
  where
    by_test : (b : Bool) → is_control c ≡ b → IsClean (if b then flat_map byte_text (encode c) else encode c)
    by_test true control = clean_plain (flat_map byte_text (encode c)) (one_below 160 all_plain c (is_below c control))
    by_test false none = clean_one c is none

clean_chars : (cs : List ℕ) → scalars cs ≡ true → IsClean (flat_map char_text cs)
clean_chars [] e = clean_nil
clean_chars (c ∷ cs) e =
    let parts = and_parts (scalar c) (scalars cs) e in
    clean_append (char_text c) (flat_map char_text cs) (clean_char c parts.0) (clean_chars cs parts.1)

scalars-take : (n : ℕ) (cs : List ℕ) → scalars cs ≡ true → scalars (take n cs) ≡ true
scalars-take zero cs e = refl
scalars-take (suc n) [] e = refl
scalars-take (suc n) (c ∷ cs) e =
    let parts = and_parts (scalar c) (scalars cs) e in
    ap (λ (b : Bool). b && scalars (take n cs)) parts.0 ∙ scalars-take n cs parts.1

clean_rest : (most count : ℕ) → IsClean (rest_text most count)
clean_rest most count = by_test (nat_lt most count)
  where
    by_test : (b : Bool) → IsClean (if b then 46 ∷ 46 ∷ [] else [])
    by_test true = clean_plain (46 ∷ 46 ∷ []) refl
    by_test false = clean_nil

pub nothing_is_controlled : NothingIsControlled
nothing_is_controlled text most utf8 =
    let cs = chars text in
    let front = clean_chars (take most cs) (scalars-take most cs (scalars-chars text utf8)) in
    (clean_append (flat_map char_text (take most cs)) (rest_text most (length cs)) front (clean_rest most (length cs))).none
