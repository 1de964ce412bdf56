-- How a text is printed that another chose. `is_control` has C0 (0 to 31), DEL (127) and C1 (128 to 159).
use Rattle.std.specs.Prelude.{◌≡◌, ℕ, ◌/◌, ◌%◌, ◌≤◌, false, List, [], ◌∷◌, ◌++◌, All, flat_map, if◌then◌else◌, length, nat_lt, take}
use Rattle.std.specs.Char.{encode_utf8, is_control}
use Rattle.std.specs.Fmt.{digit_glyph}
use Rattle.std.specs.Str.{IsUtf8, chars}

-- a byte in two hexadecimal digits, with lower-case letters
abbrev pub two_digits : ℕ → List ℕ
two_digits byte = digit_glyph false (byte / 16) ∷ digit_glyph false (byte % 16) ∷ []

-- the same after `\x`
abbrev pub byte_text : ℕ → List ℕ
byte_text byte = 92 ∷ 120 ∷ two_digits byte

-- a character: if it is a control character each of its bytes so, and else as it is
abbrev pub char_text : ℕ → List ℕ
char_text c = if is_control c then flat_map byte_text (encode_utf8 c) else encode_utf8 c

-- two points for the characters of a text after the first `most`, if it has more than these
abbrev pub rest_text : (most count : ℕ) → List ℕ
rest_text most count = if nat_lt most count then 46 ∷ 46 ∷ [] else []

-- a text of which no more than `most` characters are printed
abbrev pub escaped : (most : ℕ) → List ℕ → List ℕ
escaped most text = flat_map char_text (take most (chars text)) ++ rest_text most (length (chars text))

-- no character of a text is a control character
abbrev pub IsPrintable : List ℕ → Type 0
IsPrintable text = All (λ c. is_control c ≡ false) (chars text)

-- such a text is printed as it is, if it has no more characters than it may have
abbrev pub PrintableIsKept : Type 0
PrintableIsKept = (text : List ℕ) (most : ℕ) → IsUtf8 text → IsPrintable text → length (chars text) ≤ most → escaped most text ≡ text

-- and what is printed of any text is such a text
abbrev pub NothingIsControlled : Type 0
NothingIsControlled = (text : List ℕ) (most : ℕ) → IsUtf8 text → IsPrintable (escaped most text)
