-- What is printed of a word and of a byte in hexadecimal.
use Rattle.std.proofs.Common.{◌≡◌, ℕ, ◌-◌, ◌^◌, [], length, false, refl, arith}
use Rattle.std.specs.Fmt.{digits, padded_integral, format_spec, char_count}
use Rattle.std.proofs.lemmas.List.{append-nil}
use Rattle.trace_text.specs.Lines.{word_text}
use Rattle.trace_text.specs.States.{byte_text}

pub padded_word : (n : ℕ) → padded_integral (format_spec 32 0 4 8 (2 ^ 64 - 1)) false [] (digits 16 false n) ≡ word_text n
unfolding padded_integral char_count
padded_word n =
    let no_sign : 8 - length (digits 16 false n) - 0 - 0 ≡ 8 - length (digits 16 false n) = omega arith in
    rw (no_sign, append-nil) refl

pub padded_byte : (n : ℕ) → padded_integral (format_spec 32 0 4 2 (2 ^ 64 - 1)) false [] (digits 16 false n) ≡ byte_text n
unfolding padded_integral char_count
padded_byte n =
    let no_sign : 2 - length (digits 16 false n) - 0 - 0 ≡ 2 - length (digits 16 false n) = omega arith in
    rw (no_sign, append-nil) refl
