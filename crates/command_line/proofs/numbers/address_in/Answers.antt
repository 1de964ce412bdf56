use Rattle.std.proofs.Common.{◌≡◌, ◌≢◌, ◌<◌, ◌≤◌, ◌^◌, ℕ, zero, suc, List, [], ◌∷◌, length, drop, cond, ap, subst, sym, arith}
use Rattle.std.specs.Prelude.{slice_index}
use Rattle.std.specs.Char.{digit_value}
use Rattle.std.specs.Str.Parse.{AllDigits, IsNumeral, digits_value, without_leading_plus}
use Rattle.std.proofs.lemmas.Bool.{ne_eqb}
use Rattle.std.proofs.lemmas.Int.Digits.{digits_value-lt}
use Rattle.command_line.specs.Values.{without_0x}
use Rattle.command_line.proofs.numbers.address_in.Goals as goal

no_plus : (text : List ℕ) → slice_index text 0 ≢ 43 → without_leading_plus text ≡ text
no_plus text not = ap (λ b. drop (cond b 1 0) text) (ne_eqb (slice_index text 0) 43 not)

digit_no_plus : (text : List ℕ) → IsNumeral 16 text → slice_index text 0 ≢ 43
digit_no_plus [] h = absurd (omega (arith, h.0))
digit_no_plus (c ∷ text) h = λ is. let big : digit_value 43 < 16 = subst (λ d. digit_value d < 16) is h.1.0 in omega (arith, big)

one : (k : ℕ) → 1 ≤ 16 ^ k
one zero = omega arith
one (suc k) = let h = one k in omega (arith, h)

power : (n k : ℕ) → n ≤ k → 16 ^ n ≤ 16 ^ k
power zero k h = one k
power (suc n) zero h = absurd (omega (arith, h))
power (suc n) (suc k) h = let below = power n k (omega (arith, h)) in omega (arith, below)

within : (text : List ℕ) → AllDigits 16 text → length text ≤ 8 → digits_value 16 text < 2 ^ 32
within text digits few = let below = digits_value-lt 16 text digits in let most : 16 ^ length text ≤ 16 ^ 8 =
    power (length text) 8 few in omega (arith, below, most)

pub returns-in-Err-clause-none : goal.returns-in-Err-clause-none
returns-in-Err-clause-none c = λ none n is.
    let digits = without_0x c.args.text.now in
    let numeral : IsNumeral 16 digits = is.numeral in
    let same : digits ≡ without_leading_plus digits = sym (no_plus digits (digit_no_plus digits numeral)) in
    let fits : IsNumeral 16 (without_leading_plus digits) × (digits_value 16 (without_leading_plus digits) < 2 ^ 32)
    = (subst (IsNumeral 16) same numeral, subst (λ t. digits_value 16 t < 2 ^ 32) same (within digits numeral.1 is.few)) in
    c.in-Err.ensures.value (rw c.without_0x-digits.ensures fits)
