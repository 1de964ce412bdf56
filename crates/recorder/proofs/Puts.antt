-- Bytes that are put out one part after the other.
use Rattle.std.proofs.Common.{◌≡◌, ℕ, zero, suc, ◌+◌, ◌-◌, ◌≤◌, min, List, [], ◌∷◌, ◌++◌, length, take, drop, refl, sym, ap, ◌∙◌, arith, append_assoc, length-append}
use Rattle.std.proofs.lemmas.List.{map-append, drop-drop, length-drop, length-map, length-take-le}
use Rattle.rrv_model.specs.Output.{to_descriptor}
use Rattle.recorder.specs.Owed.{count_of}

take_none : {A : Type 0} (n : ℕ) → take {A = A} n [] ≡ []
take_none zero = refl
take_none (suc n) = refl

pub take_both : {A : Type 0} (a b : ℕ) (xs : List A) → take (a + b) xs ≡ take a xs ++ take b (drop a xs)
take_both zero b xs = ap (λ (n : ℕ). take n xs) (let e : 0 + b ≡ b = omega arith in e)
take_both (suc a) b [] = take_none (suc a + b) ∙ sym (take_none b)
take_both {A = A} (suc a) b (x ∷ xs) =
    ap (λ (n : ℕ). take n (x ∷ xs)) (let e : suc a + b ≡ suc (a + b) = omega arith in e) ∙ ap (λ (l : List A). x ∷ l) (take_both a b xs)

-- some bytes more have left
pub more_put : (d o at n : ℕ) (bytes : List ℕ) (before : List (ℕ × ℕ)) → o ≤ at →
    (before ++ to_descriptor d (take (at - o) (drop o bytes))) ++ to_descriptor d (take n (drop at bytes)) ≡ before
    ++ to_descriptor d (take (at + n - o) (drop o bytes))
more_put d o at n bytes before le =
    let e : at + n - o ≡ (at - o) + n = omega arith in
    let e' : o + (at - o) ≡ at = omega arith in
    append_assoc before (to_descriptor d (take (at - o) (drop o bytes))) (to_descriptor d (take n (drop at bytes)))
    ∙ ap (λ (l : List (ℕ × ℕ)). before ++ l)
    (ap (λ (k : ℕ). to_descriptor d (take (at - o) (drop o bytes)) ++ to_descriptor d (take n (drop k bytes))) (sym e')
    ∙ ap (λ (l : List ℕ). to_descriptor d (take (at - o) (drop o bytes)) ++ to_descriptor d (take n l)) (sym (drop-drop (at - o) o bytes))
    ∙ sym (map-append (λ (b : ℕ). (d, b)) (take (at - o) (drop o bytes)) (take n (drop (at - o) (drop o bytes))))
    ∙ ap (to_descriptor d) (sym (take_both (at - o) n (drop o bytes)))
    ∙ ap (λ (k : ℕ). to_descriptor d (take k (drop o bytes))) (sym e))

-- how many bytes these are
pub put_length : (d o at : ℕ) (bytes : List ℕ) → o ≤ at → at ≤ length bytes →
    length (to_descriptor d (take (at - o) (drop o bytes))) ≡ at - o
put_length d o at bytes low high =
    length-map (take (at - o) (drop o bytes)) (λ (b : ℕ). (d, b))
    ∙ length-take-le (at - o) (drop o bytes) (let e = length-drop o bytes in omega arith)

-- two counts
pub counted_both : (p q : List (ℕ × ℕ)) → min (count_of p + count_of q) 18446744073709551615 ≡ count_of (p ++ q)
counted_both p q = omega (arith, length-append p q)

pub counted_more : (p q : List (ℕ × ℕ)) (n : ℕ) → n ≡ length q → min (count_of p + n) 18446744073709551615 ≡ count_of (p ++ q)
counted_more p q n e = omega (arith, length-append p q)

pub counts_put : (d o at : ℕ) (bytes text : List ℕ) → (o ≤ at) × (at ≤ length text) → text ≡ bytes →
    at - o ≡ length (to_descriptor d (take (at - o) (drop o bytes)))
counts_put d o at bytes text reached same =
    let s : length text ≡ length bytes = ap length same in
    sym (put_length d o at bytes reached.0 (omega arith))
