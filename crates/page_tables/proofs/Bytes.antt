-- Bytes that are written into a page.
use Rattle.std.proofs.Common.{◌≡◌, ℕ, ◌+◌, ◌≤◌, List, [], ◌∷◌, ◌++◌, length, set, take, drop, ap, ◌∙◌, sym, arith, length-set, append_assoc}
use Rattle.std.proofs.lemmas.List.{take_more_set, drop-set-lt}
use Rattle.std.proofs.lemmas.List.{take-append-drop}
use Rattle.page_tables.specs.Changes.{written}

-- written bytes stand between the others
pub written_is : (bs bytes : List ℕ) (at : ℕ) → at + length bs ≤ length bytes →
    written bytes at bs ≡ take at bytes ++ (bs ++ drop (at + length bs) bytes)
written_is [] bytes at fits =
    let none : at + 0 ≡ at = omega arith in
    sym (ap (λ (n : ℕ). take at bytes ++ drop n bytes) none ∙ take-append-drop at bytes)
written_is (b ∷ bs) bytes at fits =
    let rest = written_is bs (set bytes at b) (at + 1) (omega (arith, length-set bytes at b)) in
    let front : take (at + 1) (set bytes at b) ≡ take at bytes ++ b ∷ [] = take_more_set bytes at b (omega arith) in
    let back : drop (at + 1 + length bs) (set bytes at b) ≡ drop (at + 1 + length bs) bytes =
    drop-set-lt (at + 1 + length bs) bytes at b (omega arith) in
    let place : at + 1 + length bs ≡ at + length (b ∷ bs) = omega arith in
    rest ∙ (λ i. front i ++ (bs ++ back i)) ∙ append_assoc (take at bytes) (b ∷ []) (bs ++ drop (at + 1 + length bs) bytes)
    ∙ ap (λ (n : ℕ). take at bytes ++ (b ∷ (bs ++ drop n bytes))) place
