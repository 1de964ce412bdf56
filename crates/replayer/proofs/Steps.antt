-- The next record of a list.
use Rattle.std.proofs.Common.{◌≡◌, ℕ, suc, zero, ◌+◌, List, [], ◌∷◌, ◌++◌, take, ◌∙◌, ap, arith, Some}
use Rattle.std.specs.Prelude.{slice_get}
use Rattle.rrv_model.specs.declared.record.Record.{Record}

pub take_next : (xs : List Record) (i : ℕ) (x : Record) → slice_get xs i ≡ Some x → take (i + 1) xs ≡ take i xs ++ x ∷ []
take_next [] i x e = cc
take_next (y ∷ xs) zero x e = let same : y ≡ x = cc in ap (λ q. q ∷ []) same
take_next (y ∷ xs) (suc i) x e =
    let one : suc i + 1 ≡ suc (i + 1) = omega arith in
    ap (λ n. take n (y ∷ xs)) one ∙ ap (λ rest. y ∷ rest) (take_next xs i x e)
