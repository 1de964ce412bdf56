-- The first of some jobs.
use Rattle.std.proofs.Common.{◌≡◌, ℕ, zero, suc, ◌<◌, ◌≤◌, List, [], ◌∷◌, length, get_or, take, sym, ap, subst, arith}
use Rattle.std.specs.Prelude.{slice_get, Some}
use Rattle.std.specs.List.{AllByRecursion}

-- one more of which it holds
pub all_next : {A : Type 0} (P : A → Type 0) (xs : List A) (i : ℕ) (x : A) → i < length xs → x ≡ get_or xs i x →
    AllByRecursion P (take i xs) → P x → AllByRecursion P (take (suc i) xs)
all_next P [] i x low is all p = absurd (omega arith)
all_next P (y ∷ xs) zero x low is all p = (subst P is p, tt)
all_next P (y ∷ xs) (suc i) x low is all p = (all.0, all_next P xs i x (omega arith) is all.1 p)

pub all_taken : {A : Type 0} (P : A → Type 0) (xs : List A) (n : ℕ) → length xs ≤ n → AllByRecursion P (take n xs) → AllByRecursion P xs
all_taken P [] n low all = tt
all_taken P (x ∷ xs) zero low all = absurd (omega arith)
all_taken P (x ∷ xs) (suc n) low all = (all.0, all_taken P xs n (omega arith) all.1)

pub get_is : {A : Type 0} (xs : List A) (i : ℕ) (x : A) → i < length xs → x ≡ get_or xs i x → slice_get xs i ≡ Some x
get_is [] i x low is = absurd (omega arith)
get_is (y ∷ xs) zero x low is = ap (λ z. Some z) (sym is)
get_is (y ∷ xs) (suc i) x low is = get_is xs i x (omega arith) is
