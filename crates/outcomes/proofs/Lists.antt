-- Small laws of lists: what holds of each element, and the records of a guest.
use Rattle.std.proofs.Common.{◌≡◌, List, [], ◌∷◌, ◌++◌}
use Rattle.std.specs.List.{AllByRecursion}

-- ---- what holds of each element

-- of two lists, one after the other
pub AllByRecursion-append : {A : Type 0} (P : A → Type 0) (xs ys : List A) → AllByRecursion P xs → AllByRecursion P ys →
    AllByRecursion P (xs ++ ys)
AllByRecursion-append P [] ys front back = back
AllByRecursion-append P (x ∷ xs) ys front back = (front.0, AllByRecursion-append P xs ys front.1 back)

-- with one element more
pub AllByRecursion-push : {A : Type 0} (P : A → Type 0) (xs : List A) (x : A) → AllByRecursion P xs → P x → AllByRecursion P (xs ++ x ∷ [])
AllByRecursion-push P xs x all one = AllByRecursion-append P xs (x ∷ []) all (one, tt)

-- of the first ones
pub AllByRecursion-front : {A : Type 0} (P : A → Type 0) (xs ys : List A) → AllByRecursion P (xs ++ ys) → AllByRecursion P xs
AllByRecursion-front P [] ys all = tt
AllByRecursion-front P (x ∷ xs) ys all = (all.0, AllByRecursion-front P xs ys all.1)

-- of those behind the first ones
pub AllByRecursion-back : {A : Type 0} (P : A → Type 0) (xs ys : List A) → AllByRecursion P (xs ++ ys) → AllByRecursion P ys
AllByRecursion-back P [] ys all = all
AllByRecursion-back P (x ∷ xs) ys all = AllByRecursion-back P xs ys all.1

-- and so does what follows from it
pub AllByRecursion-weaker : {A : Type 0} (P Q : A → Type 0) (xs : List A) → ((x : A) → P x → Q x) → AllByRecursion P xs →
    AllByRecursion Q xs
AllByRecursion-weaker P Q [] weaker all = tt
AllByRecursion-weaker P Q (x ∷ xs) weaker all = (weaker x all.0, AllByRecursion-weaker P Q xs weaker all.1)

-- ---- the first element, and those behind it

pub head_is : {A : Type 0} (x y : A) (xs ys : List A) → x ∷ xs ≡ y ∷ ys → x ≡ y
head_is x y xs ys same = cc

pub tail_is : {A : Type 0} (x y : A) (xs ys : List A) → x ∷ xs ≡ y ∷ ys → xs ≡ ys
tail_is x y xs ys same = cc
