-- Two lists side by side.
use Rattle.std.proofs.Common.{◌≡◌, suc, List, [], ◌∷◌, ◌++◌, length, refl, sym, ap, ◌∙◌, subst, append_assoc, arith}
use Rattle.std.proofs.lemmas.List.{append-nil}
use Rattle.std.specs.Prelude.{true}
use Rattle.std.specs.List.{AllByRecursion}
use Rattle.commit_group.specs.Seats.{FlusherValue}
use Rattle.session.specs.declared.worker.Worker.{Worker}
use Rattle.session.specs.Pairs.{ArePairs}
use Rattle.session.specs.Workers.{HaltsFor}

pub pairs_push : {A B : Type 0} (P : A → B → Type 0) (xs : List A) (ys : List B) (x : A) (y : B) → ArePairs P xs ys → P x y →
    ArePairs P (xs ++ x ∷ []) (ys ++ y ∷ [])
pairs_push P [] [] x y _ p = (p, tt)
pairs_push P [] (b ∷ ys) x y all p = elim all [ ]
pairs_push P (a ∷ xs) [] x y all p = elim all [ ]
pairs_push P (a ∷ xs) (b ∷ ys) x y all p = (all.0, pairs_push P xs ys x y all.1 p)

-- no element is left
pub none_left : {A : Type 0} (xs : List A) → length xs ≡ 0 → xs ≡ []
none_left [] e = refl
none_left (x ∷ xs) e = absurd (omega arith)

one_over : {A : Type 0} (front rest rest' all : List A) (x : A) → front ++ rest ≡ all → rest ≡ x ∷ rest' → (front ++ x ∷ []) ++ rest' ≡ all
one_over front rest rest' all x e is = append_assoc front (x ∷ []) rest' ∙ ap (λ r. front ++ r) (sym is) ∙ e

-- one more element is paired
pub pairs_next : {A B : Type 0} (P : A → B → Type 0) (front rest rest' all : List A) (ys : List B) (x : A) (y : B)
    → front ++ rest ≡ all → ArePairs P front ys → rest ≡ x ∷ rest' → P x y
    → (f : List A) × (f ++ rest' ≡ all) × ArePairs P f (ys ++ y ∷ [])
pairs_next P front rest rest' all ys x y e pairs is p =
    (front ++ x ∷ [], one_over front rest rest' all x e is, pairs_push P front ys x y pairs p)

pub pairs_whole : {A B : Type 0} (P : A → B → Type 0) (front rest all : List A) (ys : List B)
    → front ++ rest ≡ all → ArePairs P front ys → rest ≡ [] → ArePairs P all ys
pairs_whole P front rest all ys e pairs none =
    subst (λ l. ArePairs P l ys) (sym (append-nil front) ∙ ap (λ r. front ++ r) (sym none) ∙ e) pairs

-- the first of those that are paired by P is paired by Q
pub moved : {A B C : Type 0} (P : A → B → Type 0) (Q : A → C → Type 0) (front rest all : List A) (done : List C) (ys : List B) (y : B)
    (z : C)
    → front ++ rest ≡ all → ArePairs Q front done → ArePairs P rest (y ∷ ys) → ((x : A) → P x y → Q x z)
    → (f r : List A) × (f ++ r ≡ all) × ArePairs Q f (done ++ z ∷ []) × ArePairs P r ys
moved P Q front [] all done ys y z e pairs left then = elim left [ ]
moved P Q front (x ∷ rest) all done ys y z e pairs left then =
    (front ++ x ∷ [], rest, one_over front (x ∷ rest) rest all x e refl, pairs_push Q front done x z pairs (then x left.0), left.1)

pub pairs_none : {A B : Type 0} (P : A → B → Type 0) (xs : List A) → ArePairs P xs [] → xs ≡ []
pairs_none P [] _ = refl
pairs_none P (x ∷ xs) all = elim all [ ]

pub pairs_length : {A B : Type 0} (P : A → B → Type 0) (xs : List A) (ys : List B) → ArePairs P xs ys → length xs ≡ length ys
pairs_length P [] [] _ = refl
pairs_length P [] (b ∷ ys) all = elim all [ ]
pairs_length P (a ∷ xs) [] all = elim all [ ]
pairs_length P (a ∷ xs) (b ∷ ys) all = ap suc (pairs_length P xs ys all.1)

-- ---- workers that no thread could be made for

halts_more : {C O S : Type 0} (f g : FlusherValue) → (f.halted ≡ true → g.halted ≡ true) → (xs : List (Worker C O S)) (x : Worker C O S) →
    AllByRecursion (HaltsFor f) xs → HaltsFor g x → AllByRecursion (HaltsFor g) (xs ++ x ∷ [])
halts_more f g stays [] x all here = (here, tt)
halts_more f g stays (w ∷ xs) x all here = ((λ e. stays (all.0 e)), halts_more f g stays xs x all.1 here)

pub halts_push : {C O S : Type 0} (f g : FlusherValue) → (f.halted ≡ true → g.halted ≡ true) →
    (xs ys : List (Worker C O S)) (x : Worker C O S) → ys ≡ xs ++ x ∷ [] → AllByRecursion (HaltsFor f) xs → HaltsFor g x →
    AllByRecursion (HaltsFor g) ys
halts_push f g stays xs ys x is all here = subst (AllByRecursion (HaltsFor g)) (sym is) (halts_more f g stays xs x all here)
