-- Texts that are printed one behind another.
use Rattle.std.proofs.Common.{◌≡◌, ℕ, zero, suc, ◌+◌, List, [], ◌∷◌, ◌++◌, Option, Some, None, arith, ap, sym, ◌∙◌}
use Rattle.std.specs.Prelude.{flat_map, slice_get, take}
use Rattle.std.specs.Io.KnownBytes.{Appends}
use Rattle.std.proofs.lemmas.Grind.{flat_map-append}
use Rattle.std.proofs.lemmas.List.{append-nil, append_assoc}

-- nothing was printed
pub appends_none : (known : Option (List ℕ)) → Appends known known []
appends_none None = tt
appends_none (Some xs) = sym (append-nil xs)

-- one text, and then another
pub appends_on : (a b c : Option (List ℕ)) (x y z : List ℕ) → Appends a b x → Appends b c y → z ≡ x ++ y → Appends a c z
appends_on None b c x y z first next is = tt
appends_on (Some xs) None c x y z first next is = absurd first
appends_on (Some xs) (Some ys) None x y z first next is = absurd next
appends_on (Some xs) (Some ys) (Some zs) x y z first next is =
    next ∙ ap (λ l. l ++ y) first ∙ append_assoc xs x y ∙ ap (λ l. xs ++ l) (sym is)

pub take_next : {X : Type 0} (xs : List X) (i : ℕ) (x : X) → slice_get xs i ≡ Some x → take (i + 1) xs ≡ take i xs ++ x ∷ []
take_next [] i x e = cc
take_next (y ∷ xs) zero x e = let same : y ≡ x = cc in ap (λ q. q ∷ []) same
take_next (y ∷ xs) (suc i) x e =
    let one : suc i + 1 ≡ suc (i + 1) = omega arith in
    ap (λ n. take n (y ∷ xs)) one ∙ ap (λ rest. y ∷ rest) (take_next xs i x e)

-- the texts of the elements up to one, and of that one
pub texts_on : {X : Type 0} (f : X → List ℕ) (xs : List X) (i : ℕ) (x : X) → slice_get xs i ≡ Some x
    → flat_map f (take (i + 1) xs) ≡ flat_map f (take i xs) ++ f x
texts_on f xs i x is =
    ap (flat_map f) (take_next xs i x is) ∙ flat_map-append f (take i xs) (x ∷ [])
    ∙ ap (λ l. flat_map f (take i xs) ++ l) (append-nil (f x))

-- so are the texts of elements printed one by one
pub printed_on : {X : Type 0} (f : X → List ℕ) (xs : List X) (i : ℕ) (x : X) (a b c : Option (List ℕ)) → slice_get xs i ≡ Some x
    → Appends a b (flat_map f (take i xs)) → Appends b c (f x) → Appends a c (flat_map f (take (i + 1) xs))
printed_on f xs i x a b c is before now =
    appends_on a b c (flat_map f (take i xs)) (f x) (flat_map f (take (i + 1) xs)) before now (texts_on f xs i x is)
