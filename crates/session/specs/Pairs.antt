-- Two lists side by side.
use Rattle.std.specs.Prelude.{List, [], ◌∷◌}

-- the lists are of one length, and the elements at each place are related
abbrev pub ArePairs : {A B : Type 0} → (A → B → Type 0) → List A → List B → Type 0
ArePairs P [] [] = Unit {0}
ArePairs P [] (y ∷ ys) = ⊥
ArePairs P (x ∷ xs) [] = ⊥
ArePairs P (x ∷ xs) (y ∷ ys) = P x y × ArePairs P xs ys
