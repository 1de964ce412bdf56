-- Lists that are folded item by item.
use Rattle.std.proofs.Common.{◌≡◌, ◌<◌, ◌+◌, ◌∙◌, ℕ, List, [], ◌∷◌, ap, get_or, length, map, take}
use Rattle.std.specs.List.{fold}
use Rattle.std.proofs.lemmas.List.{map_more}
use Rattle.std.proofs.lemmas.List.Sums.{fold-append}

-- with the next item's value
pub fold_more : {A B C : Type 0} (f : B → C → B) (b : B) (v : A → C) (xs : List A) (i : ℕ) (d : A) → i < length xs
    → fold f b (map v (take (i + 1) xs)) ≡ f (fold f b (map v (take i xs))) (v (get_or xs i d))
fold_more f b v xs i d within = ap (fold f b) (map_more v xs i d within) ∙ fold-append f b (map v (take i xs)) (v (get_or xs i d) ∷ [])
