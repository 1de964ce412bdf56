-- Texts one after the other.
use Rattle.std.proofs.Common.{◌≡◌, ◌∙◌, ℕ, ◌+◌, List, [], ◌∷◌, ◌++◌, ap, refl, sym, append-nil, arith}
use Rattle.std.proofs.lemmas.Grind.{flat_map-append}
use Rattle.std.proofs.lemmas.List.FromFn.{map-range_with_len_more}
use Rattle.std.specs.Prelude.{flat_map, map}
use Rattle.std.specs.List.{range_with_len}
use Rattle.trace_text.specs.MemoryText.{each_below}

pub each_none : (text : ℕ → List ℕ) → each_below text 0 ≡ []
unfolding each_below
each_none text = refl

map_same : (xs : List ℕ) → map (λ k. k) xs ≡ xs
map_same [] = refl
map_same (x ∷ xs) = ap (λ l. x ∷ l) (map_same xs)

range_more : (n : ℕ) → range_with_len 0 (n + 1) ≡ range_with_len 0 n ++ n ∷ []
range_more n =
    sym (map_same (range_with_len 0 (n + 1)))
    ∙ map-range_with_len_more (λ k. k) 0 n n (omega arith)
    ∙ ap (λ l. l ++ n ∷ []) (map_same (range_with_len 0 n))

pub each_more : (text : ℕ → List ℕ) (n : ℕ) → each_below text (n + 1) ≡ each_below text n ++ text n
unfolding each_below
each_more text n =
    ap (flat_map text) (range_more n)
    ∙ flat_map-append text (range_with_len 0 n) (n ∷ [])
    ∙ ap (λ l. flat_map text (range_with_len 0 n) ++ l) (append-nil (text n))
