-- A directory has for each row, 1,024 numbers, the place of the row's leaf, or NO_LEAF.
use Rattle.std.specs.Prelude.{◌≡◌, ◌≢◌, ℕ, ◌<◌, ◌==◌, not, List, slice_index_or, count_by}
use Rattle.page_tables.specs.declared.table.TheConstants.{NO_LEAF}

abbrev pub place_at : List ℕ → ℕ → ℕ
place_at directory row = slice_index_or directory row NO_LEAF

-- the leaf of a row is one of so many
abbrev pub AreThere : List ℕ → ℕ → Type 0
AreThere directory leaves = (row : ℕ) → place_at directory row ≢ NO_LEAF → place_at directory row < leaves

-- no two rows have the same leaf
abbrev pub AreApart : List ℕ → Type 0
AreApart directory = (a b : ℕ) → place_at directory a ≢ NO_LEAF → place_at directory a ≡ place_at directory b → a ≡ b

-- how many rows have a leaf
abbrev pub leaf_count : List ℕ → ℕ
leaf_count directory = count_by (λ place. not (place == NO_LEAF)) directory
